use Rattle.std.proofs.Common.{◌≡◌, ◌++◌, ap, string_bytes, subst, sym, true, ◌∙◌}
use Rattle.std.proofs.lemmas.Result.{IfOk-weaker}
use Rattle.comfy_parts.specs.Text.{Text}
use Rattle.csv_tables.proofs.RecordTextLemmas.{renders}
use Rattle.csv_tables.specs.Contents.{AreDrawnContents, drawn_next}
use Rattle.csv_tables.specs.LazyTableValue.{LazyTableValue}
use Rattle.csv_tables.specs.Drawn.{SelectedValue, note_for}
use Rattle.csv_tables.specs.Styled.{RendersStyled, RendersStyledContent, with_centers}
use Rattle.csv_tables.proofs.output.drawn_styled_records.Goals as goal

pub returns-then-look : goal.returns-then-look
returns-then-look c =
    let layout = c.args.layout.now in
    let look = layout.look in
    let settings = c.args.settings in
    let selected = c.in_ok-selected.selected in
    let counted = ap (λ (s : SelectedValue). note_for s.noun look.is_markdown layout.selection.limit s.count) c.in_ok-selected.ensures in
    IfOk-weaker c.markdown_records.result _ _
    (λ output made. record {
      content = selected;
      is_content = sym c.in_ok-selected.ensures;
      text = made.0;
      is_text = subst (λ b. RendersStyledContent settings b look selected made.0) (sym c.if-look.true) made.1;
      joined = made.2 ∙ ap (λ (t : Text). made.0 ++ t) (c.in_ok-note.ensures ∙ sym counted);
    })
    c.markdown_records.ensures

pub returns : goal.returns
returns c =
    let layout = c.args.layout.now in
    let look = layout.look in
    let settings = c.args.settings in
    let content = c.in_ok-selected.selected in
    let selected = with_centers settings.columns content in
    let contents = c.in_ok-drawn_contents.field-0 in
    let arranged = c.in_ok-arranged_contents.field-0 in
    let text = drawn_next contents.rows contents.table arranged.infos 0 true true contents.rows.selected.rows in
    let centred = c.in_ok-selected-2.ensures ∙ ap (λ columns. with_centers columns content) c.of_columns.ensures in
    let made : AreDrawnContents settings look selected contents = subst (λ (s : SelectedValue). AreDrawnContents settings look s contents) centred c.in_ok-drawn_contents.ensures in
    let same : contents.rows.selected ≡ selected = made.drawn.are_contents.selected_is in
    let drawn : RendersStyled settings look selected text =
    subst (λ (s : SelectedValue). RendersStyled settings look s text) same
    (renders settings look contents arranged.infos (subst (λ (s : SelectedValue). AreDrawnContents settings look s contents) (sym same) made) c.in_ok-arranged_contents.ensures.infos c.in_ok-arranged_contents.ensures.rows) in
    let kind : RendersStyledContent settings look.is_markdown look content text = subst (λ b. RendersStyledContent settings b look content text) (sym c.if-look.false) drawn in
    let counted = ap (λ (s : SelectedValue). note_for s.noun look.is_markdown layout.selection.limit s.count) c.in_ok-selected.ensures in
    IfOk-weaker c.of_records.result _ _
    (λ output is. record {
      content = content;
      is_content = sym c.in_ok-selected.ensures;
      text = text;
      is_text = kind;
      joined = is
          ∙ ap (λ (v : LazyTableValue). string_bytes c.new-2.result ++ (drawn_next v.rows v.table arranged.infos 0 true true v.rows.selected.rows ++ string_bytes c.in_ok-note.note)) c.in_ok-arranged_contents.ensures.contents
          ∙ ap (λ (t : Text). t ++ (text ++ string_bytes c.in_ok-note.note)) c.new-2.ensures.bytes ∙ ap (λ (t : Text). text ++ t) (c.in_ok-note.ensures ∙ sym counted);
    })
    c.of_records.ensures
