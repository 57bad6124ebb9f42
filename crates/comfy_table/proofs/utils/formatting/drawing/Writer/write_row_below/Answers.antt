use Rattle.std.proofs.Common.{◌≡◌, Bool, List, [], ◌∷◌, ◌++◌, ap, append-nil, subst, sym, ◌∙◌}
use Rattle.std.proofs.lemmas.Result.{on_err_weaker}
use Rattle.std.specs.Prelude.{OnOk}
use Rattle.comfy_parts.specs.Text.{Text}
use Rattle.comfy_table.proofs.OutputLemmas.{begins-before_lines, with_lines-append}
use Rattle.comfy_table.specs.Drawing.{drawn_row, lines_above, outer_widths, rows_below}
use Rattle.comfy_table.specs.Frame.{optional_frame_line}
use Rattle.comfy_table.specs.Gaps.{FrameValue, RowGapsValue, row_between, row_gaps}
use Rattle.comfy_table.specs.Output.{BeginsWith, with_lines}
use Rattle.comfy_table.specs.Parts.{ArrangedValue}
use Rattle.comfy_table.specs.RowCells.{row_in}
use Rattle.comfy_table.proofs.utils.formatting.drawing.Writer.write_row_below.Goals.{then-is_first+in_ok-write_above, else-is_first+in_ok-push_frame_line}
use Rattle.comfy_table.proofs.utils.formatting.drawing.Writer.write_row_below.Goals as goal

-- the row separator of a writer
abbrev between : ArrangedValue → List Text
between w = optional_frame_line w.table.style w.table.style.row_separator (outer_widths w.infos)

pub returns-clause-ok : goal.returns-clause-ok
returns-clause-ok g c =
    let kept_of = g.O.Output.kept_of in
    let had = g.O.Output.kept c.args.output.now in
    let mid = g.O.Output.kept c.if-is_first.output in
    let new = g.O.Output.kept c.write_row.new.output in
    let start = c.args.self.now in
    let row = row_in c.args.row in
    let own = drawn_row start.table start.infos start.table.style.content_lines row in
    let gaps : c.frame.inside.gaps ≡ row_gaps start.table.style start.table.style.content_lines =
    ap (λ (f : FrameValue). f.gaps) (c.frame.view_is ∙ c.self.invariant.1) ∙ ap (λ (w : ArrangedValue). row_gaps w.table.style w.table.style.content_lines) c.self.view_is in
    let below : (above : List Text) → c.if-is_first.self ≡ start → mid ≡ with_lines kept_of above had → above ++ own ≡ rows_below start.table start.infos c.args.is_first (row ∷ [])
    → OnOk c.write_row.result (new ≡ with_lines kept_of (rows_below start.table start.infos c.args.is_first (row ∷ [])) had) =
    λ above same drawn all.
    subst (λ kept. OnOk c.write_row.result (new ≡ kept))
    (ap (λ (w : ArrangedValue). with_lines kept_of (row_between c.frame.inside.gaps w.table w.infos row) mid) same
    ∙ ap (λ (gaps : RowGapsValue). with_lines kept_of (row_between gaps start.table start.infos row) mid) gaps
    ∙ ap (with_lines kept_of own) drawn
    ∙ with_lines-append kept_of above own had
    ∙ ap (λ (lines : List Text). with_lines kept_of lines had) all)
    c.write_row.ensures.ok in
    elim c.if-is_first.branch [
      | then-is_first+in_ok-write_above w ↦
          below (lines_above start.table start.infos) (w.self-is ∙ w.write_above.ensures.kept)
          (ap g.O.Output.kept w.output-is ∙ w.in_ok-write_above.ensures.ok)
          (ap (λ (lines : List Text). lines_above start.table start.infos ++ lines) (sym (append-nil own)) ∙ ap (λ (b : Bool). rows_below start.table start.infos b (row ∷ [])) (sym w.if-is_first.true))
      | else-is_first+in_ok-push_frame_line w ↦
          below (between start) w.self-is
          (ap g.O.Output.kept w.output-is
          ∙ w.in_ok-push_frame_line.ensures.ok
          ∙ ap (λ (lines : List Text). with_lines kept_of lines had) (ap (λ (f : FrameValue). f.separator) (c.frame.view_is ∙ c.self.invariant.1) ∙ ap between c.self.view_is))
          (sym (append-nil (between start ++ own)) ∙ ap (λ (b : Bool). rows_below start.table start.infos b (row ∷ [])) (sym w.if-is_first.false))
    ]

pub returns-clause-err : goal.returns-clause-err
returns-clause-err g c =
    let kept_of = g.O.Output.kept_of in
    let had = g.O.Output.kept c.args.output.now in
    let mid = g.O.Output.kept c.if-is_first.output in
    let new = g.O.Output.kept c.write_row.new.output in
    let above : (lines : List Text) → mid ≡ with_lines kept_of lines had → BeginsWith new mid → BeginsWith new had =
    λ lines is known. begins-before_lines kept_of lines had new (subst (BeginsWith new) is known) in
    let before : BeginsWith new mid → BeginsWith new had =
    elim c.if-is_first.branch [
      | then-is_first+in_ok-write_above w ↦ above _ (ap g.O.Output.kept w.output-is ∙ w.in_ok-write_above.ensures.ok)
      | else-is_first+in_ok-push_frame_line w ↦ above _ (ap g.O.Output.kept w.output-is ∙ w.in_ok-push_frame_line.ensures.ok)
    ] in
    on_err_weaker c.write_row.result before c.write_row.ensures.err
