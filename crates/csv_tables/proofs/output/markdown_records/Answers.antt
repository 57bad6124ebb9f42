use Rattle.std.proofs.Common.{◌≡◌, [], ◌++◌, List, ap, ap₂, append_assoc, refl, ◌∙◌, sym, subst, false, true, string_bytes}
use Rattle.std.proofs.lemmas.List.Concat.{flat_map-append}
use Rattle.std.proofs.lemmas.Result.{IfOk-weaker}
use Rattle.std.specs.List.{All}
use Rattle.std.specs.Prelude.{if◌then◌else◌}
use Rattle.comfy_parts.specs.CellValue.{RowValue}
use Rattle.comfy_parts.specs.Text.{Text}
use Rattle.comfy_table.specs.Drawing.{part_of_drawing, terminated_text_of}
use Rattle.comfy_table.specs.Laws.{HasNoBreak}
use Rattle.comfy_table.specs.Parts.{ArrangedValue, IsArrangedTable}
use Rattle.comfy_table.specs.TableValue.{TableValue, max_content_widths}
use Rattle.csv_tables.proofs.OutputLemmas.{header_each, markdown_unbroken}
use Rattle.csv_tables.specs.Contents.{drawn_next, expanded_from, rows_from, table_by}
use Rattle.csv_tables.specs.LazyTableValue.{LazyTableValue}
use Rattle.csv_tables.specs.Drawn.{SelectedValue, below_first, markdown_content, markdown_look, markdown_rule, markdown_table, sides}
use Rattle.csv_tables.specs.Markdown.{rule_line}
use Rattle.csv_tables.specs.Settings.{SettingsValue}
use Rattle.csv_tables.specs.Styled.{dressed_table}
use Rattle.csv_tables.specs.declared.options.Look.{Look}
use Rattle.csv_tables.specs.declared.rows.RecordRows.{RecordRows}
use Rattle.csv_tables.proofs.output.markdown_records.Goals as goal

pub returns : goal.returns
returns c =
    let look = c.args.look.now in
    let selected = c.args.selected in
    let contents = c.in_ok-contents.contents in
    let own = c.in_ok-arranged.arranged in
    let infos = own.infos in
    let arranged : ArrangedValue = record { table = contents.table; infos = infos } in
    let same : own.contents ≡ contents = c.in_ok-arranged.ensures.contents in
    let rows_by : SelectedValue → Look → RecordRows = λ s l. record { selected = s; settings = c.none-settings.result; look = l; is_expanded = false; is_aligned = false } in
    let wanted : rows_by c.with_header.result c.markdown_look.result ≡ rows_by (markdown_content selected) (markdown_look look) = ap₂ rows_by c.with_header.ensures c.markdown_look.ensures in
    let made : contents.rows ≡ rows_by (markdown_content selected) (markdown_look look) = c.in_ok-contents.ensures.rows ∙ wanted in
    let table : contents.table ≡ markdown_table look selected =
    c.in_ok-contents.ensures.table ∙ ap table_by wanted
    ∙ ap (λ (s : SettingsValue). dressed_table (markdown_content selected) s.rows (markdown_table look selected)) c.none-settings.ensures in
    let is : IsArrangedTable (markdown_table look selected) arranged = subst (λ (t : TableValue). IsArrangedTable t arranged) table c.in_ok-arranged.ensures.infos in
    let above = part_of_drawing contents.table infos true false [] in
    let below = part_of_drawing contents.table infos false true contents.table.rows in
    let rule = markdown_rule look selected in
    let ruled : rule_line (sides contents.rows.selected) (max_content_widths contents.table) ≡ rule = ap₂ (λ (r : RecordRows) (t : TableValue). rule_line (sides r.selected) (max_content_widths t)) made table in
    let unbroken : All HasNoBreak above = header_each HasNoBreak look selected arranged is (is.headline.controls.without_breaks (markdown_unbroken look selected)) in
    let begun : string_bytes c.in_ok-beginning.beginning ≡ terminated_text_of (below_first rule above) =
    subst (λ (v : LazyTableValue). All HasNoBreak (part_of_drawing v.table infos true false []) → string_bytes c.in_ok-beginning.beginning ≡ terminated_text_of (below_first (rule_line (sides v.rows.selected) (max_content_widths v.table)) (part_of_drawing v.table infos true false []))) same c.in_ok-beginning.ensures unbroken ∙ ap (λ (t : Text). terminated_text_of (below_first t above)) ruled in
    let all : List (List Text) = contents.rows.selected.rows in
    let lines : List RowValue → Text = λ made. terminated_text_of (part_of_drawing contents.table infos false true made) in
    let rest : drawn_next own.contents.rows own.contents.table infos 0 false true own.contents.rows.selected.rows ≡ lines contents.table.rows =
    ap (λ (v : LazyTableValue). drawn_next v.rows v.table infos 0 false true v.rows.selected.rows) same
    ∙ ap (λ b. if b then expanded_from contents.rows contents.table infos 0 all else lines (rows_from contents.rows 0 all)) (ap (λ (r : RecordRows). r.is_expanded) made)
    ∙ ap lines (sym c.in_ok-arranged.ensures.rows) in
    let note = string_bytes c.args.note in
    IfOk-weaker c.of_records.result _ _
    (λ output is_own. (
      terminated_text_of (below_first rule above ++ below),
      record { arranged = arranged; is_arranged = is; is = refl },
      is_own
          ∙ ap₂ (λ (a b : Text). a ++ (b ++ note)) begun rest
          ∙ sym (append_assoc (terminated_text_of (below_first rule above)) (lines contents.table.rows) note)
          ∙ ap (λ (t : Text). t ++ note) (sym (flat_map-append _ (below_first rule above) below)),
    ))
    c.of_records.ensures
