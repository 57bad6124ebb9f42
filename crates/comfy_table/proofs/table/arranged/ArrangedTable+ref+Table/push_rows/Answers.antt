use Rattle.std.proofs.Common.{rules, ◌≡◌, ◌++◌, List, true, string_bytes, ap, sym, subst, ◌∙◌}
use Rattle.std.specs.Prelude.{OnOk}
use Rattle.comfy_parts.specs.CellValue.{ColumnInfo}
use Rattle.comfy_parts.specs.Text.{Text}
use Rattle.comfy_table.proofs.OtherRowLemmas.{part-whole, part_same}
use Rattle.comfy_table.specs.Drawing.{drawing_of_infos, part_of_drawing, terminated_text_of}
use Rattle.comfy_table.specs.Parts.{with_rows_alone}
use Rattle.comfy_table.specs.TableValue.{TableValue}
use Rattle.comfy_table.proofs.table.arranged.ArrangedTable+ref+Table.push_rows.Goals as goal

pub returns-clause-ok : goal.returns-clause-ok
returns-clause-ok c =
    let table = c.args.self.now.contents.now in
    let infos = c.args.self.now.infos in
    let own = c.in_ok-row_writer.field-0 in
    let rows = c.rows_from-rows.result.now in
    let alone = with_rows_alone c.args.first c.args.count table in
    let these : rows ≡ alone.rows = search rules in
    let whole : part_of_drawing own.table own.infos true true rows ≡ drawing_of_infos alone infos =
    sym (part_same own.table table.rows own.infos true true rows)
    ∙ ap (λ (t : TableValue). part_of_drawing t own.infos true true rows) c.in_ok-row_writer.ensures.table
    ∙ ap (λ (is : List ColumnInfo). part_of_drawing table is true true rows) c.in_ok-row_writer.ensures.infos
    ∙ sym (part_same table alone.rows infos true true rows)
    ∙ ap (part_of_drawing alone infos true true) these
    ∙ part-whole alone infos in
    subst (λ (ls : List Text). OnOk c.push_rows.result (string_bytes c.push_rows.new.text ≡ string_bytes c.args.text.now ++ terminated_text_of ls)) whole c.push_rows.ensures.ok
