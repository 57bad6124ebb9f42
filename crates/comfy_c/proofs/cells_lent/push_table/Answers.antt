use Rattle.std.proofs.Common.{◌≡◌, ◌++◌, ◌∙◌, List, ap, string_bytes, sym, true}
use Rattle.std.proofs.lemmas.Result.{on_ok_weaker}
use Rattle.comfy_parts.specs.CellValue.{ColumnInfo}
use Rattle.comfy_parts.specs.Text.{Text}
use Rattle.comfy_table.proofs.OtherRowLemmas.{part-whole, part_same}
use Rattle.comfy_table.specs.Drawing.{drawing_of_infos, part_of_drawing, terminated_text_of}
use Rattle.comfy_table.specs.TableValue.{TableValue}
use Rattle.comfy_c.proofs.cells_lent.push_table.Goals as goal

pub returns : goal.returns
returns c =
    let table : TableValue = c.args.arranged.now.contents in
    let infos : List ColumnInfo = c.args.arranged.now.infos in
    let own = c.in_ok-writer.writer in
    let rows = ap (λ (t : TableValue). t.rows) c.contents.ensures in
    let whole : part_of_drawing own.table own.infos true true c.contents.result.now.rows ≡ drawing_of_infos table infos =
    ap (part_of_drawing own.table own.infos true true) rows
    ∙ sym (part_same own.table table.rows own.infos true true table.rows)
    ∙ ap (λ (t : TableValue). part_of_drawing t own.infos true true table.rows) c.in_ok-writer.ensures.table
    ∙ ap (λ (is : List ColumnInfo). part_of_drawing table is true true table.rows) c.in_ok-writer.ensures.infos
    ∙ part-whole table infos in
    on_ok_weaker c.push_lines.result
    (λ (pushed : string_bytes c.push_lines.new.text ≡ _). pushed ∙ ap (λ (lines : List Text). string_bytes c.args.text.now ++ terminated_text_of lines) whole)
    c.push_lines.ensures
