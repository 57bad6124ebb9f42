use Rattle.std.proofs.Common.{◌≡◌, ◌++◌, ◌∷◌, [], List, Option, ℕ, ap, ap₂, map, false, string_bytes, ◌∙◌}
use Rattle.std.proofs.lemmas.Result.{on_ok_weaker}
use Rattle.comfy_parts.specs.CellValue.{CellValue, RowValue}
use Rattle.comfy_table.specs.Drawing.{part_of_drawing, terminated_text_of}
use Rattle.comfy_table.specs.RowCells.{cell_of, row_with}
use Rattle.csv_tables.proofs.DressedLemmas.{row_made}
use Rattle.csv_tables.specs.Settings.{limit_by}
use Rattle.csv_tables.proofs.rows.RecordRows.push_row.Goals as goal

pub returns-clause-text : goal.returns-clause-text
returns-clause-text c =
    let own = c.args.self.now in
    let writer = c.args.writer.now in
    let listed = ap (map cell_of) c.as_slice.ensures.value ∙ c.in_ok-list_cells.ensures in
    let limited = c.limit_by-limit.ensures ∙ ap (λ settings. limit_by settings own.look) c.settings_at.ensures in
    on_ok_weaker c.push_cells.result
    (λ (pushed : string_bytes c.push_cells.new.text ≡ _).
    pushed
    ∙ ap (λ (row : RowValue). string_bytes c.args.text.now ++ terminated_text_of (part_of_drawing writer.table writer.infos c.args.is_first false (row ∷ [])))
    (ap₂ (λ (cells : List CellValue) (limit : Option ℕ). row_with cells limit) listed limited ∙ row_made own c.args.at c.args.fields.now))
    c.push_cells.ensures.ok
