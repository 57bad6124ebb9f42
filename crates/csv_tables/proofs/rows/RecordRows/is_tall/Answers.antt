use Rattle.std.proofs.Common.{List, Option, ℕ, ap, ap₂, map, nat_lt, ◌∙◌}
use Rattle.comfy_parts.specs.CellValue.{CellValue, RowValue}
use Rattle.comfy_table.specs.Pieces.{row_height}
use Rattle.comfy_table.specs.RowCells.{cell_of, row_with}
use Rattle.csv_tables.proofs.DressedLemmas.{row_made}
use Rattle.csv_tables.specs.Settings.{limit_by}
use Rattle.csv_tables.proofs.rows.RecordRows.is_tall.Goals as goal

pub returns : goal.returns
returns c =
    let own = c.args.self.now in
    let listed = ap (map cell_of) c.as_slice.ensures.value ∙ c.in_ok-list_cells.ensures in
    let limited = c.limit_by-limit.ensures ∙ ap (λ settings. limit_by settings own.look) c.settings_at.ensures in
    ap (nat_lt 1)
    (c.in_ok-height.ensures
    ∙ ap (λ (row : RowValue). row_height c.args.writer.now.table c.args.writer.now.infos row)
    (ap₂ (λ (cells : List CellValue) (limit : Option ℕ). row_with cells limit) listed limited ∙ row_made own c.args.at c.args.fields.now))
