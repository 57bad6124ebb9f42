use Rattle.std.proofs.Common.{◌≡◌, ◌++◌, false, map, take}
use Rattle.comfy_table.specs.RowCells.{cell_of}
use Rattle.csv_tables.specs.Contents.{field_cells}
use Rattle.csv_tables.proofs.rows.RecordRows.push_fields.Given as goal

abbrev pub invariant-loop-column : goal.invariant-loop-column
invariant-loop-column l =
    map cell_of l.cells.items
    ≡ map cell_of l.initial.cells.items ++ field_cells l.self.look false l.self.is_aligned l.settings (take l.column-index l.columns) l.fields
