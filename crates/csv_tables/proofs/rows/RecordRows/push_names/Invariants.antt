use Rattle.std.proofs.Common.{◌≡◌, ◌*◌, length, map}
use Rattle.comfy_table.specs.RowCells.{cell_of}
use Rattle.csv_tables.specs.LazyRows.{AreNamed}
use Rattle.csv_tables.proofs.rows.RecordRows.push_names.Given as goal

abbrev pub invariant-loop-place : goal.invariant-loop-place
invariant-loop-place l = (length l.cells.items ≡ 2 * l.place) × AreNamed l.self (map cell_of l.cells.items)
