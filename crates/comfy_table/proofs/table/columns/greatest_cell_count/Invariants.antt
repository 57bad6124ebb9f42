use Rattle.std.proofs.Common.{◌≡◌, drop, max}
use Rattle.comfy_table.specs.TableValue.{greatest_cell_count}
use Rattle.comfy_table.proofs.table.columns.greatest_cell_count.Given as goal

-- the greatest number so far, and that of the rows that are left
abbrev pub invariant-loop-row : goal.invariant-loop-row
invariant-loop-row l = max l.greatest (greatest_cell_count (drop l.row-index l.rows)) ≡ greatest_cell_count l.rows
