use Rattle.std.proofs.Common.{◌≡◌, map}
use Rattle.comfy_table.specs.TableValue.{with_rows}
use Rattle.comfy_table.proofs.table.Table.push_rows.Given as goal

-- the rows so far have been added
abbrev pub invariant-loop-row : goal.invariant-loop-row
invariant-loop-row g l = l.self ≡ with_rows (map g.R.Item.IntoRow.row_of l.yielded) l.initial.self
