use Rattle.std.proofs.Common.{◌≡◌, ℕ, map, max}
use Rattle.std.specs.Prelude.{nat_lt, slice_get, if◌then◌else◌}
use Rattle.std.specs.List.{slice_index_or}
use Rattle.comfy_table.specs.RowCells.{cell_of}
use Rattle.comfy_table.specs.TableValue.{cell_content_width}
use Rattle.csv_tables.specs.Contents.{measured_at}
use Rattle.comfy_c.proofs.cells_lent.widen_row.Given as goal

-- the widths have room for the cells so far
abbrev pub invariant-loop-position : goal.invariant-loop-position
invariant-loop-position l =
    (i : ℕ) → slice_index_or l.widths.items i 0 ≡ max (slice_index_or l.initial.widths.items i 0) (if nat_lt i l.position then measured_at l.table cell_content_width (slice_get (map cell_of l.cells) i) else 0)
