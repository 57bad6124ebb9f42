use Rattle.std.proofs.Common.{◌≡◌, ◌<◌, ◌≤◌, ℕ, Some, slice_get, slice_index_or}
use Rattle.comfy_parts.specs.CellValue.{ColumnInfo}
use Rattle.csv_tables.proofs.lazy_table.are_within.Given as goal

-- the columns so far have room
abbrev pub invariant-loop-position : goal.invariant-loop-position
invariant-loop-position l =
    (i : ℕ) (info : ColumnInfo) → i < l.position → slice_get l.infos i ≡ Some info → (slice_index_or l.widths i 0 ≤ info.content_width) × (slice_index_or l.widths i 0 < 65535)
