use Rattle.std.proofs.Common.{◌≡◌, ◌≤◌, flat_map, max}
use Rattle.csv_tables.specs.Contents.{greatest_at, pairs_by}
use Rattle.csv_tables.specs.NoWrap.{cell_nowrap_width, field_width}
use Rattle.csv_tables.proofs.nowrap.field_width.Given as goal

-- the widest number or date so far, and of the records that are left
abbrev pub invariant-loop-fields : goal.invariant-loop-fields
invariant-loop-fields l =
    (max l.widest (greatest_at l.contents.table (cell_nowrap_width l.room) (flat_map (pairs_by l.rows) l.fields-iterator) 1) ≡ field_width l.room l.contents.table)
    × (l.widest ≤ l.room)
