use Rattle.std.proofs.Common.{◌≡◌, ◌≤◌, [], drop, max}
use Rattle.std.specs.Prelude.{unwrap_or}
use Rattle.csv_tables.specs.Contents.{greatest_at}
use Rattle.csv_tables.specs.Drawn.{pairs_of}
use Rattle.csv_tables.specs.NoWrap.{cell_nowrap_width}
use Rattle.csv_tables.proofs.rows.RecordRows.nowrap_width.Given as goal

-- the widest number or date so far, and of the columns that are left
abbrev pub invariant-loop-column : goal.invariant-loop-column
invariant-loop-column l =
    (max l.widest (greatest_at l.table (cell_nowrap_width l.room) (pairs_of l.self.look (drop l.column-index l.column-items) (unwrap_or l.self.selected.names []) l.fields) 1)
    ≡ greatest_at l.table (cell_nowrap_width l.room) (pairs_of l.self.look l.column-items (unwrap_or l.self.selected.names []) l.fields) 1)
    × (l.widest ≤ l.room)
