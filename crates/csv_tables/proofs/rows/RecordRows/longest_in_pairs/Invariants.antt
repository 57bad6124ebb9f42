use Rattle.std.proofs.Common.{◌≡◌, [], drop, max}
use Rattle.std.specs.Prelude.{unwrap_or}
use Rattle.comfy_table.specs.LongestLine.{cell_longest_line}
use Rattle.csv_tables.specs.Contents.{greatest_at}
use Rattle.csv_tables.specs.Drawn.{pairs_of}
use Rattle.csv_tables.proofs.rows.RecordRows.longest_in_pairs.Given as goal

-- the longest line so far, and of the columns that are left
abbrev pub invariant-loop-column : goal.invariant-loop-column
invariant-loop-column l =
    max l.longest (greatest_at l.table (cell_longest_line l.table l.info) (pairs_of l.self.look (drop l.column-index l.column-items) (unwrap_or l.self.selected.names []) l.fields) l.position)
    ≡ greatest_at l.table (cell_longest_line l.table l.info) (pairs_of l.self.look l.column-items (unwrap_or l.self.selected.names []) l.fields) l.position
