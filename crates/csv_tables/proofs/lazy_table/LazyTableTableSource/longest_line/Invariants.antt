use Rattle.std.proofs.Common.{◌≡◌, max}
use Rattle.std.specs.Iterator.Adapters.{enumerate_count, enumerate_source}
use Rattle.comfy_table.specs.Lines.{longest_line}
use Rattle.comfy_table.specs.LongestLine.{cell_longest_line}
use Rattle.csv_tables.specs.Contents.{greatest_at, rows_from}
use Rattle.csv_tables.proofs.lazy_table.LazyTableTableSource.longest_line.Given as goal

-- the longest line so far, and of the rows that are left
abbrev pub invariant-loop-at : goal.invariant-loop-at
invariant-loop-at l =
    max l.longest (greatest_at l.self.table (cell_longest_line l.self.table l.info) (rows_from l.rows (enumerate_count l.at-iterator) (enumerate_source l.at-iterator)) l.position)
    ≡ longest_line l.self.table l.position l.info.delimiter l.info.content_width
