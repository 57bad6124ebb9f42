use Rattle.std.proofs.Common.{◌≡◌, max}
use Rattle.std.specs.Iterator.Adapters.{enumerate_count, enumerate_source}
use Rattle.csv_tables.specs.Contents.{greatest_at, rows_from}
use Rattle.csv_tables.specs.NoWrap.{cell_need, fields_need}
use Rattle.csv_tables.proofs.needs.fields_need.Given as goal

-- the need of the rows so far, and of the rows that are left
abbrev pub invariant-loop-place : goal.invariant-loop-place
invariant-loop-place l =
    max l.need (greatest_at l.contents.table (cell_need l.is_nowrap) (rows_from l.rows (enumerate_count l.place-iterator) (enumerate_source l.place-iterator)) l.at)
    ≡ fields_need l.is_nowrap l.contents.table l.at
