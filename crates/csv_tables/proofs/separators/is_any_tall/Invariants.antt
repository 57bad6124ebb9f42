use Rattle.std.proofs.Common.{◌≡◌, map, nat_lt}
use Rattle.std.specs.Iterator.Adapters.{enumerate_count, enumerate_source}
use Rattle.std.specs.List.{list_any}
use Rattle.comfy_table.specs.Pieces.{row_height}
use Rattle.csv_tables.specs.Contents.{rows_from}
use Rattle.csv_tables.proofs.separators.is_any_tall.Given as goal

-- none of the rows so far is tall
abbrev pub invariant-loop-at : goal.invariant-loop-at
invariant-loop-at l =
    list_any (nat_lt 1) (map (row_height l.writer.table l.writer.infos) (rows_from l.rows (enumerate_count l.at-iterator) (enumerate_source l.at-iterator)))
    ≡ list_any (nat_lt 1) (map (row_height l.writer.table l.writer.infos) (rows_from l.rows 0 l.rows.selected.rows))
