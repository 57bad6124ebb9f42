use Rattle.std.proofs.Common.{◌≡◌, ◌==◌, ◌++◌, [], length, map, string_bytes, take}
use Rattle.std.specs.Prelude.{unwrap_or}
use Rattle.comfy_table.specs.RowCells.{cell_of}
use Rattle.csv_tables.proofs.PieceLemmas.{begun}
use Rattle.csv_tables.specs.Drawn.{pairs_of}
use Rattle.csv_tables.specs.LazyRows.{AreNamed}
use Rattle.csv_tables.proofs.drawn.push_fields.Given as goal

-- the rows of the columns so far are drawn
abbrev pub invariant-loop-place : goal.invariant-loop-place
invariant-loop-place l =
    let drawn = pairs_of l.rows.look (take l.place l.column-items) (unwrap_or l.rows.selected.names []) l.fields in
    (string_bytes l.text ≡ string_bytes l.initial.text ++ begun l.initial.writer.table l.initial.writer.infos drawn)
    × (l.is_first ≡ (length drawn == 0))
    × (l.writer ≡ l.initial.writer)
    × AreNamed l.rows (map cell_of l.cells.items)
