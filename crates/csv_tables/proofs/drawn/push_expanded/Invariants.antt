use Rattle.std.proofs.Common.{◌≡◌, ◌+◌, ◌++◌, length, map, string_bytes}
use Rattle.comfy_table.specs.RowCells.{cell_of}
use Rattle.csv_tables.specs.LazyRows.{AreNamed}
use Rattle.comfy_table.specs.TableValue.{with_other_rows}
use Rattle.csv_tables.specs.Contents.{expanded_from}
use Rattle.csv_tables.proofs.drawn.push_expanded.Given as goal

-- the text so far and the text of the records that are left
abbrev pub invariant-loop-fields : goal.invariant-loop-fields
invariant-loop-fields l =
    (string_bytes l.text ++ expanded_from l.arranged.contents.rows l.arranged.contents.table l.arranged.infos l.at l.fields-iterator
    ≡ string_bytes l.initial.text ++ expanded_from l.arranged.contents.rows l.arranged.contents.table l.arranged.infos l.place l.next)
    × (l.at + length l.fields-iterator ≡ l.place + length l.next)
    × (with_other_rows l.arranged.contents.table.rows l.writer.table ≡ l.arranged.contents.table)
    × (l.writer.infos ≡ l.arranged.infos)
    × AreNamed l.arranged.contents.rows (map cell_of l.cells.items)
