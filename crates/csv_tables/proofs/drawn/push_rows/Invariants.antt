use Rattle.std.proofs.Common.{◌≡◌, ◌+◌, ◌++◌, length, string_bytes}
use Rattle.comfy_table.specs.Drawing.{part_of_drawing, terminated_text_of}
use Rattle.comfy_table.specs.TableValue.{with_other_rows}
use Rattle.csv_tables.specs.Contents.{rows_from}
use Rattle.csv_tables.proofs.drawn.push_rows.Given as goal

-- the text so far and the text of the records that are left
abbrev pub invariant-loop-fields : goal.invariant-loop-fields
invariant-loop-fields l =
    (string_bytes l.text ++ terminated_text_of (part_of_drawing l.arranged.contents.table l.arranged.infos l.is_first l.extent.is_last (rows_from l.arranged.contents.rows l.at l.fields-iterator))
    ≡ string_bytes l.initial.text ++ terminated_text_of (part_of_drawing l.arranged.contents.table l.arranged.infos l.extent.is_first l.extent.is_last (rows_from l.arranged.contents.rows l.place l.next)))
    × (l.at + length l.fields-iterator ≡ l.place + length l.next)
    × (with_other_rows l.arranged.contents.table.rows l.writer.table ≡ l.arranged.contents.table)
    × (l.writer.infos ≡ l.arranged.infos)
