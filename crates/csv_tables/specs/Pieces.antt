-- Private: drawings whose first piece is ready, and whose other pieces are made later.
-- Source: this library's own.
use Rattle.std.specs.Prelude.{[], ◌++◌, Option, Some, None, true, drop, string_bytes}
use Rattle.comfy_parts.specs.Text.{Text}
use Rattle.csv_tables.specs.Contents.{drawn_next}
use Rattle.csv_tables.specs.declared.drawn.Remaining.{Remaining}

-- the rest of a drawing, with the note at its end
abbrev pub rest_of : Option Remaining → Text
rest_of None = []
rest_of (Some left) =
    drawn_next left.arranged.contents.rows left.arranged.contents.table left.arranged.infos
    left.place left.is_first true (drop left.place left.arranged.contents.rows.selected.rows)
    ++ string_bytes left.note
