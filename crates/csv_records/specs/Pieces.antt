-- Private: the pieces of a field, as the code finds them.
-- Source: this library's own.
use Rattle.comfy_parts.specs.Cursor.{sequence_part, visible_part}
use Rattle.comfy_parts.specs.VisibleText.{Part}
use Rattle.csv_records.specs.declared.cleaning.Piece.{Piece}
use Rattle.csv_records.specs.declared.cleaning.Piece.TheVariants.{Character, Sequence}

abbrev pub part_of : Piece → Part
part_of (Sequence s) = sequence_part s.now
part_of (Character c) = visible_part c
