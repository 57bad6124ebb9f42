-- Private: a reference to a row, in a struct.
-- Source: this library's own.
use Rattle.std.specs.Prelude.{Result, Ok, Err}
use Rattle.std.specs.Borrow.{MutBor}
use Rattle.comfy_parts.specs.CellValue.{RowValue}
use Rattle.comfy_parts.specs.declared.row.RowReference.{RowReference}

-- the reference in the result, taken out of its struct
abbrev pub reference_of : {E : Type 0} → Result RowReference E → Result (MutBor RowValue) E
reference_of (Ok reference) = Ok reference.row
reference_of (Err error) = Err error
