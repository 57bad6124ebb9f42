-- The value of a row after a call that returns a reference to it, or an error.
-- Source: this library's own.
use Rattle.std.specs.Prelude.{Result}
use Rattle.std.specs.Borrow.{Fml, MutBor, LendsIfOk}
use Rattle.comfy_parts.specs.CellValue.{RowValue}
use Rattle.comfy_parts.specs.contracts.row.Row.{the_row}

-- if the call failed, the row is unchanged
abbrev pub RowStaysIfErr : {E : Type 0} → MutBor RowValue → Result (MutBor RowValue) E → Fml
RowStaysIfErr s r = LendsIfOk the_row the_row s r (λ row. row) s.now
