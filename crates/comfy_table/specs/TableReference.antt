-- Private: a mutable reference to a table, in a struct of its own.
-- Source: this library's own.
use Rattle.std.specs.Prelude.{Result, Ok, Err}
use Rattle.std.specs.Borrow.{MutBor}
use Rattle.comfy_table.specs.TableValue.{TableValue}
use Rattle.comfy_table.specs.declared.table.TableReference.{TableReference}

-- the reference in the struct, or the error
abbrev pub reference_of : {E : Type 0} → Result TableReference E → Result (MutBor TableValue) E
reference_of (Ok changed) = Ok changed.table
reference_of (Err error) = Err error
