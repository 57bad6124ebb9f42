-- The values of sources over readers, and of sinks over writers.
-- Source: this library's own.
use Rattle.std.specs.Prelude.{◌≡◌, Bool, true, false, List, ℕ, [], Option, Some, Result, Ok, Err, if◌then◌else◌}
use Rattle.std.specs.IoError.{error_kind}
use Rattle.std.specs.declared.io.Error.{Error}
use Rattle.std.specs.declared.io.ErrorKind.{ErrorKind}

-- a reader, the kind of the error with which it failed, and true if its end was read
pub record ReaderValue (R : Type 0) : Type 0 where
  pub reader : R
  pub fault : Option ErrorKind
  pub ended : Bool

-- the kind of the last error, after this result
abbrev pub fault_after : {T : Type 0} → Result T Error → Option ErrorKind → Option ErrorKind
fault_after (Ok x) fault = fault
fault_after (Err error) fault = Some (error_kind error)

-- a writer, true if it has failed, and the kind of the error with which it failed, if it returned
-- one
pub record ToWriterValue (W : Type 0) : Type 0 where
  pub writer : W
  pub failed : Bool
  pub fault : Option ErrorKind

-- the bytes that are left: none after the end, and before it those that the reader has
abbrev pub left_before : Bool → Option (List ℕ) → Option (List ℕ)
left_before ended known = if ended then Some [] else known

-- after the end, no byte is left
pub none_is_left : (ended : Bool) (known : Option (List ℕ)) → ended ≡ true → (left : List ℕ)
    → left_before ended known ≡ Some left
    → left ≡ []
none_is_left true known is left e = cc
none_is_left false known is left e = absurd (cc)
