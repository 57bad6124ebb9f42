-- The result of a predicate for a number of rows and a value.
-- Source: add_row_if and add_rows_if of comfy-table 8.0.1.
use Rattle.std.specs.Prelude.{◌≡◌, ℕ, Bool}
use Rattle.std.specs.Borrow.{Bor}
use Rattle.std.specs.Fn.{FnReturns}
use denote.Param.Members.{Shared}

-- f may return this answer for this number and a reference to the value
pub record Answers {F T : Type 0} (g : Shared F (ℕ × (Bor T × Unit {0})) Bool) (f : F) (count : ℕ)
    (value : T) (answer : Bool) : Type 0 where
  pub shown : Bor T
  pub shows : shown.now ≡ value
  pub says : FnReturns g f (count, (shown, tt)) answer
