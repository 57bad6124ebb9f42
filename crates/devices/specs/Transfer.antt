-- The results of reading a source to its end, or only a beginning of it.
-- Source: this library's own.
use Rattle.std.specs.Prelude.{ℕ, ◌≡◌, Bool, true, false, ◌++◌, Option, Some, Result, Err, MatchResult}
use Rattle.devices.specs.Device.{Bytes}
use Rattle.devices.specs.Outcome.{Beginning, Extent, IsTested, NoneIsEnough, Whole, tested_front}
use Rattle.devices.specs.declared.transfer.Rendered.{Rendered}
use Rattle.devices.specs.declared.transfer.ReadError.{ReadError}
use Rattle.devices.specs.declared.transfer.ReadError.TheVariants.{Source}

-- the result means that the source failed
abbrev pub is_source_fault : {T : Type 0} → Result T ReadError → Bool
is_source_fault (Err Source) = true
is_source_fault _ = false

-- the bytes that a source returned were appended, and the rest of its bytes is left
abbrev pub Moves : Option Bytes → Option Bytes → Bytes → Bytes → Type 0
Moves old new had has =
    (input : Bytes) → old ≡ Some input → (left : Bytes) × (new ≡ Some left)
    × (had ++ input ≡ has ++ left)

-- the remaining pieces are an output for an input, and the findings are those about the input
abbrev pub IsRenderedBy : {P N : Type 0} → (P → Bytes) → (Extent → Bytes → Bytes → Type 0)
    → (Extent → Bytes → N → Type 0) → Extent → Bytes → Rendered P N → Type 0
IsRenderedBy rest IsOutput AreFindingsOf extent input rendered =
    IsOutput extent input (rest rendered.pieces) × AreFindingsOf extent input rendered.findings

-- the result is an output for an input, or the reason why it has none
abbrev pub IsAnswer : {A E : Type 0} → (Extent → Bytes → A → Type 0)
    → (Extent → Bytes → E → Type 0) → Extent → Bytes → Result A E → Type 0
IsAnswer IsOutput IsRefusal extent input answer =
    MatchResult answer (λ output. IsOutput extent input output) (λ e. IsRefusal extent input e)

module _ {A E : Type 0} (IsNotEnough : Bytes → Type 0) (IsOutput : Extent → Bytes → A → Type 0)
    (IsRefusal : Extent → Bytes → E → Type 0) where
  -- the result is for all bytes of a source, if its end was read and no tested beginning was
  -- enough, and otherwise for the first beginning that was enough
  abbrev pub IsAnsweredIn : Extent → Option Bytes → Bool → Result A E → Type 0
  IsAnsweredIn Whole known ended answer =
      (input : Bytes) × IsAnswer IsOutput IsRefusal Whole input answer × (ended ≡ true)
      × ((all : Bytes) → known ≡ Some all → (all ≡ input) × NoneIsEnough IsNotEnough all)
  IsAnsweredIn Beginning known ended answer =
      (read : Bytes) × IsAnswer IsOutput IsRefusal Beginning read answer
      × ((all : Bytes) → known ≡ Some all
      → (ended ≡ false) × (n : ℕ) × IsTested IsNotEnough n all × (read ≡ tested_front n all))

  abbrev pub IsAnswered : Option Bytes → Bool → Result A E → Type 0
  IsAnswered known ended answer = (extent : Extent) × IsAnsweredIn extent known ended answer
