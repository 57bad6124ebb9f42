-- The contract of `run`, by its result.
-- Source: this library's own.
use Rattle.std.specs.Prelude.{◌≡◌, ⊤, Bool, true, false, [], Result, Ok, Err, IfOk}
use Rattle.devices.specs.Device.{Bytes}
use Rattle.devices.specs.Outcome.{Extent, Beginning, IsByExtent, OfWhole, IsAfterFault, IsAfterOk, IsAfterOutOfMemory, IsAfterRead, IsAfterUnfinished, IsAfterWrite, RunFacts}
use Rattle.devices.specs.declared.transfer.ReadError.{ReadError}
use Rattle.devices.specs.declared.transfer.ReadError.TheVariants as read
use Rattle.devices.specs.declared.transfer.Stop.{Stop}
use Rattle.devices.specs.declared.transfer.Stop.TheVariants.{OutOfMemory, Read, Refused, Unfinished, Write}

-- the result means that the source failed
abbrev pub is_read_fault : {T E : Type 0} → Result T (Stop E) → Bool
is_read_fault (Err Read) = true
is_read_fault _ = false

-- the result means that the sink failed
abbrev pub is_write_fault : {T E : Type 0} → Result T (Stop E) → Bool
is_write_fault (Err Write) = true
is_write_fault _ = false

-- the reason why `run` stopped, if its source wasn't read to its end
abbrev pub stop_of : {E : Type 0} → ReadError → Stop E
stop_of read.Source = Read
stop_of read.OutOfMemory = OutOfMemory

-- a refusal is one for some input
abbrev pub IsRefusalOfSome : {E : Type 0} → (Extent → Bytes → E → Type 0) → Stop E → Type 0
IsRefusalOfSome IsRefusal (Refused e) =
    (extent : Extent) × (input : Bytes) × IsRefusal extent input e
IsRefusalOfSome IsRefusal _ = ⊤

-- a beginning of an input can be enough for an output
abbrev pub IsSomeEnough : (Extent → Bytes → Bytes → Type 0) → Type 0
IsSomeEnough IsOutput = (beginning : Bytes) × (output : Bytes) × IsOutput Beginning beginning output

-- the facts of a call of `run`, by its result; if the end was read and memory ran out for the
-- input, the input is empty
module _ {E : Type 0} (IsNotEnough : Bytes → Type 0)
    (IsOutput : Extent → Bytes → Bytes → Type 0) (IsRefusal : Extent → Bytes → E → Type 0) where
  abbrev pub IsAfterIn : {T : Type 0} → Result T (Stop E) → Extent → RunFacts → Type 0
  IsAfterIn (Ok _) extent facts = IsAfterOk (IsOutput extent) facts
  IsAfterIn (Err Read) extent facts = OfWhole (IsAfterRead facts) extent
  IsAfterIn (Err Write) extent facts = IsAfterWrite (IsOutput extent) facts
  IsAfterIn (Err OutOfMemory) extent facts =
      OfWhole (IsAfterOutOfMemory (λ input. input ≡ []) facts) extent
  IsAfterIn (Err Unfinished) extent facts = IsAfterUnfinished (IsOutput extent) facts
  IsAfterIn (Err (Refused e)) extent facts = IsAfterFault (λ input. IsRefusal extent input e) facts

  abbrev pub IsAfter : {T : Type 0} → Result T (Stop E) → RunFacts → Type 0
  IsAfter result facts = IsByExtent IsNotEnough (IsAfterIn result) facts

-- the findings are those about the whole input, or about a beginning that was enough
abbrev pub AreFindings : {N E : Type 0} → (Bytes → Type 0) → (Extent → Bytes → N → Type 0)
    → Result N E → RunFacts → Type 0
AreFindings IsNotEnough AreFindingsOf result facts =
    IfOk result (λ findings.
    IsByExtent IsNotEnough (λ extent facts. AreFindingsOf extent facts.input findings) facts)
