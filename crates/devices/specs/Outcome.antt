-- The facts of a call of `run`, by the states of its source and its sink before and after the call.
-- Source: this library's own.
use Rattle.std.specs.Prelude.{ℕ, ◌≡◌, ◌<◌, ◌≤◌, ◌*◌, ◌^◌, ◌⊎◌, Bool, true, false, [], ◌++◌, Some, length, take}
use Rattle.devices.specs.Device.{Bytes}
use Rattle.devices.specs.declared.device.Sink as sink
use Rattle.devices.specs.declared.device.Source as source

-- the facts of a call: all bytes of the source, true if its end was read, the bytes that were
-- written, true if the source failed, and true if the sink failed
pub record RunFacts : Type 0 where
  pub input : Bytes
  pub end_was_read : Bool
  pub written : Bytes
  pub read_failed : Bool
  pub write_failed : Bool

-- the first bytes are a beginning of the second ones, but not all of them
pub record IsBeginningOnly (part whole : Bytes) : Type 0 where
  pub rest : Bytes
  pub joins : whole ≡ part ++ rest
  pub some_are_missing : 0 < length rest

-- neither device failed
pub record NoDeviceFailed (facts : RunFacts) : Type 0 where
  pub no_read_failed : facts.read_failed ≡ false
  pub no_write_failed : facts.write_failed ≡ false

-- the whole input was read, an output for it was written as a whole, and no device failed
pub record IsAfterOk (IsOutput : Bytes → Bytes → Type 0) (facts : RunFacts) : Type 0 where
  pub no_device_failed : NoDeviceFailed facts
  pub whole : facts.end_was_read ≡ true
  pub output : IsOutput facts.input facts.written

-- the source failed and the sink didn't, and nothing was written; if the end was read, the source
-- had no byte
pub record IsAfterRead (facts : RunFacts) : Type 0 where
  pub failed : facts.read_failed ≡ true
  pub no_write_failed : facts.write_failed ≡ false
  pub nothing_written : facts.written ≡ []
  pub nothing_left : facts.end_was_read ≡ true → facts.input ≡ []

-- the whole input was read, and a beginning of an output for it was written, but not all of it
pub record IsPartWritten (IsOutput : Bytes → Bytes → Type 0) (facts : RunFacts) : Type 0 where
  pub whole : facts.end_was_read ≡ true
  pub output : Bytes
  pub is_output : IsOutput facts.input output
  pub beginning : IsBeginningOnly facts.written output

-- the sink failed and the source didn't, and a beginning of an output was written
pub record IsAfterWrite (IsOutput : Bytes → Bytes → Type 0) (facts : RunFacts) : Type 0 where
  pub failed : facts.write_failed ≡ true
  pub no_read_failed : facts.read_failed ≡ false
  pub part : IsPartWritten IsOutput facts

-- memory ran out for the rest of an output: no device failed, and a beginning of the output was
-- written
pub record IsAfterUnfinished (IsOutput : Bytes → Bytes → Type 0) (facts : RunFacts) : Type 0 where
  pub no_device_failed : NoDeviceFailed facts
  pub part : IsPartWritten IsOutput facts

-- the input has no output: it was read as a whole, nothing was written, and no device failed
pub record IsAfterFault (IsFault : Bytes → Type 0) (facts : RunFacts) : Type 0 where
  pub no_device_failed : NoDeviceFailed facts
  pub whole : facts.end_was_read ≡ true
  pub fault : IsFault facts.input
  pub nothing_written : facts.written ≡ []

-- memory ran out: nothing was written, and no device failed; if the whole input was read, it has no
-- other fault
pub record IsAfterOutOfMemory (IsFine : Bytes → Type 0) (facts : RunFacts) : Type 0 where
  pub no_device_failed : NoDeviceFailed facts
  pub nothing_written : facts.written ≡ []
  pub fine : facts.end_was_read ≡ true → IsFine facts.input

-- the part of an input that was read
pub data Extent : Type 0 where
  Whole : Extent
  Beginning : Extent

-- P holds, and the whole input was read
abbrev pub OfWhole : Type 0 → Extent → Type 0
OfWhole P Whole = P
OfWhole P Beginning = ⊥

-- the lengths at which a beginning of an input is tested: 65536 bytes, and then twice as many each
-- time
abbrev pub tested_at : ℕ → ℕ
tested_at n = 65536 * 2 ^ n

-- the beginning of an input that is tested
abbrev pub tested_front : ℕ → Bytes → Bytes
tested_front n input = take (tested_at n) input

module _ (IsNotEnough : Bytes → Type 0) where
  -- no tested beginning is enough
  abbrev pub NoneIsEnough : Bytes → Type 0
  NoneIsEnough input = (n : ℕ) → tested_at n ≤ length input → IsNotEnough (tested_front n input)

  -- the input is long enough for the n-th test, and no shorter beginning was enough
  pub record IsTested (n : ℕ) (input : Bytes) : Type 0 where
    pub reaches : tested_at n ≤ length input
    pub none_before : (m : ℕ) → m < n → IsNotEnough (tested_front m input)

  -- the result is that for the whole input; if the input was read to its end, no tested beginning
  -- was enough
  pub record IsByWhole (Says : RunFacts → Type 0) (facts : RunFacts) : Type 0 where
    pub none_is_enough : facts.end_was_read ≡ true → NoneIsEnough facts.input
    pub says : Says facts

  -- the result is that for the first beginning that was enough, as if it were the whole input; the
  -- bytes after it don't count, and the end wasn't read
  pub record IsByBeginning (Says : RunFacts → Type 0) (facts : RunFacts) : Type 0 where
    pub n : ℕ
    pub is_tested : IsTested n facts.input
    pub unread : facts.end_was_read ≡ false
    pub says : Says (record facts { input = tested_front n facts.input; end_was_read = true })

  abbrev pub IsByExtent : (Extent → RunFacts → Type 0) → RunFacts → Type 0
  IsByExtent Says facts = IsByWhole (Says Whole) facts ⊎ IsByBeginning (Says Beginning) facts

-- a claim about the changes of a source and a sink between two times, if their bytes were known at
-- the first time, and neither had failed
abbrev pub Between : {R W : Type 0} → source.Ghosts R → sink.Ghosts W → R × W → R × W
    → (RunFacts → Type 0) → Type 0
Between of_source of_sink old new Says =
    (input had : Bytes) → of_source.remaining old.0 ≡ Some input → of_sink.taken old.1 ≡ Some had
    → of_source.has_failed old.0 ≡ false → of_sink.has_failed old.1 ≡ false
    → (written : Bytes) × (of_sink.taken new.1 ≡ Some (had ++ written))
    × Says (record {
      input = input;
      end_was_read = of_source.end_was_read new.0;
      written = written;
      read_failed = of_source.has_failed new.0;
      write_failed = of_sink.has_failed new.1;
    })
