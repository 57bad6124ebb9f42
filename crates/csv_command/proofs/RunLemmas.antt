-- The facts after a call of `draw` that stopped, by this crate's error.
use Rattle.std.proofs.Common.{◌≡◌, ◌≢◌, ◌++◌, Err, MatchOption, None, Option, Some, [], ap, append_assoc, drop, inl, inr, refl, subst, suc, sym, true, zero, ℕ, ◌∙◌}
use Rattle.std.proofs.lemmas.List.{take-append-drop}
use Rattle.csv_records.proofs.WholeLineLemmas.{whole_front}
use Rattle.csv_records.specs.Beginning.{whole_lines}
use Rattle.std.proofs.lemmas.Str.{IsUtf8-nil}
use Rattle.std.specs.Str.{IsUtf8}
use Rattle.comfy_parts.specs.Text.{Text}
use Rattle.csv_records.specs.Encoding.{IsRefusedIn, encoding_of}
use Rattle.csv_records.specs.Lines.{below_lines}
use Rattle.csv_records.specs.NotText.{not_text_for}
use Rattle.csv_records.specs.Reading.{IsWithoutText}
use Rattle.csv_records.specs.declared.encoding.Encoding.{Encoding}
use Rattle.csv_records.specs.declared.encoding.Encoding.TheVariants.{Utf8}
use Rattle.csv_records.specs.declared.not_text.NotText.{NotText}
use Rattle.csv_records.specs.declared.error.DecodeError.{DecodeError}
use Rattle.csv_records.specs.declared.error.DecodeError.TheVariants as decode
use Rattle.csv_command.specs.Drawn.{IsNotEnough, RendersExtent}
use Rattle.csv_command.specs.Errors.{of_decoding, of_stop}
use Rattle.csv_command.specs.Run.{IsAfter, IsAfterIn, IsInputRefusal, IsRefusal}
use Rattle.csv_command.specs.declared.error.CsvError.{CsvError}
use Rattle.csv_command.specs.declared.error.CsvError.TheVariants as own
use Rattle.csv_command.specs.declared.arguments.Options.{Options}
use Rattle.devices.specs.Outcome.{Beginning, Extent, RunFacts, Whole, tested_at, tested_front}
use Rattle.devices.specs.Run.{IsAfter as IsAfterRun, IsAfterIn as IsAfterRunIn}
use Rattle.devices.specs.declared.transfer.Stop.{Stop}
use Rattle.devices.specs.declared.transfer.Stop.TheVariants.{OutOfMemory, Refused, Unfinished}

-- nothing is below the lines of an empty text
pub no_lines : (count : ℕ) → below_lines count [] ≡ []
no_lines zero = refl
no_lines (suc count) = no_lines count

-- the facts by what stopped the run
after_stop_in : (T : Type 0) (options : Options) (extent : Extent) (stop : Stop CsvError) (facts : RunFacts) → IsAfterRunIn (IsNotEnough options) (RendersExtent options) (IsRefusal options) {T = T} (Err stop) extent facts
    → IsAfterIn {T = T} options (Err (of_stop stop)) extent facts
after_stop_in T options Whole OutOfMemory facts after = inl (record { no_device_failed = after.no_device_failed; nothing_written = after.nothing_written; fine = λ whole wanted. subst (λ (input : Text). IsUtf8 (below_lines options.input.skip input)) (sym (after.fine whole)) (subst IsUtf8 (sym (no_lines options.input.skip)) IsUtf8-nil) })
after_stop_in T options Beginning OutOfMemory facts after = absurd after
after_stop_in T options extent Unfinished facts after = inr after
after_stop_in T options extent (Refused own.OutOfMemory) facts after = inl (record { no_device_failed = after.no_device_failed; nothing_written = after.nothing_written; fine = λ whole. after.fault })
after_stop_in T options Whole (Refused own.Read) facts after = absurd after.fault
after_stop_in T options Beginning (Refused own.Read) facts after = absurd after.fault
after_stop_in T options Whole (Refused own.Write) facts after = absurd after.fault
after_stop_in T options Beginning (Refused own.Write) facts after = absurd after.fault
after_stop_in T options extent stop facts after = after

pub after_stop : (T : Type 0) (options : Options) (stop : Stop CsvError) (facts : RunFacts) → IsAfterRun (IsNotEnough options) (RendersExtent options) (IsRefusal options) {T = T} (Err stop) facts
    → IsAfter {T = T} options (Err (of_stop stop)) facts
after_stop T options stop facts (inl after) = inl (record { none_is_enough = after.none_is_enough; says = after_stop_in T options Whole stop facts after.says })
after_stop T options stop facts (inr part) =
    inr (record {
      n = part.n;
      is_tested = part.is_tested;
      unread = part.unread;
      says = after_stop_in T options Beginning stop (record facts { input = tested_front part.n facts.input; end_was_read = true }) part.says;
    })

-- the drawn beginning has complete lines, and the rest of the input follows them
pub beginning_parts : (n : ℕ) (input : Text) → (after : Text) × (input ≡ whole_lines (tested_front n input) ++ after)
beginning_parts n input =
    let lines = whole_front (tested_front n input) in
    let rest = drop (tested_at n) input in (
      lines.0 ++ rest,
      sym (take-append-drop (tested_at n) input) ∙ ap (λ t. t ++ rest) lines.1 ∙ append_assoc (whole_lines (tested_front n input)) lines.0 rest,
    )

module _ (options : Options) (input : Text) where
  -- if memory ran out, the input wasn't recognised as something else, and isn't read as UTF-8
  no_memory : (o : Option NotText) → MatchOption o (IsRefusedIn (encoding_of options.input.encoding input) options.input.skip input decode.OutOfMemory) (λ other. decode.OutOfMemory ≡ decode.NotText other)
      → encoding_of options.input.encoding input ≢ Utf8
  no_memory None why wanted = subst (λ (encoding : Encoding). IsRefusedIn encoding options.input.skip input decode.OutOfMemory) wanted why
  no_memory (Some other) why wanted = cc why

  -- an input that has no text is refused
  pub of_no_text : (e : DecodeError) → IsWithoutText options.input input e → IsInputRefusal options input (of_decoding e)
  of_no_text decode.OutOfMemory why = λ wanted. absurd (no_memory (not_text_for options.input.encoding options.input.skip input) why wanted)
  of_no_text e why = ((λ is. cc is), why)
