-- The facts of a run that stopped, for this crate's errors.
use Rattle.std.specs.Prelude.{⊤}
use Rattle.std.proofs.Common.{◌≡◌, inl, inr, false, true, Ok, Err, refl, subst, sym}
use Rattle.std.proofs.lemmas.Str.{IsUtf8-nil}
use Rattle.std.specs.Str.{IsUtf8}
use Rattle.comfy_parts.specs.Text.{Text}
use Rattle.comfy_run.specs.Run.{IsAfter, IsDrawnFrom, IsDrawnIn, IsRefusalIn, run_error_of}
use Rattle.comfy_run.specs.declared.error.RunError.{RunError}
use Rattle.comfy_run.specs.declared.error.RunError.TheVariants as own
use Rattle.comfy_run.specs.declared.settings.Settings.{Settings}
use Rattle.devices.specs.Outcome.{IsAfterOk, RunFacts, Whole}
use Rattle.devices.specs.Run.{IsAfter as IsAfterRun, IsAfterIn}
use Rattle.devices.specs.declared.transfer.Stop.{Stop}
use Rattle.devices.specs.declared.transfer.Stop.TheVariants.{OutOfMemory, Read, Refused, Unfinished, Write}

-- every beginning is too short
abbrev Any : Text → Type 0
Any read = ⊤

-- after success the whole input was read and drawn, because no beginning is enough
pub after_ok : (T : Type 0) (x : T) (settings : Settings) (facts : RunFacts) → IsAfterRun Any (IsDrawnIn settings) IsRefusalIn {T = T} (Ok x) facts → IsAfterOk (IsDrawnFrom settings) facts
after_ok T x settings facts (inl after) = after.says
after_ok T x settings facts (inr part) = absurd part.says.output

whole_alone : (T : Type 0) (settings : Settings) (stop : Stop RunError) (facts : RunFacts) → IsAfterRun Any (IsDrawnIn settings) IsRefusalIn {T = T} (Err stop) facts
    → IsAfterIn Any (IsDrawnIn settings) IsRefusalIn {T = T} (Err stop) Whole facts
whole_alone T settings stop facts (inl after) = after.says
whole_alone T settings Read facts (inr part) = absurd part.says
whole_alone T settings Write facts (inr part) = absurd part.says.part.is_output
whole_alone T settings Unfinished facts (inr part) = absurd part.says.part.is_output
whole_alone T settings OutOfMemory facts (inr part) = absurd part.says
whole_alone T settings (Refused e) facts (inr part) = absurd part.says.fault

of_whole : (T : Type 0) (settings : Settings) (stop : Stop RunError) (facts : RunFacts) → (stop ≡ Unfinished → true ≡ false) → IsAfterIn Any (IsDrawnIn settings) IsRefusalIn {T = T} (Err stop) Whole facts
    → IsAfter {T = T} settings (Err (run_error_of stop)) facts
of_whole T settings Read facts whole after = after
of_whole T settings Write facts whole after = after
of_whole T settings OutOfMemory facts whole after = record { no_device_failed = after.no_device_failed; nothing_written = after.nothing_written; fine = λ ended. subst IsUtf8 (sym (after.fine ended)) IsUtf8-nil }
of_whole T settings Unfinished facts whole after = let differ : true ≡ false = whole refl in absurd (cc differ)
of_whole T settings (Refused own.NotUtf8) facts whole after = after
of_whole T settings (Refused (own.Table e)) facts whole after = record { no_device_failed = after.no_device_failed; nothing_written = after.nothing_written; fine = λ ended. after.fault }
of_whole T settings (Refused own.Read) facts whole after = absurd after.fault
of_whole T settings (Refused own.Write) facts whole after = absurd after.fault

pub after_stop : (T : Type 0) (settings : Settings) (stop : Stop RunError) (facts : RunFacts) → (stop ≡ Unfinished → true ≡ false) → IsAfterRun Any (IsDrawnIn settings) IsRefusalIn {T = T} (Err stop) facts
    → IsAfter {T = T} settings (Err (run_error_of stop)) facts
after_stop T settings stop facts whole after = of_whole T settings stop facts whole (whole_alone T settings stop facts after)
