-- The contract of a call of `run`, for each result.
-- Source: this library's own.
use Rattle.std.specs.Prelude.{Bool, true, false, Result, Ok, Err, IsUtf8}
use Rattle.comfy_parts.specs.Text.{Text}
use Rattle.comfy_parts.specs.declared.error.TableError.TheVariants as memory
use Rattle.comfy_run.specs.Input.{RendersInput}
use Rattle.comfy_run.specs.declared.error.RunError.{RunError}
use Rattle.comfy_run.specs.declared.error.RunError.TheVariants.{Read, Write, NotUtf8, Table}
use Rattle.comfy_run.specs.declared.settings.Settings.{Settings}
use Rattle.devices.specs.Outcome.{Extent, OfWhole, IsAfterFault, IsAfterOk, IsAfterOutOfMemory, IsAfterRead, IsAfterWrite, RunFacts}
use Rattle.devices.specs.declared.transfer.Stop.{Stop}
use Rattle.devices.specs.declared.transfer.Stop.TheVariants as stop

-- the input is UTF-8, and the output is a drawing of its table
abbrev pub IsDrawnFrom : Settings → Text → Text → Type 0
IsDrawnFrom settings input output =
    IsUtf8 input × RendersInput settings.width settings.arrangement settings.style input output

-- the input isn't UTF-8
abbrev pub IsNoText : Text → Type 0
IsNoText input = ¬ (IsUtf8 input)

-- the reason why an input that was read as a whole has no output
abbrev pub IsRefusal : Text → RunError → Type 0
IsRefusal input NotUtf8 = IsNoText input
IsRefusal input (Table _) = IsUtf8 input
IsRefusal input _ = ⊥

-- only a whole input has an output or a refusal: no beginning is enough
abbrev pub IsDrawnIn : Settings → Extent → Text → Text → Type 0
IsDrawnIn settings extent input output = OfWhole (IsDrawnFrom settings input output) extent

abbrev pub IsRefusalIn : Extent → Text → RunError → Type 0
IsRefusalIn extent input e = OfWhole (IsRefusal input e) extent

-- the facts after a call, for each result
abbrev pub IsAfter : {T : Type 0} → Settings → Result T RunError → RunFacts → Type 0
IsAfter settings (Ok _) facts = IsAfterOk (IsDrawnFrom settings) facts
IsAfter settings (Err Read) facts = IsAfterRead facts
IsAfter settings (Err Write) facts = IsAfterWrite (IsDrawnFrom settings) facts
IsAfter settings (Err NotUtf8) facts = IsAfterFault IsNoText facts
IsAfter settings (Err (Table _)) facts = IsAfterOutOfMemory IsUtf8 facts

-- the result means that the source failed
abbrev pub is_read_fault : {T : Type 0} → Result T RunError → Bool
is_read_fault (Err Read) = true
is_read_fault _ = false

-- the result means that the sink failed
abbrev pub is_write_fault : {T : Type 0} → Result T RunError → Bool
is_write_fault (Err Write) = true
is_write_fault _ = false

-- the error of `run` for each reason for which `devices::run` stops
abbrev pub run_error_of : Stop RunError → RunError
run_error_of stop.Read = Read
run_error_of stop.Write = Write
run_error_of stop.OutOfMemory = Table memory.OutOfMemory
run_error_of stop.Unfinished = Table memory.OutOfMemory
run_error_of (stop.Refused e) = e
