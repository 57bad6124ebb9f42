-- The exit status and the messages of the program, according to the result of `run`.
-- Source: this library's own.
use Rattle.std.specs.Prelude.{◌≡◌, ℕ, Bool, false, [], ◌++◌, Option, Some, Result, Ok, Err, codes}
use Rattle.comfy_parts.specs.Text.{Text}
use Rattle.comfy_parts.specs.declared.error.TableError.TheVariants.{OutOfMemory}
use Rattle.comfy_run.specs.declared.error.RunError.{RunError}
use Rattle.comfy_run.specs.declared.error.RunError.TheVariants.{Read, Write, NotUtf8, Table}

-- the message for unknown arguments
abbrev pub usage_line : Text
usage_line = codes "usage: ctable [WIDTH|- [disabled|dynamic|full [STYLE]]]\n"

-- the message for an error
abbrev pub error_line : RunError → Text
error_line Read = codes "ctable: the input can't be read\n"
error_line Write = codes "ctable: the output can't be written\n"
error_line NotUtf8 = codes "ctable: the input isn't UTF-8\n"
error_line (Table OutOfMemory) = codes "ctable: out of memory\n"

-- the exit status for a result of `run`
abbrev pub status_of : {T : Type 0} → Result T RunError → ℕ
status_of (Ok _) = 0
status_of (Err _) = 1

-- the message for a result of `run`; empty after success
abbrev pub report_of : {T : Type 0} → Result T RunError → Text
report_of (Ok _) = []
report_of (Err error) = error_line error

-- a sink took the text, or only a beginning of it if the sink failed
abbrev pub Reports : Text → Option Text → Option Text → Bool → Type 0
Reports text old new failed =
    (had : Text) → old ≡ Some had
    → (part : Text) × (rest : Text) × (new ≡ Some (had ++ part)) × (text ≡ part ++ rest)
    × (failed ≡ false → rest ≡ [])
