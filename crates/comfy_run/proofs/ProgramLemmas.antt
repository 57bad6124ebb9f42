-- The messages of the program, and the settings of its run.
use Rattle.std.proofs.Common.{◌≡◌, Bool, true, [], ◌++◌, Option, Some, Result, Ok, Err, OnOk, OnErr, refl, sym, append-nil, ap, subst, ◌∙◌}
use Rattle.comfy_parts.specs.Text.{Text}
use Rattle.devices.specs.Outcome.{Between, IsBeginningOnly}
use Rattle.devices.specs.declared.device.Sink as sink
use Rattle.devices.specs.declared.device.Source as source
use Rattle.comfy_run.specs.Program.{Reports}
use Rattle.comfy_run.specs.Run.{IsAfter}
use Rattle.comfy_run.specs.declared.error.RunError.{RunError}
use Rattle.comfy_run.specs.declared.settings.Settings.{Settings}

-- a written line is reported
pub reported : {T E : Type 0} (r : Result T E) (text : Text) (old new : Option Text) (failed : Bool) → OnOk r ((had : Text) → old ≡ Some had → new ≡ Some (had ++ text))
    → OnErr r (failed ≡ true) → OnErr r ((had : Text) → old ≡ Some had → (part : Text) × (new ≡ Some (had ++ part)) × IsBeginningOnly part text) → Reports text old new failed
reported (Ok x) text old new failed all fault part = λ had known. (text, [], all had known, sym (append-nil text), λ fine. refl)
reported (Err e) text old new failed all fault part = λ had known.
    let beginning = part had known in
    (beginning.0, beginning.2.rest, beginning.1, beginning.2.joins, λ fine. absurd (cc (fault, fine)))

-- nothing is reported to a sink that is unchanged
pub nothing_reported : (old : Option Text) (failed : Bool) → Reports [] old old failed
nothing_reported old failed = λ had known. ([], [], known ∙ ap Some (sym (append-nil had)), refl, λ fine. refl)

-- two settings that are both those of the arguments are the same
pub same_settings : (a b : Settings) (x : Option Settings) → Some a ≡ x → x ≡ Some b → a ≡ b
same_settings a b x first second = cc

-- a claim about a run with some settings holds with the same settings
pub same_run : {T R W : Type 0} (of_source : source.Ghosts R) (of_sink : sink.Ghosts W) {a b : Settings} (r : Result T RunError) (old new : R × W) → a ≡ b
    → Between of_source of_sink old new (IsAfter a r) → Between of_source of_sink old new (IsAfter b r)
same_run of_source of_sink r old new same = subst (λ (s : Settings). Between of_source of_sink old new (IsAfter s r)) same
