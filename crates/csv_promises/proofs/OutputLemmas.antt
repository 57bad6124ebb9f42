-- Texts in which nothing harmful is visible, and the output of a call of `draw`.
use Rattle.std.proofs.Common.{Ok, inl, inr, suc, length, refl, arith}
use Rattle.comfy_parts.proofs.CallerLemmas.{none_by_characters}
use Rattle.comfy_parts.specs.Text.{Text}
use Rattle.comfy_parts.specs.VisibleText.{visible_text}
use Rattle.csv_records.specs.Cleaning.{is_harmful}
use Rattle.csv_tables.specs.Controls.{HasNothingHarmful}
use Rattle.csv_command.specs.Drawn.{IsDrawnOf}
use Rattle.csv_command.specs.Run.{IsAfter}
use Rattle.csv_command.specs.declared.arguments.Options.{Options}
use Rattle.devices.specs.Outcome.{RunFacts}
use Rattle.promises.proofs.ShownLemmas.{shows_visible}
use Rattle.csv_promises.specs.Harmless.{ShowsNothingHarmful}

pub harmless_text : (text : Text) → HasNothingHarmful (visible_text text) → ShowsNothingHarmful text
harmless_text text none = (visible_text text, shows_visible (suc (length text)) text (omega arith) (none_by_characters is_harmful 0x1B (omega arith) refl (visible_text text) none), none)

-- the output of a call of `draw` that succeeded
pub written_of : (T : Type 0) (x : T) (options : Options) (facts : RunFacts) → IsAfter {T = T} options (Ok x) facts → IsDrawnOf options facts.input facts.written
written_of T x options facts (inl after) = inl (after.none_is_enough after.says.whole, after.says.output)
written_of T x options facts (inr part) = inr (part.n, part.is_tested, part.says.output)
