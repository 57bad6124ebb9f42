use Rattle.std.proofs.Common.{Bor, List, [], None, arith, length, map, refl, sym, ◌<◌, ◌≡◌, ◌∙◌, ◌∷◌}
use Rattle.comfy_parts.specs.Text.{Text}
use Rattle.csv_command.specs.Mistakes.{wrong_value}
use Rattle.csv_command.proofs.mistakes.reason_of_value.Goals as goal

none_left : (words : List (Bor Text)) → length words < 1 → wrong_value (map (λ w. w.now) words) ≡ None
none_left [] less = refl
none_left (word ∷ more) less = absurd (omega arith)

pub returns : goal.returns
returns c = sym (none_left c.loop-rest.rest.now c.in_default.len_below) ∙ c.loop-rest.invariant
