use Rattle.std.proofs.Common.{◌≡◌, drop, map}
use Rattle.csv_command.specs.Styles.{style_within}
use Rattle.csv_command.proofs.styles.style_within.Given as goal

abbrev pub invariant-loop-own : goal.invariant-loop-own
invariant-loop-own l = style_within (map (λ entry. (entry.0.now, entry.1)) (drop l.own-index l.styles)) l.name ≡ style_within (map (λ entry. (entry.0.now, entry.1)) l.styles) l.name
