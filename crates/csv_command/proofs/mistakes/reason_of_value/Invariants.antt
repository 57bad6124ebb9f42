use Rattle.std.proofs.Common.{◌≡◌, length, map}
use Rattle.csv_command.specs.Mistakes.{wrong_value}
use Rattle.csv_command.proofs.mistakes.reason_of_value.Given as goal

abbrev pub invariant-loop-rest : goal.invariant-loop-rest
invariant-loop-rest l = wrong_value (map (λ w. w.now) l.rest) ≡ wrong_value (map (λ w. w.now) l.fn.arguments)

abbrev pub decreases-loop-rest : goal.decreases-loop-rest
decreases-loop-rest l = length l.rest
