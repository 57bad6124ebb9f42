use Rattle.std.proofs.Common.{◌≡◌, ◌∷◌, codes, map}
use Rattle.comfy_c.proofs.arguments.command_line.Given as goal

abbrev pub invariant-loop-argument : goal.invariant-loop-argument
invariant-loop-argument l = map (λ w. w.now) l.arguments.items ≡ codes "csvtable" ∷ map (λ p. p.now) l.yielded
