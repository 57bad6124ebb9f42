use Rattle.std.proofs.Common.{◌≡◌, ◌-◌, ℕ, map}
use Rattle.std.specs.List.{range_with_len}
use Rattle.csv_command.proofs.columns.positions_between.Given as goal

abbrev pub invariant-loop-position : goal.invariant-loop-position
invariant-loop-position l = l.positions.items ≡ map (λ (p : ℕ). p) (range_with_len l.start (l.position - l.start))
