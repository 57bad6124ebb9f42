use Rattle.std.proofs.Common.{◌≡◌, ℕ, map}
use Rattle.std.specs.List.{range_with_len}
use Rattle.csv_tables.specs.Limits.{limits_at, reached}
use Rattle.csv_tables.proofs.limits.reached_limits.Given as goal

-- the limits of the columns so far
abbrev pub invariant-loop-at : goal.invariant-loop-at
invariant-loop-at l = l.reached.items ≡ map (λ (i : ℕ). reached l.contents.table i (limits_at l.limits i)) (range_with_len 0 l.at)
