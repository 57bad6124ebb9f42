use Rattle.std.proofs.Common.{◌≡◌, ℕ, map, slice_index}
use Rattle.std.specs.List.{range_with_len}
use Rattle.csv_tables.specs.Limits.{limit_for, limits_at}
use Rattle.csv_tables.proofs.limits.column_limits.Given as goal

-- the constraints of the columns so far
abbrev pub invariant-loop-at : goal.invariant-loop-at
invariant-loop-at l = l.constraints.items ≡ map (λ (i : ℕ). limit_for (limits_at l.limits i) (slice_index l.given i)) (range_with_len 0 l.at)
