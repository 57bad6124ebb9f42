use Rattle.std.proofs.Common.{◌≡◌, map, take}
use Rattle.csv_tables.specs.NoWrap.{lower_bound}
use Rattle.csv_tables.proofs.limits.lower_bounds.Given as goal

abbrev pub invariant-loop-content : goal.invariant-loop-content
invariant-loop-content l = l.constraints.items ≡ map lower_bound (take l.content-index l.given)
