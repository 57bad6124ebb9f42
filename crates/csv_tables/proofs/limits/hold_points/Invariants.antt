use Rattle.std.proofs.Common.{◌≡◌}
use Rattle.std.specs.List.{list_all, range_with_len}
use Rattle.csv_tables.specs.Limits.{holds_points}
use Rattle.csv_tables.proofs.limits.hold_points.Given as goal

-- true if the columns so far hold their points
abbrev pub invariant-loop-at : goal.invariant-loop-at
invariant-loop-at l = l.hold ≡ list_all (holds_points l.limits l.contents.table) (range_with_len 0 l.at)
