use Rattle.std.proofs.Common.{◌≡◌, nat_le}
use Rattle.csv_tables.specs.Limits.{bounded_width, level_within}
use Rattle.csv_tables.specs.NoWrap.{Wanted, by_columns, greatest_level, min_width}
use Rattle.csv_tables.proofs.nowrap.level_within.Given as goal

-- no greater level has room
abbrev pub invariant-loop-level : goal.invariant-loop-level
invariant-loop-level l =
    (wanted : Wanted) → l.kept ≡ by_columns (min_width wanted l.contents.table) l.contents.table
    → greatest_level (λ level. nat_le (bounded_width l.limits level wanted l.contents.table) l.width) l.level ≡ level_within l.limits l.width wanted l.contents.table

abbrev pub decreases-loop-level : goal.decreases-loop-level
decreases-loop-level l = l.level
