use Rattle.std.proofs.Common.{◌≡◌, map}
use Rattle.std.specs.List.{range_with_len}
use Rattle.csv_tables.specs.NoWrap.{min_width}
use Rattle.csv_tables.proofs.nowrap.kept_contents.Given as goal

-- the widths that the columns so far keep
abbrev pub invariant-loop-at : goal.invariant-loop-at
invariant-loop-at l = l.kept.items ≡ map (min_width (record { nowrap = l.nowrap; words = l.words }) l.contents.table) (range_with_len 0 l.at)
