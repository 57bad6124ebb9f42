use Rattle.std.proofs.Common.{◌≡◌, ◌-◌, drop, length, reverse}
use Rattle.csv_tables.specs.Leasts.{least_position, least_positions}
use Rattle.csv_tables.proofs.selected.least_positions_of.Given as goal

abbrev pub invariant-loop-after : goal.invariant-loop-after
invariant-loop-after l =
    (reverse l.leasts.items ≡ least_positions (drop (length l.columns - l.after) l.columns)) × (l.least ≡ least_position (drop (length l.columns - l.after) l.columns))
