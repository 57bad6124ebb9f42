use Rattle.std.proofs.Common.{◌≡◌, take}
use Rattle.csv_tables.specs.Limits.{with_paddings}
use Rattle.csv_tables.proofs.limits.pad_columns.Given as goal

-- the columns so far have their paddings
abbrev pub invariant-loop-at : goal.invariant-loop-at
invariant-loop-at l = l.table ≡ with_paddings (take l.at l.limits) l.fn.table
