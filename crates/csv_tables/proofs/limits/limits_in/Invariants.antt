use Rattle.std.proofs.Common.{◌≡◌, take}
use Rattle.csv_tables.specs.Styled.{column_limits}
use Rattle.csv_tables.proofs.limits.limits_in.Given as goal

-- the limits of the columns so far
abbrev pub invariant-loop-column : goal.invariant-loop-column
invariant-loop-column l = l.limits.items ≡ column_limits l.settings (record l.selected { columns = take l.column-index l.column-items })
