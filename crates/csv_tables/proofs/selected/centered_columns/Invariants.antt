use Rattle.std.proofs.Common.{◌≡◌, map, take}
use Rattle.csv_tables.specs.Styled.{centered}
use Rattle.csv_tables.proofs.selected.centered_columns.Given as goal

abbrev pub invariant-loop-column : goal.invariant-loop-column
invariant-loop-column l = l.made.items ≡ map (centered l.settings) (take l.column-index l.columns)
