use Rattle.std.proofs.Common.{◌≡◌, take}
use Rattle.csv_tables.specs.Drawn.{sides}
use Rattle.csv_tables.proofs.selected.SelectedRecords.sides.Given as goal

abbrev pub invariant-loop-column : goal.invariant-loop-column
invariant-loop-column l = l.sides.items ≡ sides (record l.self { columns = take l.column-index l.column-items })
