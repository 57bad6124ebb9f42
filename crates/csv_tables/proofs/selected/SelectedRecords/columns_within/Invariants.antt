use Rattle.std.proofs.Common.{◌≡◌, ◌++◌, drop, take}
use Rattle.csv_tables.specs.Cells.{columns_within}
use Rattle.csv_tables.proofs.selected.SelectedRecords.columns_within.Given as goal

abbrev pub invariant-loop-count : goal.invariant-loop-count
invariant-loop-count l = columns_within l.row l.self.columns ≡ take l.count l.self.columns ++ columns_within l.row (drop l.count l.self.columns)
