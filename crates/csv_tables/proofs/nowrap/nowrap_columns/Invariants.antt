use Rattle.std.proofs.Common.{◌≡◌, take}
use Rattle.csv_tables.specs.Drawn.{nowrap_in}
use Rattle.csv_tables.proofs.nowrap.nowrap_columns.Given as goal

abbrev pub invariant-loop-column : goal.invariant-loop-column
invariant-loop-column l = l.nowrap.items ≡ nowrap_in (record l.selected { columns = take l.column-index l.column-items })
