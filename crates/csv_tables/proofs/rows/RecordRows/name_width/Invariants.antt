use Rattle.std.proofs.Common.{◌≡◌, drop, filter, map, max, nat_lt}
use Rattle.comfy_parts.specs.Text.{greatest}
use Rattle.csv_tables.proofs.PairWidthLemmas.{name_width}
use Rattle.csv_tables.specs.declared.options.ColumnPlan.{ColumnPlan}
use Rattle.csv_tables.proofs.rows.RecordRows.name_width.Given as goal

-- the widest name so far, and of the columns that are left
abbrev pub invariant-loop-column : goal.invariant-loop-column
invariant-loop-column l =
    max l.widest (greatest (map (name_width l.table l.self) (filter (λ (column : ColumnPlan). nat_lt column.position l.count) (drop l.column-index l.column-items))))
    ≡ greatest (map (name_width l.table l.self) (filter (λ (column : ColumnPlan). nat_lt column.position l.count) l.column-items))
