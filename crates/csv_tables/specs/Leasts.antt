-- The least positions of columns, from each column on.
-- Source: this library's own.
use Rattle.std.specs.Prelude.{ℕ, ◌-◌, ◌^◌, List, [], ◌∷◌, min}
use Rattle.csv_tables.specs.declared.options.ColumnPlan.{ColumnPlan}

-- the least position of some columns, or the greatest number of 64 bits without a column
abbrev pub least_position : List ColumnPlan → ℕ
least_position [] = 2 ^ 64 - 1
least_position (column ∷ columns) = min column.position (least_position columns)

-- the least position of each column and the columns after it
abbrev pub least_positions : List ColumnPlan → List ℕ
least_positions [] = []
least_positions (column ∷ columns) = least_position (column ∷ columns) ∷ least_positions columns
