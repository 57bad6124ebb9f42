-- The rows of the table of some records.
use Rattle.std.proofs.Common.{◌≡◌, ℕ, List, [], ◌∷◌, ◌++◌, map, refl, ap, sym, ◌∙◌, append_assoc, append-nil}
use Rattle.comfy_parts.specs.CellValue.{RowValue}
use Rattle.comfy_parts.specs.Text.{Text}
use Rattle.comfy_table.specs.TableValue.{TableValue, with_row, with_rows}
use Rattle.csv_tables.specs.Columns.{ColumnsValue, drawn_columns}
use Rattle.csv_tables.specs.declared.options.ColumnPlan.{ColumnPlan}

pub with_rows-rows : (rows : List RowValue) (t : TableValue) → (with_rows rows t).rows ≡ t.rows ++ rows
with_rows-rows [] t = sym (append-nil t.rows)
with_rows-rows (row ∷ rows) t = with_rows-rows rows (with_row row t) ∙ append_assoc t.rows (row ∷ []) rows

-- the columns that are drawn have the chosen positions
pub positions-shown : (columns : ColumnsValue) (rows : List (List Text)) → map (λ (column : ColumnPlan). column.position) (drawn_columns columns rows) ≡ columns.drawn
positions-shown columns rows = all columns.drawn
  where
    all : (ps : List ℕ) → map (λ (column : ColumnPlan). column.position) (drawn_columns (record columns { drawn = ps }) rows) ≡ ps
    all [] = refl
    all (p ∷ ps) = ap (λ t. p ∷ t) (all ps)
