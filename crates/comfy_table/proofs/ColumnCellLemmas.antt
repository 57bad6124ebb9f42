-- The greatest number that a function gives for the measured cells of a column, computed cell by cell.
use Rattle.std.proofs.Common.{◌≡◌, ℕ, List, [], ◌∷◌, ◌++◌, Option, Some, None, map, flat_map, max, arith, refl, ap, ◌∙◌}
use Rattle.std.specs.List.{cons_option, filter_map, slice_get}
use Rattle.std.specs.Prelude.{option_and_then, option_map, option_to_list}
use Rattle.std.proofs.lemmas.List.{map-append}
use Rattle.comfy_parts.specs.CellValue.{CellValue, ColumnInfo, RowValue}
use Rattle.comfy_parts.specs.Text.{greatest, measure}
use Rattle.comfy_parts.specs.Wrapping.{lines_of_text}
use Rattle.comfy_table.proofs.MeasuredLemmas.{cell_measured, get_measured, row_measured, measured_rows-is}
use Rattle.comfy_table.specs.Lines.{cell_delimiter, cell_lines, longest_line}
use Rattle.comfy_table.specs.LongestLine.{cell_longest_line}
use Rattle.comfy_table.specs.TableValue.{TableValue, cells_at, cells_with_header, column_cells, header_and_rows, measured_cell}

module _ (table : TableValue) (f : CellValue → ℕ) where
  -- the function's number for a cell as it is measured; 0 if there is no cell
  abbrev pub of_measured : Option CellValue → ℕ
  of_measured None = 0
  of_measured (Some cell) = f (measured_cell table cell)

  -- one cell more: the maximum of its number and of the others'
  one_more : (cell : Option CellValue) (cells : List CellValue) → greatest (map f (cons_option (option_map (cell_measured table.custom_styling) cell) cells)) ≡ max (of_measured cell) (greatest (map f cells))
  one_more None cells = omega arith
  one_more (Some cell) cells = refl

  -- the cells of rows
  of_rows : (i : ℕ) (rows : List RowValue) → greatest (map f (filter_map (λ (row : RowValue). slice_get row.cells i) (map (row_measured table.custom_styling) rows))) ≡ greatest (map of_measured (cells_at rows i))
  of_rows i [] = refl
  of_rows i (row ∷ rows) = grind (arith, get_measured, one_more, of_rows i rows)

  -- the header's cell and the cells of rows
  of_header : (i : ℕ) (header : Option RowValue) (rows : List RowValue)
      → greatest (map of_measured (cells_at (option_to_list header ++ rows) i)) ≡ max (of_measured (option_and_then (λ (row : RowValue). slice_get row.cells i) header)) (greatest (map of_measured (cells_at rows i)))
  of_header i None rows = omega arith
  of_header i (Some header) rows = refl

  -- all cells of a column
  pub greatest_measured : (i : ℕ) → greatest (map f (column_cells table i)) ≡ greatest (map of_measured (cells_with_header table i))
  greatest_measured i =
      ap (λ (rows : List RowValue). greatest (map f (filter_map (λ (row : RowValue). slice_get row.cells i) rows))) (measured_rows-is table)
      ∙ of_rows i (header_and_rows table)
      ∙ of_header i table.header table.rows

-- ---- lines

-- the greatest of two joined lists is the greater of both
pub greatest-append : (xs ys : List ℕ) → greatest (xs ++ ys) ≡ max (greatest xs) (greatest ys)
greatest-append [] ys = omega arith
greatest-append (x ∷ xs) ys = let rest = greatest-append xs ys in omega (arith, rest)

-- the greatest over a flattened list is the greatest over its elements' greatest
greatest-flat_map : {X Y : Type 0} (f : Y → ℕ) (g : X → List Y) (xs : List X) → greatest (map f (flat_map g xs)) ≡ greatest (map (λ x. greatest (map f (g x))) xs)
greatest-flat_map f g [] = refl
greatest-flat_map f g (x ∷ xs) =
    ap greatest (map-append f (g x) (flat_map g xs)) ∙ greatest-append (map f (g x)) (map f (flat_map g xs)) ∙ ap (max (greatest (map f (g x)))) (greatest-flat_map f g xs)

-- the longest line of a column is the greatest over its cells
pub longest_line-is : (table : TableValue) (info : ColumnInfo) (i : ℕ)
    → longest_line table i info.delimiter info.content_width ≡ greatest (map (of_measured table (cell_longest_line table info)) (cells_with_header table i))
longest_line-is table info i =
    greatest-flat_map measure (λ (cell : CellValue). cell_lines info.content_width (cell_delimiter table info.delimiter cell) cell) (column_cells table i)
    ∙ (λ j. greatest (map (λ (cell : CellValue). greatest-flat_map measure (lines_of_text info.content_width (cell_delimiter table info.delimiter cell)) cell.text_lines j) (column_cells table i)))
    ∙ greatest_measured table (cell_longest_line table info) i
