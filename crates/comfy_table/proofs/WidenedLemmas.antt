-- Contents of columns, row by row.
use Rattle.std.proofs.Common.{◌≡◌, ℕ, zero, suc, ◌<◌, List, [], ◌∷◌, Option, Some, None, length, map, max, take, replicate, arith, refl, ap, subst, sym, ◌∙◌}
use Rattle.std.specs.List.{slice_get, slice_index_or, slice_set}
use Rattle.std.specs.Prelude.{option_and_then}
use Rattle.std.proofs.lemmas.List.{ext_get_or, get_or-replicate, length-replicate}
use Rattle.std.proofs.lemmas.List.FromFn.{get_or-map-range_with_len, length-map-range_with_len}
use Rattle.comfy_parts.specs.CellValue.{CellValue, RowValue}
use Rattle.comfy_parts.specs.Text.{greatest}
use Rattle.comfy_table.proofs.ColumnCellLemmas.{greatest_measured, of_measured}
use Rattle.comfy_table.specs.TableValue.{TableValue, cell_content_width, cells_at, column_content_width, max_content_widths, measured_cell, widened}

module _ (table : TableValue) where
  -- one cell more
  pub widened-more : (cells : List CellValue) (widths : List ℕ) (k : ℕ) (cell : CellValue) → k < length cells → cell ≡ slice_index_or cells k cell
      → slice_set (widened table (take k cells) widths) k (max (slice_index_or (widened table (take k cells) widths) k 0) (cell_content_width (measured_cell table cell)))
      ≡ widened table (take (suc k) cells) widths
  widened-more [] widths k cell below at = absurd (omega arith)
  widened-more (c ∷ cells) [] zero cell below at = refl
  widened-more (c ∷ cells) [] (suc k) cell below at = refl
  widened-more (c ∷ cells) (w ∷ widths) zero cell below at = ap (λ (x : CellValue). max w (cell_content_width (measured_cell table x)) ∷ widths) at
  widened-more (c ∷ cells) (w ∷ widths) (suc k) cell below at = ap (λ ws. max w (cell_content_width (measured_cell table c)) ∷ ws) (widened-more cells widths k cell (omega arith) at)

  -- the width at a position
  pub widened-at : (cells : List CellValue) (widths : List ℕ) (i : ℕ) → i < length widths
      → slice_index_or (widened table cells widths) i 0 ≡ max (slice_index_or widths i 0) (of_measured table cell_content_width (slice_get cells i))
  widened-at [] widths i below = omega arith
  widened-at (c ∷ cells) [] i below = absurd (omega arith)
  widened-at (c ∷ cells) (w ∷ widths) zero below = refl
  widened-at (c ∷ cells) (w ∷ widths) (suc i) below = widened-at cells widths i (omega arith)

  -- widening keeps the number of widths
  pub widened-length : (cells : List CellValue) (widths : List ℕ) → length (widened table cells widths) ≡ length widths
  widened-length [] widths = refl
  widened-length (c ∷ cells) [] = refl
  widened-length (c ∷ cells) (w ∷ widths) = ap suc (widened-length cells widths)

-- ---- all rows

-- the widths, raised to the contents of a row, if there is one
abbrev pub widened_by : TableValue → Option RowValue → List ℕ → List ℕ
widened_by table None widths = widths
widened_by table (Some row) widths = widened table row.cells widths

-- there is one width for each column, and raised to the contents of the rows that are left it is the content of the
-- column
pub record AreContentsWith (table : TableValue) (rows : List RowValue) (widths : List ℕ) : Type 0 where
  pub count : length widths ≡ length table.columns
  pub each : (i : ℕ) → i < length table.columns
      → max (slice_index_or widths i 0) (greatest (map (of_measured table cell_content_width) (cells_at rows i))) ≡ column_content_width table i

module _ (table : TableValue) where
  -- before the first row, the widths are raised to the contents of the header
  pub before_rows : (header : Option RowValue) → table.header ≡ header → AreContentsWith table table.rows (widened_by table header (replicate (length table.columns) 0))
  before_rows None is =
      record {
        count = length-replicate {A = ℕ} (length table.columns) 0;
        each = λ i below.
            let none = get_or-replicate {A = ℕ} (length table.columns) i 0 0 below in
            let all = greatest_measured table cell_content_width i in
            let first = ap (λ (h : Option RowValue). of_measured table cell_content_width (option_and_then (λ (row : RowValue). slice_get row.cells i) h)) is in
            grind (arith, none, all, first);
      }
  before_rows (Some header) is =
      record {
        count = widened-length table header.cells (replicate (length table.columns) 0) ∙ length-replicate {A = ℕ} (length table.columns) 0;
        each = λ i below.
            let long : i < length (replicate (length table.columns) 0) = subst (λ n. i < n) (sym (length-replicate {A = ℕ} (length table.columns) 0)) below in
            let none = get_or-replicate {A = ℕ} (length table.columns) i 0 0 below in
            let at = widened-at table header.cells (replicate (length table.columns) 0) i long in
            let all = greatest_measured table cell_content_width i in
            let first = ap (λ (h : Option RowValue). of_measured table cell_content_width (option_and_then (λ (row : RowValue). slice_get row.cells i) h)) is in
            omega (arith, none, at, all, first);
      }

  -- one row more
  pub row_more : (row : RowValue) (rows : List RowValue) (widths : List ℕ) → AreContentsWith table (row ∷ rows) widths → AreContentsWith table rows (widened table row.cells widths)
  row_more row rows widths so =
      record {
        count = widened-length table row.cells widths ∙ so.count;
        each = λ i below.
            let at = widened-at table row.cells widths i (subst (λ n. i < n) (sym so.count) below) in
            let all = so.each i below in
            omega (arith, at, all);
      }

  -- after the last row, the widths are the contents
  pub no_row_left : (widths : List ℕ) → AreContentsWith table [] widths → widths ≡ max_content_widths table
  no_row_left widths so =
      let n = length table.columns in
      let long = length-map-range_with_len (column_content_width table) 0 n in
      ext_get_or 0 widths (max_content_widths table) (so.count ∙ sym long)
      (λ i below.
      let within : i < n = subst (λ m. i < m) so.count below in
      let own = so.each i within in
      let at = get_or-map-range_with_len (column_content_width table) 0 n i i 0 within (omega arith) in
      omega (arith, own, at))
