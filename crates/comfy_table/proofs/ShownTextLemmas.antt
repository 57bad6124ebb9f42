-- Properties of the texts in shown columns.
use Rattle.std.proofs.Common.{◌≡◌, ℕ, List, [], ◌∷◌, Option, Some, None, length, refl, slice_index_or, subst}
use Rattle.std.specs.List.{All, cons_option, filter_map, slice_get}
use Rattle.std.proofs.lemmas.List.Elements.{All-cons, All-head, All-nil, All-tail, All-weaker}
use Rattle.comfy_parts.proofs.CallerLemmas.{All-at, All-every}
use Rattle.comfy_parts.specs.CellValue.{CellValue, ColumnValue, RowValue}
use Rattle.comfy_parts.specs.Text.{Text}
use Rattle.comfy_table.proofs.InfoLemmas.{infos-known}
use Rattle.comfy_table.proofs.KeptDrawingLemmas.{IsClearAt}
use Rattle.comfy_table.proofs.MeasuredLemmas.{IsRowOf}
use Rattle.comfy_table.specs.Drawing.{infos_of}
use Rattle.comfy_table.specs.Laws.{EachShownText}
use Rattle.comfy_table.specs.Pieces.{shown_infos}
use Rattle.comfy_table.specs.TableValue.{TableValue, column_cells, measured_rows, shown_columns}

-- a property of the cells at a position holds of each row's cell there
each_row : (P : CellValue → Type 0) (i : ℕ) (rows : List RowValue) → All P (filter_map (λ (row : RowValue). slice_get row.cells i) rows)
    → All (λ (row : RowValue). (cell : CellValue) → slice_get row.cells i ≡ Some cell → P cell) rows
each_row P i [] each = All-nil (λ (row : RowValue). (cell : CellValue) → slice_get row.cells i ≡ Some cell → P cell)
each_row P i (row ∷ rows) each = by_cell (slice_get row.cells i) (λ cell found. found) each (each_row P i rows)
  where
    Holds : RowValue → Type 0
    Holds row = (cell : CellValue) → slice_get row.cells i ≡ Some cell → P cell

    later : List CellValue
    later = filter_map (λ (row : RowValue). slice_get row.cells i) rows

    some_same : (x y : CellValue) → Some x ≡ Some y → x ≡ y
    some_same x y same = cc same

    by_cell : (o : Option CellValue) → ((cell : CellValue) → slice_get row.cells i ≡ Some cell → o ≡ Some cell) → All P (cons_option o later) → (All P later → All Holds rows) → All Holds (row ∷ rows)
    by_cell None is each rest = All-cons Holds row rows (λ cell found. absurd (cc (is cell found))) (rest each)
    by_cell (Some own) is each rest =
        All-cons Holds row rows (λ cell found. subst P (some_same own cell (is cell found)) (All-head P own later each)) (rest (All-tail P own later each))

-- a property of the texts in shown columns holds of the cells that are drawn
pub drawn_of_shown : (P : Text → Type 0) (table : TableValue) (widths : List ℕ) → length widths ≡ length table.columns → EachShownText P table
    → All (λ (row : RowValue). All (IsClearAt P row) (shown_infos (infos_of table widths))) (measured_rows table)
drawn_of_shown P table widths long each k default under =
    infos-known table widths Known (IsClearAt P (at k default)) long each
    (λ i column w known. each_row (λ (cell : CellValue). All P cell.text_lines) i (measured_rows table) known k default under)
  where
    Known : ℕ × ColumnValue → Type 0
    Known p = All (λ (cell : CellValue). All P cell.text_lines) (column_cells table p.0)

    at : ℕ → RowValue → RowValue
    at k default = slice_index_or (measured_rows table) k default

-- a weaker property holds too
pub shown_weaker : (P Q : Text → Type 0) (table : TableValue) → ((text : Text) → P text → Q text) → EachShownText P table → EachShownText Q table
shown_weaker P Q table gives each =
    All-weaker (λ (p : ℕ × ColumnValue). All (λ (cell : CellValue). All P cell.text_lines) (column_cells table p.0)) (λ (p : ℕ × ColumnValue). All (λ (cell : CellValue). All Q cell.text_lines) (column_cells table p.0))
    (λ p. All-weaker (λ (cell : CellValue). All P cell.text_lines) (λ (cell : CellValue). All Q cell.text_lines) (λ cell. All-weaker P Q gives cell.text_lines) (column_cells table p.0)) (shown_columns table) each

-- a property of all texts holds of the texts in shown columns
pub shown_of_all : (P : Text → Type 0) (table : TableValue) → All (IsRowOf P) (measured_rows table) → EachShownText P table
shown_of_all P table each =
    All-every (λ (p : ℕ × ColumnValue). All (λ (cell : CellValue). All P cell.text_lines) (column_cells table p.0)) (shown_columns table) (λ p. of_rows p.0 (measured_rows table) each)
  where
    of_rows : (i : ℕ) (rows : List RowValue) → All (IsRowOf P) rows → All (λ (cell : CellValue). All P cell.text_lines) (filter_map (λ (row : RowValue). slice_get row.cells i) rows)
    of_rows i [] each = All-nil (λ (cell : CellValue). All P cell.text_lines)
    of_rows i (row ∷ rows) each = by_cell (slice_get row.cells i) (λ cell found. All-at (λ (c : CellValue). All P c.text_lines) row.cells i cell (All-head (IsRowOf P) row rows each) found) (of_rows i rows (All-tail (IsRowOf P) row rows each))
      where
        later : List CellValue
        later = filter_map (λ (row : RowValue). slice_get row.cells i) rows

        by_cell : (o : Option CellValue) → ((cell : CellValue) → o ≡ Some cell → All P cell.text_lines) → All (λ (cell : CellValue). All P cell.text_lines) later → All (λ (cell : CellValue). All P cell.text_lines) (cons_option o later)
        by_cell None own rest = rest
        by_cell (Some cell) own rest = All-cons (λ (cell : CellValue). All P cell.text_lines) cell later (own cell refl) rest
