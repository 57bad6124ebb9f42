-- Rows of cells that borrow their texts, one row after another.
use Rattle.std.proofs.Common.{◌≡◌, ◌≢◌, ◌<◌, ◌≤◌, ◌+◌, ◌-◌, ◌^◌, ◌==◌, ◌++◌, ◌∷◌, ◌∙◌, [], ℕ, Bool, true, false, zero, suc, nat_lt, ⊎_elim, List, Option, Some, None, ap, ap₂, append-nil, append_assoc, arith, drop, get_or, length, map, max, refl, slice_range, sym, take}
use Rattle.std.proofs.lemmas.Bool.{cases_lt, eqb-false, eqb-true}
use Rattle.std.proofs.lemmas.Bool.Decides.{nat_tests}
use Rattle.std.proofs.lemmas.List.{at_drop_more, drop-drop, drop-map, take-map}
use Rattle.std.proofs.lemmas.List.Concat.{flat_map-append}
use Rattle.std.proofs.lemmas.Option.{slice_get_past}
use Rattle.std.specs.List.{slice_get, slice_index_or}
use Rattle.std.specs.Prelude.{option_and_then, option_map, if◌then◌else◌}
use Rattle.comfy_parts.specs.CellValue.{CellValue, ColumnInfo, RowValue}
use Rattle.comfy_parts.specs.Text.{Text, greatest}
use Rattle.comfy_table.proofs.ColumnCellLemmas.{greatest_measured, longest_line-is, of_measured}
use Rattle.comfy_table.specs.Drawing.{part_of_drawing, terminated_text_of}
use Rattle.comfy_table.specs.Lines.{longest_line}
use Rattle.comfy_table.specs.LongestLine.{cell_longest_line}
use Rattle.comfy_table.specs.RowCells.{cell_of, row_with as listed_with}
use Rattle.comfy_table.specs.TableValue.{TableValue, cell_content_width, cells_at, cells_with_header, column_content_width, with_other_rows}
use Rattle.comfy_table.specs.declared.utils.formatting.row_cell.RowCell.{RowCell}
use Rattle.csv_tables.specs.Contents.{greatest_at, measured_at}
use Rattle.comfy_c.proofs.CellLemmas.{no_row, part}
use Rattle.comfy_c.specs.Calls.{limit_of}
use Rattle.comfy_c.specs.CellCalls.{rows_with}
use Rattle.comfy_c.specs.Numbers.{height_of, row_with}
use Rattle.comfy_c.specs.declared.cells_rows.RowNumbers.{RowNumbers}

-- ---- rows

-- the cells of a part
pub cells_in : (cells : List RowCell) (start n : ℕ) → map cell_of (slice_range cells start (start + n)) ≡ take n (drop start (map cell_of cells))
cells_in cells start n =
    ap (map cell_of) (sym (part cells start n)) ∙ sym (take-map cell_of n (drop start cells)) ∙ ap (take n) (sym (drop-map cell_of start cells))

-- the next row, whose cells begin at a start, and the rows after it
pub next_row : (all : List RowNumbers) (i : ℕ) → i < length all → (cells : List CellValue) (start : ℕ)
    → rows_with (drop i all) (drop start cells)
    ≡ row_with (get_or all i no_row) (take (get_or all i no_row).cells (drop start cells)) ∷ rows_with (drop (i + 1) all) (drop (start + (get_or all i no_row).cells) cells)
next_row all i below cells start =
    let own = get_or all i no_row in
    at_drop_more (λ xs. rows_with xs (drop start cells)) all i no_row below
    ∙ ap (λ (rest : List CellValue). row_with own (take own.cells (drop start cells)) ∷ rows_with (drop (i + 1) all) rest) (drop-drop own.cells start cells)

-- a greatest height is at least 1
pub high : (n : ℕ) → option_map (max 1) (height_of n) ≡ height_of n
high n = by_zero (n == 0) refl
  where
    by_limit : 1 ≤ n → (is : Bool) → option_map (max 1) (if is then None else Some n) ≡ (if is then None else Some n)
    by_limit some true = refl
    by_limit some false = let same : max 1 n ≡ n = omega (arith, some) in ap Some same

    by_zero : (is : Bool) → (n == 0) ≡ is → option_map (max 1) (if is then None else limit_of n) ≡ (if is then None else limit_of n)
    by_zero true is = refl
    by_zero false is = by_limit (grind (arith, nat_tests, is)) (n == 2 ^ 64 - 1)

-- ---- drawings

module _ (table : TableValue) (infos : List ColumnInfo) where
  first_alone : (is_first is_last : Bool) (x : RowValue) (xs : List RowValue) → part_of_drawing table infos is_first is_last (x ∷ xs) ≡ part_of_drawing table infos is_first false (x ∷ []) ++ part_of_drawing table infos false is_last xs
  first_alone true is_last x xs = grind (arith, append_assoc, append-nil)
  first_alone false is_last x xs = grind (arith, append_assoc, append-nil)

  -- the lines of a row, and those of the other rows
  pub row_drawn : (is_first is_last : Bool) (x : RowValue) (xs : List RowValue)
      → terminated_text_of (part_of_drawing table infos is_first false (x ∷ [])) ++ terminated_text_of (part_of_drawing table infos false is_last xs) ≡ terminated_text_of (part_of_drawing table infos is_first is_last (x ∷ xs))
  row_drawn is_first is_last x xs =
      sym (flat_map-append _ (part_of_drawing table infos is_first false (x ∷ [])) (part_of_drawing table infos false is_last xs))
      ∙ ap terminated_text_of (sym (first_alone is_first is_last x xs))

-- ---- what cells give

given_same : (f : CellValue → ℕ) (t : TableValue) (cell : Option CellValue) → of_measured t f cell ≡ measured_at t f cell
given_same f t None = refl
given_same f t (Some cell) = refl

-- the rows of a table don't change the measure of one cell
measured_same : (f : CellValue → ℕ) (t : TableValue) (rows : List RowValue) (cell : Option CellValue) → measured_at t f cell ≡ measured_at (with_other_rows rows t) f cell
measured_same f t rows None = refl
measured_same f t rows (Some cell) = refl

-- the greatest value of the header and of all rows
below_header : (f : CellValue → ℕ) (t : TableValue) (rows : List RowValue) (i : ℕ) → t.rows ≡ []
    → max (greatest (map (of_measured t f) (cells_with_header t i))) (greatest_at t f rows i)
    ≡ greatest (map (of_measured (with_other_rows rows t) f) (cells_with_header (with_other_rows rows t) i))
below_header f t rows i none =
    let all = with_other_rows rows t in
    let header : Option CellValue = option_and_then (λ (row : RowValue). slice_get row.cells i) t.header in
    let same = given_same f t header ∙ measured_same f t rows header ∙ sym (given_same f all header) in
    let empty = ap (λ (rs : List RowValue). greatest (map (of_measured t f) (cells_at rs i))) none in
    let each : greatest (map (of_measured all f) (cells_at rows i)) ≡ greatest_at t f rows i =
    λ j. greatest (map (λ (cell : Option CellValue). (given_same f all cell ∙ sym (measured_same f t rows cell)) j) (cells_at rows i)) in
    omega (arith, same, empty, each)

-- the content width of a column is the greatest of its header's and its rows'
pub width_below : (t : TableValue) (rows : List RowValue) (i : ℕ) → t.rows ≡ [] → max (column_content_width t i) (greatest_at t cell_content_width rows i) ≡ column_content_width (with_other_rows rows t) i
width_below t rows i none =
    ap (λ n. max n (greatest_at t cell_content_width rows i)) (greatest_measured t cell_content_width i)
    ∙ below_header cell_content_width t rows i none
    ∙ sym (greatest_measured (with_other_rows rows t) cell_content_width i)

-- the same for the longest line of a column
pub longest_below : (t : TableValue) (rows : List RowValue) (info : ColumnInfo) (i : ℕ) → t.rows ≡ []
    → max (longest_line t i info.delimiter info.content_width) (greatest_at t (cell_longest_line t info) rows i) ≡ longest_line (with_other_rows rows t) i info.delimiter info.content_width
longest_below t rows info i none =
    ap (λ n. max n (greatest_at t (cell_longest_line t info) rows i)) (longest_line-is t info i)
    ∙ below_header (cell_longest_line t info) t rows i none
    ∙ sym (longest_line-is (with_other_rows rows t) info i)

-- ---- cells at positions

-- the cell at a position
pub cell_there : (cells : List RowCell) (k : ℕ) (d : RowCell) → k < length cells → slice_get (map cell_of cells) k ≡ Some (cell_of (slice_index_or cells k d))
cell_there [] k d below = absurd (omega (arith, below))
cell_there (cell ∷ cells) zero d below = refl
cell_there (cell ∷ cells) (suc k) d below = cell_there cells k d (omega (arith, below))

-- a width after one more cell
pub one_wider : (had : ℕ) (f : ℕ → ℕ) (i k : ℕ) → max (max had (if nat_lt i k then f i else 0)) (if i == k then f k else 0) ≡ max had (if nat_lt i (k + 1) then f i else 0)
one_wider had f i k = ⊎_elim (λ before. grind (arith, nat_tests, before)) (λ after. by_test (i == k) refl after) (cases_lt i k)
  where
    by_test : (b : Bool) → (i == k) ≡ b → k ≤ i → max (max had (if nat_lt i k then f i else 0)) (if b then f k else 0) ≡ max had (if nat_lt i (k + 1) then f i else 0)
    by_test true is after =
        let here : i ≡ k = eqb-true i k is in
        let same = ap f here in
        let at : nat_lt i k ≡ false = grind (arith, nat_tests, after) in
        let above : nat_lt i (k + 1) ≡ true = grind (arith, nat_tests, here) in
        let one = ap (λ b. if b then f i else 0) at in
        let two = ap (λ b. if b then f i else 0) above in
        omega (arith, one, two, same)
    by_test false is after =
        let other : i ≢ k = eqb-false i k is in
        let at : nat_lt i k ≡ false = grind (arith, nat_tests, after) in
        let above : nat_lt i (k + 1) ≡ false = grind (arith, nat_tests, after, other) in
        let one = ap (λ b. if b then f i else 0) at in
        let two = ap (λ b. if b then f i else 0) above in
        omega (arith, one, two)

-- after all cells there is none
pub all_cells : (f : Option CellValue → ℕ) (cells : List CellValue) (n i : ℕ) → f None ≡ 0 → length cells ≡ n → (if nat_lt i n then f (slice_get cells i) else 0) ≡ f (slice_get cells i)
all_cells f cells n i none all = by_test (nat_lt i n) refl
  where
    by_test : (b : Bool) → nat_lt i n ≡ b → (if b then f (slice_get cells i) else 0) ≡ f (slice_get cells i)
    by_test true is = refl
    by_test false is =
        let past : length cells ≤ i = grind (arith, nat_tests, is, all) in
        sym (ap f (slice_get_past cells i past) ∙ none)

-- the listed cells with their greatest height are their row
pub listed_row : (numbers : RowNumbers) (cells : List CellValue) → listed_with cells (height_of numbers.max_height) ≡ row_with numbers cells
listed_row numbers cells = ap (λ (height : Option ℕ). record { cells = cells; max_height = height }) (high numbers.max_height)
