-- Tables whose rows are made only when they are drawn.
use Rattle.std.proofs.Common.{◌≡◌, ◌≤◌, ℕ, zero, suc, ◌+◌, ◌-◌, Bool, true, false, List, [], ◌∷◌, ◌++◌, Option, Some, None, drop, flat_map, length, map, max, arith, append-nil, append_assoc, refl, ap, ap₂, sym, subst, ◌∙◌, ⊎_elim}
use Rattle.std.proofs.lemmas.Bool.{cases_lt}
use Rattle.std.proofs.lemmas.List.{get_or_past, length-append, length-map}
use Rattle.std.proofs.lemmas.List.FromFn.{get_or-map-range_with_len, length-map-range_with_len, length-range_with_len}
use Rattle.std.proofs.lemmas.Option.{slice_get_past}
use Rattle.std.specs.List.{fold, range_with_len, slice_get, slice_index_or}
use Rattle.std.specs.Prelude.{option_and_then, if◌then◌else◌}
use Rattle.comfy_parts.specs.CellValue.{CellValue, ColumnInfo, ColumnValue, RowValue, columns_grown_to, new_column}
use Rattle.comfy_parts.specs.Text.{Text, greatest}
use Rattle.comfy_table.proofs.ColumnCellLemmas.{greatest_measured, longest_line-is, of_measured}
use Rattle.comfy_table.specs.Lines.{longest_line}
use Rattle.comfy_table.specs.LongestLine.{cell_longest_line}
use Rattle.comfy_table.specs.TableValue.{TableValue, cell_content_width, cells_at, cells_with_header, column_content_width, max_content_widths, with_other_rows, with_row, with_rows}
use Rattle.csv_tables.specs.Cells.{counted_from, header_for, row_for}
use Rattle.csv_tables.proofs.DressedLemmas.{columns_dressed, grown_dressed, header_dressed, no_rows_dressed, rows_dressed}
use Rattle.csv_tables.specs.Contents.{dressed_by, greatest_at, headed_by, made_by, measured_at, most_cells, pairs_by, rows_from, table_by}
use Rattle.csv_tables.specs.Drawn.{SelectedValue, empty_table, headed_table, pairs_in, pairs_table, rows_of, rows_table}
use Rattle.csv_tables.specs.NoWrap.{cell_need, cell_nowrap_width, field_width, fields_need, without_header}
use Rattle.csv_tables.specs.Styled.{dressed_rows, dressed_table}
use Rattle.csv_tables.specs.declared.options.Look.{Look}
use Rattle.csv_tables.specs.declared.rows.RecordRows.{RecordRows}

-- ---- columns

-- columns that have grown to rows
abbrev grown : List RowValue → List ColumnValue → List ColumnValue
grown rows columns = fold (λ (cs : List ColumnValue) (row : RowValue). columns_grown_to (length row.cells) cs) columns rows

-- a table with more rows
with_rows-grown : (rows : List RowValue) (t : TableValue) → with_rows rows t ≡ with_other_rows (t.rows ++ rows) (record t { columns = grown rows t.columns })
with_rows-grown [] t = ap (λ (rows : List RowValue). with_other_rows rows t) (sym (append-nil t.rows))
with_rows-grown (row ∷ rows) t =
    with_rows-grown rows (with_row row t)
    ∙ ap (λ (all : List RowValue). with_other_rows all (record t { columns = grown (row ∷ rows) t.columns })) (append_assoc t.rows (row ∷ []) rows)

-- consecutive ranges of numbers
ranges : (f : ℕ → ColumnValue) (a m n : ℕ) → map f (range_with_len a m) ++ map f (range_with_len (a + m) n) ≡ map f (range_with_len a (m + n))
ranges f a zero n =
    let start : a + 0 ≡ a = omega arith in
    let long : n ≡ 0 + n = omega arith in
    ap₂ (λ (k m : ℕ). map f (range_with_len k m)) start long
ranges f a (suc m) n =
    let next : a + suc m ≡ (a + 1) + m = omega arith in
    let long : suc (m + n) ≡ suc m + n = omega arith in
    ap (λ (rest : List ColumnValue). f a ∷ rest) (ap (λ k. map f (range_with_len (a + 1) m) ++ map f (range_with_len k n)) next ∙ ranges f (a + 1) m n)
    ∙ ap (λ k. map f (range_with_len a k)) long

-- columns that grow twice grow to the greater number
grown-twice : (a b : ℕ) (columns : List ColumnValue) → columns_grown_to b (columns_grown_to a columns) ≡ columns_grown_to (max a b) columns
grown-twice a b columns =
    let n = length columns in
    let more = map new_column (range_with_len n (a - n)) in
    let all : (a - n) + (b - (n + (a - n))) ≡ max a b - n = omega arith in
    let long : length (columns ++ more) ≡ n + (a - n) = length-append columns more ∙ ap (λ k. n + k) (length-map (range_with_len n (a - n)) new_column ∙ length-range_with_len n (a - n)) in
    ap (λ k. (columns ++ more) ++ map new_column (range_with_len k (b - k))) long
    ∙ append_assoc columns more (map new_column (range_with_len (n + (a - n)) (b - (n + (a - n)))))
    ∙ ap (λ (cs : List ColumnValue). columns ++ cs) (ranges new_column n (a - n) (b - (n + (a - n))) ∙ ap (λ k. map new_column (range_with_len n k)) all)

grown-most : (rows : List RowValue) (columns : List ColumnValue) → grown rows columns ≡ columns_grown_to (most_cells rows) columns
grown-most [] columns =
    let none : 0 - length columns ≡ 0 = omega arith in
    sym (ap (λ k. columns ++ map new_column (range_with_len (length columns) k)) none ∙ append-nil columns)
grown-most (row ∷ rows) columns = grown-most rows (columns_grown_to (length row.cells) columns) ∙ grown-twice (length row.cells) (most_cells rows) columns

-- a table whose columns have grown to these rows
abbrev pub with_columns : List RowValue → TableValue → TableValue
with_columns rows headed = with_other_rows rows (record headed { columns = columns_grown_to (max (length headed.columns) (most_cells rows)) headed.columns })

whole : (rows : List RowValue) (headed : TableValue) → headed.rows ≡ [] → with_columns rows headed ≡ with_rows rows headed
whole rows headed none =
    let n = length headed.columns in
    let more : max n (most_cells rows) - n ≡ most_cells rows - n = omega arith in
    let most : columns_grown_to (max n (most_cells rows)) headed.columns ≡ grown rows headed.columns = ap (λ k. headed.columns ++ map new_column (range_with_len n k)) more ∙ sym (grown-most rows headed.columns) in
    ap (λ (cs : List ColumnValue). with_other_rows rows (record headed { columns = cs })) most
    ∙ ap (λ (own : List RowValue). with_other_rows (own ++ rows) (record headed { columns = grown rows headed.columns })) (sym none)
    ∙ sym (with_rows-grown rows headed)

-- ---- rows

-- the rows of expanded records
pub pairs_rows : (rows : RecordRows) → rows.is_expanded ≡ true → (at : ℕ) (left : List (List Text)) → rows_from rows at left ≡ flat_map (pairs_by rows) left
pairs_rows rows expanded at [] = refl
pairs_rows rows expanded at (fields ∷ left) =
    ap₂ (λ (b : Bool) (rest : List RowValue). (if b then pairs_by rows fields else made_by rows at fields ∷ []) ++ rest) expanded (pairs_rows rows expanded (at + 1) left)

-- the rows of other records, with their settings
single_rows : (rows : RecordRows) → rows.is_expanded ≡ false → (at : ℕ) (left : List (List Text))
    → rows_from rows at left ≡ map (λ (row : ℕ × List Text). dressed_by rows.selected (slice_get rows.settings.rows row.0) (row_for rows.look rows.is_aligned rows.selected.is_numbered rows.selected.columns row)) (counted_from (at + 1) left)
single_rows rows single at [] = refl
single_rows rows single at (fields ∷ left) =
    ap₂ (λ (b : Bool) (rest : List RowValue). (if b then pairs_by rows fields else made_by rows at fields ∷ []) ++ rest) single (single_rows rows single (at + 1) left)

headed-rows : (look : Look) (content : SelectedValue) (names : Option (List Text)) → (headed_table look content.is_numbered content.columns names).rows ≡ []
headed-rows look content None = refl
headed-rows look content (Some names) = refl

pub no_rows : (rows : RecordRows) → (headed_by rows).rows ≡ []
no_rows rows = by_kind rows.is_expanded
  where
    headed : TableValue
    headed = headed_table rows.look rows.selected.is_numbered rows.selected.columns rows.selected.names

    by_kind : (b : Bool) → (if b then empty_table rows.look else dressed_table rows.selected rows.settings.rows headed).rows ≡ []
    by_kind true = refl
    by_kind false = no_rows_dressed rows.selected rows.settings.rows headed (headed-rows rows.look rows.selected rows.selected.names)

-- the header of the table of records
pub pairs-header : (look : Look) (content : SelectedValue) → (pairs_table look content).header ≡ None
pairs-header look content = ap (λ (t : TableValue). t.header) (with_rows-grown (flat_map (pairs_in look content) content.rows) (empty_table look))

pub table_is : (rows : RecordRows) → with_columns (rows_from rows 0 rows.selected.rows) (headed_by rows) ≡ table_by rows
table_is rows = by_kind rows.is_expanded refl
  where
    plain : TableValue
    plain = headed_table rows.look rows.selected.is_numbered rows.selected.columns rows.selected.names

    made : List RowValue
    made = rows_of rows.look rows.is_aligned rows.selected

    headed : Bool → TableValue
    headed b = if b then empty_table rows.look else dressed_table rows.selected rows.settings.rows plain

    table : Bool → TableValue
    table b = if b then pairs_table rows.look rows.selected else dressed_table rows.selected rows.settings.rows (rows_table rows.look rows.is_aligned rows.selected)

    listed : rows.is_expanded ≡ false → rows_from rows 0 rows.selected.rows ≡ dressed_rows rows.selected (drop 1 rows.settings.rows) made
    listed is =
        single_rows rows is 0 rows.selected.rows
        ∙ rows_dressed rows.selected rows.settings.rows (row_for rows.look rows.is_aligned rows.selected.is_numbered rows.selected.columns) 1 rows.selected.rows

    by_kind : (b : Bool) → rows.is_expanded ≡ b → with_columns (rows_from rows 0 rows.selected.rows) (headed rows.is_expanded) ≡ table rows.is_expanded
    by_kind true is =
        ap₂ (λ (all : List RowValue) (b : Bool). with_columns all (headed b)) (pairs_rows rows is 0 rows.selected.rows) is
        ∙ whole (flat_map (pairs_by rows) rows.selected.rows) (empty_table rows.look) refl
        ∙ ap table (sym is)
    by_kind false is =
        ap₂ (λ (all : List RowValue) (b : Bool). with_columns all (headed b)) (listed is) is
        ∙ grown_dressed rows.selected rows.settings.rows made plain
        ∙ ap (dressed_table rows.selected rows.settings.rows) (whole made plain (headed-rows rows.look rows.selected rows.selected.names))
        ∙ ap table (sym is)

-- ---- what cells give

-- the greatest value of rows and more rows
pub greatest_at-append : (t : TableValue) (f : CellValue → ℕ) (xs ys : List RowValue) (i : ℕ) → greatest_at t f (xs ++ ys) i ≡ max (greatest_at t f xs i) (greatest_at t f ys i)
greatest_at-append t f [] ys i = omega arith
greatest_at-append t f (x ∷ xs) ys i = let rest = greatest_at-append t f xs ys i in omega (arith, rest)

pub most_cells-append : (xs ys : List RowValue) → most_cells (xs ++ ys) ≡ max (most_cells xs) (most_cells ys)
most_cells-append [] ys = omega arith
most_cells-append (x ∷ xs) ys = let rest = most_cells-append xs ys in omega (arith, rest)

-- the rows of a table don't change the measure of one cell
measured_same : (f : CellValue → ℕ) (t : TableValue) (rows : List RowValue) (cell : Option CellValue) → measured_at t f cell ≡ measured_at (with_other_rows rows t) f cell
measured_same f t rows None = refl
measured_same f t rows (Some cell) = refl

given_same : (f : CellValue → ℕ) (t : TableValue) (cell : Option CellValue) → of_measured t f cell ≡ measured_at t f cell
given_same f t None = refl
given_same f t (Some cell) = refl

-- the greatest value of all rows and the header
below_header : (f : CellValue → ℕ) (t : TableValue) (rows : List RowValue) (i : ℕ) → t.rows ≡ []
    → max (greatest (map (of_measured t f) (cells_with_header t i))) (greatest_at t f rows i)
    ≡ greatest (map (of_measured (with_other_rows rows t) f) (cells_with_header (with_other_rows rows t) i))
below_header f t rows i none =
    let all = with_other_rows rows t in
    let header : Option CellValue = option_and_then (λ (row : RowValue). slice_get row.cells i) t.header in
    let same = given_same f t header ∙ measured_same f t rows header ∙ sym (given_same f all header) in
    let empty = ap (λ (rs : List RowValue). greatest (map (of_measured t f) (cells_at rs i))) none in
    let each : greatest (map (of_measured all f) (cells_at rows i)) ≡ greatest_at t f rows i =
    λ j. greatest (map (λ (cell : Option CellValue). (given_same f all cell ∙ sym (measured_same f t rows cell)) j) (cells_at rows i)) in
    omega (arith, same, empty, each)

pub measured_alike : (f : CellValue → ℕ) (t : TableValue) (rows : List RowValue) (made : List RowValue) (i : ℕ) → greatest_at t f made i ≡ greatest_at (with_other_rows rows t) f made i
measured_alike f t rows made i = λ j. greatest (map (λ (cell : Option CellValue). measured_same f t rows cell j) (cells_at made i))

-- the width of the fields of expanded records
pub fields_are : (rows : RecordRows) (t : TableValue) (room : ℕ) → t.header ≡ None → t.rows ≡ [] → rows.is_expanded ≡ true
    → max 0 (greatest_at (with_other_rows (rows_from rows 0 rows.selected.rows) t) (cell_nowrap_width room) (flat_map (pairs_by rows) rows.selected.rows) 1) ≡ field_width room (with_other_rows (rows_from rows 0 rows.selected.rows) t)
fields_are rows t room bare none expanded =
    let all = rows_from rows 0 rows.selected.rows in
    let whole = with_other_rows all t in
    let f = cell_nowrap_width room in
    let is = pairs_rows rows expanded 0 rows.selected.rows in
    let own = greatest_measured whole f 1 in
    let header = ap (λ (h : Option RowValue). of_measured whole f (option_and_then (λ (row : RowValue). slice_get row.cells 1) h)) bare in
    let each : greatest (map (of_measured whole f) (cells_at all 1)) ≡ greatest_at whole f all 1 = λ j. greatest (map (λ (cell : Option CellValue). given_same f whole cell j) (cells_at all 1)) in
    let same = ap (λ (made : List RowValue). greatest_at whole f made 1) is in
    omega (arith, own, header, each, same)

-- the need of a column's fields is the greatest need of the cells of rows
pub need_is : (is_nowrap : Bool) (t : TableValue) (all : List RowValue) (i : ℕ) → max 0 (greatest_at (with_other_rows all t) (cell_need is_nowrap) all i) ≡ fields_need is_nowrap (with_other_rows all t) i
need_is is_nowrap t all i =
    let table = with_other_rows all t in
    let bare = without_header table in
    let f = cell_need is_nowrap in
    let own = greatest_measured bare f i in
    let each : greatest (map (of_measured bare f) (cells_at all i)) ≡ greatest_at table f all i = λ j. greatest (map (λ (cell : Option CellValue). (given_same f bare cell ∙ bare_same f table cell) j) (cells_at all i)) in
    omega (arith, own, each)
  where
    bare_same : (f : CellValue → ℕ) (table : TableValue) (cell : Option CellValue) → measured_at (without_header table) f cell ≡ measured_at table f cell
    bare_same f table None = refl
    bare_same f table (Some cell) = refl

pub longest_same : (t : TableValue) (rows : List RowValue) (info : ColumnInfo) (made : List RowValue) (i : ℕ)
    → greatest_at t (cell_longest_line t info) made i ≡ greatest_at (with_other_rows rows t) (cell_longest_line (with_other_rows rows t) info) made i
longest_same t rows info made i = λ j. greatest (map (λ (cell : Option CellValue). measured_same (cell_longest_line t info) t rows cell j) (cells_at made i))

-- the content width of a column is the greatest of its header's and its rows'
pub width_below : (t : TableValue) (rows : List RowValue) (i : ℕ) → t.rows ≡ [] → max (column_content_width t i) (greatest_at t cell_content_width rows i) ≡ column_content_width (with_other_rows rows t) i
width_below t rows i none =
    ap (λ n. max n (greatest_at t cell_content_width rows i)) (greatest_measured t cell_content_width i)
    ∙ below_header cell_content_width t rows i none
    ∙ sym (greatest_measured (with_other_rows rows t) cell_content_width i)

-- the same for the longest line of a column
pub longest_below : (t : TableValue) (rows : List RowValue) (info : ColumnInfo) (i : ℕ) → t.rows ≡ []
    → max (longest_line t i info.delimiter info.content_width) (greatest_at t (cell_longest_line t info) rows i) ≡ longest_line (with_other_rows rows t) i info.delimiter info.content_width
longest_below t rows info i none =
    ap (λ n. max n (greatest_at t (cell_longest_line t info) rows i)) (longest_line-is t info i)
    ∙ below_header (cell_longest_line t info) t rows i none
    ∙ sym (longest_line-is (with_other_rows rows t) info i)

-- ---- widths of the header

-- the list of content widths gives the content width at any position, which is 0 past the columns
all_widths : (t : TableValue) → t.rows ≡ [] → ((row : RowValue) → t.header ≡ Some row → length row.cells ≤ length t.columns) → (i : ℕ) → slice_index_or (max_content_widths t) i 0 ≡ column_content_width t i
all_widths t none within i =
    ⊎_elim (λ inside. get_or-map-range_with_len (column_content_width t) 0 (length t.columns) i i 0 inside (omega arith))
    (λ outside.
    let past = get_or_past (max_content_widths t) i 0 (subst (λ n. n ≤ i) (sym (length-map-range_with_len (column_content_width t) 0 (length t.columns))) outside) in
    past ∙ sym (greatest_measured t cell_content_width i ∙ nothing t.header within outside)) (cases_lt i (length t.columns))
  where
    rows_nothing : greatest (map (of_measured t cell_content_width) (cells_at t.rows i)) ≡ 0
    rows_nothing = ap (λ (rows : List RowValue). greatest (map (of_measured t cell_content_width) (cells_at rows i))) none

    nothing : (header : Option RowValue) → ((row : RowValue) → header ≡ Some row → length row.cells ≤ length t.columns) → length t.columns ≤ i
        → max (of_measured t cell_content_width (option_and_then (λ (row : RowValue). slice_get row.cells i) header)) (greatest (map (of_measured t cell_content_width) (cells_at t.rows i))) ≡ 0
    nothing None own outside = let rest = rows_nothing in omega (arith, rest)
    nothing (Some row) own outside =
        let rest = rows_nothing in
        let low = own row refl in
        let cell : of_measured t cell_content_width (slice_get row.cells i) ≡ 0 = ap (of_measured t cell_content_width) (slice_get_past row.cells i (omega (arith, low, outside))) in
        omega (arith, rest, cell)

pub header_widths : (rows : RecordRows) (t : TableValue) → t ≡ headed_by rows → (i : ℕ) → slice_index_or (max_content_widths t) i 0 ≡ column_content_width t i
header_widths rows t is i = subst (λ (own : TableValue). slice_index_or (max_content_widths own) i 0 ≡ column_content_width own i) (sym is) (by_kind rows.is_expanded)
  where
    plain : Option (List Text) → TableValue
    plain names = headed_table rows.look rows.selected.is_numbered rows.selected.columns names

    headed : Option (List Text) → TableValue
    headed names = dressed_table rows.selected rows.settings.rows (plain names)

    as_many : (names : Option (List Text)) (row : RowValue) → (plain names).header ≡ Some row → length row.cells ≤ length (plain names).columns
    as_many None row is = absurd (cc is)
    as_many (Some names) row is =
        let cells = length (header_for rows.look rows.selected.is_numbered rows.selected.columns names).cells in
        let same : header_for rows.look rows.selected.is_numbered rows.selected.columns names ≡ row = cc is in
        let long : length (plain (Some names)).columns ≡ cells = length-map (range_with_len 0 (cells - 0)) new_column ∙ length-range_with_len 0 (cells - 0) ∙ omega arith in
        let own = ap (λ (r : RowValue). length r.cells) same in
        omega (arith, long, own)

    within : (names : Option (List Text)) (row : RowValue) → (headed names).header ≡ Some row → length row.cells ≤ length (headed names).columns
    within names row is =
        let own = header_dressed rows.selected rows.settings.rows (plain names) row is in
        let low = as_many names own.0 own.1 in
        let many = ap (λ (cs : List ColumnValue). length cs) (columns_dressed rows.selected rows.settings.rows (plain names)) in
        omega (arith, low, many, own.2)

    by_kind : (b : Bool) → slice_index_or (max_content_widths (if b then empty_table rows.look else headed rows.selected.names)) i 0 ≡ column_content_width (if b then empty_table rows.look else headed rows.selected.names) i
    by_kind true = all_widths (empty_table rows.look) refl (λ row is. absurd (cc is)) i
    by_kind false =
        all_widths (headed rows.selected.names) (no_rows_dressed rows.selected rows.settings.rows (plain rows.selected.names) (headed-rows rows.look rows.selected rows.selected.names))
        (within rows.selected.names) i

-- a list with the content width of each position is the list of content widths
pub widths_are : (t : TableValue) (widths : List ℕ) → length widths ≡ length t.columns → ((i : ℕ) → slice_index_or widths i 0 ≡ column_content_width t i) → widths ≡ max_content_widths t
widths_are t widths long each = from 0 widths (length t.columns) long (λ i. let same : i ≡ 0 + i = omega arith in each i ∙ ap (column_content_width t) same)
  where
    from : (a : ℕ) (own : List ℕ) (n : ℕ) → length own ≡ n → ((i : ℕ) → slice_index_or own i 0 ≡ column_content_width t (a + i)) → own ≡ map (column_content_width t) (range_with_len a n)
    from a [] zero long each = refl
    from a [] (suc n) long each = absurd (omega (arith, long))
    from a (w ∷ own) zero long each = absurd (omega (arith, long))
    from a (w ∷ own) (suc n) long each =
        let first : a + 0 ≡ a = omega arith in
        ap₂ (λ (x : ℕ) (xs : List ℕ). x ∷ xs) (each 0 ∙ ap (column_content_width t) first)
        (from (a + 1) own n (omega (arith, long)) (λ i. let next : a + suc i ≡ (a + 1) + i = omega arith in each (suc i) ∙ ap (column_content_width t) next))
