-- A table has the same drawing without its hidden columns.
use Rattle.std.proofs.Common.{◌≡◌, ℕ, suc, ◌+◌, ◌-◌, Bool, true, false, not, cond, List, [], ◌∷◌, ◌++◌, Option, Some, None, length, map, max, arith, refl, sym, ap, ap₂, ◌∙◌, subst, slice_index}
use Rattle.std.specs.List.{enumerate_from, filter, filter_map, cons_option, slice_get}
use Rattle.std.specs.Prelude.{MatchOption, option_map, option_to_list, unwrap_or}
use Rattle.std.proofs.lemmas.List.{length-map}
use Rattle.std.proofs.lemmas.Simd.{map-map}
use Rattle.std.proofs.lemmas.Option.{unwrap_or-slice_get}
use Rattle.comfy_parts.proofs.CallerLemmas.{join_by-map}
use Rattle.comfy_parts.specs.CellValue.{CellValue, ColumnInfo, ColumnValue, RowValue, info_of, info_width, is_hidden_column}
use Rattle.comfy_parts.specs.Text.{Text}
use Rattle.comfy_parts.specs.declared.style.table_style.ContentLineStyle.{ContentLineStyle}
use Rattle.comfy_table.proofs.AllWidthsLemmas.{AreFrom, after_first, arranged_by_widths, first_from, from_start}
use Rattle.comfy_table.proofs.BoundaryLemmas.{fixed_same, lower_same, upper_same}
use Rattle.comfy_table.proofs.DisabledLemmas.{arranged_by_content}
use Rattle.comfy_table.proofs.InfoLemmas.{columns_from, infos_from}
use Rattle.comfy_table.proofs.MeasuredLemmas.{cell_measured, get_measured, measured_rows-is, row_measured}
use Rattle.comfy_table.proofs.OneDrawingLemmas.{arranged_is_one, drawing_is_one}
use Rattle.comfy_table.specs.AllWidths.{all_widths}
use Rattle.comfy_table.specs.Arrangement.{AreShownWidths, IsArranged, IsDrawingOf, is_full_width, room_beside_borders, width_kept, widths_at}
use Rattle.comfy_table.specs.DisabledWidths.{widths_by_content}
use Rattle.comfy_table.specs.Drawing.{drawing, drawn_header, drawn_row, drawn_rows, infos_of, outer_widths}
use Rattle.comfy_table.specs.Dynamic.{IsDynamicLayout}
use Rattle.comfy_table.specs.Frame.{border_count}
use Rattle.comfy_table.specs.HiddenColumns.{HiddenColumnsChangeNothing, IsDrawnWithoutHidden, beside_shown, is_shown, shown_row, without_hidden}
use Rattle.comfy_table.specs.Pieces.{pieces_at, row_height, row_line, shown_infos}
use Rattle.comfy_table.specs.TableValue.{TableValue, column_cells, column_content_width, header_and_rows, shown_columns, table_width}
use Rattle.comfy_table.specs.Widths.{ColumnNeeds, capped_content, disabled_width, needs_of, shown_count, shown_needs}

-- ---- positions

-- an element at position i is at position j after the elements of hidden columns are removed
abbrev IsMoved : List ColumnValue → ℕ → ℕ → Type 1
IsMoved columns i j = (X : Type 0) (xs : List X) → slice_get (beside_shown columns xs) j ≡ slice_get xs i

module _ (column : ColumnValue) (columns : List ColumnValue) where
  -- a first column that is shown keeps position 0
  stays_first : is_hidden_column column ≡ false → IsMoved (column ∷ columns) 0 0
  stays_first is X [] = refl
  stays_first is X (x ∷ xs) = grind arith

  -- after a first column that is shown, both positions are one further
  moves_on : (i j : ℕ) → is_hidden_column column ≡ false → IsMoved columns i j → IsMoved (column ∷ columns) (suc i) (suc j)
  moves_on i j is at X [] = refl
  moves_on i j is at X (x ∷ xs) = grind arith

  -- after a first column that is hidden, only the position before the removal is one further
  moves_up : (i j : ℕ) → is_hidden_column column ≡ true → IsMoved columns i j → IsMoved (column ∷ columns) (suc i) j
  moves_up i j is at X [] = refl
  moves_up i j is at X (x ∷ xs) = grind arith

-- a number at position i is at position j after the removal; 0 after the end of the list
index_moved : (columns : List ColumnValue) (i j : ℕ) → IsMoved columns i j → (ws : List ℕ) → slice_index (beside_shown columns ws) j ≡ slice_index ws i
index_moved columns i j at ws = sym (unwrap_or-slice_get (beside_shown columns ws) j 0) ∙ ap (λ (o : Option ℕ). unwrap_or o 0) (at ℕ ws) ∙ unwrap_or-slice_get ws i 0

-- the results for shown columns are the same, if they are the same at both positions
from_columns : {X : Type 0} (f g : ℕ × ColumnValue → X) (n m : ℕ) (columns : List ColumnValue)
    → ((i j : ℕ) (column : ColumnValue) → IsMoved columns i j → f (n + i, column) ≡ g (m + j, column))
    → map f (columns_from n columns) ≡ map g (columns_from m (filter is_shown columns))
from_columns f g n m [] same = refl
from_columns {X} f g n m (column ∷ columns) same = by_test (is_hidden_column column) refl (λ k l. from_columns f g k l columns)
  where
    rest : ℕ → ℕ → Type 1
    rest k l =
        ((i j : ℕ) (c : ColumnValue) → IsMoved columns i j → f (k + i, c) ≡ g (l + j, c))
        → map f (columns_from k columns) ≡ map g (columns_from l (filter is_shown columns))

    by_test : (b : Bool) → is_hidden_column column ≡ b → ((k l : ℕ) → rest k l)
        → map f (cond (not b) ((n, column) ∷ columns_from (n + 1) columns) (columns_from (n + 1) columns))
        ≡ map g (columns_from m (cond (not b) (column ∷ filter is_shown columns) (filter is_shown columns)))
    by_test true is later =
        later (n + 1) m
        (λ i j c at. let there : n + 1 + i ≡ n + suc i = omega arith in ap (λ k. f (k, c)) there ∙ same (suc i) j c (moves_up column columns i j is at))
    by_test false is later =
        let others : List (ℕ × ColumnValue) = columns_from (m + 1) (filter is_shown columns) in
        let here : n ≡ n + 0 = omega arith in
        let still : m + 0 ≡ m = omega arith in
        ap₂ (λ (x : X) (xs : List X). x ∷ xs) (ap (λ k. f (k, column)) here ∙ same 0 0 column (stays_first column columns is) ∙ ap (λ k. g (k, column)) still)
        (later (n + 1) (m + 1)
        (λ i j c at.
        let there : n + 1 + i ≡ n + suc i = omega arith in
        let then : m + suc j ≡ m + 1 + j = omega arith in
        ap (λ k. f (k, c)) there ∙ same (suc i) (suc j) c (moves_on column columns i j is at) ∙ ap (λ k. g (k, c)) then))
        ∙ ap (λ (b : Bool). map g (cond (not b) ((m, column) ∷ others) others)) (sym is)

-- the results for all shown columns of a table are the same, if they are the same at both positions
pub shown_same : {X : Type 0} (table : TableValue) (f g : ℕ × ColumnValue → X)
    → ((i j : ℕ) (column : ColumnValue) → IsMoved table.columns i j → f (i, column) ≡ g (j, column))
    → map f (shown_columns table) ≡ map g (shown_columns (without_hidden table))
shown_same table f g same = grind (arith, from_columns)

-- ---- widths

-- the cells of a column
cells_of_rows : (custom : Bool) (columns : List ColumnValue) (i j : ℕ) → IsMoved columns i j → (rows : List RowValue)
    → filter_map (λ (row : RowValue). slice_get row.cells i) (map (row_measured custom) rows)
    ≡ filter_map (λ (row : RowValue). slice_get row.cells j) (map (row_measured custom) (map (shown_row columns) rows))
cells_of_rows custom columns i j at [] = refl
cells_of_rows custom columns i j at (row ∷ rows) =
    ap₂ (λ (cell : Option CellValue) (cells : List CellValue). cons_option cell cells)
    (get_measured custom row.cells i ∙ ap (option_map (cell_measured custom)) (sym (at CellValue row.cells)) ∙ sym (get_measured custom (beside_shown columns row.cells) j))
    (cells_of_rows custom columns i j at rows)

-- the header, if there is one, and the rows
rows_without : (columns : List ColumnValue) (header : Option RowValue) (rows : List RowValue)
    → map (shown_row columns) (option_to_list header ++ rows) ≡ option_to_list (option_map (shown_row columns) header) ++ map (shown_row columns) rows
rows_without columns None rows = refl
rows_without columns (Some header) rows = refl

module _ (table : TableValue) where
  cells_same : (i j : ℕ) → IsMoved table.columns i j → column_cells table i ≡ column_cells (without_hidden table) j
  cells_same i j at =
      ap (filter_map (λ (row : RowValue). slice_get row.cells i)) (measured_rows-is table)
      ∙ cells_of_rows table.custom_styling table.columns i j at (header_and_rows table)
      ∙ ap (λ (rows : List RowValue). filter_map (λ (row : RowValue). slice_get row.cells j) (map (row_measured table.custom_styling) rows)) (rows_without table.columns table.header table.rows)
      ∙ ap (filter_map (λ (row : RowValue). slice_get row.cells j)) (sym (measured_rows-is (without_hidden table)))

  count_same : shown_count table ≡ shown_count (without_hidden table)
  count_same =
      let own : ℕ × ColumnValue → ColumnValue = λ p. p.1 in
      sym (length-map (shown_columns table) own) ∙ ap length (shown_same table own own (λ i j column at. refl)) ∙ length-map (shown_columns (without_hidden table)) own

  needs_same : (i j : ℕ) (column : ColumnValue) → IsMoved table.columns i j → needs_of table (i, column) ≡ needs_of (without_hidden table) (j, column)
  needs_same i j column at = grind (arith, count_same, cells_same, fixed_same, lower_same, upper_same)

  -- the width by content, from the needs of a column
  abbrev by_content : ColumnNeeds → ℕ
  by_content needs = unwrap_or needs.fixed (capped_content needs.content needs.padding needs.upper)

  disabled_same : (i j : ℕ) (column : ColumnValue) → IsMoved table.columns i j → disabled_width table (i, column) ≡ disabled_width (without_hidden table) (j, column)
  disabled_same i j column at = ap by_content (needs_same i j column at)

  -- these are the widths of the shown columns, and those of the table without the hidden ones
  abbrev Are : ℕ → List ColumnNeeds → List ℕ → List ℕ → Type 0
  Are n needs disabled widths =
      MatchOption (width_kept table.arrangement (table_width table)) (widths ≡ disabled) (λ w. IsDynamicLayout (w - border_count table.style n) needs (is_full_width table.arrangement) widths)

  shown_widths_same : (widths : List ℕ) → AreShownWidths table widths ≡ AreShownWidths (without_hidden table) widths
  shown_widths_same widths =
      λ k. Are (count_same k) (shown_same table (needs_of table) (needs_of (without_hidden table)) needs_same k)
      (shown_same table (disabled_width table) (disabled_width (without_hidden table)) disabled_same k) widths

-- there is one width for each shown column
length-beside : (columns : List ColumnValue) (widths : List ℕ) → length widths ≡ length columns → length (beside_shown columns widths) ≡ length (filter is_shown columns)
length-beside [] widths long = refl
length-beside (column ∷ columns) [] long = absurd (omega (arith, long))
length-beside (column ∷ columns) (w ∷ widths) long = grind (arith, length-beside columns widths (omega (arith, long)))

-- no hidden column is left
none_hidden : (n : ℕ) (columns : List ColumnValue) → filter (λ (p : ℕ × ColumnValue). is_hidden_column p.1) (enumerate_from n (filter is_shown columns)) ≡ []
none_hidden n [] = refl
none_hidden n (column ∷ columns) = by_test (is_hidden_column column) refl (λ k. none_hidden k columns)
  where
    hidden : ℕ → List ColumnValue → List (ℕ × ColumnValue)
    hidden k all = filter (λ (p : ℕ × ColumnValue). is_hidden_column p.1) (enumerate_from k all)

    by_test : (b : Bool) → is_hidden_column column ≡ b → ((k : ℕ) → hidden k (filter is_shown columns) ≡ []) → hidden n (cond (not b) (column ∷ filter is_shown columns) (filter is_shown columns)) ≡ []
    by_test true is rest = rest n
    by_test false is rest =
        let later : List (ℕ × ColumnValue) = hidden (n + 1) (filter is_shown columns) in
        ap (λ (b : Bool). cond b ((n, column) ∷ later) later) is ∙ rest (n + 1)

-- the widths of the shown columns are widths of the table without the hidden ones
arranged_without : (table : TableValue) (widths : List ℕ) → IsArranged table widths → IsArranged (without_hidden table) (beside_shown table.columns widths)
arranged_without table widths arranged =
    record {
      one_for_each = length-beside table.columns widths arranged.one_for_each;
      hidden_widths =
          subst (λ (ps : List (ℕ × ColumnValue)). widths_at (beside_shown table.columns widths) ps ≡ map (λ (p : ℕ × ColumnValue). max 1 (column_content_width (without_hidden table) p.0)) ps)
          (sym (none_hidden 0 table.columns)) refl;
      shown_widths =
          subst (AreShownWidths (without_hidden table))
          (shown_same table (λ (p : ℕ × ColumnValue). slice_index widths p.0) (λ (p : ℕ × ColumnValue). slice_index (beside_shown table.columns widths) p.0)
          (λ i j column at. sym (index_moved table.columns i j at widths)))
          (subst (λ (T : Type 0). T) (shown_widths_same table (widths_at widths (shown_columns table))) arranged.shown_widths);
    }

-- ---- lines

-- the info of a shown column, with its width
abbrev drawn_with : List ℕ → ℕ × ColumnValue → ℕ × ColumnInfo
drawn_with all p = (p.0, info_of p.1 (slice_index all p.0))

-- the infos of the shown columns from a position on
infos-are : (all : List ℕ) (n : ℕ) (columns : List ColumnValue) (widths : List ℕ) → AreFrom all n widths → length widths ≡ length columns
    → infos_from n columns widths ≡ map (drawn_with all) (columns_from n columns)
infos-are all n [] widths each long = refl
infos-are all n (column ∷ columns) [] each long = absurd (omega (arith, long))
infos-are all n (column ∷ columns) (w ∷ widths) each long =
    by_test (is_hidden_column column) (infos-are all (n + 1) columns widths (after_first all n w widths each) (omega (arith, long)))
  where
    by_test : (b : Bool) → infos_from (n + 1) columns widths ≡ map (drawn_with all) (columns_from (n + 1) columns)
        → cond (not b) ((n, info_of column w) ∷ infos_from (n + 1) columns widths) (infos_from (n + 1) columns widths)
        ≡ map (drawn_with all) (cond (not b) ((n, column) ∷ columns_from (n + 1) columns) (columns_from (n + 1) columns))
    by_test true rest = rest
    by_test false rest = ap₂ (λ (x : ℕ) (ps : List (ℕ × ColumnInfo)). (n, info_of column x) ∷ ps) (sym (first_from all n w widths each)) rest

module _ (table : TableValue) (widths : List ℕ) (long : length widths ≡ length table.columns) where
  abbrev infos : List ColumnInfo
  infos = infos_of table widths

  -- the widths of the shown columns
  abbrev kept : List ℕ
  kept = beside_shown table.columns widths

  -- the infos of the table without its hidden columns
  abbrev others : List ColumnInfo
  others = infos_of (without_hidden table) kept

  -- the results for shown infos are the same, if they are the same at both positions
  infos_same : {X : Type 0} (f g : ℕ × ColumnInfo → X) → ((i j : ℕ) (info : ColumnInfo) → IsMoved table.columns i j → f (i, info) ≡ g (j, info)) → map f (shown_infos infos) ≡ map g (shown_infos others)
  infos_same f g same =
      ap (map f) (infos-are widths 0 table.columns widths (from_start widths) long)
      ∙ map-map f (drawn_with widths) (shown_columns table)
      ∙ shown_same table (λ p. f (drawn_with widths p)) (λ p. g (drawn_with kept p))
      (λ i j column at. same i j (info_of column (slice_index widths i)) at ∙ ap (λ w. g (j, info_of column w)) (sym (index_moved table.columns i j at widths)))
      ∙ sym (map-map g (drawn_with kept) (shown_columns (without_hidden table)))
      ∙ sym (ap (map g) (infos-are kept 0 (filter is_shown table.columns) kept (from_start kept) (length-beside table.columns widths long)))

  whole_same : outer_widths infos ≡ outer_widths others
  whole_same = infos_same (λ p. info_width p.1) (λ p. info_width p.1) (λ i j info at. refl)

  pieces_same : (row : RowValue) (i j : ℕ) (info : ColumnInfo) → IsMoved table.columns i j → pieces_at table row (i, info) ≡ pieces_at (without_hidden table) (shown_row table.columns row) (j, info)
  pieces_same row i j info at = grind arith

  height_same : (row : RowValue) → row_height table infos row ≡ row_height (without_hidden table) others (shown_row table.columns row)
  height_same row = grind (arith, infos_same, pieces_same)

  line_same : (row : RowValue) (k : ℕ) → row_line table infos row k ≡ row_line (without_hidden table) others (shown_row table.columns row) k
  line_same row k = grind (arith, infos_same, pieces_same)

  row_same : (line : ContentLineStyle) (row : RowValue) → drawn_row table infos line row ≡ drawn_row (without_hidden table) others line (shown_row table.columns row)
  row_same line row = grind (arith, line_same, height_same)

  header_same : (header : Option RowValue) → drawn_header table infos header ≡ drawn_header (without_hidden table) others (option_map (shown_row table.columns) header)
  header_same None = refl
  header_same (Some header) = grind (arith, row_same, whole_same)

  rows_same : drawn_rows table infos table.rows ≡ drawn_rows (without_hidden table) others (map (shown_row table.columns) table.rows)
  rows_same = grind (arith, row_same, whole_same, join_by-map)

  -- the drawing is the same
  drawing_same : drawing table widths ≡ drawing (without_hidden table) (beside_shown table.columns widths)
  drawing_same = grind (arith, whole_same, header_same, rows_same)

-- ---- both directions

-- a table whose shown columns may have these widths has widths for all of its columns
has_widths : (table : TableValue) (widths : List ℕ) (o : Option ℕ) → width_kept table.arrangement (table_width table) ≡ o → AreShownWidths table widths → (all : List ℕ) × IsArranged table all
has_widths table widths None none are = (widths_by_content table, arranged_by_content table none)
has_widths table widths (Some w) kept are = (
  all_widths table widths,
  arranged_by_widths table w widths kept
      (subst (λ (o : Option ℕ). MatchOption o (widths ≡ map (disabled_width table) (shown_columns table)) (λ v. IsDynamicLayout (room_beside_borders table v) (shown_needs table) (is_full_width table.arrangement) widths)) kept are),
)

pub is_drawn_without_hidden : (table : TableValue) (lines : List Text) → IsDrawnWithoutHidden table lines
is_drawn_without_hidden table lines = (without, with)
  where
    without : IsDrawingOf table lines → IsDrawingOf (without_hidden table) lines
    without (widths, arranged, is) = (beside_shown table.columns widths, arranged_without table widths arranged, is ∙ drawing_same table widths arranged.one_for_each)

    with : IsDrawingOf (without_hidden table) lines → IsDrawingOf table lines
    with (widths, arranged, is) =
        let shown = widths_at widths (shown_columns (without_hidden table)) in
        let (all, whole) = has_widths table shown (width_kept table.arrangement (table_width table)) refl (subst (λ (T : Type 0). T) (sym (shown_widths_same table shown)) arranged.shown_widths) in
        (all, whole, is ∙ ap (drawing (without_hidden table)) (arranged_is_one (without_hidden table) widths (beside_shown table.columns all) arranged (arranged_without table all whole)) ∙ sym (drawing_same table all whole.one_for_each))

pub hidden_columns_change_nothing : (table other : TableValue) (lines others : List Text) → HiddenColumnsChangeNothing table other lines others
hidden_columns_change_nothing table other lines others same first second =
    drawing_is_one (without_hidden other) lines others (subst (λ (t : TableValue). IsDrawingOf t lines) same ((is_drawn_without_hidden table lines).0 first)) ((is_drawn_without_hidden other others).0 second)
