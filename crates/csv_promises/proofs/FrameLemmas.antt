-- The width of a drawn table's frame, and its columns.
use Rattle.std.proofs.Common.{◌≡◌, ◌≤◌, ◌<◌, ◌||◌, ℕ, ◌+◌, Bool, true, false, not, List, [], ◌∷◌, Option, Some, None, flat_map, length, map, refl, sym, ap, ◌∙◌, subst, arith, sum_by}
use Rattle.std.specs.List.{All, enumerate_from, list_any}
use Rattle.std.specs.Prelude.{if◌then◌else◌}
use Rattle.std.proofs.lemmas.Bool.{or_right}
use Rattle.std.proofs.lemmas.List.{length-map}
use Rattle.std.proofs.lemmas.List.Elements.{All-head, All-map, All-tail, recursion_from_All}
use Rattle.std.proofs.lemmas.List.FromFn.{length-enumerate_from}
use Rattle.std.proofs.lemmas.List.Sums.{count_by-le-length, length-filter, sum_by-cons}
use Rattle.comfy_parts.proofs.CallerLemmas.{All-every, no_fewer_columns}
use Rattle.comfy_parts.specs.CellValue.{ColumnValue, RowValue, column_padding, is_hidden_column}
use Rattle.comfy_parts.specs.Text.{Text}
use Rattle.comfy_table.proofs.BuiltTableLemmas.{IsNewColumn}
use Rattle.comfy_table.specs.Laws.{least_total}
use Rattle.comfy_table.specs.TableValue.{TableValue, shown_columns, with_row, with_rows}
use Rattle.comfy_table.specs.Widths.{shown_count}
use Rattle.csv_tables.proofs.BuiltLemmas.{names-length, row-length}
use Rattle.csv_tables.proofs.LineLemmas.{Any, any_built, any_drawn}
use Rattle.csv_tables.proofs.ReachedLemmas.{reached-length}
use Rattle.csv_tables.proofs.SeparatorLemmas.{separated}
use Rattle.csv_tables.proofs.WholeColumnLemmas.{HasTwo, IsPaddedColumn, exactly_two, pairs_are_two, pairs_have_two}
use Rattle.csv_tables.proofs.WholeTableLemmas.{HasRoom, columns-drawn, least-fits, most-least, room_for_given}
use Rattle.csv_tables.specs.Cells.{cell_for, cells_for, has_field, header_for, columns_within, row_for, with_weight, Shown, counted_from, shown_in, shown_names}
use Rattle.csv_tables.specs.Drawn.{SelectedValue, empty_table, has_room_for, headed_table, output_table, pairs_in, pairs_table, rows_table, separated_table, wanted_in, is_aligned_in}
use Rattle.csv_tables.specs.NoWrap.{Wanted, given_in, has_room, most_wanted, with_min_widths, fair_level, with_lower_bounds}
use Rattle.csv_tables.specs.declared.options.ColumnPlan.{ColumnPlan}
use Rattle.csv_tables.specs.declared.options.Look.{Look}
use Rattle.promises.proofs.FrameLemmas.{borders}
use Rattle.promises.proofs.TableOfRowsLemmas.{few_columns}
use Rattle.csv_promises.proofs.RecordLemmas.{with_rows-columns}
use Rattle.csv_promises.proofs.ShownTableLemmas.{has_rows_of}
use Rattle.csv_promises.specs.Width.{frame_room}

-- ---- frames

abbrev IsPadded : ℕ × ColumnValue → Type 0
IsPadded p = IsPaddedColumn p.1

two_each : (ps : List (ℕ × ColumnValue)) → All IsPadded ps → sum_by (λ (p : ℕ × ColumnValue). column_padding p.1) ps ≡ length ps + length ps
two_each [] padded = refl
two_each (p ∷ ps) padded =
    let own : IsPaddedColumn p.1 = All-head IsPadded p ps padded in
    let one : p.1.padding.0 ≡ 1 = ap (λ (x : ℕ × ℕ). x.0) own.padding in
    let other : p.1.padding.1 ≡ 1 = ap (λ (x : ℕ × ℕ). x.1) own.padding in
    let more = two_each ps (All-tail IsPadded p ps padded) in
    omega (arith, one, other, more, sum_by-cons (λ (q : ℕ × ColumnValue). column_padding q.1) p ps)

-- a frame of n columns has room for a table of at most n columns
least : (table : TableValue) (n : ℕ) → 1 ≤ n → length table.columns ≤ n → All IsPadded (shown_columns table) → least_total table ≤ frame_room n
least table n some few padded =
    let places = enumerate_from 0 table.columns in
    let passes = λ (p : ℕ × ColumnValue). not (is_hidden_column p.1) in
    let shown : shown_count table ≤ length table.columns = omega (arith, length-filter passes places, count_by-le-length passes places, length-enumerate_from 0 table.columns) in
    omega (arith, some, few, shown, borders table.style (shown_count table), two_each (shown_columns table) padded)

-- ---- how many columns there are

cells-length : (look : Look) (is_bold : Bool) (shown : List Shown) → length (cells_for look is_bold shown).cells ≡ length shown
cells-length look is_bold shown = length-map shown (λ (s : Shown). with_weight is_bold (cell_for look s.alignment s.text))

-- the number of drawn columns, including that of record numbers
abbrev pub places_of : SelectedValue → ℕ
places_of content = length content.columns + (if content.is_numbered then 1 else 0)

header_few : (look : Look) (content : SelectedValue) (names : List Text) → length (header_for look content.is_numbered content.columns names).cells ≡ places_of content
header_few look content names =
    omega (arith, cells-length look look.has_bold_header (shown_names look content.is_numbered content.columns names), names-length look content.is_numbered content.columns names)

rows_few : (look : Look) (is_aligned : Bool) (content : SelectedValue) → length (rows_table look is_aligned content).columns ≤ places_of content
rows_few look is_aligned content =
    few_columns (places_of content) (map row (counted_from 1 content.rows)) (headed_table look content.is_numbered content.columns content.names) (headed content.names)
    (All-map (λ (r : RowValue). length r.cells ≤ places_of content) row (counted_from 1 content.rows)
    (All-every (λ r. length (row r).cells ≤ places_of content) (counted_from 1 content.rows) few))
  where
    row : ℕ × List Text → RowValue
    row = row_for look is_aligned content.is_numbered content.columns

    few : (r : ℕ × List Text) → length (row r).cells ≤ places_of content
    few r =
        let shown = shown_in look is_aligned content.is_numbered (columns_within r.1 content.columns) r in
        omega (arith, reached-length r.1 content.columns, row-length look is_aligned content.is_numbered (columns_within r.1 content.columns) r, cells-length look false shown)

    headed : (names : Option (List Text)) → length (headed_table look content.is_numbered content.columns names).columns ≤ places_of content
    headed None = omega arith
    headed (Some names) = omega (arith, no_fewer_columns (length (header_for look content.is_numbered content.columns names).cells) [], header_few look content names)

-- a drawn table has at most two columns if records are expanded, and otherwise at most as many as are drawn
pub most_columns : (is_expanded has : Bool) (look : Look) (content : SelectedValue) → length (separated_table has (output_table is_expanded look content)).columns ≤ (if is_expanded then 2 else places_of content)
most_columns true has look content = omega (arith, pairs_have_two look content, (has_rows_of look content true has).as_many)
most_columns false has look content = omega (arith, rows_few look (is_aligned_in look content) content, (has_rows_of look content false has).as_many)

-- a frame of as many columns has room for the table
pub frame_has_room : (is_expanded has : Bool) (look : Look) (content : SelectedValue) (n : ℕ) → 1 ≤ n → (if is_expanded then 2 else places_of content) ≤ n → least_total (separated_table has (output_table is_expanded look content)) ≤ frame_room n
frame_has_room is_expanded has look content n some few =
    let table = separated_table has (output_table is_expanded look content) in
    least table n some (omega (arith, few, most_columns is_expanded has look content)) (columns-drawn (separated has look) Any content table (any_drawn look content is_expanded has))

-- ---- widths with room for rows

module _ (look : Look) (content : SelectedValue) (has : Bool) where
  abbrev rows : TableValue
  rows = rows_table look (is_aligned_in look content) content

  abbrev whole : Wanted
  whole = wanted_in look content

  -- the width has room for the table
  pub width_has_room : (w : ℕ) → look.width ≡ Some w → has_room_for look content (is_aligned_in look content) ≡ true → least_total (separated_table has (output_table false look content)) ≤ w
  width_has_room w wide test =
      let new = recursion_from_All IsNewColumn rows.columns (any_built false (is_aligned_in look content) look content).columns in
      let own : has_room (Some w) whole rows ≡ true = ap (λ (width : Option ℕ). has_room width whole rows) (sym wide) ∙ test in
      let made : output_table false look content ≡ with_lower_bounds (given_in w whole rows) rows = ap (λ (width : Option ℕ). with_min_widths width whole rows) wide ∙ ap (λ (b : Bool). if b then with_lower_bounds (given_in w whole rows) rows else rows) own in
      let room : HasRoom w (separated_table has (output_table false look content)) = subst (HasRoom w) (sym (ap (separated_table has) made)) (room_for_given w (fair_level w (most_wanted w whole rows) rows) has (most_wanted w whole rows) rows new (most-least w whole rows own)) in
      least-fits w (separated_table has (output_table false look content)) room

-- ---- columns that are drawn

-- true if a record has the field of the last column
abbrev pub has_last : List Text → List ColumnPlan → Bool
has_last fields [] = true
has_last fields (column ∷ []) = has_field fields column
has_last fields (column ∷ next ∷ more) = has_last fields (next ∷ more)

-- true if one of the records has it
abbrev pub reaches : List ColumnPlan → List (List Text) → Bool
reaches columns rows = list_any (λ (fields : List Text). has_last fields columns) rows

-- such a record has a cell for each column
any_to_last : (fields : List Text) (column : ColumnPlan) (more : List ColumnPlan) → has_last fields (column ∷ more) ≡ true → list_any (has_field fields) (column ∷ more) ≡ true
any_to_last fields column [] last = ap (λ (b : Bool). b || false) last
any_to_last fields column (next ∷ more) last = or_right (has_field fields column) (list_any (has_field fields) (next ∷ more)) (any_to_last fields next more last)

all_within : (fields : List Text) (columns : List ColumnPlan) → has_last fields columns ≡ true → columns_within fields columns ≡ columns
all_within fields [] last = refl
all_within fields (column ∷ []) last = rw (any_to_last fields column [] last) refl
all_within fields (column ∷ next ∷ more) last = rw (any_to_last fields column (next ∷ more) last) (ap (λ (cs : List ColumnPlan). column ∷ cs) (all_within fields (next ∷ more) last))

module _ (look : Look) (is_aligned is_numbered : Bool) (columns : List ColumnPlan) where
  -- the table of such a record has all columns
  all_cells : (n : ℕ) (rows : List (List Text)) (table : TableValue) → reaches columns rows ≡ true → length columns + (if is_numbered then 1 else 0) ≤ length (with_rows (map (row_for look is_aligned is_numbered columns) (counted_from n rows)) table).columns
  all_cells n [] table none = absurd (cc none)
  all_cells n (fields ∷ more) table some = by_test (all_cells (n + 1) more) (has_last fields columns) refl
    where
      row : RowValue
      row = row_for look is_aligned is_numbered columns (n, fields)

      rest : List RowValue
      rest = map (row_for look is_aligned is_numbered columns) (counted_from (n + 1) more)

      by_test : ((t : TableValue) → reaches columns more ≡ true → length columns + (if is_numbered then 1 else 0) ≤ length (with_rows rest t).columns) → (b : Bool) → has_last fields columns ≡ b → length columns + (if is_numbered then 1 else 0) ≤ length (with_rows rest (with_row row table)).columns
      by_test later true own =
          let shown = shown_in look is_aligned is_numbered (columns_within fields columns) (n, fields) in
          with_rows-columns (length columns + (if is_numbered then 1 else 0)) rest (with_row row table)
          (omega (arith, ap length (all_within fields columns own), row-length look is_aligned is_numbered (columns_within fields columns) (n, fields), cells-length look false shown, no_fewer_columns (length row.cells) table.columns))
      by_test later false own = later (with_row row table) (ap (λ (b : Bool). b || reaches columns more) (sym own) ∙ some)

-- the table of rows has all columns if there are names, or a record has the field of the last column
abbrev rows_made : Look → SelectedValue → List RowValue
rows_made look content = map (row_for look (is_aligned_in look content) content.is_numbered content.columns) (counted_from 1 content.rows)

reached_columns : (look : Look) (content : SelectedValue) → (content.names ≡ None → reaches content.columns content.rows ≡ true) → places_of content ≤ length (rows_table look (is_aligned_in look content) content).columns
reached_columns look content reach = by_names content.names refl
  where
    by_names : (names : Option (List Text)) → content.names ≡ names → places_of content ≤ length (with_rows (rows_made look content) (headed_table look content.is_numbered content.columns names)).columns
    by_names None is = all_cells look (is_aligned_in look content) content.is_numbered content.columns 1 content.rows (empty_table look) (reach is)
    by_names (Some names) is =
        with_rows-columns (places_of content) (rows_made look content) (headed_table look content.is_numbered content.columns (Some names))
        (omega (arith, header_few look content names, no_fewer_columns (length (header_for look content.is_numbered content.columns names).cells) []))

-- the drawn table has them too
pub row_columns : (has : Bool) (look : Look) (content : SelectedValue) → (content.names ≡ None → reaches content.columns content.rows ≡ true) → length (separated_table has (output_table false look content)).columns ≡ places_of content
row_columns has look content reach =
    omega (arith, reached_columns look content reach, rows_few look (is_aligned_in look content) content, (has_rows_of look content false has).as_many)

-- the table of expanded records has two columns, if a record has a field
pub pair_columns : (has : Bool) (look : Look) (content : SelectedValue) → ¬ (flat_map (pairs_in look content) content.rows ≡ []) → length (separated_table has (output_table true look content)).columns ≡ 2
pair_columns has look content some = by_pairs (flat_map (pairs_in look content) content.rows) refl
  where
    by_pairs : (rows : List RowValue) → flat_map (pairs_in look content) content.rows ≡ rows → length (separated_table has (output_table true look content)).columns ≡ 2
    by_pairs [] none = absurd (some none)
    by_pairs (row ∷ more) is =
        let two : length (pairs_table look content).columns ≡ 2 =
        ap (λ (rows : List RowValue). length (with_rows rows (empty_table look)).columns) is
        ∙ exactly_two row more (empty_table look) (subst (All HasTwo) is (pairs_are_two look content)) (omega arith) in
        omega (arith, two, (has_rows_of look content true has).as_many)

-- all columns of the table are shown
all_are_shown : (is_expanded has : Bool) (look : Look) (content : SelectedValue) → shown_count (separated_table has (output_table is_expanded look content)) ≡ length (separated_table has (output_table is_expanded look content)).columns
all_are_shown is_expanded has look content =
    ap length (has_rows_of look content is_expanded has).shown ∙ length-enumerate_from 0 (separated_table has (output_table is_expanded look content)).columns

pub column_is_shown : (is_expanded has : Bool) (look : Look) (content : SelectedValue) → 1 ≤ length content.columns → (content.names ≡ None → reaches content.columns content.rows ≡ true)
    → (is_expanded ≡ true → ¬ (flat_map (pairs_in look content) content.rows ≡ [])) → 0 < shown_count (separated_table has (output_table is_expanded look content))
column_is_shown true has look content some reach pairs = omega (arith, pair_columns has look content (pairs refl), all_are_shown true has look content)
column_is_shown false has look content some reach pairs = omega (arith, some, row_columns has look content reach, all_are_shown false has look content)
