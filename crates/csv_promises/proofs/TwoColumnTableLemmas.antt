-- In a width with room, each column of a table of csvtable gets two terminal columns, its content, or the width of its
-- longest line at some width.
use Rattle.std.proofs.Common.{◌≡◌, ◌<◌, ◌≤◌, ◌==◌, ◌&&◌, ◌||◌, ℕ, zero, suc, ◌+◌, ◌-◌, ◌*◌, Bool, true, false, not, List, [], ◌∷◌, Option, Some, None, length, map, max, min, nat_le, nat_lt, slice_get, slice_index, sum_by, unwrap_or, refl, sym, ap, ◌∙◌, subst, arith, ⊎_elim, inl, inr}
use Rattle.std.specs.List.{AllByRecursion, AllZip, enumerate_from, range_with_len}
use Rattle.std.specs.Prelude.{◌⊎◌, if◌then◌else◌}
use Rattle.std.proofs.lemmas.Bool.{ltb-true}
use Rattle.std.proofs.lemmas.List.{length-map}
use Rattle.std.proofs.lemmas.List.Elements.{recursion_from_All}
use Rattle.std.proofs.lemmas.List.FromFn.{length-map-range_with_len}
use Rattle.std.proofs.lemmas.List.Sums.{sum_by-cons}
use Rattle.comfy_parts.specs.CellValue.{CellValue, ColumnValue, column_padding}
use Rattle.comfy_parts.specs.Text.{greatest}
use Rattle.comfy_parts.specs.declared.style.table_style.TableStyle.{TableStyle}
use Rattle.comfy_table.proofs.BuiltTableLemmas.{IsNewColumn}
use Rattle.comfy_table.proofs.DrawnWidthLemmas.{dynamic_widths}
use Rattle.comfy_table.specs.Arrangement.{IsArranged, is_full_width, room_beside_borders, width_kept, widths_at}
use Rattle.comfy_table.specs.Dynamic.{IsDynamicLayout, lower_of_boundary}
use Rattle.comfy_table.specs.Frame.{border_count, draws_left_border, draws_right_border, draws_vertical_lines}
use Rattle.comfy_table.specs.Lines.{longest_line}
use Rattle.comfy_table.specs.TableValue.{TableValue, column_content_width, max_content_widths, measured_cell, shown_columns, table_width}
use Rattle.comfy_table.specs.Widths.{ColumnNeeds, fixed_by_boundary, fixed_by_constraint, lower_boundary, needs_of, shown_count, upper_boundary, without_padding}
use Rattle.csv_tables.proofs.KeptWidthLemmas.{kept_arrangement}
use Rattle.csv_tables.proofs.BuiltLemmas.{plain_table}
use Rattle.csv_tables.proofs.LeastLemmas.{lower_or_one}
use Rattle.csv_tables.proofs.LineLemmas.{Any, any_built, any_drawn, kept_setting}
use Rattle.csv_tables.proofs.SeparatorLemmas.{restyled, separated}
use Rattle.csv_tables.proofs.NoWrapLemmas.{boundary-some, framed_pair, given_is_shared, kept-test, name-two, with_second-none, word-two}
use Rattle.csv_tables.proofs.WholeColumnLemmas.{IsPaddedColumn, all_shown, both_shown, field_width-within, leasts_on, pairs_have_two}
use Rattle.csv_tables.proofs.WholeTableLemmas.{IsDrawn, drawn-is, most-least, fewer_borders, field_separated, still_fits}
use Rattle.csv_tables.specs.Drawn.{SelectedValue, arrangement_for, empty_table, is_aligned_in, is_expanded_for, is_expanded_in, is_table_expanded, output_table, pairs_table, rows_table, separated_table, wanted_in}
use Rattle.csv_tables.specs.Laws.{IsDrawnTable}
use Rattle.csv_tables.specs.NoWrap.{Wanted, lower_bound, boundary_for, by_columns, field_width, framed_width, reserved_width, has_room, min_width, with_min_widths, with_min_field_width, least_width, fair_level, fields_need, kept_of_fields, kept_of_name, most_wanted, may_break, name_in, room_beside, room_for_two, width_at_level, wide_word, with_content, with_field_width, with_lower_bounds, word_width}
use Rattle.csv_tables.specs.declared.options.Expansion.{Expansion}
use Rattle.csv_tables.specs.declared.options.Expansion.TheVariants.{Always, Auto, Never}
use Rattle.csv_tables.specs.declared.options.Look.{Look}
use Rattle.csv_promises.specs.Width.{columns_by}
use Rattle.csv_promises.proofs.TwoColumnLemmas.{HasTwo, KeepsTwo, dynamic_has_two, needed_in_all, needed_of}

-- ---- what columns need

-- a column with two paddings keeps two terminal columns, and needs at most this content width
record IsTwo (column : ColumnNeeds) (content : ℕ) : Type 0 where
  padding : column.padding ≡ 2
  keeps : KeepsTwo column
  most : needed_in_all column ≤ content

-- the same for all columns
record AreTwo (columns : List ColumnNeeds) (contents : List ℕ) : Type 0 where
  count : length columns ≡ length contents
  keeps : AllByRecursion KeepsTwo columns
  room : sum_by (λ (column : ColumnNeeds). column.padding) columns + sum_by needed_in_all columns ≤ sum_by (λ content. 2 + content) contents

two-cons : (column : ColumnNeeds) (content : ℕ) (columns : List ColumnNeeds) (contents : List ℕ) → IsTwo column content → AreTwo columns contents → AreTwo (column ∷ columns) (content ∷ contents)
two-cons column content columns contents own more =
    let paddings = sum_by-cons (λ (c : ColumnNeeds). c.padding) column columns in
    let needed = sum_by-cons needed_in_all column columns in
    let all = sum_by-cons (λ (n : ℕ). 2 + n) content contents in
    record { count = ap suc more.count; keeps = (own.keeps, more.keeps); room = omega (arith, paddings, needed, all, own.padding, own.most, more.room) }

-- two terminal columns for each column
abbrev two_each : ℕ → ℕ
two_each i = 2

-- new columns have two paddings
paddings : (column : ColumnValue) → IsNewColumn column → column_padding column ≡ 2
paddings column new =
    let one : column.padding.0 ≡ 1 = ap (λ (x : ℕ × ℕ). x.0) new.padding in
    let other : column.padding.1 ≡ 1 = ap (λ (x : ℕ × ℕ). x.1) new.padding in
    omega (arith, one, other)

-- ---- columns with a lower boundary

-- a lower boundary that is fixed at once has room for the content with its paddings
boundary-fixed : (content padding l width : ℕ) → fixed_by_boundary content padding (Some l) ≡ Some width → (content + padding ≤ l) × (width ≡ without_padding padding l)
boundary-fixed content padding l width is = grind arith

-- a lower boundary that is taken is greater than the average
boundary-taken : (b padding l width : ℕ) → lower_of_boundary b padding (Some l) ≡ Some width → (b < l) × (width ≡ without_padding padding l)
boundary-taken b padding l width is = grind arith

-- either takes at most the lower boundary, or two terminal columns
boundary-most : (content padding l two : ℕ) → unwrap_or (fixed_by_boundary content padding (Some l)) (max (without_padding padding l) two) ≤ max (without_padding padding l) two
boundary-most content padding l two = by_test (nat_le (content + padding) l)
  where
    by_test : (b : Bool) → unwrap_or (if b then Some (without_padding padding l) else None) (max (without_padding padding l) two) ≤ max (without_padding padding l) two
    by_test true = omega arith
    by_test false = omega arith

-- a column gets nothing beforehand, or at least two terminal columns, or its content
abbrev GivesTwo : ℕ → ℕ → Type 0
GivesTwo content kept = (kept ≡ 0) ⊎ (min 2 content ≤ kept)

boundary-two : (content kept width : ℕ) → GivesTwo content kept → 0 < boundary_for kept → width ≡ without_padding 2 (boundary_for kept) → min 2 content ≤ width
boundary-two content zero width gives some is = absurd (omega (arith, some))
boundary-two content (suc n) width gives some is =
    let l = boundary-some (suc n) (omega arith) in
    let own : width ≡ max 1 (boundary_for (suc n) - 2) = is in
    ⊎_elim (λ none. absurd (omega (arith, none))) (λ two. omega (arith, own, l, two)) gives

boundary-room : (kept : ℕ) → without_padding 2 (boundary_for kept) ≡ max 1 kept
boundary-room zero = refl
boundary-room (suc n) = let l = boundary-some (suc n) (omega arith) in omega (arith, l)

module _ (table : TableValue) where
  -- a new column that gets this width beforehand
  given_two : (kept needed i : ℕ) (column : ColumnValue) → GivesTwo (column_content_width table i) kept → max (max 1 kept) (min 2 (column_content_width table i)) ≤ needed → IsNewColumn column
      → IsTwo (needs_of table (i, record column { constraint = Some (lower_bound kept) })) needed
  given_two kept needed i column gives within new =
      record {
        padding = two;
        keeps =
            record {
              fixed = λ width is. let own = boundary-fixed content padding l width is in boundary-two content kept width gives (omega (arith, own.0, two)) (own.1 ∙ ap (λ (p : ℕ). without_padding p l) two);
              lower = λ b width is. let own = boundary-taken b padding l width is in boundary-two content kept width gives (omega (arith, own.0)) (own.1 ∙ ap (λ (p : ℕ). without_padding p l) two);
              no_upper = refl;
            };
        most =
            let most : needed_in_all need ≤ max (without_padding padding l) (min 2 content) = boundary-most content padding l (min 2 content) in
            let room : without_padding padding l ≡ max 1 kept = ap (λ (p : ℕ). without_padding p l) two ∙ boundary-room kept in
            omega (arith, most, room, within);
      }
    where
      content : ℕ
      content = column_content_width table i

      padding : ℕ
      padding = column_padding column

      l : ℕ
      l = boundary_for kept

      two : padding ≡ 2
      two = paddings column new

      need : ColumnNeeds
      need = needs_of table (i, record column { constraint = Some (lower_bound kept) })

  given_all : (kept needed : ℕ → ℕ) → ((i : ℕ) → GivesTwo (column_content_width table i) (kept i)) → ((i : ℕ) → max (max 1 (kept i)) (min 2 (column_content_width table i)) ≤ needed i) → (columns : List ColumnValue) (n : ℕ) → AllByRecursion IsNewColumn columns
      → AreTwo (map (needs_of table) (enumerate_from n (leasts_on (map kept (range_with_len n (length columns))) columns))) (map needed (range_with_len n (length columns)))
  given_all kept needed gives within [] n new = record { count = refl; keeps = tt; room = omega arith }
  given_all kept needed gives within (column ∷ columns) n new = two-cons _ _ _ _ (given_two (kept n) (needed n) n column (gives n) (within n) new.0) (given_all kept needed gives within columns (n + 1) new.1)

  -- a column without a constraint
  plain_two : (needed i : ℕ) (column : ColumnValue) → max 1 (min 2 (column_content_width table i)) ≤ needed → IsNewColumn column → IsTwo (needs_of table (i, column)) needed
  plain_two needed i column within new =
      record {
        padding = paddings column new;
        keeps =
            record {
              fixed = λ width is. absurd (cc (no_fixed, is));
              lower = λ b width is. absurd (cc (ap (lower_of_boundary b (column_padding column)) no_lower, is));
              no_upper = ap (upper_boundary table (shown_count table)) new.no_constraint;
            };
        most = omega (arith, most, within);
      }
    where
      need : ColumnNeeds
      need = needs_of table (i, column)

      no_fixed : need.fixed ≡ None
      no_fixed = ap (fixed_by_constraint table (shown_count table) (column_content_width table i) (column_padding column)) new.no_constraint

      no_lower : need.lower ≡ None
      no_lower = ap (lower_boundary table (shown_count table)) new.no_constraint

      most : needed_in_all need ≡ max 1 (min 2 (column_content_width table i))
      most = ap (λ (o : Option ℕ). unwrap_or o (needed_of need)) no_fixed ∙ ap (λ (o : Option ℕ). max (lower_or_one (column_padding column) o) (min 2 (column_content_width table i))) no_lower

  plain_all : (columns : List ColumnValue) (n : ℕ) → AllByRecursion IsNewColumn columns → AreTwo (map (needs_of table) (enumerate_from n columns)) (map two_each (range_with_len n (length columns)))
  plain_all [] n new = record { count = refl; keeps = tt; room = omega arith }
  plain_all (column ∷ columns) n new = two-cons _ _ _ _ (plain_two 2 n column (omega arith) new.0) (plain_all columns (n + 1) new.1)

  -- a column with its own width
  second_two : (field : ℕ) (column : ColumnValue) → 2 ≤ field → IsNewColumn column → IsTwo (needs_of table (1, with_content field column)) (max 1 field)
  second_two field column some new =
      record {
        padding = two;
        keeps =
            record {
              fixed = λ width is. let own : max 1 (field + 2 - column_padding column) ≡ width = cc is in omega (arith, own, two, some);
              lower = λ b width is. absurd (cc is);
              no_upper = refl;
            };
        most = omega (arith, two);
      }
    where
      two : column_padding column ≡ 2
      two = paddings column new

-- ---- tables

-- each column has two terminal columns
abbrev EachHasTwo : TableValue → List ℕ → Type 0
EachHasTwo table widths = (i : ℕ) (column : ColumnValue) → slice_get table.columns i ≡ Some column → HasTwo (needs_of table (i, column)) (slice_index widths i)

at_place : {X Y : Type 0} (R : X → Y → Type 0) (f : ℕ × ColumnValue → X) (g : ℕ × ColumnValue → Y) (n : ℕ) (columns : List ColumnValue) (i : ℕ) (column : ColumnValue)
    → AllZip R (map f (enumerate_from n columns)) (map g (enumerate_from n columns)) → slice_get columns i ≡ Some column → R (f (n + i, column)) (g (n + i, column))
at_place R f g n [] i column each is = absurd (cc is)
at_place R f g n (c ∷ cs) zero column each is =
    let place : n ≡ n + 0 = omega arith in
    let own : c ≡ column = cc is in
    subst (λ (p : ℕ × ColumnValue). R (f p) (g p)) (ap (λ (j : ℕ). (j, c)) place ∙ ap (λ (d : ColumnValue). (n + 0, d)) own) each.0
at_place R f g n (c ∷ cs) (suc i) column each is =
    let place : n + 1 + i ≡ n + suc i = omega arith in
    subst (λ (j : ℕ). R (f (j, column)) (g (j, column))) place (at_place R f g (n + 1) cs i column each.1 is)

-- the columns of a table need at most these contents, and these fit the width
table_two : (table : TableValue) (w : ℕ) (widths contents : List ℕ) → shown_columns table ≡ enumerate_from 0 table.columns → width_kept table.arrangement (Some w) ≡ Some w → table_width table ≡ Some w
    → AreTwo (map (needs_of table) (enumerate_from 0 table.columns)) contents → framed_width table.style contents ≤ w → IsArranged table widths → EachHasTwo table widths
table_two table w widths contents all kept known two fits arranged i column is =
    let found = dynamic_widths table table.arrangement w widths kept refl known arranged in
    let count : length (enumerate_from 0 table.columns) ≡ length contents = sym (length-map (enumerate_from 0 table.columns) (needs_of table)) ∙ two.count in
    let borders : border_count table.style (shown_count table) ≡ border_count table.style (length contents) = ap (border_count table.style) (ap length all ∙ count) in
    let each = dynamic_has_two (room_beside_borders table w) (map (needs_of table) (enumerate_from 0 table.columns)) (is_full_width table.arrangement) (widths_at widths (enumerate_from 0 table.columns)) two.keeps
    (omega (arith, two.room, fits, borders))
    (subst (λ (ps : List (ℕ × ColumnValue)). IsDynamicLayout (room_beside_borders table w) (map (needs_of table) ps) (is_full_width table.arrangement) (widths_at widths ps)) all found) in
    let place : 0 + i ≡ i = omega arith in
    subst (λ (j : ℕ). HasTwo (needs_of table (j, column)) (slice_index widths j)) place
    (at_place HasTwo (needs_of table) (λ (p : ℕ × ColumnValue). slice_index widths p.0) 0 table.columns i column each is)

-- ---- borders

-- borders on both sides, and one between each two columns
borders : (style : TableStyle) (n : ℕ) → border_count style n ≤ 2 + (n - 1)
borders style n = by_tests (draws_left_border style) (draws_right_border style) (draws_vertical_lines style)
  where
    by_tests : (a b c : Bool) → (if a then 1 else 0) + (if b then 1 else 0) + (if c then n - 1 else 0) ≤ 2 + (n - 1)
    by_tests true true true = omega arith
    by_tests true true false = omega arith
    by_tests true false true = omega arith
    by_tests true false false = omega arith
    by_tests false true true = omega arith
    by_tests false true false = omega arith
    by_tests false false true = omega arith
    by_tests false false false = omega arith

-- two terminal columns for each column, with its paddings
twos : (a n : ℕ) → sum_by (λ content. 2 + content) (map two_each (range_with_len a n)) ≡ 4 * n
twos a zero = refl
twos a (suc n) = omega (arith, twos (a + 1) n, sum_by-cons (λ (content : ℕ). 2 + content) 2 (map two_each (range_with_len (a + 1) n)))

-- the same with borders
twos-framed : (style : TableStyle) (a n : ℕ) → framed_width style (map two_each (range_with_len a n)) ≤ 2 + (n - 1) + 4 * n
twos-framed style a n =
    let count : border_count style (length (map two_each (range_with_len a n))) ≡ border_count style n = ap (border_count style) (length-map-range_with_len two_each a n) in
    omega (arith, twos a n, borders style n, count)

inside : (columns : List ColumnValue) (i : ℕ) (column : ColumnValue) → slice_get columns i ≡ Some column → 0 < length columns
inside [] i column is = absurd (cc is)
inside (c ∷ cs) i column is = omega arith

-- ---- the table of rows

-- a wide word takes at least two terminal columns
wide_word-two : (table : TableValue) (o : Option CellValue) → (wide_word table o ≡ 0) ⊎ (2 ≤ wide_word table o)
wide_word-two table None = inl refl
wide_word-two table (Some name) = by_test width (nat_lt 8 width) refl
  where
    width : ℕ
    width = greatest (map word_width (measured_cell table name).text_lines)

    by_test : (n : ℕ) (b : Bool) → nat_lt 8 n ≡ b → ((if b then min 20 n else 0) ≡ 0) ⊎ (2 ≤ (if b then min 20 n else 0))
    by_test n true test = let above = ltb-true 8 n test in inr (omega (arith, above))
    by_test n false test = inl refl

-- the width that a column gets beforehand is 0, or at least two terminal columns, or its content
gives_two : (level : ℕ) (whole : Wanted) (table : TableValue) (i : ℕ) → GivesTwo (column_content_width table i) (reserved_width level whole table i)
gives_two level whole table i =
    by_tests (nat_le content 8) (unwrap_or (slice_get whole.nowrap i) false) (unwrap_or (slice_get whole.nowrap i) false || nat_lt level (min_width whole table i))
  where
    content : ℕ
    content = column_content_width table i

    name : ℕ
    name = kept_of_name whole.words (wide_word table (name_in table i))

    keeps : Bool → Bool → ℕ
    keeps narrow nowrap = if narrow then content else min content (max name (kept_of_fields whole.words nowrap (min content (fields_need nowrap table i))))

    keeps_two : (narrow nowrap : Bool) → GivesTwo content (keeps narrow nowrap)
    keeps_two true nowrap = inr (omega arith)
    keeps_two false true = inr (omega arith)
    keeps_two false false =
        ⊎_elim (λ none. ⊎_elim (λ also. inl (omega (arith, none, also))) (λ two. inr (omega (arith, two))) (word-two whole.words (min content (fields_need false table i)))) (λ two. inr (omega (arith, two))) (name-two whole.words (wide_word table (name_in table i)) (wide_word-two table (name_in table i)))

    by_tests : (narrow nowrap b : Bool) → GivesTwo content (if b then keeps narrow nowrap else 0)
    by_tests narrow nowrap true = keeps_two narrow nowrap
    by_tests narrow nowrap false = inl refl

module _ (base : TableValue) (new : AllByRecursion IsNewColumn base.columns) (w : ℕ) (widths : List ℕ) where
  -- the columns with the widths that they get beforehand, if there is room
  given_has_two : (level : ℕ) (whole : Wanted) → let with : TableValue = with_lower_bounds (by_columns (reserved_width level whole base) base) base in width_kept with.arrangement (Some w) ≡ Some w → table_width with ≡ Some w → least_width whole base ≤ w → IsArranged with widths → EachHasTwo with widths
  given_has_two level whole kept known fits arranged =
      table_two (with_lower_bounds (by_columns (reserved_width level whole base) base) base) w widths (by_columns (width_at_level 8 whole base) base) (all_shown (by_columns (reserved_width level whole base) base) base.columns new) kept known
      (given_all (with_lower_bounds (by_columns (reserved_width level whole base) base) base) (reserved_width level whole base) (width_at_level 8 whole base) (gives_two level whole base) (λ i. omega (arith, given_is_shared level 8 whole base i)) base.columns 0 new) fits arranged

  -- the columns without constraints, if there is room for five terminal columns each
  plain_has_two : width_kept base.arrangement (Some w) ≡ Some w → table_width base ≡ Some w → 1 + 5 * length base.columns ≤ w → IsArranged base widths → EachHasTwo base widths
  plain_has_two kept known fits arranged i column is =
      table_two base w widths (map two_each (range_with_len 0 (length base.columns))) (all_shown [] base.columns new) kept known (plain_all base base.columns 0 new) (omega (arith, twos-framed base.style 0 (length base.columns), fits, inside base.columns i column is)) arranged i column is

-- ---- the table of expanded records

-- the columns of expanded records, with a width for the fields
second_has_two : (base : TableValue) (a b : ColumnValue) (new : AllByRecursion IsNewColumn (a ∷ b ∷ [])) (w field : ℕ) (widths : List ℕ)
    → let with : TableValue = with_field_width field (record base { columns = a ∷ b ∷ [] }) in width_kept with.arrangement (Some w) ≡ Some w → table_width with ≡ Some w → 2 ≤ field
    → border_count base.style 2 + (4 + max 1 (min 2 (column_content_width base 0)) + field) ≤ w → IsArranged with widths → EachHasTwo with widths
second_has_two base a b new w field widths kept known some fits arranged =
    let with : TableValue = with_field_width field (record base { columns = a ∷ b ∷ [] }) in
    let names : ℕ = max 1 (min 2 (column_content_width base 0)) in
    table_two with w widths (names ∷ max 1 field ∷ []) (both_shown with field a b new) kept known
    (two-cons _ _ _ _ (plain_two with names 0 a (omega arith) new.0) (two-cons _ _ _ _ (second_two with field b some new.1.0) (record { count = refl; keeps = tt; room = omega arith })))
    (omega (arith, framed_pair base.style names (max 1 field), fits, some)) arranged

-- ---- tables that are drawn

module _ (w : ℕ) (look : Look) (content : SelectedValue) (wide : look.width ≡ Some w) (has : Bool) where
  wide_look : (separated has look).width ≡ Some w
  wide_look = kept_setting (λ l. l.width) look refl has (Some w) wide

  -- such a table keeps to the width
  drawn_keeps : (expanded : Bool) (table : TableValue) → table ≡ separated_table has (output_table expanded look content) → (width_kept table.arrangement (Some w) ≡ Some w) × (table_width table ≡ Some w)
  drawn_keeps expanded table is = (
    ap (λ (t : TableValue). width_kept t.arrangement (Some w)) looks ∙ ap (λ o. width_kept (arrangement_for o (separated has look).fills_width) (Some w)) wide_look ∙ kept_arrangement w (separated has look).fills_width,
    ap table_width looks ∙ rw wide_look refl,
  )
    where
      looks : table ≡ record (empty_table (separated has look)) { columns = table.columns; header = table.header; rows = table.rows }
      looks = drawn-is (separated has look) Any content table (subst (IsDrawn (separated has look) Any content) (sym is) (any_drawn look content expanded has))

  -- columns are new before they get widths, with lines between rows or without
  new_columns : (expanded : Bool) → AllByRecursion IsNewColumn (separated_table has (plain_table expanded (is_aligned_in look content) look content)).columns
  new_columns expanded =
      subst (λ (t : TableValue). AllByRecursion IsNewColumn t.columns) (restyled look content expanded (is_aligned_in look content) has)
      (recursion_from_All IsNewColumn _ (any_built expanded (is_aligned_in look content) (separated has look) content).columns)

  module _ (table : TableValue) (widths : List ℕ) (arranged : IsArranged table widths) where
    -- the table of rows, if the width has room
    rows_two : table ≡ separated_table has (output_table false look content)
        → (has_room (Some w) (wanted_in look content) (rows_table look (is_aligned_in look content) content) ≡ true) ⊎ (1 + 5 * length table.columns ≤ w) → EachHasTwo table widths
    rows_two made room = by_test (has_room (Some w) wanted rows) refl
      where
        rows : TableValue
        rows = rows_table look (is_aligned_in look content) content

        wanted : Wanted
        wanted = wanted_in look content

        whole : Wanted
        whole = most_wanted w wanted rows

        base : TableValue
        base = separated_table has rows

        level : ℕ
        level = fair_level w whole rows

        keeps : (width_kept table.arrangement (Some w) ≡ Some w) × (table_width table ≡ Some w)
        keeps = drawn_keeps false table made

        own : table ≡ separated_table has (with_min_widths (Some w) wanted rows)
        own = made ∙ ap (λ o. separated_table has (with_min_widths o wanted rows)) wide

        kept_in : (h : Bool) → separated_table h (with_lower_bounds (by_columns (reserved_width level whole rows) rows) rows) ≡ with_lower_bounds (by_columns (reserved_width level whole (separated_table h rows)) (separated_table h rows)) (separated_table h rows)
        kept_in true = refl
        kept_in false = refl

        fits_in : (h : Bool) → least_width whole rows ≤ w → least_width whole (separated_table h rows) ≤ w
        fits_in true fits = fits
        fits_in false fits = still_fits w false rows (by_columns (width_at_level 8 whole rows) rows) fits

        by_test : (b : Bool) → has_room (Some w) wanted rows ≡ b → EachHasTwo table widths
        by_test true test =
            let is : table ≡ with_lower_bounds (by_columns (reserved_width level whole base) base) base = own ∙ ap (separated_table has) (kept-test w wanted rows true test) ∙ kept_in has in
            subst (λ (t : TableValue). EachHasTwo t widths) (sym is)
            (given_has_two base (new_columns false) w widths level whole (subst (λ (t : TableValue). width_kept t.arrangement (Some w) ≡ Some w) is keeps.0) (subst (λ (t : TableValue). table_width t ≡ Some w) is keeps.1)
            (fits_in has (most-least w wanted rows test)) (subst (λ (t : TableValue). IsArranged t widths) is arranged))
        by_test false test =
            let is : table ≡ base = own ∙ ap (separated_table has) (kept-test w wanted rows false test) in
            let five : 1 + 5 * length table.columns ≤ w = ⊎_elim (λ yes. absurd (cc (yes, test))) (λ enough. enough) room in
            subst (λ (t : TableValue). EachHasTwo t widths) (sym is)
            (plain_has_two base (new_columns false) w widths (subst (λ (t : TableValue). width_kept t.arrangement (Some w) ≡ Some w) is keeps.0) (subst (λ (t : TableValue). table_width t ≡ Some w) is keeps.1)
            (subst (λ (t : TableValue). 1 + 5 * length t.columns ≤ w) is five) (subst (λ (t : TableValue). IsArranged t widths) is arranged))

    -- the table of expanded records
    pairs_two : table ≡ separated_table has (output_table true look content) → 1 + 5 * length table.columns ≤ w → EachHasTwo table widths
    pairs_two made five = by_test (may_break room names field) refl own
      where
        pairs : TableValue
        pairs = pairs_table look content

        base : TableValue
        base = separated_table has pairs

        room : ℕ
        room = room_for_two w pairs.style

        names : ℕ
        names = slice_index (max_content_widths pairs) 0

        field : ℕ
        field = field_width (room_beside names room) pairs

        keeps : (width_kept table.arrangement (Some w) ≡ Some w) × (table_width table ≡ Some w)
        keeps = drawn_keeps true table made

        own : table ≡ separated_table has (with_min_field_width (Some w) pairs)
        own = made ∙ ap (λ (o : Option ℕ). separated_table has (with_min_field_width o pairs)) wide

        new : AllByRecursion IsNewColumn base.columns
        new = new_columns true

        plain : table ≡ base → EachHasTwo table widths
        plain is =
            subst (λ (t : TableValue). EachHasTwo t widths) (sym is)
            (plain_has_two base new w widths (subst (λ (t : TableValue). width_kept t.arrangement (Some w) ≡ Some w) is keeps.0) (subst (λ (t : TableValue). table_width t ≡ Some w) is keeps.1)
            (subst (λ (t : TableValue). 1 + 5 * length t.columns ≤ w) is five) (subst (λ (t : TableValue). IsArranged t widths) is arranged))

        columns_by : (h : Bool) → (separated_table h pairs).columns ≡ pairs.columns
        columns_by true = refl
        columns_by false = refl

        content_in : (h : Bool) → column_content_width (separated_table h pairs) 0 ≡ column_content_width pairs 0
        content_in true = refl
        content_in false = refl

        borders_in : (h : Bool) → border_count (separated_table h pairs).style 2 ≤ border_count pairs.style 2
        borders_in true = omega arith
        borders_in false = fewer_borders pairs.style 2

        with_field : (columns : List ColumnValue) → base.columns ≡ columns → table ≡ with_field_width field base → room < min names field + field → EachHasTwo table widths
        with_field [] are is broken = plain (is ∙ ap (λ (cs : List ColumnValue). record base { columns = cs }) (with_second-none base.columns field (omega (arith, ap length are))))
        with_field (a ∷ []) are is broken = plain (is ∙ ap (λ (cs : List ColumnValue). record base { columns = cs }) (with_second-none base.columns field (omega (arith, ap length are))))
        with_field (a ∷ b ∷ []) are is broken =
            let with : table ≡ with_field_width field (record base { columns = a ∷ b ∷ [] }) = is ∙ ap (λ (cs : List ColumnValue). with_field_width field (record base { columns = cs })) are in
            let same : pairs.columns ≡ a ∷ b ∷ [] = sym (columns_by has) ∙ are in
            let first : names ≡ column_content_width pairs 0 = ap (λ (cs : List ColumnValue). slice_index (map (column_content_width pairs) (range_with_len 0 (length cs))) 0) same in
            let two : length table.columns ≡ 2 = ap (λ (t : TableValue). length t.columns) with in
            let below : field ≤ room_beside names room = field_width-within (room_beside names room) pairs in
            let framed = framed_pair pairs.style 0 0 in
            let most = borders pairs.style 2 in
            let some : 2 ≤ field = omega (arith, five, two, framed, most, broken) in
            subst (λ (t : TableValue). EachHasTwo t widths) (sym with)
            (second_has_two base a b (subst (AllByRecursion IsNewColumn) are new) w field widths (subst (λ (t : TableValue). width_kept t.arrangement (Some w) ≡ Some w) with keeps.0) (subst (λ (t : TableValue). table_width t ≡ Some w) with keeps.1) some
            (omega (arith, five, two, framed, most, below, some, first, content_in has, borders_in has)) (subst (λ (t : TableValue). IsArranged t widths) with arranged))
        with_field (a ∷ b ∷ c ∷ more) are is broken = absurd (omega (arith, pairs_have_two look content, ap length (sym (columns_by has) ∙ are)))

        by_test : (b : Bool) → may_break room names field ≡ b → table ≡ separated_table has (if b then with_field_width field pairs else pairs) → EachHasTwo table widths
        by_test true test is = with_field base.columns refl (is ∙ field_separated has field pairs) (ltb-true room (min names field + field) test)
        by_test false test is = plain is

-- ---- what is promised

-- a column of a table has two terminal columns, its content, or at least its longest line at some width, which leaves
-- three terminal columns free
abbrev pub HasTwoAt : TableValue → ℕ → ℕ → Type 0
HasTwoAt table i width = (min 2 (column_content_width table i) ≤ width) ⊎ ((b : ℕ) × (longest_line table i None b + 3 ≤ b) × (max 1 (longest_line table i None b) ≤ width))

-- the width has room for a table: for five terminal columns of each column besides one border, or, for a table of rows,
-- for the needs of its columns
abbrev pub HasRoomFor : ℕ → Look → SelectedValue → TableValue → Type 0
HasRoomFor w look content table =
    (1 + 5 * length table.columns ≤ w) ⊎ ((is_expanded_for look content ≡ false) × (has_room (Some w) (wanted_in look content) (rows_table look (is_aligned_in look content) content) ≡ true))

-- there is a column at each place
column_there : (columns : List ColumnValue) (i : ℕ) → i < length columns → (column : ColumnValue) × (slice_get columns i ≡ Some column)
column_there [] i below = absurd (omega (arith, below))
column_there (c ∷ cs) zero below = (c, refl)
column_there (c ∷ cs) (suc i) below = column_there cs i (omega (arith, below))

-- the column has no delimiter
no_delimiter_at : (columns : List ColumnValue) (i : ℕ) (column : ColumnValue) → AllByRecursion IsPaddedColumn columns → slice_get columns i ≡ Some column → column.delimiter ≡ None
no_delimiter_at [] i column each is = absurd (cc is)
no_delimiter_at (c ∷ cs) zero column each is = let own : c ≡ column = cc is in ap (λ (d : ColumnValue). d.delimiter) (sym own) ∙ each.0.no_delimiter
no_delimiter_at (c ∷ cs) (suc i) column each is = no_delimiter_at cs i column each.1 is

-- if the width has room for the table that is drawn of some records, each column has two terminal columns
pub two_or_content : (w : ℕ) (look : Look) (content : SelectedValue) → look.width ≡ Some w → (table : TableValue) (widths : List ℕ) → IsDrawnTable look content table → HasRoomFor w look content table → IsArranged table widths
    → (i : ℕ) → i < length table.columns → HasTwoAt table i (slice_index widths i)
two_or_content w look content wide table widths (has, made) room arranged i below =
    subst (λ (d : Option ℕ). (min 2 (column_content_width table i) ≤ slice_index widths i) ⊎ ((b : ℕ) × (longest_line table i d b + 3 ≤ b) × (max 1 (longest_line table i d b) ≤ slice_index widths i))) none
    (by_expansion (is_expanded_for look content) refl i there.0 there.1)
  where
    there : (column : ColumnValue) × (slice_get table.columns i ≡ Some column)
    there = column_there table.columns i below

    drawn : IsDrawn (separated has look) Any content table
    drawn = subst (IsDrawn (separated has look) Any content) (sym made) (any_drawn look content (is_expanded_for look content) has)

    none : there.0.delimiter ≡ None
    none = no_delimiter_at drawn.columns i there.0 drawn.padded (ap (λ (t : TableValue). slice_get t.columns i) (sym drawn.is_plain) ∙ there.1)

    by_expansion : (expanded : Bool) → is_expanded_for look content ≡ expanded → EachHasTwo table widths
    by_expansion true is =
        pairs_two w look content wide has table widths arranged (made ∙ ap (λ (e : Bool). separated_table has (output_table e look content)) is)
        (⊎_elim (λ five. five) (λ rows. absurd (cc (is, rows.0))) room)
    by_expansion false is =
        rows_two w look content wide has table widths arranged (made ∙ ap (λ (e : Bool). separated_table has (output_table e look content)) is)
        (⊎_elim (λ five. inr five) (λ rows. inl rows.1) room)

-- ---- by options

-- The width has room for the drawn table by options alone. A table of rows has at most all columns, and one of expanded
-- records at most two.
pub room_by_expansion : (w all : ℕ) (look : Look) (content : SelectedValue) (table : TableValue) → look.is_markdown ≡ false → look.width ≡ Some w → (is_expanded_for look content ≡ false → length table.columns ≤ all) → (is_expanded_for look content ≡ true → length table.columns ≤ 2) → IsDrawnTable look content table
    → 1 + 5 * columns_by look.expansion (not (length content.rows == 0)) all ≤ w → HasRoomFor w look content table
room_by_expansion w all look content table plain wide most two is_drawn five =
    by_look look.expansion (length content.rows == 0) (has_room (Some w) whole rows) (is_expanded_for look content) expanded most two five
  where
    rows : TableValue
    rows = rows_table look (is_aligned_in look content) content

    whole : Wanted
    whole = wanted_in look content

    expanded : is_expanded_for look content ≡ is_expanded_in look.expansion ((length content.rows == 0) || has_room (Some w) whole rows)
    expanded = ap (λ m. not m && is_table_expanded look content) plain ∙ ap (λ o. is_expanded_in look.expansion ((length content.rows == 0) || has_room o whole rows)) wide

    by_look : (x : Expansion) (no_rows has e : Bool) → e ≡ is_expanded_in x (no_rows || has) → (e ≡ false → length table.columns ≤ all) → (e ≡ true → length table.columns ≤ 2) → 1 + 5 * columns_by x (not no_rows) all ≤ w
        → (1 + 5 * length table.columns ≤ w) ⊎ ((e ≡ false) × (has ≡ true))
    by_look Always no_rows has true is most two five = inl (omega (arith, two refl, five))
    by_look Always no_rows has false is most two five = absurd (cc is)
    by_look Never no_rows has true is most two five = absurd (cc is)
    by_look Never no_rows has false is most two five = inl (omega (arith, most refl, five))
    by_look Auto true has true is most two five = absurd (cc is)
    by_look Auto true has false is most two five = inl (omega (arith, most refl, five))
    by_look Auto false has true is most two five = inl (omega (arith, two refl, five))
    by_look Auto false true false is most two five = inr (refl, refl)
    by_look Auto false false false is most two five = absurd (cc is)
