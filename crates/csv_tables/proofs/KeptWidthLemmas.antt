-- Columns of numbers and dates are drawn at least as wide as their fields.
use Rattle.std.proofs.Common.{◌≡◌, ◌==◌, ◌≤◌, ◌<◌, ◌&&◌, ◌||◌, ℕ, zero, suc, ◌+◌, ◌-◌, Bool, true, false, not, cond, List, [], ◌∷◌, ◌++◌, Option, Some, None, find, length, map, max, min, nat_le, nat_lt, option_map, slice_index, unwrap_or, refl, sym, ap, ◌∙◌, subst, arith, eq-zero-or-pos, ⊎_elim}
use Rattle.std.specs.List.{AllByRecursion, AllZip, slice_index_or, cons_option, enumerate_from, range_with_len, slice_get}
use Rattle.std.specs.Prelude.{if◌then◌else◌}
use Rattle.std.proofs.lemmas.Bool.{eq-eqb, ne_eqb}
use Rattle.std.proofs.lemmas.List.FromFn.{get_or-map-range_with_len, length-map-range_with_len}
use Rattle.std.proofs.lemmas.List.Elements.{recursion_from_All}
use Rattle.comfy_parts.proofs.CallerLemmas.{index-places}
use Rattle.comfy_parts.specs.CellValue.{ColumnValue, column_padding}
use Rattle.comfy_table.proofs.BudgetLemmas.{length-contents_after}
use Rattle.comfy_table.proofs.BuiltTableLemmas.{IsNewColumn}
use Rattle.comfy_table.proofs.DrawnWidthLemmas.{dynamic_widths}
use Rattle.comfy_table.specs.Arrangement.{IsArranged, is_full_width, room_beside_borders, width_kept, widths_at}
use Rattle.comfy_table.specs.Dynamic.{IsDynamicLayout, Claim, Steps, added, all_claims, contents_after, even_columns, fixed_claims, room_left, claim_at, widened}
use Rattle.comfy_table.specs.TableValue.{TableValue, column_content_width, table_width}
use Rattle.comfy_table.specs.Widths.{ColumnNeeds, even_spread, fixed_by_boundary, needs_of, part_of}
use Rattle.csv_tables.proofs.BoundaryLemmas.{KeepsBoundary, dynamic_keeps_boundaries}
use Rattle.csv_tables.proofs.FieldNeedLemmas.{fields-longest, fields-within}
use Rattle.csv_tables.proofs.LimitLemmas.{given_within_room}
use Rattle.csv_tables.proofs.LineLemmas.{Any, any_built, any_drawn, kept_setting}
use Rattle.csv_tables.proofs.SeparatorLemmas.{restyled, separated}
use Rattle.csv_tables.proofs.NoWrapLemmas.{boundary-some, kept-test, most_nowrap}
use Rattle.csv_tables.proofs.WholeColumnLemmas.{all_shown, leasts-length, leasts_on}
use Rattle.csv_tables.proofs.WholeTableLemmas.{drawn-is, most-least}
use Rattle.csv_tables.specs.Drawn.{SelectedValue, arrangement_for, empty_table, is_expanded_for, is_expanded_in, is_table_expanded, output_table, rows_table, separated_table, nowrap_in, is_aligned_in, wanted_in}
use Rattle.csv_tables.specs.Laws.{IsDrawnTable}
use Rattle.csv_tables.specs.NoWrap.{Wanted, boundary_for, by_columns, fields_need, kept_of_fields, kept_of_name, lower_bound, most_wanted, reserved_width, has_room, shared_width, with_min_widths, fair_level, name_in, wide_word, with_lower_bounds}
use Rattle.csv_tables.specs.declared.options.ColumnPlan.{ColumnPlan}
use Rattle.csv_tables.specs.declared.options.Expansion.TheVariants.{Auto}
use Rattle.csv_tables.specs.declared.options.Look.{Look}

-- the column at a place has this fixed width
abbrev pub IsFixedAt : List ColumnNeeds → ℕ → ℕ → Type 0
IsFixedAt columns k x = (need : ColumnNeeds) × (slice_get columns k ≡ Some need) × (need.fixed ≡ Some x)

-- a column of fixed width has this width as its claim
fixed_claim : (columns : List ColumnNeeds) (n k x : ℕ) (rest : List Claim) → IsFixedAt columns k x → claim_at (fixed_claims (enumerate_from n columns) ++ rest) (n + k) ≡ x
fixed_claim [] n k x rest at = absurd (cc at.1)
fixed_claim (c ∷ cs) n zero x rest at =
    let own : c ≡ at.0 = cc at.1 in
    let fixed : c.fixed ≡ Some x = ap (λ (need : ColumnNeeds). need.fixed) own ∙ at.2 in
    let others = fixed_claims (enumerate_from (n + 1) cs) in
    let claims : fixed_claims (enumerate_from n (c ∷ cs)) ≡ (n, x) ∷ others = ap (λ (o : Option ℕ). cons_option (option_map (λ (width : ℕ). (n, width)) o) others) fixed in
    ap (λ (ts : List Claim). claim_at (ts ++ rest) (n + 0)) claims
    ∙ ap (λ (b : Bool). unwrap_or (option_map (λ (s : Claim). s.1) (cond b (Some (n, x)) (find (λ (s : Claim). s.0 == n + 0) (others ++ rest)))) 0) (eq-eqb n (n + 0) (omega arith))
fixed_claim (c ∷ cs) n (suc k) x rest at = by_fixed c.fixed refl (fixed_claim cs (n + 1) k x rest at)
  where
    others : List Claim
    others = fixed_claims (enumerate_from (n + 1) cs)

    place : n + suc k ≡ (n + 1) + k
    place = omega arith

    by_fixed : (o : Option ℕ) → c.fixed ≡ o → claim_at (others ++ rest) ((n + 1) + k) ≡ x → claim_at (fixed_claims (enumerate_from n (c ∷ cs)) ++ rest) (n + suc k) ≡ x
    by_fixed None is more =
        let claims : fixed_claims (enumerate_from n (c ∷ cs)) ≡ others = ap (λ (o : Option ℕ). cons_option (option_map (λ (width : ℕ). (n, width)) o) others) is in
        ap (λ (ts : List Claim). claim_at (ts ++ rest) (n + suc k)) claims ∙ ap (claim_at (others ++ rest)) place ∙ more
    by_fixed (Some y) is more =
        let claims : fixed_claims (enumerate_from n (c ∷ cs)) ≡ (n, y) ∷ others = ap (λ (o : Option ℕ). cons_option (option_map (λ (width : ℕ). (n, width)) o) others) is in
        ap (λ (ts : List Claim). claim_at (ts ++ rest) (n + suc k)) claims
        ∙ ap (λ (b : Bool). unwrap_or (option_map (λ (s : Claim). s.1) (cond b (Some (n, y)) (find (λ (s : Claim). s.0 == n + suc k) (others ++ rest)))) 0) (ne_eqb n (n + suc k) (λ same. absurd (omega (arith, same))))
        ∙ ap (claim_at (others ++ rest)) place ∙ more

-- added widths make no width smaller
pub le-added : (xs ys : List ℕ) (k : ℕ) → length xs ≤ length ys → slice_index xs k ≤ slice_index (added xs ys) k
le-added [] ys k long = omega arith
le-added (x ∷ xs) [] k long = absurd (omega (arith, long))
le-added (x ∷ xs) (y ∷ ys) zero long = omega arith
le-added (x ∷ xs) (y ∷ ys) (suc k) long = le-added xs ys k (omega (arith, long))

inside : (columns : List ColumnNeeds) (k : ℕ) (need : ColumnNeeds) → slice_get columns k ≡ Some need → k < length columns
inside [] k need at = absurd (cc at)
inside (c ∷ cs) zero need at = omega arith
inside (c ∷ cs) (suc k) need at = let more = inside cs k need at in omega (arith, more)

-- a fixed width is drawn at least as wide
pub fixed_is_kept : (room : ℕ) (columns : List ColumnNeeds) (full : Bool) (steps : Steps) (k x : ℕ) → IsFixedAt columns k x → x ≤ slice_index (widened room columns full steps) k
fixed_is_kept room columns full steps k x at = by_test (full && (length (even_columns room columns steps) == 0))
  where
    claim : claim_at (all_claims room columns steps) (0 + k) ≡ x
    claim = fixed_claim columns 0 k x _ at

    content : slice_index (contents_after room columns steps) k ≡ x
    content = index-places (claim_at (all_claims room columns steps)) 0 columns k 0 (inside columns k at.0 at.1) ∙ claim

    by_test : (b : Bool) → x ≤ slice_index (if b then added (contents_after room columns steps) (even_spread (room_left room columns steps) (length columns)) else contents_after room columns steps) k
    by_test false = omega (arith, content)
    by_test true =
        let long = length-map-range_with_len (part_of (room_left room columns steps) (length columns)) 0 (length columns) in
        let more = le-added (contents_after room columns steps) (even_spread (room_left room columns steps) (length columns)) k (omega (arith, long, length-contents_after room columns steps)) in
        omega (arith, content, more)

-- ---- columns of a table

-- the needs of a column that gets this content width beforehand
abbrev given_needs : TableValue → ℕ → ℕ → ColumnValue → ColumnNeeds
given_needs table i kept column = needs_of table (i, record column { constraint = Some (lower_bound kept) })

-- the width of a column with a lower boundary has room for a text that fits the boundary
width_at : (table : TableValue) (kept : ℕ → ℕ) (widths : List ℕ) (columns : List ColumnValue) (n i : ℕ) → AllByRecursion IsNewColumn columns → i < length columns
    → AllZip KeepsBoundary (map (needs_of table) (enumerate_from n (leasts_on (map kept (range_with_len n (length columns))) columns))) (map (λ (p : ℕ × ColumnValue). slice_index widths p.0) (enumerate_from n (leasts_on (map kept (range_with_len n (length columns))) columns)))
    → (column : ColumnValue) × IsNewColumn column × KeepsBoundary (given_needs table (n + i) (kept (n + i)) column) (slice_index widths (n + i))
width_at table kept widths [] n i new below each = absurd (omega (arith, below))
width_at table kept widths (c ∷ cs) n zero new below each =
    let place : n ≡ n + 0 = omega arith in
    (c, new.0, subst (λ (j : ℕ). KeepsBoundary (given_needs table j (kept j) c) (slice_index widths j)) place each.0)
width_at table kept widths (c ∷ cs) n (suc i) new below each =
    let place : (n + 1) + i ≡ n + suc i = omega arith in
    let own = width_at table kept widths cs (n + 1) i new.1 (omega (arith, below)) each.1 in
    (own.0, own.1, subst (λ (j : ℕ). KeepsBoundary (given_needs table j (kept j) own.0) (slice_index widths j)) place own.2)

-- a width that a lower boundary fixes is the boundary without padding
fixed-boundary : (content padding kept x : ℕ) → padding ≡ 2 → 0 < kept → fixed_by_boundary content padding (Some (boundary_for kept)) ≡ Some x → kept ≤ x
fixed-boundary content padding kept x two some is =
    let l = boundary-some kept some in
    let own : (if nat_le (content + padding) (boundary_for kept) then Some (max 1 (boundary_for kept - padding)) else None) ≡ Some x = is in
    grind (arith, own, l, two)

module _ (table : TableValue) (new : AllByRecursion IsNewColumn table.columns) (whole : Wanted) (level w : ℕ) (widths : List ℕ) (i : ℕ) where
  abbrev kept_on : List ℕ
  kept_on = by_columns (reserved_width level whole table) table

  abbrev with : TableValue
  with = with_lower_bounds kept_on table

  abbrev fields : ℕ
  fields = fields_need true table i

  -- a column of numbers and dates keeps at least the width of its widest field
  keeps_fields : slice_get whole.nowrap i ≡ Some true → fields ≤ reserved_width level whole table i
  keeps_fields is =
      let narrow = fields-within table i in
      let own : reserved_width level whole table i ≡ (if nat_le content 8 then content else min content (max (kept_of_name whole.words (wide_word table (name_in table i))) (max 8 (min content fields)))) =
      ap (λ (o : Option Bool). if unwrap_or o false || nat_lt level (keeps o) then keeps o else 0) is in
      by_test (nat_le content 8) own narrow
    where
      content : ℕ
      content = column_content_width table i

      keeps : Option Bool → ℕ
      keeps o = if nat_le content 8 then content else min content (max (kept_of_name whole.words (wide_word table (name_in table i))) (kept_of_fields whole.words (unwrap_or o false) (min content (fields_need (unwrap_or o false) table i))))

      by_test : (b : Bool) → reserved_width level whole table i ≡ (if b then content else min content (max (kept_of_name whole.words (wide_word table (name_in table i))) (max 8 (min content fields)))) → fields ≤ content → fields ≤ reserved_width level whole table i
      by_test true own narrow = omega (arith, own, narrow)
      by_test false own narrow = omega (arith, own, narrow)

  some_is_kept : width_kept with.arrangement (Some w) ≡ Some w → table_width with ≡ Some w → slice_get whole.nowrap i ≡ Some true → i < length table.columns → IsArranged with widths → fields < 65535 → 0 < fields → fields ≤ slice_index widths i
  some_is_kept kept known is below arranged small some =
      let columns = leasts_on kept_on table.columns in
      let all = all_shown kept_on table.columns new in
      let found = dynamic_widths with with.arrangement w widths kept refl known arranged in
      let layout : IsDynamicLayout (room_beside_borders with w) (map (needs_of with) (enumerate_from 0 columns)) (is_full_width with.arrangement) (widths_at widths (enumerate_from 0 columns)) =
      subst (λ (ps : List (ℕ × ColumnValue)). IsDynamicLayout (room_beside_borders with w) (map (needs_of with) ps) (is_full_width with.arrangement) (widths_at widths ps)) all found in
      let each = dynamic_keeps_boundaries (room_beside_borders with w) (map (needs_of with) (enumerate_from 0 columns)) (is_full_width with.arrangement) (widths_at widths (enumerate_from 0 columns)) layout in
      let own = width_at with (reserved_width level whole table) widths table.columns 0 i new below each in
      let place : 0 + i ≡ i = omega arith in
      let given : fields ≤ reserved_width level whole table i = keeps_fields is in
      let one : own.0.padding.0 ≡ 1 = ap (λ (x : ℕ × ℕ). x.0) own.1.padding in
      let other : own.0.padding.1 ≡ 1 = ap (λ (x : ℕ × ℕ). x.1) own.1.padding in
      let two : column_padding own.0 ≡ 2 = omega (arith, one, other) in
      let keeps : KeepsBoundary (given_needs with i (reserved_width level whole table i) own.0) (slice_index widths i) = subst (λ (j : ℕ). KeepsBoundary (given_needs with j (reserved_width level whole table j) own.0) (slice_index widths j)) place own.2 in
      let l = boundary-some (reserved_width level whole table i) (omega (arith, given, some)) in
      keeps fields (boundary_for (reserved_width level whole table i)) refl refl
      (λ x fixed. let wide = fixed-boundary (column_content_width with i) (column_padding own.0) (reserved_width level whole table i) x two (omega (arith, given, some)) fixed in omega (arith, given, wide))
      (omega (arith, given, l, two)) (fields-within table i) (λ n enough. fields-longest table i own.0.delimiter n small enough)

  -- a column of numbers and dates is at least as wide as its fields, also without content
  pub fields_are_kept : width_kept with.arrangement (Some w) ≡ Some w → table_width with ≡ Some w → slice_get whole.nowrap i ≡ Some true → i < length table.columns → IsArranged with widths → fields < 65535 → fields ≤ slice_index widths i
  fields_are_kept kept known is below arranged small = ⊎_elim (λ none. omega (arith, none)) (λ some. some_is_kept kept known is below arranged small some) (eq-zero-or-pos fields)

pub kept_arrangement : (w : ℕ) (fills : Bool) → width_kept (arrangement_for (Some w) fills) (Some w) ≡ Some w
kept_arrangement w true = refl
kept_arrangement w false = refl

-- ---- columns of numbers and dates

-- each column of numbers and dates in the drawn table is at least as wide as its fields
abbrev pub NoWrapColumnsAreWhole : Look → SelectedValue → Type 0
NoWrapColumnsAreWhole look content =
    (table : TableValue) (widths : List ℕ) (i : ℕ) → IsDrawnTable look content table
    → IsArranged table widths → i < length table.columns
    → slice_get (nowrap_in content) i ≡ Some true
    → fields_need true table i ≤ slice_index widths i

-- columns of numbers and dates are at least as wide as their fields if the width has room for them
room_keeps_whole : (w : ℕ) (look : Look) (content : SelectedValue) → w ≤ 65535 → look.width ≡ Some w → has_room (Some w) (wanted_in look content) (rows_table look (is_aligned_in look content) content) ≡ true → is_expanded_for look content ≡ false → NoWrapColumnsAreWhole look content
room_keeps_whole w look content small wide room none table widths i is_drawn arranged below is = subst (λ (t : TableValue). fields_need true t i ≤ slice_index widths i) (sym same) kept
  where
    has : Bool
    has = is_drawn.0

    rows : TableValue
    rows = rows_table look (is_aligned_in look content) content

    wanted : Wanted
    wanted = wanted_in look content

    whole : Wanted
    whole = most_wanted w wanted rows

    drawn : TableValue
    drawn = separated_table has (output_table false look content)

    own : table ≡ drawn
    own = is_drawn.1 ∙ ap (λ (e : Bool). separated_table has (output_table e look content)) none

    level : ℕ
    level = fair_level w whole rows

    kept_on : TableValue → List ℕ
    kept_on t = by_columns (reserved_width level whole t) t

    kept_in : (h : Bool) → separated_table h (with_lower_bounds (kept_on rows) rows) ≡ with_lower_bounds (kept_on (separated_table h rows)) (separated_table h rows)
    kept_in true = refl
    kept_in false = refl

    same : table ≡ with_lower_bounds (kept_on (separated_table has rows)) (separated_table has rows)
    same = own ∙ ap (separated_table has) (ap (λ o. with_min_widths o wanted rows) wide ∙ kept-test w wanted rows true room) ∙ kept_in has

    looks : drawn ≡ record (empty_table (separated has look)) { columns = drawn.columns; header = drawn.header; rows = drawn.rows }
    looks = drawn-is (separated has look) Any content drawn (any_drawn look content false has)

    wide_look : (separated has look).width ≡ Some w
    wide_look = kept_setting (λ l. l.width) look refl has (Some w) wide

    keeps : width_kept drawn.arrangement (Some w) ≡ Some w
    keeps = ap (λ (t : TableValue). width_kept t.arrangement (Some w)) looks ∙ ap (λ o. width_kept (arrangement_for o (separated has look).fills_width) (Some w)) wide_look ∙ kept_arrangement w (separated has look).fills_width

    known : table_width drawn ≡ Some w
    known = ap table_width looks ∙ rw wide_look refl

    new : AllByRecursion IsNewColumn (separated_table has rows).columns
    new = subst (λ (t : TableValue). AllByRecursion IsNewColumn t.columns) (restyled look content false (is_aligned_in look content) has) (recursion_from_All IsNewColumn _ (any_built false (is_aligned_in look content) (separated has look) content).columns)

    with : drawn ≡ with_lower_bounds (kept_on (separated_table has rows)) (separated_table has rows)
    with = sym own ∙ same

    count : length table.columns ≡ length (separated_table has rows).columns
    count = ap (λ (t : TableValue). length t.columns) same ∙ leasts-length (kept_on (separated_table has rows)) (separated_table has rows).columns

    nowrap : slice_get whole.nowrap i ≡ Some true
    nowrap = ap (λ (own : List Bool). slice_get own i) (most_nowrap (λ (l : ℕ) (o : Wanted). nat_le (shared_width l o rows) w) w wanted) ∙ is

    -- no field is too wide to count, since the width has room for it
    few : fields_need true (separated_table has rows) i < 65535
    few =
        let fits = most-least w wanted rows room in
        let all = given_within_room level whole rows (omega (arith, fits, small)) in
        let long = length-map-range_with_len (reserved_width level whole rows) 0 (length rows.columns) in
        let inside : i < length rows.columns = omega (arith, below, count, columns_kept has) in
        let at : slice_index_or (by_columns (reserved_width level whole rows) rows) i 0 ≡ reserved_width level whole rows i = get_or-map-range_with_len (reserved_width level whole rows) 0 (length rows.columns) i i 0 inside (omega arith) in
        let within = all i 0 (omega (arith, long, inside)) in
        let keeps = keeps_fields rows new_rows whole level w widths i nowrap in
        omega (arith, at, within, keeps, fields_same has)
      where
        columns_kept : (h : Bool) → length (separated_table h rows).columns ≡ length rows.columns
        columns_kept true = refl
        columns_kept false = refl

        fields_same : (h : Bool) → fields_need true (separated_table h rows) i ≡ fields_need true rows i
        fields_same true = refl
        fields_same false = refl

        new_rows : AllByRecursion IsNewColumn rows.columns
        new_rows = recursion_from_All IsNewColumn _ (any_built false (is_aligned_in look content) look content).columns

    kept : fields_need true (separated_table has rows) i ≤ slice_index widths i
    kept =
        fields_are_kept (separated_table has rows) new whole level w widths i (subst (λ (t : TableValue). width_kept t.arrangement (Some w) ≡ Some w) with keeps) (subst (λ (t : TableValue). table_width t ≡ Some w) with known) nowrap
        (omega (arith, below, count)) (subst (λ (t : TableValue). IsArranged t widths) same arranged) few

held : (b : Bool) → not b ≡ false → b ≡ true
held true is = refl
held false is = absurd (cc is)

-- without records, no column counts as one of numbers and dates alone
none_in : (is_numbered : Bool) (columns : List ColumnPlan) (i : ℕ) → slice_get ((if is_numbered then false ∷ [] else []) ++ map (λ (column : ColumnPlan). false && column.is_nowrap) columns) i ≡ Some true → ⊥
none_in true columns zero is = cc is
none_in true columns (suc i) is = none_in false columns i is
none_in false [] i is = cc is
none_in false (column ∷ columns) zero is = cc is
none_in false (column ∷ columns) (suc i) is = none_in false columns i is

none_without : (look : Look) (content : SelectedValue) → (length content.rows == 0) ≡ true → NoWrapColumnsAreWhole look content
none_without look content empty table widths i is_drawn arranged below is =
    absurd (none_in content.is_numbered content.columns i
    (subst (λ (b : Bool). slice_get ((if content.is_numbered then not b ∷ [] else []) ++ map (λ (column : ColumnPlan). not b && column.is_nowrap) content.columns) i ≡ Some true) empty is))

-- with `auto`, columns of numbers and dates are at least as wide as their fields if records aren't
-- expanded
pub auto_keeps_whole : (w : ℕ) (look : Look) (content : SelectedValue) → w ≤ 65535 → look.is_markdown ≡ false → look.width ≡ Some w → look.expansion ≡ Auto → is_expanded_for look content ≡ false → NoWrapColumnsAreWhole look content
auto_keeps_whole w look content small table wide auto none = by_rows (length content.rows == 0) refl
  where
    rows : TableValue
    rows = rows_table look (is_aligned_in look content) content

    whole : Wanted
    whole = wanted_in look content

    test : is_expanded_for look content ≡ not ((length content.rows == 0) || has_room (Some w) whole rows)
    test = ap (λ m. not m && is_table_expanded look content) table ∙ ap (λ e. is_expanded_in e ((length content.rows == 0) || has_room look.width whole rows)) auto ∙ ap (λ o. not ((length content.rows == 0) || has_room o whole rows)) wide

    by_rows : (b : Bool) → (length content.rows == 0) ≡ b → NoWrapColumnsAreWhole look content
    by_rows true empty = none_without look content empty
    by_rows false some = room_keeps_whole w look content small wide (held (has_room (Some w) whole rows) (ap (λ b. not (b || has_room (Some w) whole rows)) (sym some) ∙ sym test ∙ none)) none
