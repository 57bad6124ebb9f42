-- Tables that are drawn, some of whose columns are as wide as their contents if there is room.
use Rattle.std.proofs.Common.{◌≡◌, ◌≤◌, ◌<◌, ◌⊎◌, ◌||◌, ℕ, ◌+◌, ◌-◌, inl, inr, Bool, true, false, max, min, not, List, [], ◌∷◌, Option, Some, None, is_some, length, map, nat_le, sum_by, refl, sym, ap, ◌∙◌, subst, arith}
use Rattle.std.specs.Prelude.{if◌then◌else◌, slice_index}
use Rattle.std.specs.List.{All, AllByRecursion}
use Rattle.std.proofs.lemmas.Bool.{leb-true, ltb-true}
use Rattle.std.proofs.lemmas.List.{length-map}
use Rattle.std.proofs.lemmas.List.Elements.{All-filter, All-from_recursion, All-weaker, recursion_from_All}
use Rattle.comfy_parts.proofs.CallerLemmas.{every-places}
use Rattle.comfy_parts.specs.CellValue.{ColumnValue, RowValue, is_hidden_column}
use Rattle.comfy_parts.specs.declared.style.table_style.TableStyle.{TableStyle}
use Rattle.comfy_table.proofs.BuiltTableLemmas.{IsNewColumn, measured_known, rows_known, unconstrained}
use Rattle.comfy_table.proofs.DrawnWidthLemmas.{paddings_of_needs}
use Rattle.comfy_table.proofs.MeasuredLemmas.{row_measured}
use Rattle.comfy_table.specs.Arrangement.{room_beside_borders}
use Rattle.comfy_table.specs.Dynamic.{Steps, IsArrangedBy}
use Rattle.comfy_table.specs.Frame.{border_count}
use Rattle.comfy_table.specs.Laws.{NoConstraints, least_total}
use Rattle.comfy_table.specs.TableLaws.{wider_total}
use Rattle.comfy_table.specs.TableValue.{TableValue, max_content_widths, measured_rows, shown_columns}
use Rattle.comfy_table.specs.Widths.{ColumnNeeds, needs_of, shown_count, shown_needs}
use Rattle.csv_tables.proofs.BuiltLemmas.{Built, plain_table}
use Rattle.csv_tables.proofs.LeastLemmas.{least_of, steps_within}
use Rattle.csv_tables.proofs.SeparatorLemmas.{restyled, separated}
use Rattle.csv_tables.proofs.NoWrapLemmas.{framed_pair, given_is_shared, most_fit}
use Rattle.csv_tables.proofs.WholeColumnLemmas.{AreNeeds, IsPaddedColumn, all_shown, field_width-within, leasts_on, needs, padded_columns, padded_second, pairs_have_two, second_needs}
use Rattle.csv_tables.specs.Drawn.{SelectedValue, condensed_style, empty_table, is_aligned_in, output_table, pairs_table, rows_table, separated_table, wanted_in}
use Rattle.csv_tables.specs.NoWrap.{Wanted, by_columns, field_width, framed_width, reserved_width, given_in, has_room, with_min_widths, with_min_field_width, least_width, fair_level, most_wanted, shared_width, may_break, needed_by_names, room_beside, room_for_two, width_at_level, with_field_width, with_lower_bounds, with_second}
use Rattle.csv_tables.specs.declared.options.Look.{Look}

-- ---- room

-- the width has room for the fixed widths and the lower boundaries of a table, and for one terminal column of each
-- other column
pub record HasRoom (w : ℕ) (table : TableValue) : Type 0 where
  pub contents : List ℕ
  pub needs : AreNeeds (shown_needs table) contents
  pub fits : framed_width table.style contents ≤ w

module _ (w : ℕ) (table : TableValue) (room : HasRoom w table) where
  count : shown_count table ≡ length room.contents
  count = sym (length-map (shown_columns table) (needs_of table)) ∙ room.needs.count

  framed : border_count table.style (shown_count table) + (sum_by (λ (column : ColumnNeeds). column.padding) (shown_needs table) + sum_by least_of (shown_needs table)) ≤ w
  framed = rw count (omega (arith, room.fits, room.needs.room))

  -- the width has room for one terminal column of each column
  pub least-fits : least_total table ≤ w
  least-fits = omega (arith, framed, room.needs.least, paddings_of_needs table (shown_columns table), length-map (shown_columns table) (needs_of table))

  -- no column takes more than it needs
  pub wider-fits : (full : Bool) (steps : Steps) (widths : List ℕ) → IsArrangedBy (room_beside_borders table w) (shown_needs table) full steps widths → wider_total table steps ≤ w
  wider-fits full steps widths arranged = omega (arith, framed, steps_within (room_beside_borders table w) (shown_needs table) full steps widths arranged)

-- new columns need at most the needed widths, if they keep at most these
pub room_for : (w : ℕ) (kept needed : ℕ → ℕ) (table : TableValue) → ((i : ℕ) → max 1 (kept i) ≤ needed i) → AllByRecursion IsNewColumn table.columns → framed_width table.style (by_columns needed table) ≤ w → HasRoom w (with_lower_bounds (by_columns kept table) table)
room_for w kept needed table within new fits =
    record {
      contents = by_columns needed table;
      needs = subst (λ (ps : List (ℕ × ColumnValue)). AreNeeds (map (needs_of (with_lower_bounds (by_columns kept table) table)) ps) (by_columns needed table)) (sym (all_shown (by_columns kept table) table.columns new)) (needs (with_lower_bounds (by_columns kept table) table) kept needed within table.columns 0 new);
      fits = fits;
    }

-- ---- lines between rows

-- a border is drawn if one of six lines has it
fewer : (x : ℕ) (a b c d e f : Bool) → (if a || (b || (c || (d || (false || (f || false))))) then x else 0) ≤ (if a || (b || (c || (d || (e || (f || false))))) then x else 0)
fewer x true b c d e f = omega arith
fewer x false true c d e f = omega arith
fewer x false false true d e f = omega arith
fewer x false false false true e f = omega arith
fewer x false false false false true true = omega arith
fewer x false false false false true false = omega arith
fewer x false false false false false f = omega arith

-- without lines between rows there are no more borders
pub fewer_borders : (style : TableStyle) (n : ℕ) → border_count (condensed_style style) n ≤ border_count style n
fewer_borders style n =
    let left = fewer 1 (is_some style.top_border.left) (is_some style.header_lines.left) (is_some style.header_separator.left) (is_some style.content_lines.left) (is_some style.row_separator.left) (is_some style.bottom_border.left) in
    let right = fewer 1 (is_some style.top_border.right) (is_some style.header_lines.right) (is_some style.header_separator.right) (is_some style.content_lines.right) (is_some style.row_separator.right) (is_some style.bottom_border.right) in
    let between = fewer (n - 1) (is_some style.top_border.junction) (is_some style.header_lines.junction) (is_some style.header_separator.junction) (is_some style.content_lines.junction) (is_some style.row_separator.junction) (is_some style.bottom_border.junction) in
    omega (arith, left, right, between)

pub still_fits : (w : ℕ) (has : Bool) (table : TableValue) (needed : List ℕ) → framed_width table.style needed ≤ w → framed_width (separated_table has table).style needed ≤ w
still_fits w true table needed fits = fits
still_fits w false table needed fits = omega (arith, fits, fewer_borders table.style (length needed))

pub kept_separated : (has : Bool) (kept : List ℕ) (table : TableValue) → separated_table has (with_lower_bounds kept table) ≡ with_lower_bounds kept (separated_table has table)
kept_separated true kept table = refl
kept_separated false kept table = refl

-- a table that fits at its least width has room for the widths that columns get beforehand, also without lines between
-- rows
pub room_for_given : (w level : ℕ) (has : Bool) (whole : Wanted) (table : TableValue) → AllByRecursion IsNewColumn table.columns → least_width whole table ≤ w → HasRoom w (separated_table has (with_lower_bounds (by_columns (reserved_width level whole table) table) table))
room_for_given w level has whole table new fits = by_lines has
  where
    by_lines : (h : Bool) → HasRoom w (separated_table h (with_lower_bounds (by_columns (reserved_width level whole table) table) table))
    by_lines true = room_for w (reserved_width level whole table) (width_at_level 8 whole table) table (given_is_shared level 8 whole table) new fits
    by_lines false = room_for w (reserved_width level whole table) (width_at_level 8 whole table) (separated_table false table) (given_is_shared level 8 whole table) new (still_fits w false table (by_columns (width_at_level 8 whole table) table) fits)

-- the words that are kept whole have room
pub most-least : (w : ℕ) (whole : Wanted) (table : TableValue) → has_room (Some w) whole table ≡ true → least_width (most_wanted w whole table) table ≤ w
most-least w whole table room = leb-true _ w (most_fit (λ (level : ℕ) (own : Wanted). nat_le (shared_width level own table) w) w whole room)

pub field_separated : (has : Bool) (field : ℕ) (table : TableValue) → separated_table has (with_field_width field table) ≡ with_field_width field (separated_table has table)
field_separated true field table = refl
field_separated false field table = refl

-- names, and a field that may be broken beside them, fit the width, also without lines between rows
pair_still_fits : (w : ℕ) (has : Bool) (table : TableValue) (names field : ℕ) → field ≤ room_beside names (room_for_two w table.style) → room_for_two w table.style < min names field + field
    → framed_width (separated_table has table).style (needed_by_names names ∷ max 1 field ∷ []) ≤ w
pair_still_fits w has table names field below broken = by_lines has
  where
    own : framed_width table.style (needed_by_names names ∷ max 1 field ∷ []) ≤ w
    own = let framed = framed_pair table.style (needed_by_names names) (max 1 field) in let both = framed_pair table.style 0 0 in omega (arith, below, broken, framed, both)

    by_lines : (h : Bool) → framed_width (separated_table h table).style (needed_by_names names ∷ max 1 field ∷ []) ≤ w
    by_lines true = own
    by_lines false = omega (arith, own, fewer_borders table.style 2)

-- A table of names and fields needs at most the width of the fields and the width that the names need.
second_room : (w field names : ℕ) (table : TableValue) → AllByRecursion IsNewColumn table.columns → length table.columns ≤ 2 → framed_width table.style (needed_by_names names ∷ max 1 field ∷ []) ≤ w
    → (with_second field table.columns ≡ table.columns) ⊎ HasRoom w (with_field_width field table)
second_room w field names table new as_many fits = by_columns table.columns refl new as_many
  where
    by_columns : (columns : List ColumnValue) → table.columns ≡ columns → AllByRecursion IsNewColumn columns → length columns ≤ 2 → (with_second field columns ≡ columns) ⊎ HasRoom w (record table { columns = with_second field columns })
    by_columns [] is new as_many = inl refl
    by_columns (a ∷ []) is new as_many = inl refl
    by_columns (a ∷ b ∷ []) is new as_many =
        inr
        (record {
          contents = needed_by_names names ∷ max 1 field ∷ [];
          needs = second_needs (record table { columns = with_second field (a ∷ b ∷ []) }) field a b new (needed_by_names names) (omega arith);
          fits = fits;
        })
    by_columns (a ∷ b ∷ c ∷ more) is new as_many = absurd (omega (arith, as_many))

-- ---- tables that are drawn

module _ (look : Look) (Q : RowValue → Type 0) (content : SelectedValue) where
  -- a table that is built of rows with property Q; some of its columns have their own width if there is room
  pub record IsDrawn (table : TableValue) : Type 0 where
    pub plain : TableValue
    pub known : Built look Q content plain
    pub columns : List ColumnValue
    pub is_plain : table ≡ record plain { columns = columns }
    pub padded : AllByRecursion IsPaddedColumn columns
    pub no_width : look.width ≡ None → columns ≡ plain.columns
    pub room : (w : ℕ) → look.width ≡ Some w → (columns ≡ plain.columns) ⊎ HasRoom w table

  -- a table without such columns
  pub drawn_plain : (table : TableValue) → Built look Q content table → IsDrawn table
  drawn_plain table known =
      record { plain = table; known = known; columns = table.columns; is_plain = refl; padded = padded_columns [] table.columns (recursion_from_All IsNewColumn table.columns known.columns); no_width = λ is. refl; room = λ w is. inl refl }

  module _ (table : TableValue) (drawn : IsDrawn table) where
    -- the table has the settings of the look
    pub drawn-is : table ≡ record (empty_table look) { columns = table.columns; header = table.header; rows = table.rows }
    drawn-is =
        subst (λ (t : TableValue). t ≡ record (empty_table look) { columns = t.columns; header = t.header; rows = t.rows }) (sym drawn.is_plain)
        (ap (λ (t : TableValue). record t { columns = drawn.columns }) drawn.known.is)

    -- its measured rows have property R
    pub measured-drawn : (R : RowValue → Type 0) → ((row : RowValue) → Q row → R (row_measured look.has_sequences row)) → All R (measured_rows table)
    measured-drawn R gives = subst (All R) (sym (ap measured_rows drawn.is_plain)) (measured_known (empty_table look) Q drawn.plain drawn.known R gives)

    pub rows-drawn : look.has_sequences ≡ false → All Q (measured_rows table)
    rows-drawn none = subst (All Q) (sym (ap measured_rows drawn.is_plain)) (rows_known (empty_table look) Q drawn.plain drawn.known none)

    -- its columns have the paddings of new columns, and no delimiter
    pub columns-drawn : All (λ (p : ℕ × ColumnValue). IsPaddedColumn p.1) (shown_columns table)
    columns-drawn =
        subst (λ (t : TableValue). All (λ (p : ℕ × ColumnValue). IsPaddedColumn p.1) (shown_columns t)) (sym drawn.is_plain)
        (All-filter (λ (p : ℕ × ColumnValue). not (is_hidden_column p.1)) (λ (p : ℕ × ColumnValue). IsPaddedColumn p.1) _
        (All-from_recursion (λ (p : ℕ × ColumnValue). IsPaddedColumn p.1) _ (every-places IsPaddedColumn 0 drawn.columns drawn.padded)))

    pub padded-drawn : All (λ (p : ℕ × ColumnValue). 1 ≤ p.1.padding.0) (shown_columns table)
    padded-drawn =
        All-weaker (λ (p : ℕ × ColumnValue). IsPaddedColumn p.1) (λ (p : ℕ × ColumnValue). 1 ≤ p.1.padding.0)
        (λ p own. let one : p.1.padding.0 ≡ 1 = ap (λ (x : ℕ × ℕ). x.0) own.padding in omega (arith, one)) (shown_columns table) columns-drawn

    -- its columns have no constraint if none has its own width
    pub unconstrained-drawn : drawn.columns ≡ drawn.plain.columns → NoConstraints table
    unconstrained-drawn none =
        subst NoConstraints (sym (drawn.is_plain ∙ ap (λ (columns : List ColumnValue). record drawn.plain { columns = columns }) none)) (unconstrained (empty_table look) Q drawn.plain drawn.known)

-- the table that is drawn of some records
pub drawn_table-is : (look : Look) (Q : RowValue → Type 0) (content : SelectedValue) (is_expanded has : Bool) → Built (separated has look) Q content (plain_table is_expanded (is_aligned_in look content) (separated has look) content)
    → IsDrawn (separated has look) Q content (separated_table has (output_table is_expanded look content))
drawn_table-is look Q content true has known = by_width look.width refl
  where
    pairs : TableValue
    pairs = pairs_table look content

    plain : TableValue
    plain = pairs_table (separated has look) content

    same : plain ≡ separated_table has pairs
    same = restyled look content true (is_aligned_in look content) has

    own : IsDrawn (separated has look) Q content (separated_table has pairs)
    own = subst (IsDrawn (separated has look) Q content) same (drawn_plain (separated has look) Q content plain known)

    new : AllByRecursion IsNewColumn plain.columns
    new = recursion_from_All IsNewColumn plain.columns known.columns

    as_many : length plain.columns ≤ 2
    as_many = pairs_have_two (separated has look) content

    by_width : (o : Option ℕ) → look.width ≡ o → IsDrawn (separated has look) Q content (separated_table has (with_min_field_width o pairs))
    by_width None is = own
    by_width (Some w) is = by_test (may_break room names field) refl
      where
        room : ℕ
        room = room_for_two w pairs.style

        names : ℕ
        names = slice_index (max_content_widths pairs) 0

        field : ℕ
        field = field_width (room_beside names room) pairs

        by_test : (b : Bool) → may_break room names field ≡ b → IsDrawn (separated has look) Q content (separated_table has (if b then with_field_width field pairs else pairs))
        by_test false test = own
        by_test true test =
            record {
              plain = plain;
              known = known;
              columns = with_second field plain.columns;
              is_plain = made;
              padded = padded_second field plain.columns new;
              no_width = λ none. absurd (cc (kept has none, is));
              room = λ v wide. subst (λ (t : TableValue). (with_second field plain.columns ≡ plain.columns) ⊎ HasRoom v t) (sym made) (subst (λ n. (with_second field plain.columns ≡ plain.columns) ⊎ HasRoom n (with_field_width field plain)) (same_width v wide) (second_room w field names plain new as_many fits));
            }
          where
            made : separated_table has (with_field_width field pairs) ≡ with_field_width field plain
            made = field_separated has field pairs ∙ ap (with_field_width field) (sym same)

            below : field ≤ room_beside names room
            below = field_width-within (room_beside names room) pairs

            fits : framed_width plain.style (needed_by_names names ∷ max 1 field ∷ []) ≤ w
            fits = subst (λ (t : TableValue). framed_width t.style (needed_by_names names ∷ max 1 field ∷ []) ≤ w) (sym same) (pair_still_fits w has pairs names field below (ltb-true room (min names field + field) test))

            kept : (b : Bool) → {o : Option ℕ} → (separated b look).width ≡ o → look.width ≡ o
            kept true wide = wide
            kept false wide = wide

            same_width : (v : ℕ) → (separated has look).width ≡ Some v → w ≡ v
            same_width v wide = cc (kept has wide, is)
drawn_table-is look Q content false has known = by_width look.width refl
  where
    rows : TableValue
    rows = rows_table look (is_aligned_in look content) content

    plain : TableValue
    plain = rows_table (separated has look) (is_aligned_in look content) content

    whole : Wanted
    whole = wanted_in look content

    same : plain ≡ separated_table has rows
    same = restyled look content false (is_aligned_in look content) has

    own : IsDrawn (separated has look) Q content (separated_table has rows)
    own = subst (IsDrawn (separated has look) Q content) same (drawn_plain (separated has look) Q content plain known)

    new : AllByRecursion IsNewColumn rows.columns
    new = by_lines has (subst (λ (t : TableValue). AllByRecursion IsNewColumn t.columns) same (recursion_from_All IsNewColumn plain.columns known.columns))
      where
        by_lines : (h : Bool) → AllByRecursion IsNewColumn (separated_table h rows).columns → AllByRecursion IsNewColumn rows.columns
        by_lines true own = own
        by_lines false own = own

    by_width : (o : Option ℕ) → look.width ≡ o → IsDrawn (separated has look) Q content (separated_table has (with_min_widths o whole rows))
    by_width None is = own
    by_width (Some w) is = by_test (has_room (Some w) whole rows) refl
      where
        kept : List ℕ
        kept = given_in w whole rows

        by_test : (b : Bool) → has_room (Some w) whole rows ≡ b → IsDrawn (separated has look) Q content (separated_table has (if b then with_lower_bounds kept rows else rows))
        by_test false test = own
        by_test true test =
            record {
              plain = plain;
              known = known;
              columns = leasts_on kept plain.columns;
              is_plain = kept_separated has kept rows ∙ ap (with_lower_bounds kept) (sym same);
              padded = padded_columns kept plain.columns (recursion_from_All IsNewColumn plain.columns known.columns);
              no_width = λ none. absurd (cc (own_width has none, is));
              room = λ v wide. inr (subst (λ n. HasRoom n (separated_table has (with_lower_bounds kept rows))) (same_width v wide) (room_for_given w (fair_level w (most_wanted w whole rows) rows) has (most_wanted w whole rows) rows new (most-least w whole rows test)));
            }
          where
            own_width : (b : Bool) → {o : Option ℕ} → (separated b look).width ≡ o → look.width ≡ o
            own_width true wide = wide
            own_width false wide = wide

            same_width : (v : ℕ) → (separated has look).width ≡ Some v → w ≡ v
            same_width v wide = cc (own_width has wide, is)
