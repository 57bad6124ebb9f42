-- Numbers and dates of expanded records are broken only if names leave them no room.
use Rattle.std.proofs.Common.{◌≡◌, ◌≤◌, ◌<◌, ◌&&◌, ℕ, ◌+◌, ◌-◌, ◌/◌, Bool, true, false, not, cond, List, [], ◌∷◌, Option, Some, None, MatchBool, flat_map, length, map, max, min, nat_le, nat_lt, replicate, slice_index, slice_index_or, sum, refl, sym, ap, ap₂, ◌∙◌, subst, arith, ⊎_elim}
use Rattle.std.specs.List.{All, AllByRecursion, AllZip, range_with_len}
use Rattle.std.specs.Prelude.{if◌then◌else◌}
use Rattle.std.proofs.lemmas.Bool.{le-leb, leb-true, ltb-false, ltb-true}
use Rattle.std.proofs.lemmas.List.{map-append}
use Rattle.std.proofs.lemmas.List.Elements.{All-from_recursion, All-nil, recursion_from_All}
use Rattle.std.proofs.lemmas.List.FromFn.{length-map-range_with_len}
use Rattle.std.proofs.lemmas.List.Sums.{sum_by-cons}
use Rattle.comfy_parts.proofs.CallerLemmas.{every-weaker}
use Rattle.comfy_parts.specs.CellValue.{CellValue, ColumnValue, RowValue}
use Rattle.comfy_parts.specs.Text.{Text, greatest, measure}
use Rattle.comfy_parts.specs.Wrapping.{lines_of_text}
use Rattle.comfy_parts.specs.declared.style.table_style.TableStyle.{TableStyle}
use Rattle.comfy_table.proofs.BuiltTableLemmas.{IsNewColumn}
use Rattle.comfy_table.proofs.ColumnCellLemmas.{greatest-append}
use Rattle.comfy_table.proofs.DrawnWidthLemmas.{dynamic_widths, unconstrained_shown}
use Rattle.comfy_table.proofs.LevelLemmas.{average_passes}
use Rattle.comfy_table.proofs.LevelledLemmas.{dynamic_is_full, dynamic_is_levelled}
use Rattle.comfy_table.proofs.ThreePlacesLemmas.{every-le-greatest}
use Rattle.comfy_table.proofs.UnconstrainedLemmas.{content_room-unconstrained, wider-is}
use Rattle.comfy_table.specs.Arrangement.{IsArranged, is_full_width, room_beside_borders, width_kept, widths_at}
use Rattle.comfy_table.specs.Dynamic.{IsDynamicLayout, content_room, widened}
use Rattle.comfy_table.specs.Frame.{border_count}
use Rattle.comfy_table.specs.Laws.{NoConstraints}
use Rattle.comfy_table.specs.Levels.{HasLevel, IsFull, IsLevelled, IsLevelledAt, IsLevelledColumn, IsShrunkOrLevel, IsUnconstrained, fit_contents, wider_columns}
use Rattle.comfy_table.specs.Lines.{cell_delimiter, cell_lines, longest_line}
use Rattle.comfy_table.specs.TableValue.{TableValue, cell_content_width, column_cells, column_content_width, max_content_widths, shown_columns, table_width, with_rows}
use Rattle.comfy_table.specs.Widths.{ColumnNeeds, even_spread, needs_of, part_of, shown_count, shown_needs}
use Rattle.csv_tables.proofs.FieldNeedLemmas.{stays_whole}
use Rattle.csv_tables.proofs.KeptWidthLemmas.{IsFixedAt, fixed_is_kept, kept_arrangement, le-added}
use Rattle.csv_tables.proofs.LineLemmas.{Any, any_built, any_drawn, kept_setting}
use Rattle.csv_tables.proofs.SeparatorLemmas.{separated}
use Rattle.csv_tables.proofs.NoWrapLemmas.{framed_pair}
use Rattle.csv_tables.proofs.WholeColumnLemmas.{HasTwo, all_shown, both_shown, exactly_two, pairs_are_two}
use Rattle.csv_tables.proofs.WholeTableLemmas.{IsDrawn, drawn-is, fewer_borders, field_separated}
use Rattle.csv_tables.specs.Drawn.{SelectedValue, arrangement_for, empty_table, is_expanded_for, output_table, pairs_in, pairs_table, separated_table}
use Rattle.csv_tables.specs.Laws.{IsDrawnTable}
use Rattle.csv_tables.specs.NoWrap.{cell_nowrap_width, field_width, framed_width, is_nowrap, with_min_field_width, may_break, needed_by_names, room_beside, room_for_two, nowrap_width, with_content, with_field_width}
use Rattle.csv_tables.specs.declared.options.Look.{Look}

-- ---- two columns without constraints

-- the widths of two columns, of which the second is at least m
record KeepsSecond (m : ℕ) (widths : List ℕ) : Type 0 where
  two : length widths ≡ 2
  wide : m ≤ slice_index widths 1

module _ (room : ℕ) (a b : ColumnNeeds) (m : ℕ) (content : m ≤ b.content) (longest : (n : ℕ) → m ≤ n → m ≤ b.longest n)
    (beside : needed_by_names a.content + m ≤ content_room room (a ∷ b ∷ [])) (share : min a.content m + m ≤ content_room room (a ∷ b ∷ [])) where
  abbrev both : List ColumnNeeds
  both = a ∷ b ∷ []

  abbrev whole_room : ℕ
  whole_room = content_room room both

  -- a level that is smaller than the second content has room for m
  level_enough : (level : ℕ) (widths : List ℕ) → IsLevelledAt room both level widths → nat_le b.content level ≡ false → m ≤ level
  level_enough level widths at wider = by_names (nat_le a.content level) refl
    where
      b_wider : nat_lt level b.content ≡ true
      b_wider = wider-is b.content level ∙ ap not wider

      by_names : (p : Bool) → nat_le a.content level ≡ p → m ≤ level
      by_names true fits =
          let fit : fit_contents level both ≡ max 1 a.content ∷ [] =
          ap₂ (λ (p q : Bool). map (λ (c : ColumnNeeds). max 1 c.content) (cond p (a ∷ cond q (b ∷ []) []) (cond q (b ∷ []) []))) fits wider in
          let wide : wider_columns level both ≡ b ∷ [] = ap₂ (λ (p q : Bool). cond p (a ∷ cond q (b ∷ []) []) (cond q (b ∷ []) [])) (wider-is a.content level ∙ ap not fits) b_wider in
          let one : sum (max 1 a.content ∷ []) ≡ max 1 a.content = omega (arith, sum_by-cons (λ (x : ℕ). x) (max 1 a.content) []) in
          let is = at.level_is (subst (λ (cs : List ColumnNeeds). 0 < length cs) (sym wide) (omega arith)) in
          let level_is : level ≡ (whole_room - max 1 a.content) / 1 = is ∙ ap₂ (λ (x n : ℕ). (whole_room - x) / n) (ap sum fit ∙ one) (ap length wide) in
          omega (arith, average_passes whole_room (max 1 a.content) 1 level (omega arith) level_is, leb-true a.content level fits, beside, share)
      by_names false fails =
          let fit : fit_contents level both ≡ [] = ap₂ (λ (p q : Bool). map (λ (c : ColumnNeeds). max 1 c.content) (cond p (a ∷ cond q (b ∷ []) []) (cond q (b ∷ []) []))) fails wider in
          let a_wider : nat_lt level a.content ≡ true = wider-is a.content level ∙ ap not fails in
          let wide : wider_columns level both ≡ a ∷ b ∷ [] = ap₂ (λ (p q : Bool). cond p (a ∷ cond q (b ∷ []) []) (cond q (b ∷ []) [])) a_wider b_wider in
          let is = at.level_is (subst (λ (cs : List ColumnNeeds). 0 < length cs) (sym wide) (omega arith)) in
          let level_is : level ≡ (whole_room - 0) / 2 = is ∙ ap₂ (λ (x n : ℕ). (whole_room - x) / n) (ap sum fit) (ap length wide) in
          omega (arith, average_passes whole_room 0 2 level (omega arith) level_is, ltb-true level a.content a_wider, beside, share)

  -- at a level, the second column has room for m
  by_list : (level : ℕ) (widths : List ℕ) → (nat_le b.content level ≡ false → m ≤ level) → AllZip (IsLevelledColumn level) both widths → KeepsSecond m widths
  by_list level [] enough each = absurd each
  by_list level (x ∷ []) enough (own, each) = absurd each
  by_list level (x ∷ y ∷ []) enough (own, (other, each)) = record { two = refl; wide = by_fit (nat_le b.content level) refl other }
    where
      by_fit : (fits : Bool) → nat_le b.content level ≡ fits → MatchBool fits (y ≡ max 1 b.content) (IsShrunkOrLevel level b y) → m ≤ y
      by_fit true fits is = omega (arith, is, content)
      by_fit false wider kept = ⊎_elim (shrunk (enough wider)) (λ lower_bound. omega (arith, enough wider, lower_bound)) kept
        where
          shrunk : m ≤ level → ((at : ℕ) × (level ≤ at) × (b.longest at + 3 ≤ at) × (y ≡ max 1 (b.longest at))) → m ≤ y
          shrunk least (at, lower_bound, three, is) = let long = longest at (omega (arith, least, lower_bound)) in omega (arith, long, is)
  by_list level (x ∷ y ∷ z ∷ more) enough (own, (other, each)) = absurd each

  -- the second column has room for m, also without a level
  keeps : (widths : List ℕ) → IsLevelled room both widths → KeepsSecond m widths
  keeps widths levelled = by_room (nat_lt whole_room 2) refl levelled
    where
      by_room : (short : Bool) → nat_lt whole_room 2 ≡ short → MatchBool short (widths ≡ replicate 2 1) (HasLevel room both widths) → KeepsSecond m widths
      by_room true short ones = subst (KeepsSecond m) (sym ones) (record { two = refl; wide = omega (arith, beside, ltb-true whole_room 2 short) })
      by_room false short has = by_list has.level widths (level_enough has.level widths has.levelled) has.levelled.each_column

  module _ (plain : All IsUnconstrained both) (widths : List ℕ) where
    -- the second column has room for m in each arrangement
    pub dynamic_keeps : (full : Bool) → IsDynamicLayout room both full widths → m ≤ slice_index widths 1
    dynamic_keeps false layout = (keeps widths (dynamic_is_levelled room both widths plain (omega arith) layout)).wide
    dynamic_keeps true layout = spread_out (dynamic_is_full room both widths plain (omega arith) layout)
      where
        spread_out : IsFull room both widths → m ≤ slice_index widths 1
        spread_out (before, levelled, is) =
            let kept = keeps before levelled in
            let spread = even_spread (whole_room - sum before) 2 in
            let long = length-map-range_with_len (part_of (whole_room - sum before) 2) 0 2 in
            let more = le-added before spread 1 (omega (arith, kept.two, long)) in
            omega (arith, kept.wide, more, ap (λ (xs : List ℕ). slice_index xs 1) is)

-- ---- the longest line

-- the greatest value of a part is at most the greatest of all parts
parts-within : {X Y : Type 0} (f : Y → ℕ) (g : X → List Y) (xs : List X) → AllByRecursion (λ (x : X). greatest (map f (g x)) ≤ greatest (map f (flat_map g xs))) xs
parts-within f g [] = tt
parts-within {X} f g (x ∷ xs) =
    let all = ap greatest (map-append f (g x) (flat_map g xs)) ∙ greatest-append (map f (g x)) (map f (flat_map g xs)) in (
      omega (arith, all),
      every-weaker (λ (y : X). greatest (map f (g y)) ≤ greatest (map f (flat_map g xs))) (λ (y : X). greatest (map f (g y)) ≤ greatest (map f (flat_map g (x ∷ xs)))) xs (λ y below. omega (arith, all, below)) (parts-within f g xs),
    )

-- a text line of a column's cell is at most as wide as the column's longest line
longest-least : (table : TableValue) (i : ℕ) (delimiter : Option ℕ) (width : ℕ)
    → All (λ (cell : CellValue). All (λ (line : Text). measure line ≤ width → measure line ≤ longest_line table i delimiter width) cell.text_lines) (column_cells table i)
longest-least table i delimiter width k default below j other inside short =
    let lines_of : CellValue → List Text = λ (cell : CellValue). cell_lines width (cell_delimiter table delimiter cell) cell in
    let cells = column_cells table i in
    let cell = slice_index_or cells k default in
    let d = cell_delimiter table delimiter cell in
    let line = slice_index_or cell.text_lines j other in
    let of_cell = All-from_recursion (λ (c : CellValue). greatest (map measure (lines_of c)) ≤ greatest (map measure (flat_map lines_of cells))) cells (parts-within measure lines_of cells) k default below in
    let of_line =
    All-from_recursion (λ (l : Text). greatest (map measure (lines_of_text width d l)) ≤ greatest (map measure (flat_map (lines_of_text width d) cell.text_lines))) cell.text_lines (parts-within measure (lines_of_text width d) cell.text_lines) j other inside in
    let own : greatest (map measure (lines_of_text width d line)) ≡ greatest (measure line ∷ []) = ap (λ (ls : List Text). greatest (map measure ls)) (stays_whole width d line short) in
    omega (arith, of_cell, of_line, own)

-- ---- a table of two columns

module _ (base : TableValue) (a b : ColumnValue) (new : AllByRecursion IsNewColumn (a ∷ b ∷ [])) (w : ℕ) (widths : List ℕ) where
  abbrev pair : TableValue
  pair = record base { columns = a ∷ b ∷ [] }

  one_left : b.padding.0 ≡ 1
  one_left = ap (λ (x : ℕ × ℕ). x.0) new.1.0.padding

  one_right : b.padding.1 ≡ 1
  one_right = ap (λ (x : ℕ × ℕ). x.1) new.1.0.padding

  -- a fixed width of the second column is kept
  fixed_wide : (field : ℕ) → width_kept base.arrangement (Some w) ≡ Some w → table_width base ≡ Some w → IsArranged (with_field_width field pair) widths → field ≤ slice_index widths 1
  fixed_wide field kept known arranged =
      let with = with_field_width field pair in
      let all = both_shown with field a b new in
      let found = dynamic_widths with with.arrangement w widths kept refl known arranged in
      let own : (needs_of with (1, with_content field b)).fixed ≡ Some (max 1 field) = ap Some (omega (arith, one_left, one_right)) in
      let fixed = subst (λ (ps : List (ℕ × ColumnValue)). IsFixedAt (map (needs_of with) ps) 1 (max 1 field)) (sym all) (needs_of with (1, with_content field b), refl, own) in
      let room = room_beside_borders with w in
      let full = is_full_width with.arrangement in
      let wide : max 1 field ≤ slice_index (widened room (shown_needs with) full found.0) 1 = fixed_is_kept room (shown_needs with) full found.0 1 (max 1 field) fixed in
      let drawn : slice_index (widths_at widths (shown_columns with)) 1 ≡ slice_index widths 1 = ap (λ (ps : List (ℕ × ColumnValue)). slice_index (widths_at widths ps) 1) all in
      let same : slice_index (widened room (shown_needs with) full found.0) 1 ≡ slice_index widths 1 = ap (λ (xs : List ℕ). slice_index xs 1) (sym found.1.widths_are) ∙ drawn in
      omega (arith, wide, same)

  -- without a fixed width, a text line has room if it fits beside the names, or beside names as wide as itself
  shared_wide : (m : ℕ) → m ≤ column_content_width base 1 → ((n : ℕ) → m ≤ n → m ≤ longest_line base 1 b.delimiter n)
      → needed_by_names (column_content_width base 0) + m ≤ w - (border_count base.style 2 + 4) → min (column_content_width base 0) m + m ≤ w - (border_count base.style 2 + 4)
      → width_kept base.arrangement (Some w) ≡ Some w → table_width base ≡ Some w → IsArranged pair widths → m ≤ slice_index widths 1
  shared_wide m content longest beside share kept known arranged =
      let wide = dynamic_keeps room names fields m content longest (omega (arith, beside, room_is)) (omega (arith, share, room_is)) plain shown_widths (is_full_width pair.arrangement) layout in
      omega (arith, wide)
    where
      all : shown_columns pair ≡ (0, a) ∷ (1, b) ∷ []
      all = all_shown [] (a ∷ b ∷ []) new

      names : ColumnNeeds
      names = needs_of pair (0, a)

      fields : ColumnNeeds
      fields = needs_of pair (1, b)

      room : ℕ
      room = room_beside_borders pair w

      shown_widths : List ℕ
      shown_widths = slice_index widths 0 ∷ slice_index widths 1 ∷ []

      none : NoConstraints pair
      none =
          subst (All (λ (p : ℕ × ColumnValue). p.1.constraint ≡ None)) (sym all)
          (All-from_recursion (λ (p : ℕ × ColumnValue). p.1.constraint ≡ None) ((0, a) ∷ (1, b) ∷ []) (new.0.no_constraint, (new.1.0.no_constraint, tt)))

      each_plain : AllByRecursion IsUnconstrained (names ∷ fields ∷ [])
      each_plain = subst (λ (ps : List (ℕ × ColumnValue)). AllByRecursion IsUnconstrained (map (needs_of pair) ps)) all (unconstrained_shown pair none)

      plain : All IsUnconstrained (names ∷ fields ∷ [])
      plain = All-from_recursion IsUnconstrained (names ∷ fields ∷ []) each_plain

      layout : IsDynamicLayout room (names ∷ fields ∷ []) (is_full_width pair.arrangement) shown_widths
      layout =
          subst (λ (ps : List (ℕ × ColumnValue)). IsDynamicLayout room (map (needs_of pair) ps) (is_full_width pair.arrangement) (widths_at widths ps)) all
          (dynamic_widths pair pair.arrangement w widths kept refl known arranged)

      left : a.padding.0 ≡ 1
      left = ap (λ (x : ℕ × ℕ). x.0) new.0.padding

      right : a.padding.1 ≡ 1
      right = ap (λ (x : ℕ × ℕ). x.1) new.0.padding

      room_is : content_room room (names ∷ fields ∷ []) ≡ w - (border_count base.style 2 + 4)
      room_is =
          let count : shown_count pair ≡ 2 = ap length all in
          let less = content_room-unconstrained room (names ∷ fields ∷ []) each_plain in
          let first = sum_by-cons (λ (c : ColumnNeeds). c.padding) names (fields ∷ []) in
          let other = sum_by-cons (λ (c : ColumnNeeds). c.padding) fields [] in
          let borders : border_count pair.style (shown_count pair) ≡ border_count base.style 2 = ap (border_count base.style) count in
          omega (arith, less, first, other, left, right, one_left, one_right, borders)

-- ---- the table of expanded records

-- lines between rows and a width of fields don't change the cells
cells_kept : (has : Bool) (o : Option ℕ) (pairs : TableValue) (i : ℕ) → column_cells (separated_table has (with_min_field_width o pairs)) i ≡ column_cells pairs i
cells_kept has None pairs i = by_lines has
  where
    by_lines : (h : Bool) → column_cells (separated_table h pairs) i ≡ column_cells pairs i
    by_lines true = refl
    by_lines false = refl
cells_kept has (Some w) pairs i = by_break has (may_break room names field)
  where
    room : ℕ
    room = room_for_two w pairs.style

    names : ℕ
    names = slice_index (max_content_widths pairs) 0

    field : ℕ
    field = field_width (room_beside names room) pairs

    by_break : (h breaks : Bool) → column_cells (separated_table h (if breaks then with_field_width field pairs else pairs)) i ≡ column_cells pairs i
    by_break true true = refl
    by_break true false = refl
    by_break false true = refl
    by_break false false = refl

-- without two columns there are no cells in the second one
all_cells : (look : Look) (rows : List RowValue) → All HasTwo rows → (P : CellValue → Type 0)
    → (length (with_rows rows (empty_table look)).columns ≡ 2 → All P (column_cells (with_rows rows (empty_table look)) 1)) → All P (column_cells (with_rows rows (empty_table look)) 1)
all_cells look [] two P gives = by_custom look.has_sequences
  where
    by_custom : (custom : Bool) → All P (column_cells (record (empty_table look) { custom_styling = custom }) 1)
    by_custom true = All-nil P
    by_custom false = All-nil P
all_cells look (row ∷ rows) two P gives = gives (exactly_two row rows (empty_table look) two (omega arith))

module _ (w : ℕ) (look : Look) (content : SelectedValue) (small : w ≤ 65535) (wide : look.width ≡ Some w) (expanded : is_expanded_for look content ≡ true) (has : Bool) (table : TableValue)
    (made : table ≡ separated_table has (output_table (is_expanded_for look content) look content)) (widths : List ℕ) (arranged : IsArranged table widths) where
  abbrev pairs : TableValue
  pairs = pairs_table look content

  abbrev room : ℕ
  room = room_for_two w pairs.style

  abbrev names : ℕ
  names = slice_index (max_content_widths pairs) 0

  abbrev field : ℕ
  field = field_width (room_beside names room) pairs

  own : table ≡ separated_table has (with_min_field_width (Some w) pairs)
  own = made ∙ ap (λ (e : Bool). separated_table has (output_table e look content)) expanded ∙ ap (λ (o : Option ℕ). separated_table has (with_min_field_width o pairs)) wide

  same_cells : (i : ℕ) → column_cells table i ≡ column_cells pairs i
  same_cells i = ap (λ (t : TableValue). column_cells t i) own ∙ cells_kept has (Some w) pairs i

  looks : table ≡ record (empty_table (separated has look)) { columns = table.columns; header = table.header; rows = table.rows }
  looks =
      let drawn = made ∙ ap (λ (e : Bool). separated_table has (output_table e look content)) expanded in
      drawn-is (separated has look) Any content table (subst (IsDrawn (separated has look) Any content) (sym drawn) (any_drawn look content true has))

  wide_look : (separated has look).width ≡ Some w
  wide_look = kept_setting (λ l. l.width) look refl has (Some w) wide

  keeps_width : width_kept table.arrangement (Some w) ≡ Some w
  keeps_width = ap (λ (t : TableValue). width_kept t.arrangement (Some w)) looks ∙ ap (λ o. width_kept (arrangement_for o (separated has look).fills_width) (Some w)) wide_look ∙ kept_arrangement w (separated has look).fills_width

  known_width : table_width table ≡ Some w
  known_width = ap table_width looks ∙ rw wide_look refl

  style_is : pairs.style ≡ look.style
  style_is = ap (λ (t : TableValue). t.style) (any_built true false look content).is

  module _ (a b : ColumnValue) (are : pairs.columns ≡ a ∷ b ∷ []) where
    abbrev base : TableValue
    base = separated_table has pairs

    new : AllByRecursion IsNewColumn (a ∷ b ∷ [])
    new = subst (AllByRecursion IsNewColumn) are (recursion_from_All IsNewColumn pairs.columns (any_built true false look content).columns)

    is_pair : base ≡ record base { columns = a ∷ b ∷ [] }
    is_pair = by_lines has
      where
        by_lines : (h : Bool) → separated_table h pairs ≡ record (separated_table h pairs) { columns = a ∷ b ∷ [] }
        by_lines true = ap (λ (cs : List ColumnValue). record pairs { columns = cs }) are
        by_lines false = ap (λ (cs : List ColumnValue). record (separated_table false pairs) { columns = cs }) are

    names_are : names ≡ column_content_width pairs 0
    names_are = ap (λ (cs : List ColumnValue). slice_index (map (column_content_width pairs) (range_with_len 0 (length cs))) 0) are

    fewer : border_count base.style 2 ≤ border_count pairs.style 2
    fewer = by_lines has
      where
        by_lines : (h : Bool) → border_count (separated_table h pairs).style 2 ≤ border_count pairs.style 2
        by_lines true = omega arith
        by_lines false = fewer_borders pairs.style 2

    base_width : (i : ℕ) → column_content_width base i ≡ column_content_width pairs i
    base_width i = by_lines has
      where
        by_lines : (h : Bool) → column_content_width (separated_table h pairs) i ≡ column_content_width pairs i
        by_lines true = refl
        by_lines false = refl

    -- a text line has room if it is at most as wide as the widest number or date, and fits beside the names
    line_wide : (m : ℕ) → m ≤ field → m ≤ column_content_width pairs 1 → ((n : ℕ) → m ≤ n → m ≤ longest_line base 1 b.delimiter n) → needed_by_names names + m ≤ room → m ≤ slice_index widths 1
    line_wide m within content longest beside = by_break (may_break room names field) refl own
      where
        two_rooms : room ≡ w - (border_count pairs.style 2 + 4)
        two_rooms = let framed = framed_pair pairs.style 0 0 in omega (arith, framed)

        by_break : (breaks : Bool) → may_break room names field ≡ breaks → table ≡ separated_table has (if breaks then with_field_width field pairs else pairs) → m ≤ slice_index widths 1
        by_break true test is =
            let with : table ≡ with_field_width field (record base { columns = a ∷ b ∷ [] }) = is ∙ field_separated has field pairs ∙ ap (with_field_width field) is_pair in
            let enough = fixed_wide base a b new w widths field (subst (λ (t : TableValue). width_kept t.arrangement (Some w) ≡ Some w) with keeps_width) (subst (λ (t : TableValue). table_width t ≡ Some w) with known_width) (subst (λ (t : TableValue). IsArranged t widths) with arranged) in
            omega (arith, within, enough)
        by_break false test is =
            let with : table ≡ record base { columns = a ∷ b ∷ [] } = is ∙ is_pair in
            let shared = ltb-false room (min names field + field) test in
            let first : column_content_width base 0 ≡ names = base_width 0 ∙ sym names_are in
            shared_wide base a b new w widths m (omega (arith, content, base_width 1)) longest (omega (arith, beside, first, two_rooms, fewer)) (omega (arith, shared, within, first, two_rooms, fewer))
            (subst (λ (t : TableValue). width_kept t.arrangement (Some w) ≡ Some w) with keeps_width) (subst (λ (t : TableValue). table_width t ≡ Some w) with known_width) (subst (λ (t : TableValue). IsArranged t widths) with arranged)

    -- each number and each date that fits has room
    abbrev FieldIsWhole : CellValue → Type 0
    FieldIsWhole cell =
        All (λ (line : Text). is_nowrap line ≡ true → framed_width look.style (needed_by_names (column_content_width table 0) ∷ measure line ∷ []) ≤ w → measure line ≤ slice_index widths 1) cell.text_lines

    fields_are_whole : All FieldIsWhole (column_cells pairs 1)
    fields_are_whole k default below j other inside unbroken fits = enough
      where
        cells : List CellValue
        cells = column_cells pairs 1

        cell : CellValue
        cell = slice_index_or cells k default

        line : Text
        line = slice_index_or cell.text_lines j other

        left : ℕ
        left = room_beside names room

        first : column_content_width table 0 ≡ names
        first = ap (λ (cs : List CellValue). greatest (map cell_content_width cs)) (same_cells 0) ∙ sym names_are

        beside : needed_by_names names + measure line ≤ room
        beside =
            let framed = framed_pair look.style (needed_by_names (column_content_width table 0)) (measure line) in
            let both = framed_pair pairs.style 0 0 in
            let same : border_count pairs.style 2 ≡ border_count look.style 2 = ap (λ (s : TableStyle). border_count s 2) style_is in
            omega (arith, fits, framed, both, same, first)

        counted : nowrap_width left line ≡ measure line
        counted = ap₂ (λ (p q : Bool). if p && q then measure line else 0) unbroken (le-leb (measure line) left (omega (arith, beside)))

        within : measure line ≤ field
        within =
            let of_cell = All-from_recursion (λ (c : CellValue). cell_nowrap_width left c ≤ field) cells (every-le-greatest (cell_nowrap_width left) cells) k default below in
            let of_line = All-from_recursion (λ (l : Text). nowrap_width left l ≤ cell_nowrap_width left cell) cell.text_lines (every-le-greatest (nowrap_width left) cell.text_lines) j other inside in
            omega (arith, counted, of_cell, of_line)

        content_width : measure line ≤ column_content_width pairs 1
        content_width =
            let of_cell = All-from_recursion (λ (c : CellValue). cell_content_width c ≤ column_content_width pairs 1) cells (every-le-greatest cell_content_width cells) k default below in
            let of_line = All-from_recursion (λ (l : Text). measure l ≤ greatest (map measure cell.text_lines)) cell.text_lines (every-le-greatest measure cell.text_lines) j other inside in
            omega (arith, of_cell, of_line, beside, small)

        longest : (n : ℕ) → measure line ≤ n → measure line ≤ longest_line base 1 b.delimiter n
        longest n short = by_lines has
          where
            by_lines : (h : Bool) → measure line ≤ longest_line (separated_table h pairs) 1 b.delimiter n
            by_lines true = longest-least pairs 1 b.delimiter n k default below j other inside short
            by_lines false = longest-least (separated_table false pairs) 1 b.delimiter n k default below j other inside short

        enough : measure line ≤ slice_index widths 1
        enough = line_wide (measure line) within content_width longest beside

  whole_cells : All (λ (cell : CellValue). All (λ (line : Text). is_nowrap line ≡ true → framed_width look.style (needed_by_names (column_content_width table 0) ∷ measure line ∷ []) ≤ w → measure line ≤ slice_index widths 1) cell.text_lines) (column_cells table 1)
  whole_cells = subst (All IsWhole) (sym (same_cells 1)) (all_cells look (flat_map (pairs_in look content) content.rows) (pairs_are_two look content) IsWhole (λ two. with_both pairs.columns refl two))
    where
      IsWhole : CellValue → Type 0
      IsWhole cell =
          All (λ (line : Text). is_nowrap line ≡ true → framed_width look.style (needed_by_names (column_content_width table 0) ∷ measure line ∷ []) ≤ w → measure line ≤ slice_index widths 1) cell.text_lines

      with_both : (columns : List ColumnValue) → pairs.columns ≡ columns → length columns ≡ 2 → All IsWhole (column_cells pairs 1)
      with_both [] are two = absurd (omega (arith, two))
      with_both (a ∷ []) are two = absurd (omega (arith, two))
      with_both (a ∷ b ∷ []) are two = fields_are_whole a b are
      with_both (a ∷ b ∷ c ∷ more) are two = absurd (omega (arith, two))

-- In the drawn table of expanded records, as it is measured, each text line of a field has room if it is a number or a
-- date and fits the width beside names.
pub expanded_keeps_whole : (w : ℕ) (look : Look) (content : SelectedValue) → w ≤ 65535 → look.width ≡ Some w → is_expanded_for look content ≡ true → (table : TableValue) (widths : List ℕ) → IsDrawnTable look content table → IsArranged table widths
    → All (λ (cell : CellValue). All (λ (line : Text). is_nowrap line ≡ true → framed_width look.style (needed_by_names (column_content_width table 0) ∷ measure line ∷ []) ≤ w → measure line ≤ slice_index widths 1) cell.text_lines) (column_cells table 1)
expanded_keeps_whole w look content small wide expanded table widths (has, made) arranged = whole_cells w look content small wide expanded has table made widths arranged
