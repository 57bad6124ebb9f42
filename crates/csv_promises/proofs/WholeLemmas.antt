-- Columns of a drawn table are as wide as their texts.
use Rattle.std.proofs.Common.{◌≡◌, ◌==◌, ◌≤◌, ◌<◌, ◌&&◌, ℕ, zero, suc, ◌+◌, Bool, true, false, not, List, [], ◌∷◌, ◌++◌, Option, Some, None, drop, length, map, max, filter_map, take, refl, sym, ap, ap₂, ◌∙◌, subst, arith}
use Rattle.std.specs.List.{All, cons_option, enumerate_from, slice_get}
use Rattle.std.specs.Prelude.{IfSome, MatchOption, if◌then◌else◌, option_to_list, slice_index, slice_index_or}
use Rattle.std.proofs.Math.Seq.{take-length}
use Rattle.std.proofs.lemmas.Bool.{ne_eqb}
use Rattle.std.proofs.lemmas.List.Elements.{All-cons, All-head, All-nil, All-tail, All-weaker}
use Rattle.std.proofs.lemmas.List.Sums.{sum_by-cons}
use Rattle.comfy_parts.proofs.CallerLemmas.{All-same_map}
use Rattle.comfy_parts.specs.CellValue.{CellValue, ColumnValue, RowValue}
use Rattle.comfy_parts.specs.declared.style.cell.CellAlignment.{CellAlignment}
use Rattle.comfy_parts.specs.Text.{Text, greatest, measure}
use Rattle.comfy_parts.specs.declared.style.table_style.TableStyle.{TableStyle}
use Rattle.comfy_table.specs.Arrangement.{IsArranged, is_full_width, room_beside_borders, width_kept, widths_at}
use Rattle.comfy_table.specs.Dynamic.{IsDynamicLayout}
use Rattle.comfy_table.specs.Laws.{NoConstraints}
use Rattle.comfy_table.specs.Parts.{with_rows_alone}
use Rattle.comfy_table.specs.TableValue.{TableValue, cell_content_width, column_cells, column_content_width, measured_rows, shown_columns, table_width}
use Rattle.comfy_table.specs.Widths.{disabled_width, shown_needs}
use Rattle.csv_tables.proofs.KeptFieldLemmas.{expanded_keeps_whole}
use Rattle.csv_tables.proofs.KeptWidthLemmas.{auto_keeps_whole}
use Rattle.csv_tables.proofs.LineLemmas.{Any, any_drawn, kept_setting}
use Rattle.csv_tables.proofs.SeparatorLemmas.{separated}
use Rattle.csv_tables.proofs.WholeTableLemmas.{IsDrawn, drawn-is, unconstrained-drawn}
use Rattle.csv_tables.specs.Columns.{ColumnsValue, drawn_columns, seen}
use Rattle.csv_tables.specs.NoWrap.{fields_need, framed_width, is_nowrap, needed_by_names}
use Rattle.csv_tables.specs.Drawn.{SelectedValue, is_expanded_for, is_table_expanded, output_table, separated_table, nowrap_in}
use Rattle.csv_tables.specs.declared.options.ColumnPlan.{ColumnPlan}
use Rattle.csv_tables.specs.declared.options.Expansion.{Expansion}
use Rattle.csv_tables.specs.declared.options.Expansion.TheVariants.{Always, Auto, Never}
use Rattle.csv_tables.specs.declared.options.Look.{Look}
use Rattle.promises.proofs.PlacedLemmas.{measured_plain}
use Rattle.promises.proofs.RowLemmas.{width_by_content}
use Rattle.promises.specs.Headline.{widest}
use Rattle.csv_promises.proofs.FieldLemmas.{own_sides, positions_of}
use Rattle.csv_promises.proofs.ShownTableLemmas.{has_rows_of, no_custom_styling}
use Rattle.csv_promises.specs.Fields.{KeepsNumbers, widest_whole, column_in, has_numbers, mark_for, side_for, whole_for, whole_pairs}

-- the width of a column's widest text is its content width, but at least 1
pub widest-content : (table : TableValue) → table.custom_styling ≡ false → (i : ℕ) → widest table i ≡ max 1 (column_content_width table i)
widest-content table plain i =
    ap (λ (rows : List RowValue). max 1 (greatest (map cell_content_width (filter_map (λ (row : RowValue). slice_get row.cells i) rows)))) (sym (measured_plain table plain))

-- the content of a column that is kept whole: without the header if there is a width
abbrev pub content_whole : Option ℕ → TableValue → ℕ → ℕ
content_whole None table i = column_content_width table i
content_whole (Some w) table i = fields_need true table i

-- the widest text that is kept whole in all rows is at most as wide
pub whole-widest : (o : Option ℕ) (table : TableValue) → table.custom_styling ≡ false → (i w : ℕ) → 1 ≤ w → content_whole o table i ≤ w → widest_whole o (with_rows_alone 0 (length table.rows) table) i ≤ w
whole-widest None table plain i w some kept =
    let same = widest-content table plain i in
    subst (λ (own : List RowValue). max 1 (greatest (map cell_content_width (filter_map (λ (row : RowValue). slice_get row.cells i) (option_to_list table.header ++ own)))) ≤ w) (sym (take-length table.rows)) (omega (arith, kept, same, some))
whole-widest (Some v) table plain i w some kept =
    let same = widest-content (record table { header = None }) plain i in
    subst (λ (own : List RowValue). max 1 (greatest (map cell_content_width (filter_map (λ (row : RowValue). slice_get row.cells i) own))) ≤ w) (sym (take-length table.rows)) (omega (arith, kept, same, some))

-- ---- parts of a table

module _ (i : ℕ) where
  -- the width of the widest text of a column of rows
  abbrev content : List RowValue → ℕ
  content rows = greatest (map cell_content_width (filter_map (λ (row : RowValue). slice_get row.cells i) rows))

  -- one more row above two lists of rows, of which the first has no wider text
  one-wider : (row : RowValue) (some all : List RowValue) → content some ≤ content all → content (row ∷ some) ≤ content (row ∷ all)
  one-wider row some all within = by_cell (slice_get row.cells i)
    where
      cells : List RowValue → List CellValue
      cells rows = filter_map (λ (r : RowValue). slice_get r.cells i) rows

      by_cell : (o : Option CellValue) → greatest (map cell_content_width (cons_option o (cells some))) ≤ greatest (map cell_content_width (cons_option o (cells all)))
      by_cell None = within
      by_cell (Some cell) = omega (arith, within)

  one-more : (row : RowValue) (rows : List RowValue) → content rows ≤ content (row ∷ rows)
  one-more row rows = by_cell (slice_get row.cells i)
    where
      cells : List CellValue
      cells = filter_map (λ (r : RowValue). slice_get r.cells i) rows

      by_cell : (o : Option CellValue) → greatest (map cell_content_width cells) ≤ greatest (map cell_content_width (cons_option o cells))
      by_cell None = omega arith
      by_cell (Some cell) = omega arith

  taken : (n : ℕ) (rows : List RowValue) → content (take n rows) ≤ content rows
  taken zero rows = omega arith
  taken (suc n) [] = omega arith
  taken (suc n) (row ∷ rows) = one-wider row (take n rows) rows (taken n rows)

  dropped : (n : ℕ) (rows : List RowValue) → content (drop n rows) ≤ content rows
  dropped zero rows = omega arith
  dropped (suc n) [] = omega arith
  dropped (suc n) (row ∷ rows) = let own = dropped n rows in let more = one-more row rows in omega (arith, own, more)

  -- a part has no wider text than the table
  pub part-widest : (table : TableValue) (first n : ℕ) → widest (with_rows_alone first n table) i ≤ widest table i
  part-widest table first n =
      let own = taken n (drop first table.rows) in
      let all = dropped first table.rows in
      let within = by_header table.header (omega (arith, own, all)) in omega (arith, within)
    where
      by_header : (header : Option RowValue) → content (take n (drop first table.rows)) ≤ content table.rows → content (option_to_list header ++ take n (drop first table.rows)) ≤ content (option_to_list header ++ table.rows)
      by_header None within = within
      by_header (Some row) within = one-wider row (take n (drop first table.rows)) table.rows within

-- ---- tables without a width

-- a property of each element's place is one of each index
at_place : {A : Type 0} (P : ℕ → Type 0) (n : ℕ) (xs : List A) → All (λ (p : ℕ × A). P p.0) (enumerate_from n xs) → (i : ℕ) → i < length xs → P (n + i)
at_place P n [] each i below = absurd (omega (arith, below))
at_place {A} P n (x ∷ xs) each zero below = let same : n ≡ n + 0 = omega arith in subst P same (All-head (λ (p : ℕ × A). P p.0) (n, x) (enumerate_from (n + 1) xs) each)
at_place {A} P n (x ∷ xs) each (suc i) below =
    let same : n + 1 + i ≡ n + suc i = omega arith in subst P same (at_place P (n + 1) xs (All-tail (λ (p : ℕ × A). P p.0) (n, x) (enumerate_from (n + 1) xs) each) i (omega (arith, below)))

module _ (look : Look) (content : SelectedValue) (is_expanded has : Bool) (widths : List ℕ) where
  abbrev made : TableValue
  made = separated_table has (output_table is_expanded look content)

  -- without a width, a column is as wide as its content
  pub as_wide : look.width ≡ None → IsArranged made widths → (i : ℕ) → i < length made.columns → slice_index widths i ≡ max 1 (column_content_width made i)
  as_wide none arranged i below =
      let place : 0 + i ≡ i = omega arith in
      subst Is place (at_place Is 0 made.columns (subst (All (λ (p : ℕ × ColumnValue). Is p.0)) (has_rows_of look content is_expanded has).shown each) i below)
    where
      Is : ℕ → Type 0
      Is k = slice_index widths k ≡ max 1 (column_content_width made k)

      known : IsDrawn (separated has look) Any content made
      known = any_drawn look content is_expanded has

      no_width : (separated has look).width ≡ None
      no_width = kept_setting (λ l. l.width) look refl has None none

      kept : width_kept made.arrangement (table_width made) ≡ None
      kept = ap (λ (t : TableValue). width_kept t.arrangement (table_width t)) (drawn-is (separated has look) Any content made known) ∙ rw no_width refl

      free : NoConstraints made
      free = unconstrained-drawn (separated has look) Any content made known (known.no_width no_width)

      all : widths_at widths (shown_columns made) ≡ map (disabled_width made) (shown_columns made)
      all =
          subst (λ (o : Option ℕ). MatchOption o (widths_at widths (shown_columns made) ≡ map (disabled_width made) (shown_columns made)) (λ w. IsDynamicLayout (room_beside_borders made w) (shown_needs made) (is_full_width made.arrangement) (widths_at widths (shown_columns made))))
          kept arranged.shown_widths

      each : All (λ (p : ℕ × ColumnValue). Is p.0) (shown_columns made)
      each j other within =
          let p = slice_index_or (shown_columns made) j other in
          All-same_map (λ (q : ℕ × ColumnValue). slice_index widths q.0) (disabled_width made) (shown_columns made) all j other within ∙ width_by_content made p.0 p.1 (free j other within)

-- so are the columns of expanded records, and those of their parts
pub pairs_kept_whole : (look : Look) (content : SelectedValue) (has : Bool) (widths : List ℕ) (first n : ℕ) → look.has_sequences ≡ false → IsArranged (made look content true has widths) widths → (i : ℕ) → i < length (made look content true has widths).columns → slice_get (whole_pairs look.width) i ≡ Some true
    → widest_whole look.width (with_rows_alone first n (made look content true has widths)) i ≤ max 1 (slice_index widths i)
pairs_kept_whole look content has widths first n unkept arranged i below = by_width look.width refl
  where
    table : TableValue
    table = made look content true has widths

    by_width : (o : Option ℕ) → look.width ≡ o → slice_get (whole_pairs o) i ≡ Some true → widest_whole o (with_rows_alone first n table) i ≤ max 1 (slice_index widths i)
    by_width None none found =
        let own = as_wide look content true has widths none arranged i below in
        let part = part-widest i table first n in
        let whole = widest-content table (no_custom_styling look content true has unkept) i in omega (arith, own, part, whole)
    by_width (Some w) wide found = absurd (cc found)

-- ---- columns of numbers and dates

-- fields are visible unchanged
seen_fields : (fields : List Text) → seen false fields ≡ fields
seen_fields [] = refl
seen_fields (field ∷ fields) = ap (λ (more : List Text). field ∷ more) (seen_fields fields)

seen_rows : (rows : List (List Text)) → map (seen false) rows ≡ rows
seen_rows [] = refl
seen_rows (fields ∷ rows) = (λ i. seen_fields fields i ∷ seen_rows rows i)

-- the drawn columns have numbers and dates alone if their fields are
pub nowrap-shown : (own : ColumnsValue) (keeps : Bool) → keeps ≡ false → (rows : List (List Text)) → map (λ (column : ColumnPlan). column.is_nowrap) (drawn_columns own (map (seen keeps) rows)) ≡ map (has_numbers rows) (positions_of (drawn_columns own (map (seen keeps) rows)))
nowrap-shown own keeps none rows =
    subst (λ (seen_as : List (List Text)). map (λ (column : ColumnPlan). column.is_nowrap) (drawn_columns own seen_as) ≡ map (has_numbers rows) (positions_of (drawn_columns own seen_as)))
    (sym (ap (λ (k : Bool). map (seen k) rows) none ∙ seen_rows rows)) (all own.drawn)
  where
    all : (ps : List ℕ) → map (λ (column : ColumnPlan). column.is_nowrap) (drawn_columns (record own { drawn = ps }) rows) ≡ map (has_numbers rows) (positions_of (drawn_columns (record own { drawn = ps }) rows))
    all [] = refl
    all (p ∷ ps) = ap (λ (more : List Bool). has_numbers rows p ∷ more) (all ps)

-- the alignments of the drawn columns are those of their fields
pub sides-shown : (own : ColumnsValue) (keeps : Bool) → keeps ≡ false → (rows : List (List Text)) → own_sides (drawn_columns own (map (seen keeps) rows)) ≡ map (side_for own rows) own.drawn
sides-shown own keeps none rows =
    subst (λ (seen_as : List (List Text)). own_sides (drawn_columns own seen_as) ≡ map (side_for own rows) own.drawn) (sym (ap (λ (k : Bool). map (seen k) rows) none ∙ seen_rows rows)) (all own.drawn)
  where
    all : (ps : List ℕ) → own_sides (drawn_columns (record own { drawn = ps }) rows) ≡ map (side_for own rows) ps
    all [] = refl
    all (p ∷ ps) = ap (λ (more : List CellAlignment). side_for own rows p ∷ more) (all ps)

-- the marks of the drawn columns are those of their fields
pub marks-shown : (own : ColumnsValue) (keeps : Bool) → keeps ≡ false → (rows : List (List Text)) (are : Bool) (i : ℕ) (d : ColumnPlan) → slice_get (drawn_columns own (map (seen keeps) rows)) i ≡ Some d → (if are then d.points else None) ≡ mark_for are own rows d.position
marks-shown own keeps none rows are i d found =
    by_columns own.drawn i (sym (ap (λ (seen_as : List (List Text)). slice_get (drawn_columns own seen_as) i) (ap (λ (k : Bool). map (seen k) rows) none ∙ seen_rows rows)) ∙ found)
  where
    by_choice : (b : Bool) (p : ℕ) → column_in own rows p ≡ d → (if b then d.points else None) ≡ mark_for b own rows d.position
    by_choice true p same = subst (λ (c : ColumnPlan). c.points ≡ (column_in own rows c.position).points) same refl
    by_choice false p same = refl

    by_columns : (ps : List ℕ) (i : ℕ) → slice_get (drawn_columns (record own { drawn = ps }) rows) i ≡ Some d → (if are then d.points else None) ≡ mark_for are own rows d.position
    by_columns [] i own_is = absurd (cc own_is)
    by_columns (p ∷ ps) zero own_is = by_choice are p (cc own_is)
    by_columns (p ∷ ps) (suc i) own_is = by_columns ps i own_is

-- the columns of a table of rows
pub record AreColumns (look : Look) (content : SelectedValue) : Type 0 where
  pub table : look.is_markdown ≡ false
  pub kind : is_table_expanded look content ≡ false
  pub unbroken : map (λ (column : ColumnPlan). column.is_nowrap) content.columns ≡ map (has_numbers content.rows) (positions_of content.columns)

module _ (look : Look) (content : SelectedValue) (are : AreColumns look content) (has : Bool) (widths : List ℕ) where
  abbrev rows_made : TableValue
  rows_made = separated_table has (output_table false look content)

  -- the columns that must be kept whole are at least as wide as their contents
  pub kept_whole : IsArranged rows_made widths → IfSome look.width (λ w. w ≤ 65535) → (i : ℕ) → i < length rows_made.columns → slice_get (whole_for look.width look.expansion content.is_numbered (positions_of content.columns) content.rows) i ≡ Some true → content_whole look.width rows_made i ≤ max 1 (slice_index widths i)
  kept_whole arranged small i below is_whole = by_width look.width refl small is_whole
    where
      positions : List ℕ
      positions = positions_of content.columns

      Kept : Option ℕ → Type 0
      Kept o = content_whole o rows_made i ≤ max 1 (slice_index widths i)

      own : is_expanded_for look content ≡ false
      own = ap (λ (m : Bool). not m && is_table_expanded look content) are.table ∙ are.kind

      by_width : (o : Option ℕ) → look.width ≡ o → IfSome o (λ w. w ≤ 65535) → slice_get (whole_for o look.expansion content.is_numbered positions content.rows) i ≡ Some true → Kept o
      by_width None none small found = let same = as_wide look content false has widths none arranged i below in omega (arith, same)
      by_width (Some w) wide small found = by_expansion look.expansion refl content.rows refl found
        where
          by_expansion : (e : Expansion) → look.expansion ≡ e → (rows : List (List Text)) → content.rows ≡ rows → slice_get (whole_for (Some w) e content.is_numbered positions rows) i ≡ Some true → Kept (Some w)
          by_expansion e is [] empty found = absurd (cc found)
          by_expansion Always is (fields ∷ rows) some found = absurd (cc found)
          by_expansion Never is (fields ∷ rows) some found = absurd (cc found)
          by_expansion Auto is (fields ∷ rows) some found =
              let long : length content.rows ≡ suc (length rows) = ap length some in
              let filled : (length content.rows == 0) ≡ false = ne_eqb (length content.rows) 0 (λ same. absurd (omega (arith, same, long))) in
              let same : nowrap_in content ≡ (if content.is_numbered then true ∷ [] else []) ++ map (has_numbers (fields ∷ rows)) positions =
              ap (λ (b : Bool). (if content.is_numbered then not b ∷ [] else []) ++ map (λ (column : ColumnPlan). not b && column.is_nowrap) content.columns) filled
              ∙ ap (λ (more : List Bool). (if content.is_numbered then true ∷ [] else []) ++ more) (are.unbroken ∙ ap (λ (rs : List (List Text)). map (has_numbers rs) positions) some) in
              let kept = auto_keeps_whole w look content small are.table wide is own rows_made widths i (has, ap (λ (e : Bool). separated_table has (output_table e look content)) (sym own)) arranged below (ap (λ (bs : List Bool). slice_get bs i) same ∙ found) in
              omega (arith, kept)

-- ---- numbers and dates of expanded records

-- a property of each element that is found is one of each result
found_in : {X Y : Type 0} (P : Y → Type 0) (f : X → Option Y) (xs : List X) → All P (filter_map f xs) → All (λ (x : X). (y : Y) → f x ≡ Some y → P y) xs
found_in {X} {Y} P f [] each = All-nil (λ (x : X). (y : Y) → f x ≡ Some y → P y)
found_in {X} {Y} P f (x ∷ xs) each = by_first (f x) refl each (found_in P f xs)
  where
    Found : X → Type 0
    Found x = (y : Y) → f x ≡ Some y → P y

    by_first : (o : Option Y) → f x ≡ o → All P (cons_option o (filter_map f xs)) → (All P (filter_map f xs) → All Found xs) → All Found (x ∷ xs)
    by_first None none own later = All-cons Found x xs (λ y is. absurd (cc (sym none ∙ is))) (later own)
    by_first (Some y) some own later = All-cons Found x xs (λ z is. subst P (cc (sym some ∙ is)) (All-head P y (filter_map f xs) own)) (later (All-tail P y (filter_map f xs) own))

-- a line over two columns is at least as wide if the first column is wider
wider_name : (style : TableStyle) (a b m : ℕ) → a ≤ b → framed_width style (a ∷ m ∷ []) ≤ framed_width style (b ∷ m ∷ [])
wider_name style a b m within =
    let width = λ (content : ℕ). 2 + content in
    omega (arith, within, sum_by-cons width a (m ∷ []), sum_by-cons width b (m ∷ []))

module _ (look : Look) (content : SelectedValue) (unkept : look.has_sequences ≡ false) (table : look.is_markdown ≡ false) (expanded : is_table_expanded look content ≡ true) (has : Bool) (widths : List ℕ) where
  abbrev pairs_made : TableValue
  pairs_made = separated_table has (output_table true look content)

  pub pairs_keep_numbers : pairs_made.header ≡ None → IsArranged pairs_made widths → (w : ℕ) → w ≤ 65535 → look.width ≡ Some w → All (KeepsNumbers look w (max 1 (slice_index widths 1))) pairs_made.rows
  pairs_keep_numbers no_header arranged w small is =
      All-weaker (λ (row : RowValue). (cell : CellValue) → slice_get row.cells 1 ≡ Some cell → IsPlaced cell) (KeepsNumbers look w (max 1 (slice_index widths 1)))
      (λ row own cell found. All-weaker Line Kept kept cell.text_lines (own cell found)) pairs_made.rows
      (found_in IsPlaced (λ (row : RowValue). slice_get row.cells 1) pairs_made.rows (subst (All IsPlaced) (ap (filter_map (λ (row : RowValue). slice_get row.cells 1)) rows_are) law))
    where
      Line : Text → Type 0
      Line line = is_nowrap line ≡ true → framed_width look.style (needed_by_names (column_content_width pairs_made 0) ∷ measure line ∷ []) ≤ w → measure line ≤ slice_index widths 1

      IsPlaced : CellValue → Type 0
      IsPlaced cell = All Line cell.text_lines

      Kept : Text → Type 0
      Kept line = is_nowrap line ≡ true → framed_width look.style (4 ∷ measure line ∷ []) ≤ w → measure line ≤ max 1 (slice_index widths 1)

      kept : (line : Text) → Line line → Kept line
      kept line own unbroken room =
          let narrower = wider_name look.style (needed_by_names (column_content_width pairs_made 0)) 4 (measure line) (omega arith) in
          let whole = own unbroken (omega (arith, room, narrower)) in omega (arith, whole)

      kind : is_expanded_for look content ≡ true
      kind = ap₂ (λ (m e : Bool). not m && e) table expanded

      law : All IsPlaced (column_cells pairs_made 1)
      law = expanded_keeps_whole w look content small is kind pairs_made widths (has, ap (λ (e : Bool). separated_table has (output_table e look content)) (sym kind)) arranged

      rows_are : measured_rows pairs_made ≡ pairs_made.rows
      rows_are = measured_plain pairs_made (no_custom_styling look content true has unkept) ∙ ap (λ (header : Option RowValue). option_to_list header ++ pairs_made.rows) no_header
