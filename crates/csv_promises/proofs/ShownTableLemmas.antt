-- The table that is drawn of records, and the fields that its parts show.
use Rattle.std.proofs.Common.{◌≡◌, ◌≤◌, ◌⊎◌, inl, inr, is_some, ◌||◌, ℕ, Bool, true, false, not, List, [], ◌∷◌, ◌++◌, Option, Some, None, drop, filter, length, max, take, refl, sym, ap, ◌∙◌, subst, arith}
use Rattle.std.specs.List.{All, AllByRecursion, AllZip, enumerate_from}
use Rattle.std.specs.Prelude.{Contains, if◌then◌else◌, option_to_list, slice_index}
use Rattle.std.proofs.lemmas.List.Elements.{All-append, All-cons, All-nil, All-contains, All-contains_itself, All-drop, All-from_recursion, All-take, All-weaker, recursion_from_All}
use Rattle.comfy_parts.proofs.CallerLemmas.{every-parts, every-places, filter_all}
use Rattle.comfy_parts.specs.CellValue.{ColumnValue, RowValue, is_hidden_column, is_hidden_constraint}
use Rattle.comfy_parts.specs.Text.{Text}
use Rattle.comfy_parts.specs.declared.style.cell.CellAlignment.{CellAlignment}
use Rattle.comfy_table.proofs.BuiltTableLemmas.{IsNewColumn}
use Rattle.comfy_table.proofs.PartLemmas.{part_has_lines_of_table}
use Rattle.comfy_table.specs.Drawing.{drawing, infos_of, terminated_text_of}
use Rattle.comfy_table.specs.Headline.{IsTableDrawing}
use Rattle.comfy_table.specs.Laws.{HasNoBreak, IsStyleWithout}
use Rattle.comfy_table.specs.Parts.{with_rows_alone}
use Rattle.comfy_table.specs.TableValue.{TableValue, header_and_rows, is_tty, max_content_widths, should_style, shown_columns}
use Rattle.csv_tables.proofs.BuiltLemmas.{plain_table}
use Rattle.csv_tables.proofs.LineLemmas.{Any, any_built, any_drawn, kept_setting, unbroken_lines}
use Rattle.csv_tables.proofs.SeparatorLemmas.{separated}
use Rattle.csv_tables.proofs.WholeColumnLemmas.{IsPaddedColumn, all_shown, leasts-length, leasts_on}
use Rattle.csv_tables.proofs.WholeTableLemmas.{IsDrawn, drawn-is}
use Rattle.csv_tables.specs.Drawn.{SelectedValue, condensed_style, empty_table, output_table, pairs_table, rows_table, separated_table, is_aligned_in, wanted_in}
use Rattle.csv_tables.specs.NoWrap.{field_width, has_room, with_min_widths, given_in, with_min_field_width, may_break, room_beside, room_for_two, with_field_width, with_lower_bounds, with_second}
use Rattle.csv_tables.specs.declared.options.Look.{Look}
use Rattle.promises.proofs.KeptLemmas.{part_framed, part_plain, part_width}
use Rattle.promises.specs.Headline.{IsUncoloured}
use Rattle.csv_promises.proofs.BoldLemmas.{IsWeighted, weighted_lines}
use Rattle.csv_promises.proofs.FieldLemmas.{IsRowFor}
use Rattle.csv_promises.proofs.RecordLemmas.{HasColumns, table_has_columns}
use Rattle.csv_promises.specs.Fields.{HoldsFields, IsDrawingOf, IsFieldColumn, KeepsNumbers, KeepsWhole, widest_whole, cells_after_name}
use Rattle.csv_promises.specs.Harmless.{IsInBold}

-- ---- columns

abbrev is_shown : ℕ × ColumnValue → Bool
is_shown p = not (is_hidden_column p.1)

-- a table has the rows of another one, and as many columns, all of which are shown
pub record HasRowsOf (base t : TableValue) : Type 0 where
  pub header : t.header ≡ base.header
  pub rows : t.rows ≡ base.rows
  pub as_many : length t.columns ≡ length base.columns
  pub shown : shown_columns t ≡ enumerate_from 0 t.columns

with_columns : (base : TableValue) (has : Bool) (columns : List ColumnValue) → length columns ≡ length base.columns → filter is_shown (enumerate_from 0 columns) ≡ enumerate_from 0 columns → HasRowsOf base (separated_table has (record base { columns = columns }))
with_columns base true columns as_many shown = record { header = refl; rows = refl; as_many = as_many; shown = shown }
with_columns base false columns as_many shown = record { header = refl; rows = refl; as_many = as_many; shown = shown }

second-length : (field : ℕ) (columns : List ColumnValue) → length (with_second field columns) ≡ length columns
second-length field [] = refl
second-length field (names ∷ []) = refl
second-length field (names ∷ fields ∷ more) = refl

abbrev IsSeen : ColumnValue → Type 0
IsSeen column = not (is_hidden_column column) ≡ true

new_is_seen : (column : ColumnValue) → IsNewColumn column → IsSeen column
new_is_seen column new = ap (λ c. not (is_hidden_constraint c)) new.no_constraint

new_are_seen : (columns : List ColumnValue) → AllByRecursion IsNewColumn columns → AllByRecursion IsSeen columns
new_are_seen [] new = tt
new_are_seen (column ∷ columns) new = (new_is_seen column new.0, new_are_seen columns new.1)

second_are_seen : (field : ℕ) (columns : List ColumnValue) → AllByRecursion IsNewColumn columns → AllByRecursion IsSeen (with_second field columns)
second_are_seen field [] new = tt
second_are_seen field (names ∷ []) new = (new_is_seen names new.0, tt)
second_are_seen field (names ∷ fields ∷ more) new = (new_is_seen names new.0, (refl, new_are_seen more new.1.1))

-- the cells of a row have neither colours nor attributes, except that of a name
abbrev pub HasPlainFields : Bool → RowValue → Type 0
HasPlainFields has_names row = All IsUncoloured (cells_after_name has_names row)

-- ---- the table that is drawn

module _ (look : Look) (content : SelectedValue) where
  pub has_rows_of : (is_expanded has : Bool) → HasRowsOf (plain_table is_expanded (is_aligned_in look content) look content) (separated_table has (output_table is_expanded look content))
  has_rows_of true has = by_width look.width
    where
      pairs : TableValue
      pairs = pairs_table look content

      new : AllByRecursion IsNewColumn pairs.columns
      new = recursion_from_All IsNewColumn pairs.columns (any_built true false look content).columns

      as_it_is : HasRowsOf pairs (separated_table has pairs)
      as_it_is = with_columns pairs has pairs.columns refl (all_shown [] pairs.columns new)

      by_width : (width : Option ℕ) → HasRowsOf pairs (separated_table has (with_min_field_width width pairs))
      by_width None = as_it_is
      by_width (Some w) = by_test (may_break room names field)
        where
          room : ℕ
          room = room_for_two w pairs.style

          names : ℕ
          names = slice_index (max_content_widths pairs) 0

          field : ℕ
          field = field_width (room_beside names room) pairs

          by_test : (b : Bool) → HasRowsOf pairs (separated_table has (if b then with_field_width field pairs else pairs))
          by_test false = as_it_is
          by_test true =
              with_columns pairs has (with_second field pairs.columns) (second-length field pairs.columns)
              (filter_all is_shown (enumerate_from 0 (with_second field pairs.columns)) (every-places IsSeen 0 (with_second field pairs.columns) (second_are_seen field pairs.columns new)))
  has_rows_of false has = by_width look.width
    where
      rows : TableValue
      rows = rows_table look (is_aligned_in look content) content

      new : AllByRecursion IsNewColumn rows.columns
      new = recursion_from_All IsNewColumn rows.columns (any_built false (is_aligned_in look content) look content).columns

      constrained : (kept : List ℕ) → HasRowsOf rows (separated_table has (with_lower_bounds kept rows))
      constrained kept = with_columns rows has (leasts_on kept rows.columns) (leasts-length kept rows.columns) (all_shown kept rows.columns new)

      by_width : (width : Option ℕ) → HasRowsOf rows (separated_table has (with_min_widths width (wanted_in look content) rows))
      by_width None = constrained []
      by_width (Some w) = by_room (has_room (Some w) (wanted_in look content) rows)
        where
          by_room : (b : Bool) → HasRowsOf rows (separated_table has (if b then with_lower_bounds (given_in w (wanted_in look content) rows) rows else rows))
          by_room true = constrained (given_in w (wanted_in look content) rows)
          by_room false = constrained []

  module _ (is_expanded has : Bool) where
    abbrev pub made : TableValue
    made = separated_table has (output_table is_expanded look content)

    is : HasRowsOf (plain_table is_expanded (is_aligned_in look content) look content) made
    is = has_rows_of is_expanded has

    known : IsDrawn (separated has look) Any content made
    known = any_drawn look content is_expanded has

    looks : made ≡ record (empty_table (separated has look)) { columns = made.columns; header = made.header; rows = made.rows }
    looks = drawn-is (separated has look) Any content made known

    padded : AllByRecursion IsPaddedColumn made.columns
    padded = subst (λ (t : TableValue). AllByRecursion IsPaddedColumn t.columns) (sym known.is_plain) known.padded

    unstyled : look.has_bold_header ≡ false → should_style made ≡ false
    unstyled none = ap should_style looks ∙ ap (λ (b : Bool). b || is_tty (empty_table (separated has look))) (kept_setting (λ l. l.has_bold_header) look refl has false none)

    pub no_custom_styling : look.has_sequences ≡ false → made.custom_styling ≡ false
    no_custom_styling unkept = ap (λ (t : TableValue). t.custom_styling) looks ∙ kept_setting (λ l. l.has_sequences) look refl has false unkept

    -- the style is that of the look, with lines between rows or without
    style_is : (made.style ≡ look.style) ⊎ (made.style ≡ condensed_style look.style)
    style_is = by_lines has (ap (λ (t : TableValue). t.style) looks)
      where
        by_lines : (h : Bool) → made.style ≡ (separated h look).style → (made.style ≡ look.style) ⊎ (made.style ≡ condensed_style look.style)
        by_lines true same = inl same
        by_lines false same = inr same

    columns : All IsFieldColumn made.columns
    columns = All-weaker IsPaddedColumn IsFieldColumn (λ column own. record { padding = own.padding; no_delimiter = own.no_delimiter; no_alignment = own.no_alignment }) made.columns (All-from_recursion IsPaddedColumn made.columns padded)

    have_columns : All (HasColumns made) (header_and_rows made)
    have_columns =
        subst (λ (header : Option RowValue). All (HasColumns made) (option_to_list header ++ made.rows)) (sym is.header)
        (subst (λ (rows : List RowValue). All (HasColumns made) (option_to_list base.header ++ rows)) (sym is.rows)
        (All-weaker (HasColumns base) (HasColumns made) (λ row own. omega (arith, own, is.as_many)) (header_and_rows base) (table_has_columns is_expanded (is_aligned_in look content) look content)))
      where
        base : TableValue
        base = plain_table is_expanded (is_aligned_in look content) look content

    -- ---- a part of it

    module _ (unkept : look.has_sequences ≡ false) (style : IsStyleWithout 0x0A look.style) (lines : List Text) (drawn : IsTableDrawing made lines) (first count : ℕ) where
      abbrev alone : List RowValue
      alone = take count (drop first made.rows)

      abbrev pub part : TableValue
      part = with_rows_alone first count made

      within : All (Contains made.rows) alone
      within = All-take (Contains made.rows) count (drop first made.rows) (All-drop (Contains made.rows) first made.rows (All-contains_itself made.rows))

      all_hold : (sides : List CellAlignment) (fields : List (List Text)) (rows : List RowValue) → AllZip (IsRowFor sides) fields rows → AllZip (HoldsFields sides) fields rows
      all_hold sides [] [] each = tt
      all_hold sides [] (row ∷ rows) each = absurd each
      all_hold sides (own ∷ fields) [] each = absurd each
      all_hold sides (own ∷ fields) (row ∷ rows) each = (each.0.hold, all_hold sides fields rows each.1)

      all_weighted : (sides : List CellAlignment) (fields : List (List Text)) (rows : List RowValue) → AllZip (IsRowFor sides) fields rows → All (λ (row : RowValue). All IsWeighted row.cells) rows
      all_weighted sides [] [] each = All-nil (λ (row : RowValue). All IsWeighted row.cells)
      all_weighted sides [] (row ∷ rows) each = absurd each
      all_weighted sides (own ∷ fields) [] each = absurd each
      all_weighted sides (own ∷ fields) (row ∷ rows) each = All-cons (λ (r : RowValue). All IsWeighted r.cells) row rows each.0.weighted (all_weighted sides fields rows each.1)

      pub part_shows : (has_header has_names : Bool) → is_some made.header ≡ has_header → (sides : List CellAlignment) (fields : List (List Text)) → AllZip (IsRowFor sides) fields (header_and_rows part) → All (λ (own : List Text). length made.columns ≡ length own) fields → All (HasPlainFields has_names) alone
          → (whole : List Bool) → KeepsWhole look whole part (λ i. max 1 (slice_index drawn.widths i)) → (has_names ≡ true → (w : ℕ) → w ≤ 65535 → look.width ≡ Some w → All (KeepsNumbers look w (max 1 (slice_index drawn.widths 1))) alone) → IsDrawingOf look has_header has_names sides whole fields (terminated_text_of (drawing part drawn.widths))
      part_shows has_header has_names header sides fields each as_many uncoloured whole wide numbers =
          let plain = no_custom_styling unkept in
          let framed = part_framed made lines drawn plain alone within in
          let both = every-parts (HasColumns made) (option_to_list made.header) made.rows (recursion_from_All (HasColumns made) _ have_columns) in
          let few =
          All-append (HasColumns made) (option_to_list made.header) alone (All-from_recursion (HasColumns made) (option_to_list made.header) both.0)
          (All-weaker (Contains made.rows) (HasColumns made) (λ row own. All-contains (HasColumns made) made.rows row (All-from_recursion (HasColumns made) made.rows both.1) own) alone within) in
          record {
            lines = drawing part drawn.widths;
            are = record { joined = refl; unbroken = All-weaker (Contains whole_lines) HasNoBreak (λ line own. All-contains HasNoBreak whole_lines line unbroken own) (drawing part drawn.widths) (part_has_lines_of_table made (infos_of made drawn.widths) first count) };
            table = part;
            is_table = record { style = style_is; header = header; hold = all_hold sides fields (header_and_rows part) each; columns = columns; no_delimiter = ap (λ (t : TableValue). t.delimiter) looks; has_columns = few; as_many = as_many; shown = is.shown; uncoloured = uncoloured; no_sequences = plain };
            framed = framed;
            in_bold = subst (λ (ls : List Text). AllZip IsInBold ls (drawing part drawn.widths)) (sym (part_plain made lines drawn plain alone within)) (weighted_lines part (ap (λ (t : TableValue). t.style_text_only) looks) drawn.widths (all_weighted sides fields (header_and_rows part) each));
            unstyled = λ none. framed.unstyled (unstyled none);
            keeps_whole = λ small i below is. subst (λ (width : ℕ). widest_whole look.width part i ≤ width) (sym (part_width made lines drawn plain alone within i)) (wide small i below is);
            keeps_numbers = λ names w small is. subst (λ (width : ℕ). All (KeepsNumbers look w width) alone) (sym (part_width made lines drawn plain alone within 1)) (numbers names w small is);
          }
        where
          whole_lines : List Text
          whole_lines = drawing made drawn.widths

          unbroken : All HasNoBreak whole_lines
          unbroken = subst (All HasNoBreak) drawn.drawn (unbroken_lines look content is_expanded has lines style drawn)
