-- The output for records shows all of their fields.
use Rattle.std.proofs.Common.{◌≡◌, ◌≤◌, ◌==◌, decimal, filter, is_some, ◌||◌, ◌&&◌, inl, inr, ℕ, zero, suc, ◌+◌, Bool, true, false, List, [], ◌∷◌, ◌++◌, Option, Some, None, drop, flat_map, length, map, max, nat_lt, take, refl, sym, ap, ap₂, ◌∙◌, subst, arith, append_assoc, length-append, slice_index_or, unwrap_or}
use Rattle.std.specs.List.{All, AllZip, range_with_len}
use Rattle.std.specs.Prelude.{if◌then◌else◌, option_to_list, slice_get, slice_index, sum_by}
use Rattle.std.specs.Str.{IsUtf8}
use Rattle.std.proofs.Math.Seq.{drop-nil, take-length, take-nil}
use Rattle.std.proofs.lemmas.List.Elements.{All-cons, All-drop, All-head, All-map, All-nil, All-tail, All-take, All-weaker}
use Rattle.comfy_parts.specs.CellValue.{RowValue}
use Rattle.comfy_parts.specs.Text.{Text}
use Rattle.comfy_parts.specs.declared.style.cell.CellAlignment.{CellAlignment}
use Rattle.comfy_table.specs.Drawing.{drawing, drawing_of_infos, infos_of, terminated_text_of}
use Rattle.comfy_table.specs.Headline.{IsTableDrawing}
use Rattle.comfy_table.specs.Laws.{IsStyleWithout}
use Rattle.comfy_table.specs.Parts.{ArrangedValue, with_rows_alone}
use Rattle.comfy_table.specs.TableValue.{TableValue, header_and_rows}
use Rattle.csv.specs.Records.{AllText}
use Rattle.csv_command.proofs.StyleLemmas.{parsed_style_without_controls}
use Rattle.csv_command.specs.declared.arguments.Invocation.{Invocation}
use Rattle.csv_command.specs.declared.arguments.OutputContext.{OutputContext}
use Rattle.csv_tables.proofs.BuiltLemmas.{plain_table}
use Rattle.csv_tables.proofs.LineLemmas.{is_table_text}
use Rattle.csv_tables.proofs.OutputControlLemmas.{unbroken_without}
use Rattle.csv_tables.proofs.FieldControlLemmas.{text_fields}
use Rattle.csv_tables.proofs.RowLemmas.{with_rows-rows}
use Rattle.csv_tables.specs.Cells.{Shown, cell_for, columns_within, held, pair_for, shown_cells, shown_in, with_weight, number_name, row_for, counted_from}
use Rattle.csv_tables.specs.Columns.{ColumnsValue, name_at}
use Rattle.csv_tables.specs.declared.selection.Noun.{Noun}
use Rattle.csv_tables.specs.Drawn.{wanted_in, SelectedValue, RendersAsTable, RendersRecords, RendersTable, columns_of, drawn_fields, drawn_rows, empty_table, has_room_for, headed_table, names_of, note_for, output_table, pairs_in, record_line, record_text, rows_table, separated_table, some_lines, table_text, is_aligned_in, is_table_expanded, names_or_none}
use Rattle.csv_tables.specs.NoWrap.{has_room}
use Rattle.csv_command.specs.Drawn.{layout_with}
use Rattle.csv_tables.specs.declared.options.ColumnPlan.{ColumnPlan}
use Rattle.csv_records.specs.declared.decimals.Points.{Points}
use Rattle.csv_tables.specs.declared.options.Layout.{Layout}
use Rattle.csv_tables.specs.declared.options.Look.{Look}
use Rattle.csv_command.specs.declared.arguments.Options.{Options}
use Rattle.comfy_parts.proofs.CallerLemmas.{All-every}
use Rattle.std.proofs.lemmas.List.{length-map}
use Rattle.csv_records.specs.Cleaning.{cleaned}
use Rattle.csv_tables.specs.Fields.{field_or_blank}
use Rattle.csv_promises.proofs.FrameLemmas.{pair_columns, places_of, reaches, row_columns}
use Rattle.promises.specs.Headline.{IsUncoloured}
use Rattle.csv_promises.proofs.ExpandedLemmas.{rows_at}
use Rattle.csv_promises.proofs.FieldLemmas.{IsRowFor, are_pairs, are_rows, is_header, own_sides, positions_of}
use Rattle.csv_promises.proofs.ColumnLemmas.{are_below, are_columns_chosen, some_position}
use Rattle.csv_promises.proofs.DrawnColumnLemmas.{AreBelow, placed, reaches_last}
use Rattle.csv_promises.proofs.RecordLemmas.{all_drawn, with_rows-header}
use Rattle.csv_promises.proofs.ShownTableLemmas.{HasPlainFields, HasRowsOf, has_rows_of, part_shows, no_custom_styling}
use Rattle.csv_promises.proofs.LineLemmas.{may_expand, no_records, no_rows, none_below, nothing_noted}
use Rattle.csv_promises.proofs.WrittenLemmas.{IsDrawnBy, by_extent}
use Rattle.csv_promises.specs.Counted.{AreExpanded, IsCount, IsWrittenFor}
use Rattle.csv_promises.specs.Fields.{AreLinedUp, IsDrawingOf, KeepsNumbers, KeepsWhole, ShowsAllFields, ShowsFields, fields_at, row_after_number, rows_from, ShowsPairs, ShowsRecords, ShowsRows, columns_of_options, lined_up, mark_for, no_marks, pairs_at, all_rows, sides_after_number, whole_for, whole_pairs}
use Rattle.csv_promises.proofs.WholeLemmas.{AreColumns, kept_whole, marks-shown, pairs_keep_numbers, pairs_kept_whole, sides-shown, nowrap-shown, whole-widest}
use Rattle.csv_promises.specs.Written.{IsWritten}

-- without rows nothing is shown
none_shown : (look : Look) (has_header has_names : Bool) (sides : List CellAlignment) (whole : List Bool) → ShowsRows look has_header has_names sides whole [] []
none_shown look has_header has_names sides whole = inl (refl, refl)

-- a name and a field
abbrev IsPair : List Text → Type 0
IsPair own = length own ≡ 2

-- ---- tables

-- a look in which all fields are drawn
pub record DrawsAll (look : Look) : Type 0 where
  pub unkept : look.has_sequences ≡ false
  pub table : look.is_markdown ≡ false
  pub uncut : look.max_height ≡ None
  pub style : IsStyleWithout 0x0A look.style

module _ (look : Look) (all : DrawsAll look) (is_numbered : Bool) (noun : Noun) (names : Option (List Text)) (rows : List (List Text)) (columns : List ColumnPlan) (count : Option ℕ) where
  abbrev pub content : SelectedValue
  content = record { names = names; rows = rows; columns = columns; count = count; is_numbered = is_numbered; noun = noun }

  abbrev header : List Text
  header = unwrap_or names []

  module _ (is_expanded : Bool) (text : Text) (renders : RendersTable is_expanded look content text) where
    abbrev table : TableValue
    table = separated_table renders.has_separators (output_table is_expanded look content)

    abbrev lines : List Text
    lines = drawing_of_infos table renders.arranged.infos

    abbrev drawn : IsTableDrawing table lines
    drawn = renders.is_arranged.headline

    abbrev arranged : ArrangedValue
    arranged = record { table = table; infos = infos_of table drawn.widths }

    is_text : text ≡ table_text is_expanded content arranged
    is_text = renders.is ∙ ap₂ (λ t infos. table_text is_expanded content (record { table = t; infos = infos })) renders.is_arranged.of_table renders.is_arranged.infos

    abbrev is : HasRowsOf (plain_table is_expanded (is_aligned_in look content) look content) table
    is = has_rows_of look content is_expanded renders.has_separators

    abbrev shows : (first n : ℕ) (has_header has_names : Bool) → is_some table.header ≡ has_header → (sides : List CellAlignment) (fields : List (List Text)) → AllZip (IsRowFor sides) fields (option_to_list table.header ++ take n (drop first table.rows)) → All (λ (own : List Text). length table.columns ≡ length own) fields
        → All (HasPlainFields has_names) (take n (drop first table.rows))
        → (whole : List Bool) → KeepsWhole look whole (with_rows_alone first n table) (λ i. max 1 (slice_index drawn.widths i))
        → (has_names ≡ true → (w : ℕ) → w ≤ 65535 → look.width ≡ Some w → All (KeepsNumbers look w (max 1 (slice_index drawn.widths 1))) (take n (drop first table.rows))) → IsDrawingOf look has_header has_names sides whole fields (terminated_text_of (drawing (with_rows_alone first n table) drawn.widths))
    shows = part_shows look content is_expanded renders.has_separators all.unkept all.style lines drawn

  -- the table of rows
  abbrev sides : List CellAlignment
  sides = sides_after_number is_numbered (own_sides columns)

  pub rows_shown : (text : Text) → RendersTable false look content text → All (All IsUtf8) (option_to_list names ++ rows) → AreColumns look content → (names ≡ None → reaches columns rows ≡ true) → (marks : ℕ → Option Points) → ((i : ℕ) (d : ColumnPlan) → slice_get columns i ≡ Some d → (if is_aligned_in look content then d.points else None) ≡ marks d.position)
      → ShowsRows look (is_some names) false sides (whole_for look.width look.expansion is_numbered (positions_of columns) rows) (all_rows is_numbered marks (positions_of columns) names rows) text
  rows_shown text renders utf8 are reach marks have =
      subst (ShowsRows look (is_some names) false sides whole fields) (sym (is_text false text renders))
      (inr (shows false text renders 0 (length (table false text renders).rows) (is_some names) false headed sides fields
      (subst (λ (own : List RowValue). AllZip (IsRowFor sides) fields (option_to_list (table false text renders).header ++ own)) (sym (take-length (table false text renders).rows)) each) many uncoloured whole wide (λ no. absurd (cc no))))
    where
      whole : List Bool
      whole = whole_for look.width look.expansion is_numbered (positions_of columns) rows

      wide : KeepsWhole look whole (with_rows_alone 0 (length (table false text renders).rows) (table false text renders)) (λ i. max 1 (slice_index (drawn false text renders).widths i))
      wide small i below is_whole =
          let made = table false text renders in
          let widths = (drawn false text renders).widths in
          let kept = kept_whole look content are renders.has_separators widths (drawn false text renders).arranged small i below is_whole in
          whole-widest look.width made (no_custom_styling look content false renders.has_separators all.unkept) i (max 1 (slice_index widths i)) (omega arith) kept

      fields : List (List Text)
      fields = all_rows is_numbered marks (positions_of columns) names rows

      made : List RowValue
      made = map (row_for look (is_aligned_in look content) is_numbered columns) (counted_from 1 rows)

      by_header : (own : Option (List Text)) → is_some (headed_table look is_numbered columns own).header ≡ is_some own
      by_header None = refl
      by_header (Some own) = refl

      headed : is_some (table false text renders).header ≡ is_some names
      headed = ap is_some ((is false text renders).header ∙ with_rows-header made (headed_table look is_numbered columns names)) ∙ by_header names

      after-length : (number : Text) (at : ℕ → Option Points) (own : List Text) → length (row_after_number is_numbered number (fields_at at (positions_of columns) own)) ≡ places_of content
      after-length number at own =
          let long : length (fields_at at (positions_of columns) own) ≡ length columns = length-map (positions_of columns) (λ position. lined_up (at position) (field_or_blank own position)) ∙ length-map columns (λ (column : ColumnPlan). column.position) in
          by_number is_numbered long
        where
          by_number : (b : Bool) → length (fields_at at (positions_of columns) own) ≡ length columns → length (row_after_number b number (fields_at at (positions_of columns) own)) ≡ length columns + (if b then 1 else 0)
          by_number true long = omega (arith, long)
          by_number false long = omega (arith, long)

      Many : List Text → Type 0
      Many own = length (table false text renders).columns ≡ length own

      exact : (own : List Text) → length own ≡ places_of content → Many own
      exact own long = row_columns renders.has_separators look content reach ∙ sym long

      many_from : (n : ℕ) (own : List (List Text)) → All Many (rows_from is_numbered marks (positions_of columns) n own)
      many_from n [] = All-nil Many
      many_from n (first ∷ more) =
          All-cons Many (row_after_number is_numbered (decimal n) (fields_at marks (positions_of columns) first)) (rows_from is_numbered marks (positions_of columns) (n + 1) more)
          (exact (row_after_number is_numbered (decimal n) (fields_at marks (positions_of columns) first)) (after-length (decimal n) marks first)) (many_from (n + 1) more)

      many : All Many fields
      many = by_own names
        where
          by_own : (own : Option (List Text)) → All Many (all_rows is_numbered marks (positions_of columns) own rows)
          by_own None = many_from 1 rows
          by_own (Some own) =
              All-cons Many (row_after_number is_numbered (number_name own) (fields_at no_marks (positions_of columns) own)) (rows_from is_numbered marks (positions_of columns) 1 rows)
              (exact (row_after_number is_numbered (number_name own) (fields_at no_marks (positions_of columns) own)) (after-length (number_name own) no_marks own)) (many_from 1 rows)

      by_names : (own : Option (List Text)) → All (All IsUtf8) (option_to_list own ++ rows)
          → AllZip (IsRowFor sides) (all_rows is_numbered marks (positions_of columns) own rows) (option_to_list (headed_table look is_numbered columns own).header ++ ((headed_table look is_numbered columns own).rows ++ made))
      by_names None each = are_rows look all.unkept all.table all.uncut columns (is_aligned_in look content) is_numbered marks have 1 rows each
      by_names (Some own) each = (
        is_header look all.unkept all.table all.uncut columns is_numbered own (All-head (All IsUtf8) own rows each),
        are_rows look all.unkept all.table all.uncut columns (is_aligned_in look content) is_numbered marks have 1 rows (All-tail (All IsUtf8) own rows each),
      )

      Plain : RowValue → Type 0
      Plain row = All IsUncoloured row.cells

      plain_cells : (shown : List Shown) → All IsUncoloured (shown_cells look false shown)
      plain_cells shown =
          All-map IsUncoloured (λ (s : Shown). with_weight false (cell_for look s.alignment s.text)) shown
          (All-every (λ (s : Shown). IsUncoloured (with_weight false (cell_for look s.alignment s.text))) shown (λ s. record { no_foreground = refl; no_background = refl; no_attributes = refl }))

      plain_made : (own : Option (List Text)) → All Plain ((headed_table look is_numbered columns own).rows ++ made)
      plain_made own = by_own own
        where
          each_made : All Plain made
          each_made =
              All-map Plain (row_for look (is_aligned_in look content) is_numbered columns) (counted_from 1 rows)
              (All-every (λ (r : ℕ × List Text). Plain (row_for look (is_aligned_in look content) is_numbered columns r)) (counted_from 1 rows) (λ r. plain_cells (shown_in look (is_aligned_in look content) is_numbered (columns_within r.1 columns) r)))

          by_own : (header : Option (List Text)) → All Plain ((headed_table look is_numbered columns header).rows ++ made)
          by_own None = each_made
          by_own (Some first) = each_made

      uncoloured : All Plain (take (length (table false text renders).rows) (drop 0 (table false text renders).rows))
      uncoloured =
          subst (All Plain) (sym (take-length (table false text renders).rows))
          (subst (All Plain) (sym ((is false text renders).rows ∙ with_rows-rows made (headed_table look is_numbered columns names))) (plain_made names))

      of_base : AllZip (IsRowFor sides) fields (header_and_rows (rows_table look (is_aligned_in look content) content))
      of_base =
          subst (λ (own : List RowValue). AllZip (IsRowFor sides) fields own)
          (sym (ap₂ (λ (header : Option RowValue) (own : List RowValue). option_to_list header ++ own) (with_rows-header made (headed_table look is_numbered columns names)) (with_rows-rows made (headed_table look is_numbered columns names)))) (by_names names utf8)

      each : AllZip (IsRowFor sides) fields (header_and_rows (table false text renders))
      each =
          subst (AllZip (IsRowFor sides) fields)
          (sym (ap₂ (λ (header : Option RowValue) (own : List RowValue). option_to_list header ++ own) (is false text renders).header (is false text renders).rows)) of_base

  -- the table of expanded records
  module _ (text : Text) (renders : RendersTable true look content text) (expanded : is_table_expanded look content ≡ true) where
    abbrev own_arranged : ArrangedValue
    own_arranged = arranged true text renders

    abbrev own_rows : List RowValue
    own_rows = flat_map (pairs_in look content) rows

    no_header : (table true text renders).header ≡ None
    no_header = (is true text renders).header ∙ with_rows-header own_rows (empty_table look)

    rows_are : (table true text renders).rows ≡ own_rows
    rows_are = (is true text renders).rows ∙ with_rows-rows own_rows (empty_table look)

    -- a part of some rows has a row, so that there are two columns
    two_columns : (first n : ℕ) (fields : List (List Text)) → AllZip (IsRowFor []) fields (take n (drop first (table true text renders).rows)) → All IsPair fields → All (λ (own : List Text). length (table true text renders).columns ≡ length own) fields
    two_columns first n [] each two = All-nil (λ (own : List Text). length (table true text renders).columns ≡ length own)
    two_columns first n (own ∷ fields) each two =
        All-weaker IsPair (λ (own : List Text). length (table true text renders).columns ≡ length own) (λ own is. pair_columns renders.has_separators look content some ∙ sym is) (own ∷ fields) two
      where
        some : ¬ (own_rows ≡ [])
        some none = subst (AllZip (IsRowFor []) (own ∷ fields)) (ap (λ (rs : List RowValue). take n (drop first rs)) (rows_are ∙ none) ∙ ap (take n) (drop-nil first) ∙ take-nil n) each

    -- numbers and dates that have room are kept whole
    numbers : (first n w : ℕ) → w ≤ 65535 → look.width ≡ Some w → All (KeepsNumbers look w (max 1 (slice_index (drawn true text renders).widths 1))) (take n (drop first (table true text renders).rows))
    numbers first n w small is =
        All-take (KeepsNumbers look w width) n (drop first (table true text renders).rows)
        (All-drop (KeepsNumbers look w width) first (table true text renders).rows
        (pairs_keep_numbers look content all.unkept all.table expanded renders.has_separators (drawn true text renders).widths no_header (drawn true text renders).arranged w small is))
      where
        width : ℕ
        width = max 1 (slice_index (drawn true text renders).widths 1)

    by_count : (first n : ℕ) (fields : List (List Text)) → AllZip (IsRowFor []) fields (take n (drop first (table true text renders).rows)) → All (HasPlainFields true) (take n (drop first (table true text renders).rows)) → All IsPair fields → ShowsRows look false true [] (whole_pairs look.width) fields (terminated_text_of (some_lines own_arranged first n))
    by_count first zero [] each plain two = none_shown look false true [] (whole_pairs look.width)
    by_count first zero (own ∷ fields) each plain two = absurd each
    by_count first (suc n) fields each plain two =
        inr (shows true text renders first (suc n) false true (ap is_some no_header) [] fields
        (subst (λ (header : Option RowValue). AllZip (IsRowFor []) fields (option_to_list header ++ take (suc n) (drop first (table true text renders).rows))) (sym no_header) each)
        (two_columns first (suc n) fields each two) plain (whole_pairs look.width)
        (λ small. pairs_kept_whole look content renders.has_separators (drawn true text renders).widths first (suc n) all.unkept (drawn true text renders).arranged)
        (λ names. numbers first (suc n)))

    -- each row has a name and a field
    pairs_two : (fields : List Text) → All IsPair (pairs_at header (positions_of columns) fields)
    pairs_two fields =
        All-map IsPair (λ position. cleaned false (name_at header position) ∷ cleaned false (field_or_blank fields position) ∷ []) held_positions
        (All-every (λ position. IsPair (cleaned false (name_at header position) ∷ cleaned false (field_or_blank fields position) ∷ [])) held_positions (λ position. refl))
      where
        held_positions : List ℕ
        held_positions = filter (λ position. nat_lt position (length fields)) (positions_of columns)

    -- the field isn't in bold
    plain_pairs : (fields : List Text) → All (HasPlainFields true) (pairs_in look content fields)
    plain_pairs fields =
        All-map (HasPlainFields true) row_of (held fields columns)
        (All-every (λ (column : ColumnPlan). HasPlainFields true (row_of column)) (held fields columns) (λ column. All-cons IsUncoloured (cell_for look None (field_or_blank fields column.position)) [] (record { no_foreground = refl; no_background = refl; no_attributes = refl }) (All-nil IsUncoloured)))
      where
        row_of : ColumnPlan → RowValue
        row_of column = pair_for look (name_at header column.position) (field_or_blank fields column.position)

    -- the records from one on
    from : (k : ℕ) (front rest : List (List Text)) → length front ≡ k → rows ≡ front ++ rest → AreExpanded (ShowsPairs look header (positions_of columns)) noun count (k + 1) rest (flat_map (record_text content own_arranged) (range_with_len k (length rest)))
    from k front [] at splits = refl
    from k front (fields ∷ more) at splits = (
      terminated_text_of (some_lines own_arranged first n),
      flat_map (record_text content own_arranged) (range_with_len (k + 1) (length more)),
      append_assoc (record_line noun (k + 1) count) _ _,
      by_count first n (pairs_at header (positions_of columns) fields) (subst (AllZip (IsRowFor []) (pairs_at header (positions_of columns) fields)) (sym rows_of) (are_pairs look all.unkept all.table all.uncut columns header fields columns)) (subst (All (HasPlainFields true)) (sym rows_of) (plain_pairs fields)) (pairs_two fields),
      from (k + 1) (front ++ fields ∷ []) more (omega (arith, length-append front (fields ∷ []), at)) (splits ∙ sym (append_assoc front (fields ∷ []) more)),
    )
      where
        first : ℕ
        first = sum_by (drawn_fields content) (take k rows)

        n : ℕ
        n = drawn_fields content (slice_index_or rows k [])

        rows_of : take n (drop first (table true text renders).rows) ≡ pairs_in look content fields
        rows_of = ap (λ (own : List RowValue). take n (drop first own)) rows_are ∙ rows_at look content k front fields more at splits

    pub records_shown : AreExpanded (ShowsPairs look header (positions_of columns)) noun count 1 rows text
    records_shown = subst (AreExpanded (ShowsPairs look header (positions_of columns)) noun count 1 rows) (sym (is_text true text renders)) (from 0 [] rows refl refl)

-- ---- outputs

module _ (layout : Layout) (all : DrawsAll layout.look) (known : Option ℕ) (records : List (List Text)) (texts : All AllText records) (output : Text) (made : RendersRecords known layout records output)
    (some : 1 ≤ length layout.columns.drawn) (below : AreBelow (names_or_none layout.selection records) (drawn_rows layout.selection records) layout.columns.drawn) where
  abbrev look : Look
  look = layout.look

  abbrev is_numbered : Bool
  is_numbered = layout.selection.is_numbered

  abbrev names : Option (List Text)
  names = names_of layout.selection.has_header records

  abbrev rows : List (List Text)
  rows = drawn_rows layout.selection records

  abbrev columns : List ColumnPlan
  columns = columns_of layout records

  abbrev own : SelectedValue
  own = content look all is_numbered layout.selection.noun names rows columns known

  same : made.content ≡ own
  same = sym made.is_content

  positions : positions_of columns ≡ layout.columns.drawn
  positions = placed layout records known own refl

  utf8 : All (All IsUtf8) (option_to_list names ++ rows)
  utf8 = all_drawn (All IsUtf8) layout.selection.has_header layout.selection.limit records (All-weaker AllText (All IsUtf8) text_fields records texts)

  abbrev Shows : Bool → Option ℕ → Text → Type 0
  Shows is_expanded = ShowsFields is_expanded look layout.selection layout.columns names rows

  abbrev are : Bool
  are = is_aligned_in look own

  lined : AreLinedUp look are
  lined =
      record {
        without_width = λ none. ap (λ (width : Option ℕ). look.aligns_decimals && has_room width (wanted_in look own) (rows_table look true own)) none ∙ and_true look.aligns_decimals;
        unaligned = λ no. ap (λ (b : Bool). b && has_room_for look own true) no;
      }
    where
      and_true : (b : Bool) → (b && true) ≡ b
      and_true true = refl
      and_true false = refl

  by_kind : (is_expanded : Bool) → is_expanded ≡ is_table_expanded look own → (text : Text) → RendersTable is_expanded look own text → Shows is_expanded known text
  by_kind false kind text renders = (
    are,
    lined,
    subst (Rows layout.columns.drawn) (sides-shown layout.columns look.has_sequences all.unkept rows)
        (subst (λ (ps : List ℕ). Rows ps (own_sides columns)) positions
        (rows_shown look all is_numbered layout.selection.noun names rows columns known text renders utf8 (record { table = all.table; kind = sym kind; unbroken = nowrap-shown layout.columns look.has_sequences all.unkept rows }) (reaches_last layout records known own refl some below)
        (mark_for are layout.columns rows) (marks-shown layout.columns look.has_sequences all.unkept rows are))),
  )
    where
      Rows : List ℕ → List CellAlignment → Type 0
      Rows ps own = ShowsRows look (is_some names) false (sides_after_number is_numbered own) (whole_for look.width look.expansion is_numbered ps rows) (all_rows is_numbered (mark_for are layout.columns rows) ps names rows) text
  by_kind true kind text renders =
      subst (λ (ps : List ℕ). AreExpanded (ShowsPairs look (unwrap_or names []) ps) layout.selection.noun known 1 rows text) positions (records_shown look all is_numbered layout.selection.noun names rows columns known text renders (sym kind))

  text : RendersAsTable look own made.text
  text = subst (λ (c : SelectedValue). RendersAsTable look c made.text) same (is_table_text known layout records output made all.table)

  -- an output shows the names, if there are any, the rows, and the note about further records
  pub all_shown : (MayCount : Option ℕ → Type 0) → MayCount known → ShowsAllFields MayCount layout records output
  all_shown MayCount is_count =
      record {
        count = known;
        is_count = is_count;
        is_expanded = text.is_expanded;
        expansion = may_expand look.expansion ((length rows == 0) || has_room_for look own (is_aligned_in look own)) text.is_expanded text.expansion;
        drawn = made.text;
        draws = by_kind text.is_expanded text.expansion made.text text.drawn;
        joined = made.joined ∙ ap₂ (λ (b : Bool) (c : SelectedValue). made.text ++ note_for c.noun b layout.selection.limit c.count) all.table same;
      }

-- without records nothing is shown
pub none_of_all : (MayCount : Option ℕ → Type 0) → MayCount (Some 0) → (layout : Layout) → ShowsAllFields MayCount layout [] []
none_of_all MayCount is_count layout =
    nothing_noted (Shows (names_of layout.selection.has_header []) (drawn_rows layout.selection [])) MayCount layout.look.expansion layout.selection is_count
    (λ is_expanded count.
    subst (λ (own : Option (List Text)). Shows own (drawn_rows layout.selection []) is_expanded count []) (sym (no_records layout.selection.has_header).0)
    (subst (λ (own : List (List Text)). Shows None own is_expanded count []) (sym (no_rows layout.selection)) (by_kind is_expanded count)))
  where
    Shows : Option (List Text) → List (List Text) → Bool → Option ℕ → Text → Type 0
    Shows names rows is_expanded = ShowsFields is_expanded layout.look layout.selection layout.columns names rows

    by_kind : (is_expanded : Bool) (count : Option ℕ) → Shows None [] is_expanded count []
    by_kind true count = refl
    by_kind false count = (layout.look.aligns_decimals, record { without_width = λ none. refl; unaligned = λ no. no }, none_shown layout.look false false _ _)

-- the same for the output for arguments
module _ (arguments : List Text) (context : OutputContext) (invocation : Invocation) (input : Text) (records : List (List Text)) (output : Text) (is : IsWritten false arguments context invocation input records output) where
  abbrev options : Options
  options = invocation.options

  pub fields_shown : options.look.max_height ≡ None → ShowsRecords options records output
  fields_shown uncut = by_extent false arguments context invocation input records output is (ShowsRecords options records output) nothing drawn_by
    where
      all : DrawsAll options.look
      all = record { unkept = is.unkept; table = is.kind; uncut = uncut; style = unbroken_without options.look.style (parsed_style_without_controls arguments context invocation is.is_parsed) }

      no_fields : ShowsRecords options [] []
      no_fields =
          none_of_all (IsCount options []) (none_below options.selection.has_header)
          (layout_with options (columns_of_options options (unwrap_or (names_of options.selection.has_header []) []) (drawn_rows options.selection [])))

      nothing : records ≡ [] → output ≡ [] → ShowsRecords options records output
      nothing empty no_output = subst (λ (rs : List (List Text)). ShowsRecords options rs output) (sym empty) (subst (ShowsRecords options []) (sym no_output) no_fields)

      IsGood : Option (List Text) → List (List Text) → ColumnsValue → Type 0
      IsGood names rows columns = IsWrittenFor (λ is_expanded. ShowsFields is_expanded options.look options.selection columns names rows) options records output

      drawn_by : (known : Option ℕ) (rs : List (List Text)) → IsDrawnBy false arguments context invocation input records output is known rs → ShowsRecords options records output
      drawn_by known rs by =
          let h = options.selection.has_header in
          let own : IsGood (names_of h rs) (drawn_rows options.selection rs) by.made.columns = all_shown (layout_with options by.made.columns) all known rs by.text output by.made.is_output (some_position options rs by.made.columns by.made.are_chosen) (are_below options rs by.made.columns by.made.are_chosen) (IsCount options records) by.counted in
          let chosen = subst (IsGood (names_of h rs) (drawn_rows options.selection rs)) (are_columns_chosen options rs by.made.columns by.made.are_chosen) own in
          subst (λ (names : Option (List Text)). IsGood names (drawn_rows options.selection records) (columns_of_options options (unwrap_or names []) (drawn_rows options.selection records))) by.names
          (subst (λ (rows : List (List Text)). IsGood (names_of h rs) rows (columns_of_options options (unwrap_or (names_of h rs) []) rows)) by.rows chosen)
