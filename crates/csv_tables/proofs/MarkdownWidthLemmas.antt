-- The lines of a table for Markdown are equally wide, including the line below the header.
use Rattle.std.proofs.Common.{◌≡◌, ◌<◌, ◌≤◌, ℕ, zero, suc, ◌+◌, ◌*◌, ◌-◌, Bool, true, false, List, [], ◌∷◌, ◌++◌, Option, Some, None, arith, codes, cond, flat_map, length, map, max, refl, sym, ap, ap₂, ◌∙◌, subst, filter, not, slice_get, sum, sum_by, zip, option_to_list, unwrap_or}
use Rattle.std.specs.List.{All, AllByRecursion, cons_option, enumerate_from, filter_map, range_with_len, repeat}
use Rattle.std.specs.Option.{MatchOption}
use Rattle.std.specs.Prelude.{if◌then◌else◌}
use Rattle.std.proofs.lemmas.List.{length-append, length-map, nil_from_length}
use Rattle.std.proofs.lemmas.List.Elements.{All-head, All-map, All-nil, All-tail, All-weaker}
use Rattle.std.proofs.lemmas.List.FromFn.{length-enumerate_from}
use Rattle.std.proofs.lemmas.List.Sums.{sum_by-cons}
use Rattle.std.proofs.lemmas.Option.{slice_get-get_or}
use Rattle.comfy_parts.proofs.CallerLemmas.{All-every, measure-printable, no_fewer_columns, one_column_characters}
use Rattle.comfy_parts.specs.CellValue.{CellValue, plain_cell, ColumnValue, RowValue, column_padding, info_of, is_hidden_column, is_hidden_constraint}
use Rattle.comfy_parts.specs.Text.{Text, greatest, measure}
use Rattle.comfy_parts.specs.VisibleText.{visible_text}
use Rattle.comfy_parts.specs.declared.style.column.ColumnConstraint.{ColumnConstraint}
use Rattle.comfy_parts.specs.declared.style.table_style.TableStyle.{TableStyle}
use Rattle.comfy_table.proofs.BuiltTableLemmas.{IsNewColumn, built_is_straight}
use Rattle.comfy_table.proofs.ControlLemmas.{free_of_escapes}
use Rattle.comfy_table.proofs.DrawnWidthLemmas.{sum-outer_widths}
use Rattle.comfy_table.proofs.MeasuredLemmas.{measured_rows-is, row_measured}
use Rattle.comfy_table.specs.Arrangement.{IsArranged, is_full_width, room_beside_borders, width_kept, widths_at}
use Rattle.comfy_table.specs.Drawing.{drawing, drawing_of_infos, drawn_header, drawn_row, drawn_rows, infos_of}
use Rattle.comfy_table.specs.Dynamic.{IsDynamicLayout}
use Rattle.comfy_table.specs.Frame.{border_count, optional_frame_line}
use Rattle.comfy_table.specs.Headline.{IsTableDrawing}
use Rattle.comfy_table.specs.Laws.{HasNoControl, line_total}
use Rattle.comfy_table.specs.NewTables.{AreEquallyWide, IsShortRow}
use Rattle.comfy_table.specs.Straight.{IsStraightTable}
use Rattle.comfy_table.specs.TableValue.{TableValue, cell_content_width, column_content_width, header_and_rows, max_content_widths, measured_rows, should_style, shown_columns, table_width, with_row, with_rows}
use Rattle.comfy_table.specs.Widths.{capped_content, disabled_width, fixed_by_constraint, shown_count, shown_needs, upper_boundary}
use Rattle.csv.specs.Records.{AllText}
use Rattle.csv_tables.specs.Cells.{Shown, cell_for, counted_from, header_for, marked, columns_within, row_for, shown_in, shown_names, unless_blank}
use Rattle.csv_records.specs.Cleaning.{cleaned, visible_of}
use Rattle.csv_tables.specs.Markdown.{is_right, rule_line, rule_part}
use Rattle.comfy_parts.specs.declared.style.cell.CellAlignment.{CellAlignment}
use Rattle.comfy_parts.specs.declared.style.cell.CellAlignment.TheVariants.{Right}
use Rattle.csv_tables.specs.declared.options.ColumnPlan.{ColumnPlan}
use Rattle.csv_tables.specs.declared.options.Look.{Look}
use Rattle.csv_tables.specs.declared.options.Layout.{Layout}
use Rattle.csv_tables.proofs.BuiltLemmas.{Built, EachOf, each_content, names-length, row-length, plain_shown}
use Rattle.csv_tables.proofs.OutputLemmas.{each_markdown_line}
use Rattle.comfy_table.specs.Parts.{ArrangedValue, IsArrangedTable}
use Rattle.csv_tables.proofs.OutputControlLemmas.{free_markdown, markdown_lines_of, no_controls, printable_is_seen, rule_is_clear, rule_is_printable}
use Rattle.csv_tables.proofs.LineLemmas.{Any, any_built, never_expanded}
use Rattle.csv_tables.proofs.StraightLemmas.{IsSeenTable, IsShort, empty_is_short, rows_are_straight, short_printable, short_rows}
use Rattle.csv_tables.proofs.TextTableLemmas.{EachLine, rows_of_texts, short_drawn, blank}
use Rattle.csv_tables.specs.Laws.{AreSeen, EachText, IsStraightOutput, MarkdownOutputIsStraight, WholeOutputIsStraight, seen_lines}
use Rattle.csv_tables.specs.Drawn.{SelectedValue, RendersAsMarkdown, RendersRecords, RendersContent, selected_of, markdown_lines, markdown_rule, headed_table, empty_table, markdown_content, markdown_look, markdown_style, markdown_table, sides}
use Rattle.csv_tables.proofs.ReachedLemmas.{reached-length}

-- ---- a header with a cell for each column

-- a row with at most n cells
abbrev HasCells : ℕ → RowValue → Type 0
HasCells n row = length row.cells ≤ n

-- a table with this header and n columns
pub record IsHeaded (n : ℕ) (header : RowValue) (table : TableValue) : Type 0 where
  pub has_header : table.header ≡ Some header
  pub count : length table.columns ≡ n

-- rows of at most n cells keep the header and the columns
rows_keep : (n : ℕ) (header : RowValue) (rows : List RowValue) (table : TableValue) → All (HasCells n) rows → IsHeaded n header table → IsHeaded n header (with_rows rows table)
rows_keep n header [] table each own = own
rows_keep n header (row ∷ rows) table each own =
    let cells = All-head (HasCells n) row rows each in
    let grown = no_fewer_columns (length row.cells) table.columns in
    rows_keep n header rows (with_row row table) (All-tail (HasCells n) row rows each) (record { has_header = own.has_header; count = omega (arith, grown, cells, own.count) })

-- a column with a cell in the first row has a content width of at least 1
counted : (i : ℕ) (row : RowValue) (rows : List RowValue) → i < length row.cells → 1 ≤ greatest (map cell_content_width (filter_map (λ (r : RowValue). slice_get r.cells i) (row ∷ rows)))
counted i row rows within = by_cells row.cells within
  where
    rest : List CellValue
    rest = filter_map (λ (r : RowValue). slice_get r.cells i) rows

    by_cells : (cells : List CellValue) → i < length cells → 1 ≤ greatest (map cell_content_width (cons_option (slice_get cells i) rest))
    by_cells [] within = absurd (omega (arith, within))
    by_cells (cell ∷ cells) within =
        subst (λ (o : Option CellValue). 1 ≤ greatest (map cell_content_width (cons_option o rest))) (sym (slice_get-get_or (cell ∷ cells) i cell within)) (omega arith)

-- ---- what columns take beside each other

abbrev shown_from : ℕ → List ColumnValue → List (ℕ × ColumnValue)
shown_from n columns = filter (λ (p : ℕ × ColumnValue). not (is_hidden_column p.1)) (enumerate_from n columns)

-- new columns are shown
all_shown : (n : ℕ) (columns : List ColumnValue) → All IsNewColumn columns → shown_from n columns ≡ enumerate_from n columns
all_shown n [] each = refl
all_shown n (column ∷ columns) each =
    let own = All-head IsNewColumn column columns each in
    let more = all_shown (n + 1) columns (All-tail IsNewColumn column columns each) in
    ap (λ (o : Option ColumnConstraint). cond (not (is_hidden_constraint o)) ((n, column) ∷ shown_from (n + 1) columns) (shown_from (n + 1) columns)) own.no_constraint
    ∙ ap (λ (ps : List (ℕ × ColumnValue)). (n, column) ∷ ps) more

-- new columns have two paddings each
paddings : (n : ℕ) (columns : List ColumnValue) → All IsNewColumn columns → sum_by (λ (p : ℕ × ColumnValue). column_padding p.1) (enumerate_from n columns) ≡ 2 * length columns
paddings n [] each = refl
paddings n (column ∷ columns) each =
    let own : column_padding column ≡ 2 = ap (λ (p : ℕ × ℕ). p.0 + p.1) (All-head IsNewColumn column columns each).padding in
    let more = paddings (n + 1) columns (All-tail IsNewColumn column columns each) in
    omega (arith, own, more, sum_by-cons (λ (p : ℕ × ColumnValue). column_padding p.1) (n, column) (enumerate_from (n + 1) columns))

-- a column's part of the line below the header has three characters more than its content width
part_length : (side : Option CellAlignment) (width : ℕ) → length (rule_part (side, width)) ≡ width + 3
part_length side width =
    let all = length-append (repeat (width + 1) (codes "-")) (if is_right side then codes ":|" else codes "-|") in
    omega (arith, all, dashes (width + 1), by_side (is_right side))
  where
    dashes : (n : ℕ) → length (repeat n (codes "-")) ≡ n
    dashes zero = refl
    dashes (suc n) = ap (λ (m : ℕ). suc m) (dashes n)

    by_side : (b : Bool) → length (if b then codes ":|" else codes "-|") ≡ 2
    by_side true = refl
    by_side false = refl

-- all parts together have three characters more for each column, if no width is 0
parts_length : (f : ℕ → ℕ) (n : ℕ) (drawn : List (Option CellAlignment)) (columns : List ColumnValue) → length columns ≡ length drawn → ((i : ℕ) → i < length columns → 1 ≤ f (n + i))
    → length (flat_map rule_part (zip drawn (map f (range_with_len n (length columns))))) ≡ 3 * length columns + sum (map (λ (p : ℕ × ColumnValue). max 1 (f p.0)) (enumerate_from n columns))
parts_length f n [] [] same some = refl
parts_length f n [] (column ∷ columns) same some = absurd (omega (arith, same))
parts_length f n (d ∷ drawn) [] same some = absurd (omega (arith, same))
parts_length f n (d ∷ drawn) (column ∷ columns) same some =
    let more = parts_length f (n + 1) drawn columns (omega (arith, same)) (λ i below. let moved : n + 1 + i ≡ n + suc i = omega arith in subst (λ (j : ℕ). 1 ≤ f j) (sym moved) (some (suc i) (omega (arith, below)))) in
    let here : 1 ≤ f n = let moved : n + 0 ≡ n = omega arith in subst (λ (j : ℕ). 1 ≤ f j) moved (some 0 (omega arith)) in
    omega (
      arith,
      more,
      here,
      part_length d (f n),
      length-append (rule_part (d, f n)) (flat_map rule_part (zip drawn (map f (range_with_len (n + 1) (length columns))))),
      sum_by-cons (λ (x : ℕ). x) (max 1 (f n)) (map (λ (p : ℕ × ColumnValue). max 1 (f p.0)) (enumerate_from (n + 1) columns)),
    )

-- ---- a drawing without columns

-- without columns, a table in this style has no line
module _ (table : TableValue) (own : table.style ≡ markdown_style) where
  no_header : (header : Option RowValue) → drawn_header table [] header ≡ []
  no_header None = refl
  no_header (Some row) = ap (λ (style : TableStyle). optional_frame_line style style.header_separator []) own

  no_others : (rows : List RowValue) → flat_map (λ (row : RowValue). optional_frame_line table.style table.style.row_separator [] ++ drawn_row table [] table.style.content_lines row) rows ≡ []
  no_others [] = refl
  no_others (row ∷ rows) = rw (ap (λ (style : TableStyle). optional_frame_line style style.row_separator []) own) (no_others rows)

  no_rows : (rows : List RowValue) → drawn_rows table [] rows ≡ []
  no_rows [] = refl
  no_rows (row ∷ rows) = no_others rows

  none_drawn : (widths : List ℕ) → table.columns ≡ [] → drawing table widths ≡ []
  none_drawn widths none =
      let infos : infos_of table widths ≡ [] = ap (λ (columns : List ColumnValue). map (λ (p : ColumnValue × ℕ). info_of p.0 p.1) (zip columns widths)) none in
      let top : optional_frame_line table.style table.style.top_border [] ≡ [] = ap (λ (style : TableStyle). optional_frame_line style style.top_border []) own in
      let bottom : optional_frame_line table.style table.style.bottom_border [] ≡ [] = ap (λ (style : TableStyle). optional_frame_line style style.bottom_border []) own in
      ap (drawing_of_infos table) infos ∙ ap₂ (λ a b. a ++ b) top (ap₂ (λ a b. a ++ b) (no_header table.header) (ap₂ (λ a b. a ++ b) (no_rows table.rows) bottom))

-- ---- the table for Markdown

pub sides-length : (content : SelectedValue) → length (sides content) ≡ (if content.is_numbered then 1 else 0) + length content.columns
sides-length content = by_numbers content.is_numbered
  where
    by_numbers : (b : Bool) → length ((if b then Some Right ∷ [] else []) ++ map (λ (column : ColumnPlan). column.alignment) content.columns) ≡ (if b then 1 else 0) + length content.columns
    by_numbers true = let own : length (map (λ (column : ColumnPlan). column.alignment) content.columns) ≡ length content.columns = length-map content.columns _ in omega (arith, own)
    by_numbers false = let own : length (map (λ (column : ColumnPlan). column.alignment) content.columns) ≡ length content.columns = length-map content.columns _ in omega (arith, own)

module _ (look : Look) (content : SelectedValue) where
  abbrev pub table : TableValue
  table = markdown_table look content

  abbrev pub header : RowValue
  header = header_for (markdown_look look) content.is_numbered content.columns (unwrap_or content.names [])

  pub known : Built (markdown_look look) Any (markdown_content content) table
  known = any_built false false (markdown_look look) (markdown_content content)

  -- the header has a cell for each column
  cells_count : length header.cells ≡ length (sides content)
  cells_count = length-map (shown_names (markdown_look look) content.is_numbered content.columns (unwrap_or content.names [])) _ ∙ names-length (markdown_look look) content.is_numbered content.columns (unwrap_or content.names []) ∙ sym (sides-length content)

  pub headed : IsHeaded (length (sides content)) header table
  headed =
      let grown = no_fewer_columns (length header.cells) [] in
      let row = row_for (markdown_look look) false content.is_numbered content.columns in
      rows_keep (length (sides content)) header (map row (counted_from 1 content.rows)) (headed_table (markdown_look look) content.is_numbered content.columns (Some (unwrap_or content.names [])))
      (All-map (HasCells (length (sides content))) row (counted_from 1 content.rows)
      (All-every (λ r. HasCells (length (sides content)) (row r)) (counted_from 1 content.rows) few_cells))
      (record { has_header = refl; count = omega (arith, grown, cells_count) })
    where
      few_cells : (r : ℕ × List Text) → HasCells (length (sides content)) (row_for (markdown_look look) false content.is_numbered content.columns r)
      few_cells r =
          let few = reached-length r.1 content.columns in
          let shown = shown_in (markdown_look look) false content.is_numbered (columns_within r.1 content.columns) r in
          let cells = length-map shown (λ (s : Shown). cell_for (markdown_look look) s.alignment s.text) in
          omega (arith, few, cells, row-length (markdown_look look) false content.is_numbered (columns_within r.1 content.columns) r, sides-length content)

  -- the rows as they are measured
  pub rows_measured : measured_rows table ≡ header ∷ map (row_measured false) table.rows
  rows_measured =
      let custom : table.custom_styling ≡ false = ap (λ (t : TableValue). t.custom_styling) known.is in
      measured_rows-is table ∙ ap (λ (b : Bool). map (row_measured b) (header_and_rows table)) custom ∙ ap (λ (h : Option RowValue). map (row_measured false) (option_to_list h ++ table.rows)) headed.has_header

  some_content : (i : ℕ) → i < length table.columns → 1 ≤ column_content_width table i
  some_content i below =
      let cells = cells_count in
      subst (λ (rows : List RowValue). 1 ≤ greatest (map cell_content_width (filter_map (λ (r : RowValue). slice_get r.cells i) rows))) (sym rows_measured) (counted i header (map (row_measured false) table.rows) (omega (arith, below, cells, headed.count)))

  no_width : width_kept table.arrangement (table_width table) ≡ None
  no_width = ap (λ (t : TableValue). width_kept t.arrangement (table_width t)) known.is

  -- the content of the column at a position, at least 1
  abbrev pub content_at : ℕ × ColumnValue → ℕ
  content_at p = max 1 (column_content_width table p.0)

  contents : (n : ℕ) (columns : List ColumnValue) → All IsNewColumn columns → map (disabled_width table) (enumerate_from n columns) ≡ map content_at (enumerate_from n columns)
  contents n [] each = refl
  contents n (column ∷ columns) each =
      ap₂ (λ (x : ℕ) (xs : List ℕ). x ∷ xs) (by_content n column (All-head IsNewColumn column columns each).no_constraint) (contents (n + 1) columns (All-tail IsNewColumn column columns each))
    where
      by_content : (i : ℕ) (column : ColumnValue) → column.constraint ≡ None → disabled_width table (i, column) ≡ max 1 (column_content_width table i)
      by_content i column none =
          ap (λ (c : Option ColumnConstraint). unwrap_or (fixed_by_constraint table (shown_count table) (column_content_width table i) (column_padding column) c) (capped_content (column_content_width table i) (column_padding column) (upper_boundary table (shown_count table) c))) none

  each_some : (columns : List (ℕ × ColumnValue)) → AllByRecursion (λ (w : ℕ). 1 ≤ w) (map content_at columns)
  each_some [] = tt
  each_some (p ∷ columns) = (omega arith, each_some columns)

  pub all_columns : shown_columns table ≡ enumerate_from 0 table.columns
  all_columns = all_shown 0 table.columns known.columns

  module _ (widths : List ℕ) (arranged : IsArranged table widths) where
    pub by_contents : widths_at widths (shown_columns table) ≡ map content_at (enumerate_from 0 table.columns)
    by_contents =
        subst (λ (o : Option ℕ). MatchOption o (widths_at widths (shown_columns table) ≡ map (disabled_width table) (shown_columns table)) (λ w. IsDynamicLayout (room_beside_borders table w) (shown_needs table) (is_full_width table.arrangement) (widths_at widths (shown_columns table)))) no_width arranged.shown_widths
        ∙ ap (map (disabled_width table)) all_columns ∙ contents 0 table.columns known.columns

    -- the line below the header is as wide as the others
    rule_is_as_wide : 0 < length (sides content) → measure (rule_line (sides content) (max_content_widths table)) ≡ line_total table widths
    rule_is_as_wide some =
        let whole = sum-outer_widths table widths arranged.one_for_each (subst (AllByRecursion (λ (w : ℕ). 1 ≤ w)) (sym by_contents) (each_some (enumerate_from 0 table.columns))) in
        let sums : sum (widths_at widths (shown_columns table)) ≡ sum (map content_at (enumerate_from 0 table.columns)) = ap sum by_contents in
        let two_each : sum_by (λ (p : ℕ × ColumnValue). column_padding p.1) (shown_columns table) ≡ 2 * length table.columns =
        ap (sum_by (λ (p : ℕ × ColumnValue). column_padding p.1)) all_columns ∙ paddings 0 table.columns known.columns in
        let count : shown_count table ≡ length table.columns = ap (λ (ps : List (ℕ × ColumnValue)). length ps) all_columns ∙ length-enumerate_from 0 table.columns in
        let borders : border_count table.style (shown_count table) ≡ 2 + (shown_count table - 1) = ap (λ (t : TableValue). border_count t.style (shown_count table)) known.is in
        let parts : length (flat_map rule_part (zip (sides content) (max_content_widths table))) ≡ 3 * length table.columns + sum (map content_at (enumerate_from 0 table.columns)) =
        parts_length (column_content_width table) 0 (sides content) table.columns headed.count (λ i below. let moved : i ≡ 0 + i = omega arith in subst (λ (j : ℕ). 1 ≤ column_content_width table j) moved (some_content i below)) in
        let printable : measure (rule_line (sides content) (max_content_widths table)) ≡ length (rule_line (sides content) (max_content_widths table)) = measure-printable _ (rule_is_printable (sides content) (max_content_widths table)) in
        let bar : length (rule_line (sides content) (max_content_widths table)) ≡ 1 + length (flat_map rule_part (zip (sides content) (max_content_widths table))) = omega arith in
        omega (arith, whole, sums, two_each, count, borders, parts, printable, bar, headed.count, some)

  -- all visible lines are equally wide
  pub markdown_lines_are_straight : EachOf (All (EachLine IsShort (markdown_look look))) (markdown_content content) → (visible : Bool) → IsSeenTable visible (markdown_look look) table → (arranged : ArrangedValue) → IsArrangedTable table arranged
      → AreEquallyWide (seen_lines visible (markdown_lines (markdown_rule look content) arranged))
  markdown_lines_are_straight each visible seen arranged is = (
    line_total table drawing.widths,
    All-map (λ line. measure line ≡ line_total table drawing.widths) (visible_of visible) (markdown_lines rule arranged)
        (each_markdown_line (Is visible) look content arranged rule is (by_kind visible seen) (λ some. seen_rule visible ∙ rule_is_as_wide drawing.widths drawing.arranged (some_columns some (sides content) refl))),
  )
    where
      rule : Text
      rule = markdown_rule look content

      lines : List Text
      lines = drawing_of_infos table arranged.infos

      drawing : IsTableDrawing table lines
      drawing = is.headline

      Is : Bool → Text → Type 0
      Is kind line = measure (visible_of kind line) ≡ line_total table drawing.widths

      straight : IsStraightTable table drawing.widths
      straight =
          built_is_straight (empty_table (markdown_look look)) refl table drawing.widths
          (rows_of_texts IsShort empty_is_short (markdown_look look) (short_drawn IsShort short_printable (markdown_look look)) IsShortRow (short_rows (markdown_look look) refl) (markdown_content content) false (plain_shown (EachLine IsShort (markdown_look look)) (blank IsShort empty_is_short (markdown_look look)) (markdown_look look) (markdown_content content) each)) (one_column_characters markdown_style refl) no_width

      by_kind : (kind : Bool) → IsSeenTable kind (markdown_look look) table → All (Is kind) lines
      by_kind true free = drawing.sequences.straight_without_sequences (free_of_escapes table free) straight
      by_kind false plain =
          subst (All (Is false)) (sym (drawing.edges.unstyled_lines (ap should_style known.is) (ap (λ (t : TableValue). t.custom_styling) known.is))) (drawing.edges.straight straight)

      seen_rule : (kind : Bool) → measure (visible_of kind rule) ≡ measure rule
      seen_rule true = ap measure (printable_is_seen rule (rule_is_printable (sides content) (max_content_widths table)))
      seen_rule false = refl

      some_columns : 0 < length lines → (columns : List (Option CellAlignment)) → sides content ≡ columns → 0 < length (sides content)
      some_columns some [] none =
          let no_columns : length table.columns ≡ 0 = headed.count ∙ ap (λ (cs : List (Option CellAlignment)). length cs) none in
          let empty = ap length (drawing.drawn ∙ none_drawn table (ap (λ (t : TableValue). t.style) known.is) drawing.widths (nil_from_length table.columns no_columns)) in
          absurd (omega (arith, some, empty))
      some_columns some (column ∷ columns) own = rw own (omega arith)

-- no control character is visible in them
clear_markdown : (visible : Bool) (look : Look) (content : SelectedValue) (arranged : ArrangedValue) → IsArrangedTable (markdown_table look content) arranged → IsSeenTable visible (markdown_look look) (markdown_table look content)
    → visible ≡ true → All HasNoControl (seen_lines visible (markdown_lines (markdown_rule look content) arranged))
clear_markdown false look content arranged drawn plain is = absurd (cc is)
clear_markdown true look content arranged drawn free is =
    let rule = markdown_rule look content in
    All-map HasNoControl visible_text (markdown_lines rule arranged)
    (each_markdown_line (λ (line : Text). HasNoControl (visible_text line)) look content arranged rule drawn (drawn.headline.controls.without_controls free) (λ some. no_controls _ (rule_is_clear (sides content) (max_content_widths (markdown_table look content)))))

-- ---- outputs

-- a field is drawn in the same way for Markdown
pub drawn_for_markdown : (look : Look) → look.is_markdown ≡ true → (field : Text) → EachLine IsShort look field → EachLine IsShort (markdown_look look) field
drawn_for_markdown look is field own =
    subst (λ (b : Bool). All IsShort (plain_cell (if b then marked (cleaned false field) else unless_blank (cleaned look.has_sequences field))).text_lines) is own

-- the header has these names, or none if it is blank
pub with_names : (P : List Text → Type 0) → P [] → (content : SelectedValue) → EachOf P content → EachOf P (markdown_content content)
with_names P none content own = record { names = λ names is. by_names content.names own.names names is; rows = own.rows }
  where
    by_names : (names : Option (List Text)) → ((n : List Text) → names ≡ Some n → P n) → (n : List Text) → Some (unwrap_or names []) ≡ Some n → P n
    by_names None own n is = let same : [] ≡ n = cc is in subst P same none
    by_names (Some names) own n is = let same : names ≡ n = cc is in subst P same (own names refl)

-- the table for Markdown is seen as it is written, or without sequences
abbrev AreSeenInMarkdown : Bool → List (List Text) → Type 0
AreSeenInMarkdown false records = Unit {0}
AreSeenInMarkdown true records = All AllText records

seen_markdown : (visible : Bool) (counted : Option ℕ) (layout : Layout) (records : List (List Text)) (content : SelectedValue) → selected_of counted layout records ≡ content → AreSeenInMarkdown visible records → IsSeenTable visible (markdown_look layout.look) (markdown_table layout.look content)
seen_markdown false counted layout records content is any = refl
seen_markdown true counted layout records content is text = free_markdown layout.look content (each_content AllText counted layout records content is text)

markdown_straight : (visible : Bool) (counted : Option ℕ) (layout : Layout) (records : List (List Text)) (output : Text) → AreSeenInMarkdown visible records → layout.look.is_markdown ≡ true
    → EachText IsShort layout.look records → RendersRecords counted layout records output → IsStraightOutput visible counted layout records output
markdown_straight visible counted layout records output own is short made =
    let look = layout.look in
    let Short = All (EachLine IsShort (markdown_look look)) in
    let text : RendersAsMarkdown look made.content made.text = subst (λ b. RendersContent b look made.content made.text) is made.is_text in
    let fields : All Short records = All-weaker (All (EachLine IsShort look)) Short (λ fields. All-weaker (EachLine IsShort look) (EachLine IsShort (markdown_look look)) (drawn_for_markdown look is) fields) records short in
    let each = with_names Short (All-nil (EachLine IsShort (markdown_look look))) made.content (each_content Short counted layout records made.content made.is_content fields) in
    let seen = seen_markdown visible counted layout records made.content made.is_content own in
    record {
      lines = markdown_lines (markdown_rule look made.content) text.arranged;
      is_output = record { content = made.content; is_content = made.is_content; is_expanded = false; expansion = never_expanded look made.content is; text = made.text; has_lines = markdown_lines_of look made.content made.text text; joined = made.joined };
      equally_wide = markdown_lines_are_straight look made.content each visible seen text.arranged text.is_arranged;
      clear = clear_markdown visible look made.content text.arranged text.is_arranged seen;
    }

pub markdown_is_straight : (counted : Option ℕ) (layout : Layout) (records : List (List Text)) (output : Text) → MarkdownOutputIsStraight counted layout records output
markdown_is_straight counted layout records output is short made = markdown_straight false counted layout records output tt is short made

pub whole_is_straight : (visible : Bool) (counted : Option ℕ) (layout : Layout) (records : List (List Text)) (output : Text) → WholeOutputIsStraight visible counted layout records output
whole_is_straight visible counted layout records output characters plain no_width cut short made = by_markdown layout.look.is_markdown refl
  where
    in_markdown : (kind : Bool) → AreSeen kind layout.look records → AreSeenInMarkdown kind records
    in_markdown true own = own.1
    in_markdown false own = tt

    by_markdown : (b : Bool) → layout.look.is_markdown ≡ b → IsStraightOutput visible counted layout records output
    by_markdown true is = markdown_straight visible counted layout records output (in_markdown visible plain.seen) is short made
    by_markdown false none = rows_are_straight visible counted layout records output none characters plain no_width cut short made
