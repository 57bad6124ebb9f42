-- The drawing and the output of some records.
-- Source: this library's own.
use Rattle.std.specs.Prelude.{ℕ, zero, suc, ◌+◌, ◌==◌, Bool, true, false, not, ◌&&◌, ◌||◌, ◌≡◌, nat_le, nat_lt, List, [], ◌∷◌, ◌++◌, Option, Some, None, codes, decimal, drop, flat_map, length, map, slice_get, slice_index_or, sum_by, take, unwrap_or, if◌then◌else◌}
use Rattle.std.specs.List.{list_any, range_with_len}
use Rattle.comfy_parts.specs.CellValue.{RowValue}
use Rattle.comfy_parts.specs.Presets.{ascii_markdown}
use Rattle.comfy_parts.specs.Text.{Text}
use Rattle.comfy_parts.specs.declared.style.cell.CellAlignment.{CellAlignment}
use Rattle.comfy_parts.specs.declared.style.cell.CellAlignment.TheVariants.{Right}
use Rattle.comfy_parts.specs.declared.style.table.ContentArrangement.{ContentArrangement}
use Rattle.comfy_parts.specs.declared.style.table.ContentArrangement.TheVariants.{Disabled, Dynamic, DynamicFullWidth}
use Rattle.comfy_parts.specs.declared.style.table_style.TableStyle.{TableStyle}
use Rattle.comfy_table.specs.Arrangement.{IsArranged}
use Rattle.comfy_table.specs.Drawing.{infos_of, part_of_drawing, terminated_text_of}
use Rattle.comfy_table.specs.Parts.{ArrangedValue, IsArrangedTable, part_lines, part_text}
use Rattle.comfy_table.specs.Pieces.{row_height}
use Rattle.comfy_table.specs.TableValue.{TableValue, max_content_widths, new_table, with_header, with_rows}
use Rattle.csv_tables.specs.Cells.{counted_from, header_for, held, pair_for, row_for}
use Rattle.csv_tables.specs.Fields.{field_or_blank}
use Rattle.csv_tables.specs.Columns.{count_of, filled_count, drawn_columns, name_at, seen}
use Rattle.csv_tables.specs.Markdown.{rule_line}
use Rattle.csv_tables.specs.declared.options.Expansion.{Expansion}
use Rattle.csv_tables.specs.declared.options.Expansion.TheVariants.{Always, Auto, Never as NeverExpanded}
use Rattle.csv_tables.specs.declared.options.Look.{Look}
use Rattle.csv_tables.specs.declared.options.Layout.{Layout}
use Rattle.csv_tables.specs.declared.options.RowSeparators.{RowSeparators}
use Rattle.csv_tables.specs.declared.options.RowSeparators.TheVariants.{Styled, Needed, Never}
use Rattle.csv_tables.specs.declared.options.ColumnPlan.{ColumnPlan}
use Rattle.csv_tables.specs.declared.selection.Noun.{Noun}
use Rattle.csv_tables.specs.declared.selection.Noun.TheVariants.{Record, Row}
use Rattle.csv_tables.specs.declared.selection.Selection.{Selection}
use Rattle.csv_tables.specs.declared.needs.Words.{Words}
use Rattle.csv_tables.specs.declared.needs.Words.TheVariants.{Broken, OfNames}
use Rattle.csv_tables.specs.NoWrap.{Wanted, has_room, with_min_widths, with_min_field_width}

-- ---- records

-- the first rows up to the limit
abbrev pub limited : {A : Type 0} → Option ℕ → List A → List A
limited None rows = rows
limited (Some count) rows = take count rows

-- the fields of the header, if there is one
abbrev pub names_of : Bool → List (List Text) → Option (List Text)
names_of has_header records = if has_header then slice_get records 0 else None

-- the records below the header
abbrev pub records_below : Bool → List (List Text) → List (List Text)
records_below has_header records = if has_header then drop 1 records else records

-- the fields of the header, or an empty list
abbrev pub names_or_none : Selection → List (List Text) → List Text
names_or_none selection records = unwrap_or (names_of selection.has_header records) []

-- the rows of records that are drawn
abbrev pub drawn_rows : Selection → List (List Text) → List (List Text)
drawn_rows selection records =
    limited selection.limit (records_below selection.has_header records)

-- the number of columns of the header and the drawn rows
abbrev pub column_count : Selection → List (List Text) → ℕ
column_count selection records =
    count_of (names_or_none selection records) (drawn_rows selection records)

-- the number of columns that are drawn if the caller chooses no columns
abbrev pub filled_columns : Selection → List (List Text) → ℕ
filled_columns selection records =
    filled_count (names_or_none selection records) (drawn_rows selection records)

-- ---- contents

-- The names, if there are any, the rows and the columns that are drawn. `count` is the number of
-- records below the header, if it is known. A column of numbers precedes the columns if
-- `is_numbered` is true. `noun` is the word for a record.
pub record SelectedValue : Type 0 where
  pub names : Option (List Text)
  pub rows : List (List Text)
  pub columns : List ColumnPlan
  pub count : Option ℕ
  pub is_numbered : Bool
  pub noun : Noun

-- the plans of the columns that are drawn of some records
abbrev pub columns_of : Layout → List (List Text) → List ColumnPlan
columns_of layout records =
    drawn_columns layout.columns
    (map (seen layout.look.has_sequences) (drawn_rows layout.selection records))

-- the part of records that is drawn; `counted` is the number of records below the header, if it is
-- known
abbrev pub selected_of : Option ℕ → Layout → List (List Text) → SelectedValue
selected_of counted layout records =
    record {
      names = names_of layout.selection.has_header records;
      rows = drawn_rows layout.selection records;
      columns = columns_of layout records;
      count = counted;
      is_numbered = layout.selection.is_numbered;
      noun = layout.selection.noun;
    }

-- ---- tables

-- the arrangement for a width: columns are as wide as their contents without one, and otherwise
-- keep to it or fill it
abbrev pub arrangement_for : Option ℕ → Bool → ContentArrangement
arrangement_for None fills = Disabled
arrangement_for (Some width) fills = if fills then DynamicFullWidth else Dynamic

-- a table without rows
abbrev pub empty_table : Look → TableValue
empty_table look =
    record (new_table look.style) {
      set_width = look.width;
      arrangement = arrangement_for look.width look.fills_width;
      enforce_styling = look.has_bold_header;
      custom_styling = look.has_sequences;
    }

-- a table with a header of these names, if there are any
abbrev pub headed_table : Look → Bool → List ColumnPlan → Option (List Text) → TableValue
headed_table look is_numbered columns None = empty_table look
headed_table look is_numbered columns (Some names) =
    with_header (header_for look is_numbered columns names) (empty_table look)

-- a row for each record, with aligned decimal marks or without
abbrev pub rows_of : Look → Bool → SelectedValue → List RowValue
rows_of look is_aligned content =
    map (row_for look is_aligned content.is_numbered content.columns)
    (counted_from 1 content.rows)

-- the table of records
abbrev pub rows_table : Look → Bool → SelectedValue → TableValue
rows_table look is_aligned content =
    with_rows (rows_of look is_aligned content)
    (headed_table look content.is_numbered content.columns content.names)

-- a row for each field of a record, with the name of its column before it
abbrev pub pairs_of : Look → List ColumnPlan → List Text → List Text → List RowValue
pairs_of look columns names fields =
    map (λ (column : ColumnPlan). pair_for look (name_at names column.position)
    (field_or_blank fields column.position)) (held fields columns)

-- the rows of an expanded record, below its heading
abbrev pub pairs_in : Look → SelectedValue → List Text → List RowValue
pairs_in look content fields = pairs_of look content.columns (unwrap_or content.names []) fields

-- the table of expanded records: the rows of each one, below those of the record before
abbrev pub pairs_table : Look → SelectedValue → TableValue
pairs_table look content =
    with_rows (flat_map (pairs_in look content) content.rows) (empty_table look)

-- true for each column that holds numbers and dates alone, as the column of record numbers does. If
-- there are no rows, false for all columns.
abbrev pub nowrap_in : SelectedValue → List Bool
nowrap_in content =
    (if content.is_numbered then not (length content.rows == 0) ∷ [] else [])
    ++ map (λ (column : ColumnPlan). not (length content.rows == 0) && column.is_nowrap)
    content.columns

-- the words that a table of rows keeps whole: those of names, but none if a row has one line at
-- most
abbrev pub least_words : Option ℕ → Words
least_words None = OfNames
least_words (Some height) = if nat_le height 1 then Broken else OfNames

-- the columns and words that a table of rows keeps whole; records are expanded if they have no room
abbrev pub wanted_in : Look → SelectedValue → Wanted
wanted_in look content =
    record { nowrap = nowrap_in content; words = least_words look.max_height }

-- true if the width has room for the table of rows
abbrev pub has_room_for : Look → SelectedValue → Bool → Bool
has_room_for look content is_aligned =
    has_room look.width (wanted_in look content) (rows_table look is_aligned content)

-- true if decimal marks are aligned: there is room for the spaces
abbrev pub is_aligned_in : Look → SelectedValue → Bool
is_aligned_in look content = look.aligns_decimals && has_room_for look content true

-- the table that is drawn, of expanded records or of rows, with all lines of its style. Its numbers
-- and dates aren't broken if there is room.
abbrev pub output_table : Bool → Look → SelectedValue → TableValue
output_table true look content = with_min_field_width look.width (pairs_table look content)
output_table false look content =
    with_min_widths look.width (wanted_in look content)
    (rows_table look (is_aligned_in look content) content)

-- ---- lines between rows

-- a style without lines between rows
abbrev pub condensed_style : TableStyle → TableStyle
condensed_style style =
    record style {
      row_separator = record { left = None; fill = None; junction = None; right = None };
    }

-- a table in another style
abbrev pub with_style : TableStyle → TableValue → TableValue
with_style style table = record table { style = style }

abbrev pub separated_table : Bool → TableValue → TableValue
separated_table true table = table
separated_table false table = with_style (condensed_style table.style) table

-- `is_tall` is true if a row of a table is drawn in more than one line
abbrev pub HasTallRow : TableValue → Bool → Type 0
HasTallRow table is_tall =
    (widths : List ℕ) × IsArranged table widths
    × (is_tall ≡ list_any (λ height. nat_lt 1 height)
    (map (row_height table (infos_of table widths)) table.rows))

-- `has` is true if lines between rows are drawn. For `Styled` they always are, and for `Never`
-- never. For `Needed` they are if a row of the table without these lines has more than one line.
abbrev pub HasSeparators : RowSeparators → TableValue → Bool → Type 0
HasSeparators Styled condensed has = has ≡ true
HasSeparators Never condensed has = has ≡ false
HasSeparators Needed condensed has = HasTallRow condensed has

-- the lines between rows of these records. Between the fields of an expanded record names are
-- enough, so tall rows need no lines.
abbrev pub separators_in : Bool → RowSeparators → RowSeparators
separators_in false wanted = wanted
separators_in true Styled = Styled
separators_in true Needed = Never
separators_in true Never = Never

-- ---- expanded records

-- true if records are expanded: for `Always` always, for `Never` never, and for `Auto` if there is
-- no room for the table of rows
abbrev pub is_expanded_in : Expansion → Bool → Bool
is_expanded_in Always has_room = true
is_expanded_in NeverExpanded has_room = false
is_expanded_in Auto has_room = not has_room

-- true if the records of a table are expanded; without records, the header always has room
abbrev pub is_table_expanded : Look → SelectedValue → Bool
is_table_expanded look content =
    is_expanded_in look.expansion
    ((length content.rows == 0) || has_room_for look content (is_aligned_in look content))

-- true if the records of an output are expanded: never for Markdown
abbrev pub is_expanded_for : Look → SelectedValue → Bool
is_expanded_for look content = not look.is_markdown && is_table_expanded look content

-- the word for one record, and the word for several
abbrev pub one_of : Noun → Text
one_of Record = codes "record"
one_of Row = codes "row"

abbrev pub several_of : Noun → Text
several_of Record = codes "records"
several_of Row = codes "rows"

-- the heading of a record: its number, and the count of records if it is known
abbrev pub record_heading : Noun → ℕ → Option ℕ → Text
record_heading noun number None = (one_of noun ++ codes " ") ++ decimal number
record_heading noun number (Some count) =
    (((one_of noun ++ codes " ") ++ decimal number) ++ codes " of ") ++ decimal count

abbrev pub record_line : Noun → ℕ → Option ℕ → Text
record_line noun number count = record_heading noun number count ++ codes "\n"

-- the number of drawn fields of an expanded record
abbrev pub drawn_fields : SelectedValue → List Text → ℕ
drawn_fields content fields = length (held fields content.columns)

-- the lines of a part of a table, if it has a row
abbrev pub some_lines : ArrangedValue → ℕ → ℕ → List Text
some_lines arranged first zero = []
some_lines arranged first (suc count) = part_lines arranged first (suc count)

-- an expanded record: its heading, and its part of the table, after those of the records before
abbrev pub record_text : SelectedValue → ArrangedValue → ℕ → Text
record_text content arranged at =
    record_line content.noun (at + 1) content.count
    ++ terminated_text_of (some_lines arranged
    (sum_by (drawn_fields content) (take at content.rows))
    (drawn_fields content (slice_index_or content.rows at [])))

-- ---- outputs

-- the text of a table: record by record, or all rows together
abbrev pub table_text : Bool → SelectedValue → ArrangedValue → Text
table_text true content arranged =
    flat_map (record_text content arranged) (range_with_len 0 (length content.rows))
table_text false content arranged = part_text arranged 0 (length arranged.table.rows)

-- `text` is the text of a table, with lines between rows or without
pub record RendersTable (is_expanded : Bool) (look : Look) (content : SelectedValue)
    (text : Text) : Type 0 where
  pub has_separators : Bool
  pub separators :
      HasSeparators (separators_in is_expanded look.separators)
      (separated_table false (output_table is_expanded look content)) has_separators
  pub arranged : ArrangedValue
  pub is_arranged :
      IsArrangedTable (separated_table has_separators (output_table is_expanded look content))
      arranged
  pub is : text ≡ table_text is_expanded content arranged

-- the style of a table for Markdown, without the line below the header
abbrev pub markdown_style : TableStyle
markdown_style =
    record ascii_markdown {
      header_separator = record { left = None; fill = None; junction = None; right = None };
    }

-- `text` is the text of a table of rows, or of expanded records
pub record RendersAsTable (look : Look) (content : SelectedValue) (text : Text) : Type 0 where
  pub is_expanded : Bool
  pub expansion : is_expanded ≡ is_table_expanded look content
  pub drawn : RendersTable is_expanded look content text

-- the look for Markdown, in which a record is one line, whatever else is set
abbrev pub markdown_look : Look → Look
markdown_look look =
    record look {
      style = markdown_style;
      width = None;
      fills_width = false;
      max_height = None;
      has_bold_header = false;
      has_sequences = false;
      is_markdown = true;
    }

-- the same records with a header; without fields if no record is the header
abbrev pub markdown_content : SelectedValue → SelectedValue
markdown_content content = record content { names = Some (unwrap_or content.names []) }

abbrev pub markdown_table : Look → SelectedValue → TableValue
markdown_table look content = rows_table (markdown_look look) false (markdown_content content)

-- the alignment of each column, including the column of numbers
abbrev pub sides : SelectedValue → List (Option CellAlignment)
sides content =
    (if content.is_numbered then Some Right ∷ [] else [])
    ++ map (λ (column : ColumnPlan). column.alignment) content.columns

-- lines with another line below the first one
abbrev pub below_first : Text → List Text → List Text
below_first line [] = []
below_first line (first ∷ rest) = first ∷ line ∷ rest

-- the line below the header, which marks right-aligned columns
abbrev pub markdown_rule : Look → SelectedValue → Text
markdown_rule look content =
    rule_line (sides content) (max_content_widths (markdown_table look content))

-- the lines of a table for Markdown: those of its header, with the rule below the first one, and
-- those of its rows
abbrev pub markdown_lines : Text → ArrangedValue → List Text
markdown_lines rule arranged =
    below_first rule (part_of_drawing arranged.table arranged.infos true false [])
    ++ part_of_drawing arranged.table arranged.infos false true arranged.table.rows

-- `text` is the text of a table for Markdown
pub record RendersAsMarkdown (look : Look) (content : SelectedValue) (text : Text) : Type 0 where
  pub arranged : ArrangedValue
  pub is_arranged : IsArrangedTable (markdown_table look content) arranged
  pub is : text ≡ terminated_text_of (markdown_lines (markdown_rule look content) arranged)

abbrev pub RendersContent : Bool → Look → SelectedValue → Text → Type 0
RendersContent true look content text = RendersAsMarkdown look content text
RendersContent false look content text = RendersAsTable look content text

-- true if there are more records than the limit; an unknown count is greater than any limit
abbrev pub are_more : ℕ → Option ℕ → Bool
are_more limit None = true
are_more limit (Some count) = nat_lt limit count

-- the note about records that aren't drawn
abbrev pub note_text : Noun → ℕ → Option ℕ → Text
note_text noun limit None =
    (((codes "first " ++ decimal limit) ++ codes " ")
    ++ (if limit == 1 then one_of noun else several_of noun)) ++ codes "; there are more"
note_text noun limit (Some count) =
    (((decimal limit ++ codes " of ") ++ decimal count) ++ codes " ") ++ several_of noun

-- the line with this note, or nothing if all records are drawn; in Markdown an empty line precedes
-- it
abbrev pub note_for : Noun → Bool → Option ℕ → Option ℕ → Text
note_for noun is_markdown None count = []
note_for noun is_markdown (Some limit) count =
    if are_more limit count
    then (if is_markdown then codes "\n" else [])
    ++ (note_text noun limit count ++ codes "\n")
    else []

-- `output` is the output for some records: the text of the drawing, and the note about other
-- records. `counted` is the number of records below the header, if it is known.
pub record RendersRecords (counted : Option ℕ) (layout : Layout) (records : List (List Text))
    (output : Text) : Type 0 where
  pub content : SelectedValue
  pub is_content : selected_of counted layout records ≡ content
  pub text : Text
  pub is_text : RendersContent layout.look.is_markdown layout.look content text
  pub joined :
      output
      ≡ text ++ note_for content.noun layout.look.is_markdown layout.selection.limit content.count

-- the number of records below the header
abbrev pub count_below : Selection → List (List Text) → ℕ
count_below selection records = length (records_below selection.has_header records)

-- the output for records that are counted: nothing if there are none
abbrev pub RendersAnyRecords : Layout → List (List Text) → Text → Type 0
RendersAnyRecords layout [] output = output ≡ []
RendersAnyRecords layout (first ∷ rest) output =
    RendersRecords (Some (count_below layout.selection (first ∷ rest))) layout (first ∷ rest)
    output
