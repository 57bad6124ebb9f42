-- The places of fields in the output for records.
-- Source: this library's own.
use Rattle.std.specs.Prelude.{◌≡◌, ◌<◌, ◌≤◌, ◌==◌, ℕ, ◌+◌, Bool, true, false, List, [], ◌∷◌, ◌++◌, Option, None, Some, String, All, IfSome, MatchOption, decimal, drop, filter, flat_map, length, map, nat_lt, option_map, option_to_list, string_bytes, unwrap_or, IsUtf8, chars, if◌then◌else◌, is_some, ◌⊎◌, slice_get}
use Rattle.std.specs.List.{AllZip, enumerate_from, list_all, list_any, range_with_len}
use Rattle.comfy_parts.specs.CellValue.{CellValue, ColumnValue, RowValue, plain_cell}
use Rattle.std.specs.Option.{option_map_or}
use Rattle.comfy_parts.specs.Text.{Text, measure, spaces}
use Rattle.comfy_parts.specs.declared.style.cell.CellAlignment.{CellAlignment}
use Rattle.comfy_parts.specs.declared.style.cell.CellAlignment.TheVariants.{Left, Right}
use Rattle.comfy_table.specs.TableValue.{TableValue, header_and_rows, shown_columns}
use Rattle.comfy_table.specs.Laws.{AreLinesOf}
use Rattle.csv_records.specs.Cleaning.{cleaned, is_replaced}
use Rattle.csv_records.specs.Decimals.{trailing_spaces}
use Rattle.csv_records.specs.declared.decimals.Points.{Points}
use Rattle.csv_tables.specs.Cells.{number_name, unless_blank}
use Rattle.csv_tables.specs.Fields.{field_or_blank}
use Rattle.csv_tables.specs.Columns.{ColumnsValue, column_at, count_of, filled_count, name_at}
use Rattle.csv_command.specs.Columns.{columns_chosen, positions_between, whole_name, without}
use Rattle.csv_tables.specs.Drawn.{condensed_style, drawn_rows, names_of}
use Rattle.csv_tables.specs.declared.options.ColumnPlan.{ColumnPlan}
use Rattle.csv_tables.specs.declared.options.Layout.{Layout}
use Rattle.csv_tables.specs.Summaries.{column_fields, summary_of}
use Rattle.csv_tables.specs.NoWrap.{framed_width, is_nowrap}
use Rattle.csv_tables.specs.declared.options.Expansion.{Expansion}
use Rattle.csv_tables.specs.declared.options.Expansion.TheVariants.{Always, Auto, Never}
use Rattle.csv_tables.specs.declared.options.Look.{Look}
use Rattle.csv_tables.specs.declared.selection.Selection.{Selection}
use Rattle.csv_command.specs.declared.arguments.Options.{Options}
use Rattle.csv_promises.specs.Counted.{AreExpanded, IsDrawnWithNote, IsWrittenFor}
use Rattle.csv_promises.specs.Harmless.{IsInBold}
use Rattle.promises.specs.Headline.{IsFramedTable, IsUncoloured, widest}

-- ---- rows of fields

-- a cell with this alignment holds a field: line by line, or an empty line if the field is blank.
-- The cell breaks at spaces.
pub record HoldsField (side : CellAlignment) (field : Text) (cell : CellValue) : Type 0 where
  pub at_side : unwrap_or cell.alignment Left ≡ side
  pub texts : cell.text_lines ≡ (plain_cell (unless_blank field)).text_lines
  pub no_delimiter : cell.delimiter ≡ None

-- the alignment of the column at a place, which is left after the last column
abbrev pub side_at : List CellAlignment → ℕ → CellAlignment
side_at sides i = unwrap_or (slice_get sides i) Left

-- each cell of a row holds the field at its place, with its column's alignment. If a cell is
-- missing, the field is empty. No height cuts the row
pub record HoldsFields (sides : List CellAlignment) (fields : List Text) (row : RowValue)
    : Type 0 where
  pub each : (i : ℕ) → MatchOption (slice_get row.cells i) (field_or_blank fields i ≡ [])
      (HoldsField (side_at sides i) (field_or_blank fields i))
  pub uncut : row.max_height ≡ None

-- a column with a space on each side, which breaks at spaces and has no alignment of its own
pub record IsFieldColumn (column : ColumnValue) : Type 0 where
  pub padding : column.padding ≡ (1, 1)
  pub no_delimiter : column.delimiter ≡ None
  pub no_alignment : column.alignment ≡ None

-- the cells of a row after the name, or all cells
abbrev pub cells_after_name : Bool → RowValue → List CellValue
cells_after_name true row = drop 1 row.cells
cells_after_name false row = row.cells

-- A table in this look holds rows of fields, with these alignments of its columns. The first row is
-- the header, or there is none, or the first field of each row is a name. Lines between rows may be
-- left out.
pub record IsTableOf (look : Look) (has_header has_names : Bool) (sides : List CellAlignment)
    (rows : List (List Text)) (table : TableValue) : Type 0 where
  pub style : (table.style ≡ look.style) ⊎ (table.style ≡ condensed_style look.style)
  pub header : is_some table.header ≡ has_header
  pub hold : AllZip (HoldsFields sides) rows (header_and_rows table)
  pub columns : All IsFieldColumn table.columns
  pub no_delimiter : table.delimiter ≡ None
  -- each cell has a column, there are as many columns as fields, and all columns are shown
  pub has_columns :
      All (λ (row : RowValue). length row.cells ≤ length table.columns) (header_and_rows table)
  pub as_many : All (λ (fields : List Text). length table.columns ≡ length fields) rows
  pub shown : shown_columns table ≡ enumerate_from 0 table.columns
  -- only the header and names may have colours or attributes
  pub uncoloured :
      All (λ (row : RowValue). All IsUncoloured (cells_after_name has_names row)) table.rows
  pub no_sequences : table.custom_styling ≡ false

-- if the width has room for a line of a row's second cell that is a number or a date, its column
-- has room for it. Borders, paddings and four terminal columns for the name need room too
abbrev pub KeepsNumbers : Look → ℕ → ℕ → RowValue → Type 0
KeepsNumbers look w width row =
    (cell : CellValue) → slice_get row.cells 1 ≡ Some cell
    → All (λ line. is_nowrap line ≡ true
    → framed_width look.style (4 ∷ measure line ∷ []) ≤ w → measure line ≤ width) cell.text_lines

-- the width of the widest text in a column that is kept whole, at least 1; without a width, the
-- header is one of these texts
abbrev pub widest_whole : Option ℕ → TableValue → ℕ → ℕ
widest_whole None table i = widest table i
widest_whole (Some width) table i = widest (record table { header = None }) i

-- each column that is kept whole is at least as wide as its widest text, so that each of its texts
-- is on one line
abbrev pub KeepsWhole : Look → List Bool → TableValue → (ℕ → ℕ) → Type 0
KeepsWhole look whole table width =
    IfSome look.width (λ w. w ≤ 65535) → (i : ℕ) → i < length table.columns
    → slice_get whole i ≡ Some true → widest_whole look.width table i ≤ width i

-- A text has the lines of a table of rows of fields. If a bold header is requested, bold surrounds
-- pieces with texts of the header and the names. `whole` lists the columns that are kept whole.
pub record IsDrawingOf (look : Look) (has_header has_names : Bool) (sides : List CellAlignment)
    (whole : List Bool) (rows : List (List Text)) (text : Text) : Type 0 where
  pub lines : List Text
  pub are : AreLinesOf text lines
  pub table : TableValue
  pub is_table : IsTableOf look has_header has_names sides rows table
  pub framed : IsFramedTable table lines
  pub in_bold : AllZip IsInBold framed.plain lines
  pub unstyled : look.has_bold_header ≡ false → lines ≡ framed.plain
  pub keeps_whole : KeepsWhole look whole table framed.is_plain.width
  -- a number or date of an expanded record that has room is on one line
  pub keeps_numbers : has_names ≡ true → (w : ℕ) → w ≤ 65535 → look.width ≡ Some w
      → All (KeepsNumbers look w (framed.is_plain.width 1)) table.rows

-- a text shows rows of fields in a table, in which these columns are kept whole; without rows it is
-- empty
abbrev pub ShowsRows :
    Look → Bool → Bool → List CellAlignment → List Bool → List (List Text) → Text → Type 0
ShowsRows look has_header has_names sides whole rows text =
    ((rows ≡ []) × (text ≡ [])) ⊎ IsDrawingOf look has_header has_names sides whole rows text

-- ---- alignment and decimal marks

-- the column at a position: right-aligned if its fields are numbers, unless an alignment is chosen
-- for it, and with their decimal mark if they have one
abbrev pub column_in : ColumnsValue → List (List Text) → ℕ → ColumnPlan
column_in columns rows position =
    column_at columns (summary_of (column_fields rows position)) position

abbrev pub side_for : ColumnsValue → List (List Text) → ℕ → CellAlignment
side_for columns rows position = unwrap_or (column_in columns rows position).alignment Left

-- the column of record numbers, if there is one, is right-aligned
abbrev pub sides_after_number : Bool → List CellAlignment → List CellAlignment
sides_after_number is_numbered sides = if is_numbered then Right ∷ sides else sides

abbrev pub sides_for : Bool → ColumnsValue → List (List Text) → List CellAlignment
sides_for is_numbered columns rows =
    sides_after_number is_numbered (map (side_for columns rows) columns.drawn)

-- the decimal mark of a column, if marks are aligned
abbrev pub mark_for : Bool → ColumnsValue → List (List Text) → ℕ → Option Points
mark_for false columns rows position = None
mark_for true columns rows position = (column_in columns rows position).points

abbrev pub no_marks : ℕ → Option Points
no_marks position = None

-- marks are aligned as requested, but perhaps not under a width
pub record AreLinedUp (look : Look) (are : Bool) : Type 0 where
  pub without_width : look.width ≡ None → are ≡ look.aligns_decimals
  pub unaligned : look.aligns_decimals ≡ false → are ≡ false

-- ---- whole columns

-- true if each field at a position is a number, a date or neutral
abbrev pub has_numbers : List (List Text) → ℕ → Bool
has_numbers rows position = list_all is_nowrap (column_fields rows position)

-- true for each column that passes a test, and for the column of record numbers
abbrev pub whole_columns : Bool → List ℕ → (ℕ → Bool) → List Bool
whole_columns is_numbered positions passes =
    (if is_numbered then true ∷ [] else []) ++ map passes positions

-- under a width, columns of numbers and dates are kept whole, and so is that of record numbers, if
-- records may be expanded instead and there is a row
abbrev pub whole_within : Expansion → Bool → List ℕ → List (List Text) → List Bool
whole_within expansion is_numbered positions [] = []
whole_within Auto is_numbered positions (fields ∷ rows) =
    whole_columns is_numbered positions (has_numbers (fields ∷ rows))
whole_within Always is_numbered positions (fields ∷ rows) = []
whole_within Never is_numbered positions (fields ∷ rows) = []

-- without a width, all columns are kept whole
abbrev pub whole_for : Option ℕ → Expansion → Bool → List ℕ → List (List Text) → List Bool
whole_for None expansion is_numbered positions rows =
    whole_columns is_numbered positions (λ position. true)
whole_for (Some width) expansion is_numbered positions rows =
    whole_within expansion is_numbered positions rows

-- without a width, the columns of names and of fields of expanded records are kept whole too
abbrev pub whole_pairs : Option ℕ → List Bool
whole_pairs None = true ∷ true ∷ []
whole_pairs (Some width) = []

-- ---- records

-- the field of a column, cleaned, with the spaces that align its decimal mark
abbrev pub lined_up : Option Points → Text → Text
lined_up None field = cleaned false field
lined_up (Some points) field = cleaned false field ++ spaces (trailing_spaces points field)

-- a record's fields at these positions, with the marks of their columns; missing fields are empty
abbrev pub fields_at : (ℕ → Option Points) → List ℕ → List Text → List Text
fields_at marks positions fields =
    map (λ position. lined_up (marks position) (field_or_blank fields position)) positions

-- the fields of a record after its number, or the names after the name of the number column, if
-- records are numbered
abbrev pub row_after_number : Bool → Text → List Text → List Text
row_after_number is_numbered number fields = if is_numbered then number ∷ fields else fields

-- the fields of records, which are counted from `number` on
abbrev pub rows_from :
    Bool → (ℕ → Option Points) → List ℕ → ℕ → List (List Text) → List (List Text)
rows_from is_numbered marks positions number [] = []
rows_from is_numbered marks positions number (fields ∷ rows) =
    row_after_number is_numbered (decimal number) (fields_at marks positions fields)
    ∷ rows_from is_numbered marks positions (number + 1) rows

-- the fields of records below the names of the header, if there is one
abbrev pub all_rows : Bool → (ℕ → Option Points) → List ℕ → Option (List Text)
    → List (List Text) → List (List Text)
all_rows is_numbered marks positions names rows =
    map (λ fields.
    row_after_number is_numbered (number_name fields) (fields_at no_marks positions fields))
    (option_to_list names) ++ rows_from is_numbered marks positions 1 rows

-- the fields that the record has, each after the name of its column, or after its number if the
-- column has no name
abbrev pub pairs_at : List Text → List ℕ → List Text → List (List Text)
pairs_at names positions fields =
    map (λ position. cleaned false (name_at names position)
    ∷ cleaned false (field_or_blank fields position) ∷ [])
    (filter (λ position. nat_lt position (length fields)) positions)

-- a text shows the names and fields of an expanded record, left-aligned
abbrev pub ShowsPairs : Look → List Text → List ℕ → List Text → Text → Type 0
ShowsPairs look names positions fields text =
    ShowsRows look false true [] (whole_pairs look.width) (pairs_at names positions fields) text

-- the positions of the columns that each word chooses, in the order of the words
abbrev pub positions_by_each : {A : Type 0} → List Text → ℕ → List (String A) → List ℕ
positions_by_each {A} names count words =
    flat_map (λ (word : String A). unwrap_or
    (option_map positions_between (columns_chosen names count (string_bytes word))) []) words

-- the positions of the columns that words choose: that of the column whose name is all words joined
-- by commas, or else those of each word
abbrev pub positions_by : {A : Type 0} → List Text → ℕ → List (String A) → List ℕ
positions_by names count words =
    option_map_or (λ position. positions_between (position, position + 1)) (whole_name names words)
    (positions_by_each names count words)

-- the columns that options choose of a header and rows, without those that options drop. If options
-- choose none, all columns are drawn up to the last that has a name or a field that isn't empty.
abbrev pub positions_in : Options → List Text → List (List Text) → List ℕ
positions_in options names rows =
    without
    (if length options.columns.chosen.items == 0
    then range_with_len 0 (filled_count names rows)
    else positions_by names (count_of names rows) options.columns.chosen.items)
    (positions_by names (count_of names rows) options.columns.dropped.items)

-- the columns that options choose of a header and rows, and their alignments
abbrev pub columns_of_options : Options → List Text → List (List Text) → ColumnsValue
columns_of_options options names rows =
    record {
      drawn = positions_in options names rows;
      right = positions_by names (count_of names rows) options.columns.right.items;
      left = positions_by names (count_of names rows) options.columns.left.items;
    }

-- a text shows these columns of the rows, and of the header if there is one; or it expands the rows
abbrev pub ShowsFields :
    Bool → Look → Selection → ColumnsValue → Option (List Text) → List (List Text) → Option ℕ → Text
    → Type 0
ShowsFields false look selection columns names rows count text =
    (are : Bool) × AreLinedUp look are
    × ShowsRows look (is_some names) false (sides_for selection.is_numbered columns rows)
    (whole_for look.width look.expansion selection.is_numbered columns.drawn rows)
    (all_rows selection.is_numbered (mark_for are columns rows) columns.drawn names rows) text
ShowsFields true look selection columns names rows count text =
    AreExpanded (ShowsPairs look (unwrap_or names []) columns.drawn) selection.noun count 1 rows
    text

-- A text shows the layout's columns of the records that the layout draws, below the header, if
-- there is one, and the note about other records. `MayCount` restricts the number in the note.
abbrev pub ShowsAllFields : (Option ℕ → Type 0) → Layout → List (List Text) → Text → Type 0
ShowsAllFields MayCount layout records text =
    IsDrawnWithNote (λ is_expanded.
    ShowsFields is_expanded layout.look layout.selection layout.columns
    (names_of layout.selection.has_header records) (drawn_rows layout.selection records)) MayCount
    layout.look.expansion layout.selection text

-- a text shows the columns that options choose of the rows, and of the header if there is one; or
-- it expands the rows
abbrev pub ShowsDrawn :
    Bool → Options → Option (List Text) → List (List Text) → Option ℕ → Text → Type 0
ShowsDrawn is_expanded options names rows count text =
    ShowsFields is_expanded options.look options.selection
    (columns_of_options options (unwrap_or names []) rows) names rows count text

-- a text shows records: the header, if there is one, and below it as many as options select, and
-- the note about others
abbrev pub ShowsRecords : Options → List (List Text) → Text → Type 0
ShowsRecords options records text =
    IsWrittenFor (λ is_expanded. ShowsDrawn is_expanded options
    (names_of options.selection.has_header records) (drawn_rows options.selection records)) options
    records text

-- cleaning doesn't change a field in UTF-8 that has no character to replace
abbrev pub StaysAsItIs : Bool → Text → Type 0
StaysAsItIs keeps_sequences field =
    IsUtf8 field → list_any is_replaced (chars field) ≡ false
    → cleaned keeps_sequences field ≡ field
