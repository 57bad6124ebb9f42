-- Columns and fields that aren't broken over lines, and the widths that have room for them. Widths
-- are counted in terminal columns.
-- Source: this library's own.
use Rattle.std.specs.Prelude.{ℕ, ◌+◌, ◌-◌, Bool, ◌==◌, ◌&&◌, ◌||◌, true, false, List, [], ◌∷◌, Option, Some, None, chars, codes, filter, length, map, max, min, nat_le, nat_lt, option_and_then, slice_get, slice_index, sum_by, unwrap_or, if◌then◌else◌}
use Rattle.std.specs.Char.{is_ascii_digit}
use Rattle.std.specs.List.{list_all, list_any, range_with_len, slice_split}
use Rattle.comfy_parts.specs.CellValue.{CellValue, ColumnValue, RowValue}
use Rattle.comfy_parts.specs.Text.{Text, greatest, measure}
use Rattle.comfy_parts.specs.declared.style.column.ColumnConstraint.{ColumnConstraint}
use Rattle.comfy_parts.specs.declared.style.column.ColumnConstraint.TheVariants.{Absolute, LowerBoundary}
use Rattle.comfy_parts.specs.declared.style.column.Width.TheVariants.{Fixed}
use Rattle.comfy_parts.specs.declared.style.table_style.TableStyle.{TableStyle}
use Rattle.comfy_table.specs.Frame.{border_count}
use Rattle.comfy_table.specs.TableValue.{TableValue, cell_content_width, column_cells, column_content_width, constrained, max_content_widths, measured_cell}
use Rattle.csv_records.specs.Number.{is_neutral, is_number}
use Rattle.csv_tables.specs.Decimals.{longest_kept}
use Rattle.csv_tables.specs.declared.needs.Words.{Words}
use Rattle.csv_tables.specs.declared.needs.Words.TheVariants.{Broken, OfFields, OfNames}

-- ---- columns that aren't broken

-- true for the characters of dates and times: digits, these marks, and spaces
abbrev pub is_of_dates : ℕ → Bool
is_of_dates c = is_ascii_digit c || list_any (λ mark. mark == c) (codes "-/:.TZ+ ")

-- true for a short number, neutral field, date or time
abbrev pub is_short_value : Text → Bool
is_short_value field =
    nat_le (length (chars field)) longest_kept
    && (list_all is_of_dates field || (is_number field || is_neutral field))

-- the longest time stamps have nanoseconds and a zone: `2026-05-02T12:30:00.123456789+01:00`
abbrev pub longest_stamp : ℕ
longest_stamp = 35

-- true for the characters of time stamps, which include the letters of `UTC`, `AM` and `PM`
abbrev pub is_of_stamps : ℕ → Bool
is_of_stamps c = is_of_dates c || list_any (λ letter. letter == c) (codes "UCAPM")

-- true for a time stamp: characters of time stamps alone, with a colon
abbrev pub is_stamp : Text → Bool
is_stamp field =
    nat_le (length field) longest_stamp
    && (list_any (λ c. c == 0x3A) field && list_all is_of_stamps field)

-- true for a field that isn't broken
abbrev pub is_nowrap : Text → Bool
is_nowrap field = is_short_value field || is_stamp field

-- the columns that hold fields alone that aren't broken, and the words that the other columns keep
-- whole
pub record Wanted : Type 0 where
  pub nowrap : List Bool
  pub words : Words

-- these wanted columns, with other words that are kept whole
abbrev pub with_words : Words → Wanted → Wanted
with_words words wanted = record wanted { words = words }

-- ---- widths

-- the width of a line over columns of these contents: borders, contents and paddings
abbrev pub framed_width : TableStyle → List ℕ → ℕ
framed_width style contents =
    border_count style (length contents) + sum_by (λ content. 2 + content) contents

-- the width of the widest word of a text line; words are separated by spaces
abbrev pub word_width : Text → ℕ
word_width line = greatest (map measure (slice_split (λ b. b == 0x20) line))

-- the greatest content width that any column keeps, whatever its name
abbrev pub least_level : ℕ
least_level = 8

-- the greatest width that a column keeps for a word of its name
abbrev pub longest_word : ℕ
longest_word = 20

-- a width above `least_level`, up to `longest_word`; 0 for a smaller one
abbrev pub clamped_word : ℕ → ℕ
clamped_word width = if nat_lt least_level width then min longest_word width else 0

-- the width of the widest word of a name, as `clamped_word` limits it
abbrev pub wide_word : TableValue → Option CellValue → ℕ
wide_word table None = 0
wide_word table (Some name) =
    clamped_word (greatest (map word_width (measured_cell table name).text_lines))

-- the name of the column at a position
abbrev pub name_in : TableValue → ℕ → Option CellValue
name_in table i = option_and_then (λ (row : RowValue). slice_get row.cells i) table.header

-- the width that a column keeps for a wide word of its name
abbrev pub kept_of_name : Words → ℕ → ℕ
kept_of_name Broken width = 0
kept_of_name OfNames width = width
kept_of_name OfFields width = width

-- a table without its header
abbrev pub without_header : TableValue → TableValue
without_header table = record table { header = None }

-- the width of the widest word of a cell
abbrev pub cell_word_width : CellValue → ℕ
cell_word_width cell = greatest (map word_width cell.text_lines)

-- the width of a cell that isn't broken, or of its widest word
abbrev pub cell_need : Bool → CellValue → ℕ
cell_need true cell = cell_content_width cell
cell_need false cell = cell_word_width cell

-- the greatest width that a field of the column at a position needs (`cell_need`), as fields are
-- drawn
abbrev pub fields_need : Bool → TableValue → ℕ → ℕ
fields_need is_nowrap table i =
    greatest (map (cell_need is_nowrap) (column_cells (without_header table) i))

-- the greatest width of a word of a field that is kept whole
abbrev pub longest_whole : ℕ
longest_whole = 40

-- the width of a wide word of a field, or `longest_word` if it is too wide to be kept whole
abbrev pub kept_word : ℕ → ℕ
kept_word width =
    if nat_lt least_level width
    then (if nat_lt longest_whole width then longest_word else width)
    else 0

-- the width that a column of text keeps for the widest word of its fields
abbrev pub kept_of_word : Words → ℕ → ℕ
kept_of_word Broken width = 0
kept_of_word OfNames width = 0
kept_of_word OfFields width = kept_word width

-- the width that a column keeps for its fields: all of it, if they aren't broken, or else that of a
-- word
abbrev pub kept_of_fields : Words → Bool → ℕ → ℕ
kept_of_fields words is_nowrap need =
    if is_nowrap then max least_level need else kept_of_word words need

-- the width that the column at a position keeps in any case: all of a narrow content, or else the
-- width that its fields and its name need
abbrev pub min_width : Wanted → TableValue → ℕ → ℕ
min_width wanted table i =
    let content = column_content_width table i in
    let is_nowrap = unwrap_or (slice_get wanted.nowrap i) false in
    if nat_le content least_level
    then content
    else min content (max (kept_of_name wanted.words (wide_word table (name_in table i)))
    (kept_of_fields wanted.words is_nowrap (min content (fields_need is_nowrap table i))))

-- the content width of a column, if columns share a width up to a level: the level at most, but not
-- less than the column keeps
abbrev pub shared_content : ℕ → ℕ → ℕ → ℕ
shared_content level kept content = max 1 (max kept (min level content))

-- the content width of the column at a position, if columns share a width up to a level
abbrev pub width_at_level : ℕ → Wanted → TableValue → ℕ → ℕ
width_at_level level wanted table i =
    shared_content level (min_width wanted table i) (column_content_width table i)

-- a value for each column
abbrev pub by_columns : (ℕ → ℕ) → TableValue → List ℕ
by_columns f table = map f (range_with_len 0 (length table.columns))

-- the width of a table of rows whose columns share it up to a level
abbrev pub shared_width : ℕ → Wanted → TableValue → ℕ
shared_width level wanted table =
    framed_width table.style (by_columns (width_at_level level wanted table) table)

-- the least width of the table
abbrev pub least_width : Wanted → TableValue → ℕ
least_width wanted table = shared_width least_level wanted table

-- the greatest level, up to `level`, that passes a test, or 0 if none does
abbrev pub greatest_level : (ℕ → Bool) → ℕ → ℕ
greatest_level passes level = greatest (filter passes (range_with_len 1 level))

-- the greatest level for which the width has room
abbrev pub fair_level : ℕ → Wanted → TableValue → ℕ
fair_level width wanted table =
    greatest_level (λ level. nat_le (shared_width level wanted table) width) width

-- true if the width has room for the least width of the table
abbrev pub has_room : Option ℕ → Wanted → TableValue → Bool
has_room None wanted table = true
has_room (Some width) wanted table = nat_le (least_width wanted table) width

-- the width of this content with its paddings, or 0 for no content, which is no boundary
abbrev pub boundary_for : ℕ → ℕ
boundary_for content = if nat_lt 0 content then content + 2 else 0

-- the constraint of a column that has at least this content width
abbrev pub lower_bound : ℕ → ColumnConstraint
lower_bound content = LowerBoundary (Fixed (boundary_for content))

-- a table whose columns have these lower boundaries
abbrev pub with_lower_bounds : List ℕ → TableValue → TableValue
with_lower_bounds kept table =
    record table { columns = constrained (map lower_bound kept) table.columns }

-- the content width that the column at a position gets beforehand: the width that it keeps, if it
-- isn't broken or keeps more than the level, and otherwise 0
abbrev pub reserved_width : ℕ → Wanted → TableValue → ℕ → ℕ
reserved_width level wanted table i =
    let kept = min_width wanted table i in
    if unwrap_or (slice_get wanted.nowrap i) false || nat_lt level kept then kept else 0

-- The words that are kept whole in a width: the wanted ones if all contents have room. Otherwise
-- those of names and fields, or those of names, or the wanted ones, whichever has room first.
abbrev pub with_most_words : (ℕ → Wanted → Bool) → ℕ → Wanted → Wanted
with_most_words fits width wanted =
    if fits width wanted
    then wanted
    else if fits least_level (with_words OfFields wanted)
    then with_words OfFields wanted
    else if fits least_level (with_words OfNames wanted)
    then with_words OfNames wanted
    else wanted

-- the words that are kept whole in a table
abbrev pub most_wanted : ℕ → Wanted → TableValue → Wanted
most_wanted width wanted table =
    with_most_words (λ (level : ℕ) (own : Wanted). nat_le (shared_width level own table) width)
    width wanted

-- the content widths that columns get beforehand, for the words in `wanted`
abbrev pub given_to : ℕ → Wanted → TableValue → List ℕ
given_to width wanted table =
    by_columns (reserved_width (fair_level width wanted table) wanted table) table

-- the content widths that columns get beforehand, if as many words as possible stay whole
abbrev pub given_in : ℕ → Wanted → TableValue → List ℕ
given_in width wanted table = given_to width (most_wanted width wanted table) table

-- a table with lower boundaries that keep words and fields whole, if the width has room; otherwise
-- the table stays as it is
abbrev pub with_min_widths : Option ℕ → Wanted → TableValue → TableValue
with_min_widths None wanted table = table
with_min_widths (Some width) wanted table =
    if has_room (Some width) wanted table
    then with_lower_bounds (given_in width wanted table) table
    else table

-- ---- fields of expanded records

-- the room of a width for the contents of two columns: without borders and paddings
abbrev pub room_for_two : ℕ → TableStyle → ℕ
room_for_two width style = width - framed_width style (0 ∷ 0 ∷ [])

-- the greatest width that the names of expanded records need
abbrev pub needed_names : ℕ
needed_names = 4

-- the width that names of this content need, at least one terminal column
abbrev pub needed_by_names : ℕ → ℕ
needed_by_names names = max 1 (min names needed_names)

-- the rest of the room for the fields
abbrev pub room_beside : ℕ → ℕ → ℕ
room_beside names room = room - needed_by_names names

-- the width of a text line that is a number or a date and has room; otherwise 0
abbrev pub nowrap_width : ℕ → Text → ℕ
nowrap_width room line =
    if is_nowrap line && nat_le (measure line) room then measure line else 0

-- the greatest width of a cell's text lines that are numbers or dates and have room; 0 if there are
-- none
abbrev pub cell_nowrap_width : ℕ → CellValue → ℕ
cell_nowrap_width room cell = greatest (map (nowrap_width room) cell.text_lines)

-- the greatest width of a number or date that has room among the fields, which are in the second
-- column
abbrev pub field_width : ℕ → TableValue → ℕ
field_width room table = greatest (map (cell_nowrap_width room) (column_cells table 1))

-- true if a field of this width might be broken beside names of this content: the room is smaller
-- than the field and the lesser of both together
abbrev pub may_break : ℕ → ℕ → ℕ → Bool
may_break room names field = nat_lt room (min names field + field)

-- a column of this content width and its paddings
abbrev pub with_content : ℕ → ColumnValue → ColumnValue
with_content content column =
    record column { constraint = Some (Absolute (Fixed (content + 2))) }

-- columns of which the second has this content width
abbrev pub with_second : ℕ → List ColumnValue → List ColumnValue
with_second content [] = []
with_second content (names ∷ []) = names ∷ []
with_second content (names ∷ fields ∷ more) =
    names ∷ with_content content fields ∷ more

abbrev pub with_field_width : ℕ → TableValue → TableValue
with_field_width content table = record table { columns = with_second content table.columns }

-- a table with room for a field of this width, if the field might be broken; otherwise the table
-- stays as it is
abbrev pub with_room_for : ℕ → ℕ → ℕ → TableValue → TableValue
with_room_for room names field table =
    if may_break room names field then with_field_width field table else table

-- the table of expanded records in a width: no number and no date of a field is broken if it has
-- room beside the names
abbrev pub with_min_field_width : Option ℕ → TableValue → TableValue
with_min_field_width None table = table
with_min_field_width (Some width) table =
    let room = room_for_two width table.style in
    let names = slice_index (max_content_widths table) 0 in
    with_room_for room names (field_width (room_beside names room) table) table
