-- The cells and rows of records.
-- Source: this library's own.
use Rattle.std.specs.Prelude.{ℕ, Bool, ◌==◌, ◌||◌, ◌+◌, false, List, [], ◌∷◌, ◌++◌, Option, None, Some, chars, codes, decimal, filter, length, map, nat_lt, option_map, max, if◌then◌else◌}
use Rattle.std.specs.List.{list_all, list_any}
use Rattle.std.specs.Str.{encode_utf8_all}
use Rattle.comfy_parts.specs.CellValue.{CellValue, RowValue, plain_cell, plain_row}
use Rattle.comfy_parts.specs.Text.{Text}
use Rattle.comfy_parts.specs.declared.style.attribute.Attribute.TheVariants.{Bold}
use Rattle.comfy_parts.specs.declared.style.cell.CellAlignment.{CellAlignment}
use Rattle.comfy_parts.specs.declared.style.cell.CellAlignment.TheVariants.{Right}
use Rattle.csv_tables.specs.Decimals.{spaced}
use Rattle.csv_tables.specs.Fields.{field_or_blank}
use Rattle.csv_records.specs.Cleaning.{cleaned}
use Rattle.csv_tables.specs.Markdown.{escaped}
use Rattle.csv_tables.specs.declared.options.Look.{Look}
use Rattle.csv_tables.specs.declared.options.ColumnPlan.{ColumnPlan}

-- a text for a Markdown table
abbrev pub marked : Text → Text
marked text = encode_utf8_all (escaped (chars text))

-- true for a text of spaces and line feeds alone
abbrev pub is_blank : Text → Bool
is_blank text = list_all (λ b. (b == 0x20) || (b == 0x0A)) text

-- a text, or the empty text if it is blank. Wrapping drops spaces, so that a record of blank texts
-- alone would have no line in narrow columns.
abbrev pub unless_blank : Text → Text
unless_blank text = if is_blank text then [] else text

-- the text of a field's cell: cleaned, and empty if that is blank. For Markdown no sequence is
-- kept, and the field is escaped.
abbrev pub field_text : Look → Text → Text
field_text look field =
    if look.is_markdown
    then marked (cleaned false field)
    else unless_blank (cleaned look.has_sequences field)

-- the cell of a field, with this alignment
abbrev pub cell_for : Look → Option CellAlignment → Text → CellValue
cell_for look alignment field =
    record (plain_cell (field_text look field)) { alignment = alignment }

-- a cell, in bold if `is_bold` is true, and otherwise unchanged
abbrev pub with_weight : Bool → CellValue → CellValue
with_weight is_bold cell =
    if is_bold then record cell { attributes = cell.attributes ++ Bold ∷ [] } else cell

-- true if a record has the field of a column
abbrev pub has_field : List Text → ColumnPlan → Bool
has_field fields column = nat_lt column.position (length fields)

-- the columns whose field a record has
abbrev pub held : List Text → List ColumnPlan → List ColumnPlan
held fields columns = filter (has_field fields) columns

-- the columns up to the last one whose field a record has
abbrev pub columns_within : List Text → List ColumnPlan → List ColumnPlan
columns_within fields [] = []
columns_within fields (column ∷ columns) =
    if list_any (has_field fields) (column ∷ columns)
    then column ∷ columns_within fields columns
    else []

-- the text that a row shows in a column, and its alignment
pub record Shown : Type 0 where
  pub alignment : Option CellAlignment
  pub text : Text

-- the field of a column, with the spaces that align its decimal mark if marks are aligned
abbrev pub text_in : Look → Bool → ColumnPlan → List Text → Text
text_in look is_aligned column fields =
    spaced look.has_sequences (if is_aligned then column.points else None)
    (field_or_blank fields column.position)

-- the fields of columns, as a row shows them
abbrev pub shown_fields : Look → Bool → List ColumnPlan → List Text → List Shown
shown_fields look is_aligned columns fields =
    map (λ (column : ColumnPlan). record {
      alignment = column.alignment;
      text = text_in look is_aligned column fields;
    }) columns

-- a record's number, or the name above these numbers, right-aligned; nothing if rows aren't
-- numbered
abbrev pub shown_number : Option Text → List Shown
shown_number None = []
shown_number (Some text) = record { alignment = Some Right; text = text } ∷ []

-- a cell for each text that a row shows
abbrev pub shown_cells : Look → Bool → List Shown → List CellValue
shown_cells look is_bold shown =
    map (λ (s : Shown). with_weight is_bold (cell_for look s.alignment s.text)) shown

abbrev pub cells_for : Look → Bool → List Shown → RowValue
cells_for look is_bold shown = plain_row (shown_cells look is_bold shown)

-- the number of a row, if rows are numbered
abbrev pub number_of : Bool → ℕ → Option Text
number_of is_numbered number = if is_numbered then Some (decimal number) else None

-- the name above the numbers: `#`, or nothing in a header without names
abbrev pub number_name : List Text → Text
number_name [] = []
number_name (name ∷ names) = codes "#"

-- the texts that the header shows
abbrev pub shown_names : Look → Bool → List ColumnPlan → List Text → List Shown
shown_names look is_numbered columns names =
    shown_number (if is_numbered then Some (number_name names) else None)
    ++ shown_fields look false columns names

-- the row of the header
abbrev pub header_for : Look → Bool → List ColumnPlan → List Text → RowValue
header_for look is_numbered columns names =
    cells_for look look.has_bold_header (shown_names look is_numbered columns names)

-- a row with the greatest height of the look, but at least 1
abbrev pub cut : Look → RowValue → RowValue
cut look row = record row { max_height = option_map (max 1) look.max_height }

-- records with their numbers, which start at `number`
abbrev pub counted_from : ℕ → List (List Text) → List (ℕ × List Text)
counted_from number [] = []
counted_from number (fields ∷ rows) = (number, fields) ∷ counted_from (number + 1) rows

-- the texts that the row of a numbered record shows
abbrev pub shown_in : Look → Bool → Bool → List ColumnPlan → ℕ × List Text → List Shown
shown_in look is_aligned is_numbered columns row =
    shown_number (number_of is_numbered row.0) ++ shown_fields look is_aligned columns row.1

-- the row of a record: it has cells up to the last of its fields
abbrev pub row_for : Look → Bool → Bool → List ColumnPlan → ℕ × List Text → RowValue
row_for look is_aligned is_numbered columns row =
    cut look
    (cells_for look false (shown_in look is_aligned is_numbered (columns_within row.1 columns) row))

-- the row of one field of an expanded record: the name of its column, as bold as a header, and the
-- field
abbrev pub pair_for : Look → Text → Text → RowValue
pair_for look name field =
    cut look (plain_row (with_weight look.has_bold_header (cell_for look None name)
    ∷ cell_for look None field ∷ []))
