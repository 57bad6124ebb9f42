-- The values of cells, rows, columns, and columns as they are drawn.
-- Source: Cell, Row, Column and ColumnDisplayInfo of comfy-table 8.0.1.
use Rattle.std.specs.Prelude.{ℕ, ℤ, ◌+◌, ◌-◌, Bool, true, false, not, List, [], ◌∷◌, ◌++◌, Option, Some, None, map, filter, length, max, min, codes, decimal, encode_utf8, if◌then◌else◌, ◌≡◌, ◌<◌, ◌≤◌, ◌==◌, All, IfSome, IsUtf8}
use Rattle.std.specs.Char.{IsScalar}
use Rattle.std.specs.Fmt.{signed_decimal}
use Rattle.std.specs.List.{range_with_len, slice_split, list_any, join_with_byte}
use Rattle.comfy_parts.specs.Text.{Text}
use Rattle.comfy_parts.specs.declared.style.attribute.Attribute.{Attribute}
use Rattle.comfy_parts.specs.declared.style.cell.CellAlignment.{CellAlignment}
use Rattle.comfy_parts.specs.declared.style.color.Color.{Color}
use Rattle.comfy_parts.specs.declared.style.column.ColumnConstraint.{ColumnConstraint}
use Rattle.comfy_parts.specs.declared.style.column.ColumnConstraint.TheVariants.{Hidden}

-- a cell: its text lines, at least one and none with a line feed, and its settings
pub record CellValue : Type 0 where
  pub text_lines : List Text
  pub delimiter : Option ℕ
  pub alignment : Option CellAlignment
  pub foreground : Option Color
  pub background : Option Color
  pub attributes : List Attribute

-- at least one text line, each in whole characters and without a line feed
pub record HasTextLines (text_lines : List Text) : Type 0 where
  pub some_line : 0 < length text_lines
  pub no_breaks : All (λ (line : Text). list_any (λ b. b == 0x0A) line ≡ false) text_lines
  pub whole : All IsUtf8 text_lines

-- a delimiter that is set is a character
abbrev pub IsDelimiter : Option ℕ → Type 0
IsDelimiter delimiter = IfSome delimiter IsScalar

-- the invariant of a cell
pub record IsCell (cell : CellValue) : Type 0 where
  pub text_lines : HasTextLines cell.text_lines
  pub delimiter : IsDelimiter cell.delimiter

-- a row: its cells, and the greatest number of lines that are drawn of each, at least 1
pub record RowValue : Type 0 where
  pub cells : List CellValue
  pub max_height : Option ℕ

-- the invariant of a row: the invariant of each cell holds, and a greatest height is at least 1
pub record IsRow (row : RowValue) : Type 0 where
  pub cells : All IsCell row.cells
  pub some_height : IfSome row.max_height (λ h. 1 ≤ h)

-- a column: its settings, and a label that no function reads
pub record ColumnValue : Type 0 where
  pub padding : ℕ × ℕ
  pub delimiter : Option ℕ
  pub alignment : Option CellAlignment
  pub constraint : Option ColumnConstraint
  pub index : ℕ

-- the invariant of a column
abbrev pub IsColumn : ColumnValue → Type 0
IsColumn column = IsDelimiter column.delimiter

-- a column as it is drawn: its settings, the width of its content in terminal columns, and true if
-- it is hidden
pub record ColumnInfo : Type 0 where
  pub padding : ℕ × ℕ
  pub delimiter : Option ℕ
  pub alignment : Option CellAlignment
  pub content_width : ℕ
  pub is_hidden : Bool

-- a cell of this text, without settings: its text lines are the pieces of the text between line
-- feeds
abbrev pub plain_cell : Text → CellValue
plain_cell text =
    record {
      text_lines = slice_split (λ b. b == 0x0A) text;
      delimiter = None;
      alignment = None;
      foreground = None;
      background = None;
      attributes = [];
    }

-- the cell of a whole number, as `Display` writes it
abbrev pub number_cell : ℕ → CellValue
number_cell n = plain_cell (decimal n)

-- the cell of a number with a sign, as `Display` writes it
abbrev pub signed_cell : ℤ → CellValue
signed_cell z = plain_cell (signed_decimal z)

-- the cell of a truth value: `true` or `false`
abbrev pub bool_cell : Bool → CellValue
bool_cell b = plain_cell (if b then codes "true" else codes "false")

-- the cell of a character: the character alone
abbrev pub char_cell : ℕ → CellValue
char_cell c = plain_cell (encode_utf8 c)

-- the text of a cell: its text lines, joined by line feeds
abbrev pub content_of : CellValue → Text
content_of cell = join_with_byte 0x0A cell.text_lines

-- a row of these cells, without a greatest height
abbrev pub plain_row : List CellValue → RowValue
plain_row cells = record { cells = cells; max_height = None }

-- a row with one more cell at its end
abbrev pub with_cell : CellValue → RowValue → RowValue
with_cell cell row = record row { cells = row.cells ++ cell ∷ [] }

-- a row with this greatest height; 0 counts as 1
abbrev pub with_max_height : ℕ → RowValue → RowValue
with_max_height h row = record row { max_height = Some (max 1 h) }

-- a new column: padding 1 and 1, and no other setting
abbrev pub new_column : ℕ → ColumnValue
new_column index =
    record {
      padding = (1, 1);
      delimiter = None;
      alignment = None;
      constraint = None;
      index = index;
    }

-- columns, with new ones appended until there are at least n
abbrev pub columns_grown_to : ℕ → List ColumnValue → List ColumnValue
columns_grown_to n columns =
    columns ++ map new_column (range_with_len (length columns) (n - length columns))

-- the grown list has as many columns as before, or n if that is more
abbrev pub NoFewerColumns : ℕ → List ColumnValue → Type 0
NoFewerColumns n columns = length (columns_grown_to n columns) ≡ max n (length columns)

-- true if the constraint hides the column
abbrev pub is_hidden_constraint : Option ColumnConstraint → Bool
is_hidden_constraint (Some Hidden) = true
is_hidden_constraint _ = false

-- true if the column is hidden
abbrev pub is_hidden_column : ColumnValue → Bool
is_hidden_column column = is_hidden_constraint column.constraint

-- the number of shown columns among these
abbrev pub shown_among : List ColumnValue → ℕ
shown_among columns =
    length (filter (λ (column : ColumnValue). not (is_hidden_column column)) columns)

-- a column as it is drawn with this content width, at least 1
abbrev pub info_of : ColumnValue → ℕ → ColumnInfo
info_of column width =
    record {
      padding = column.padding;
      delimiter = column.delimiter;
      alignment = column.alignment;
      content_width = max 1 width;
      is_hidden = is_hidden_column column;
    }

-- the whole width of a drawn column in terminal columns: its content and both paddings
abbrev pub info_width : ColumnInfo → ℕ
info_width info = info.padding.0 + info.content_width + info.padding.1

-- the sum of both paddings of a column
abbrev pub column_padding : ColumnValue → ℕ
column_padding column = column.padding.0 + column.padding.1

-- the sum of both paddings, at most 65535, as `padding_width` returns it
abbrev pub saturated_padding : ColumnValue → ℕ
saturated_padding column = min 65535 (column_padding column)
