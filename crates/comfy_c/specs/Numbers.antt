-- The meaning of the numbers of cells, rows and columns.
-- Source: this library's own.
use Rattle.std.specs.Prelude.{◌||◌, ◌%◌, ◌/◌, ◌==◌, nat_lt, ℕ, List, [], ◌∷◌, Option, Some, None, map, slice_index_or, if◌then◌else◌}
use Rattle.std.specs.Int.{is_in_range}
use Rattle.std.specs.List.{enumerate_from}
use Rattle.comfy_parts.specs.CellValue.{CellValue, ColumnValue, RowValue, plain_cell}
use Rattle.comfy_parts.specs.Text.{Text}
use Rattle.comfy_parts.specs.declared.style.attribute.Attribute.{Attribute}
use Rattle.comfy_parts.specs.declared.style.cell.CellAlignment.{CellAlignment}
use Rattle.comfy_parts.specs.declared.style.cell.CellAlignment.TheVariants.{Center, Left, Right}
use Rattle.comfy_parts.specs.declared.style.color.Color.{Color}
use Rattle.comfy_parts.specs.declared.style.color.Color.TheVariants.{AnsiValue, Reset, Rgb}
use Rattle.comfy_parts.specs.declared.style.column.ColumnConstraint.{ColumnConstraint}
use Rattle.comfy_parts.specs.declared.style.column.ColumnConstraint.TheVariants.{Absolute, Boundaries, ContentWidth, Hidden, LowerBoundary, UpperBoundary}
use Rattle.comfy_parts.specs.declared.style.column.Width.{Width}
use Rattle.comfy_parts.specs.declared.style.column.Width.TheVariants.{Fixed, Percentage}
use Rattle.comfy_parts.specs.declared.style.table.ContentArrangement.{ContentArrangement}
use Rattle.comfy_parts.specs.declared.style.table.ContentArrangement.TheVariants.{Disabled, Dynamic, DynamicFullWidth}
use Rattle.comfy_table.specs.Styling.{all_attributes}
use Rattle.comfy_c.specs.Calls.{is_set, limit_of}
use Rattle.comfy_c.specs.declared.cells_columns.ColumnNumbers.{ColumnNumbers}
use Rattle.comfy_c.specs.declared.cells_columns.WidthNumbers.{WidthNumbers}
use Rattle.comfy_c.specs.declared.cells_numbers.ColorNumbers.{ColorNumbers}
use Rattle.comfy_c.specs.declared.cells_numbers.LookNumbers.{LookNumbers}
use Rattle.comfy_c.specs.declared.cells_rows.CellNumbers.{CellNumbers}
use Rattle.comfy_c.specs.declared.cells_rows.RowNumbers.{RowNumbers}

-- ---- cells

-- The character with this code point. `None` for 0, and for a number that isn't the code point of a
-- character. The number after the greatest code point means U+0000.
abbrev pub char_of : ℕ → Option ℕ
char_of number =
    if number == 0
    then None
    else if number == 0x11_0000
    then Some 0
    else if nat_lt number 0xD800 || is_in_range 0xE000 0x10_FFFF number
    then Some number
    else None

-- the alignments of texts, counted from 0, which means none
abbrev pub alignments : List (Option CellAlignment)
alignments = None ∷ Some Left ∷ Some Right ∷ Some Center ∷ []

abbrev pub alignment_of : ℕ → Option CellAlignment
alignment_of number = slice_index_or alignments number None

-- the colours, counted from 0, which means none: the terminal's own one, one of 256, or one by its
-- red, green and blue parts
abbrev pub colors_by : ColorNumbers → List (Option Color)
colors_by color =
    None
    ∷ Some Reset
    ∷ Some (AnsiValue color.number)
    ∷ Some (Rgb color.red color.green color.blue)
    ∷ []

abbrev pub color_of : ColorNumbers → Option Color
color_of color = slice_index_or (colors_by color) color.kind None

-- the attributes whose bits are set; the first one's bit has the value 1
abbrev pub attributes_by : List Attribute → ℕ → List Attribute
attributes_by [] bits = []
attributes_by (attribute ∷ attributes) bits =
    if bits % 2 == 1
    then attribute ∷ attributes_by attributes (bits / 2)
    else attributes_by attributes (bits / 2)

-- a cell that has only colours and attributes
abbrev pub look_alone : LookNumbers → CellValue
look_alone look =
    record (plain_cell []) {
      foreground = color_of look.foreground;
      background = color_of look.background;
      attributes = attributes_by all_attributes look.attributes;
    }

-- a cell with a text
abbrev pub cell_with : CellNumbers → Text → CellValue
cell_with numbers text =
    record (plain_cell text) {
      delimiter = char_of numbers.delimiter;
      alignment = alignment_of numbers.look.alignment;
      foreground = color_of numbers.look.foreground;
      background = color_of numbers.look.background;
      attributes = attributes_by all_attributes numbers.look.attributes;
    }

-- the greatest height of a row, or `None` for 0 and for the greatest number of 64 bits
abbrev pub height_of : ℕ → Option ℕ
height_of number = if number == 0 then None else limit_of number

-- a row of cells
abbrev pub row_with : RowNumbers → List CellValue → RowValue
row_with numbers cells = record { cells = cells; max_height = height_of numbers.max_height }

-- ---- columns

abbrev pub width_with : WidthNumbers → Width
width_with numbers =
    if is_set numbers.is_percentage then Percentage numbers.value else Fixed numbers.value

-- the constraints with these widths, counted from 0, which means none
abbrev pub constraints_by : Width → Width → List (Option ColumnConstraint)
constraints_by width upper =
    None
    ∷ Some Hidden
    ∷ Some ContentWidth
    ∷ Some (Absolute width)
    ∷ Some (LowerBoundary width)
    ∷ Some (UpperBoundary width)
    ∷ Some (Boundaries width upper)
    ∷ []

abbrev pub constraint_of : ColumnNumbers → Option ColumnConstraint
constraint_of numbers =
    slice_index_or (constraints_by (width_with numbers.width) (width_with numbers.upper))
    numbers.constraint None

abbrev pub column_with : ℕ → ColumnNumbers → ColumnValue
column_with index numbers =
    record {
      padding = (numbers.left_padding, numbers.right_padding);
      delimiter = char_of numbers.delimiter;
      alignment = alignment_of numbers.alignment;
      constraint = constraint_of numbers;
      index = index;
    }

abbrev pub columns_with : List ColumnNumbers → List ColumnValue
columns_with columns =
    map (λ (p : ℕ × ColumnNumbers). column_with p.0 p.1) (enumerate_from 0 columns)

-- ---- settings

-- the arrangements, counted from 0
abbrev pub arrangements : List ContentArrangement
arrangements = Disabled ∷ Dynamic ∷ DynamicFullWidth ∷ []
