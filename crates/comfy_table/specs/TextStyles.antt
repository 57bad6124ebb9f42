-- The colours and attributes of a text, as a cell without a text.
-- Source: this library's own.
use Rattle.std.specs.Prelude.{[], Option, Some, None}
use Rattle.comfy_parts.specs.CellValue.{CellValue, plain_cell}
use Rattle.comfy_parts.specs.Text.{Text}
use Rattle.comfy_parts.specs.declared.style.cell.CellAlignment.{CellAlignment}
use Rattle.comfy_table.specs.declared.utils.formatting.text_style.TextStyle.{TextStyle}

-- a cell without a text in this style
abbrev pub styling : TextStyle → CellValue
styling style =
    record (plain_cell []) {
      foreground = style.foreground;
      background = style.background;
      attributes = style.attributes.now;
    }

-- the style of a cell
abbrev pub style_alone : CellValue → CellValue
style_alone cell =
    record (plain_cell []) {
      foreground = cell.foreground;
      background = cell.background;
      attributes = cell.attributes;
    }

-- a cell without a text in this style, if there is one
abbrev pub styled_by : Option TextStyle → CellValue
styled_by None = plain_cell []
styled_by (Some style) = styling style

-- the cell of a text with this alignment and style
abbrev pub text_cell : Option CellAlignment → Option TextStyle → Text → CellValue
text_cell alignment style text =
    record (styled_by style) {
      text_lines = (plain_cell text).text_lines;
      alignment = alignment;
    }
