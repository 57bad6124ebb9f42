-- The meaning of the numbers of a frame.
-- Source: this library's own.
use Rattle.std.specs.Prelude.{◌-◌, ◌^◌, ◌==◌, ℕ, Option, Some, if◌then◌else◌}
use Rattle.comfy_parts.specs.Presets.{preset_at}
use Rattle.comfy_parts.specs.declared.style.table_style.ContentLineStyle.{ContentLineStyle}
use Rattle.comfy_parts.specs.declared.style.table_style.LineStyle.{LineStyle}
use Rattle.comfy_parts.specs.declared.style.table_style.TableStyle.{TableStyle}
use Rattle.csv_command.specs.Styles.{compact_style}
use Rattle.comfy_c.specs.Numbers.{char_of}
use Rattle.comfy_c.specs.declared.frame.ContentLineNumbers.{ContentLineNumbers}
use Rattle.comfy_c.specs.declared.frame.FrameNumbers.{FrameNumbers}
use Rattle.comfy_c.specs.declared.frame.LineNumbers.{LineNumbers}

abbrev pub line_with : LineNumbers → LineStyle
line_with line =
    record {
      left = char_of line.left;
      fill = char_of line.fill;
      junction = char_of line.junction;
      right = char_of line.right;
    }

abbrev pub content_line_with : ContentLineNumbers → ContentLineStyle
content_line_with line =
    record {
      left = char_of line.left;
      junction = char_of line.junction;
      right = char_of line.right;
    }

-- the style of a caller's own frame
abbrev pub own_style : FrameNumbers → TableStyle
own_style frame =
    record {
      top_border = line_with frame.top_border;
      header_lines = content_line_with frame.header_lines;
      header_separator = line_with frame.header_separator;
      content_lines = content_line_with frame.content_lines;
      row_separator = line_with frame.row_separator;
      bottom_border = line_with frame.bottom_border;
    }

-- a preset by its position; the number after the last position means the style of `csvtable`
abbrev pub style_at : ℕ → Option TableStyle
style_at position = if position == 13 then Some compact_style else preset_at position

-- the number for a caller's own style: the greatest number of 32 bits
abbrev pub own_number : ℕ
own_number = 2 ^ 32 - 1

-- the style for a number, if the number has a meaning
abbrev pub style_for : ℕ → FrameNumbers → Option TableStyle
style_for number frame =
    if number == own_number then Some (own_style frame) else style_at number
