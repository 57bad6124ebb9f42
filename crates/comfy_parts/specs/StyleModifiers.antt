-- The two modifiers of a style. Each sets some characters, and changes no other.
-- Source: with_rounded_corners and with_solid_inner_borders of comfy-table 8.0.1.
use Rattle.std.specs.Prelude.{◌≡◌, Some}
use Rattle.comfy_parts.specs.declared.style.table_style.TableStyle.{TableStyle}

-- the corners of the top and bottom borders are round: U+256D and U+256E, U+2570 and U+256F
abbrev pub with_rounded_corners : TableStyle → TableStyle
with_rounded_corners style =
    record style {
      top_border = record style.top_border { left = Some 0x256D; right = Some 0x256E };
      bottom_border = record style.bottom_border { left = Some 0x2570; right = Some 0x256F };
    }

-- the lines inside the table are solid: U+2502 between columns, U+2500 between rows
abbrev pub with_solid_inner_borders : TableStyle → TableStyle
with_solid_inner_borders style =
    record style {
      header_lines = record style.header_lines { junction = Some 0x2502 };
      content_lines = record style.content_lines { junction = Some 0x2502 };
      row_separator = record style.row_separator { fill = Some 0x2500 };
    }

-- a second rounding changes nothing
abbrev pub RoundingTwiceIsOnce : TableStyle → Type 0
RoundingTwiceIsOnce style =
    with_rounded_corners (with_rounded_corners style) ≡ with_rounded_corners style

-- making inner borders solid a second time changes nothing
abbrev pub SolidTwiceIsOnce : TableStyle → Type 0
SolidTwiceIsOnce style =
    with_solid_inner_borders (with_solid_inner_borders style) ≡ with_solid_inner_borders style
