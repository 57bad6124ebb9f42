-- Private: the sequence of a colour, made from its two possible beginnings.
-- Source: this library's own.
use Rattle.std.specs.Prelude.{[], ◌++◌, Option, Some, None, codes}
use Rattle.comfy_parts.specs.Text.{Text}
use Rattle.comfy_parts.specs.declared.style.color.Color.{Color}
use Rattle.comfy_parts.specs.declared.style.color.Color.TheVariants as colors
use Rattle.comfy_table.specs.Styling.{color_code}

-- `reset` for `Color::Reset`; for any other colour `begin`, the colour's code, and `m`
abbrev pub color_sequence : Text → Text → Option Color → Text
color_sequence begin reset None = []
color_sequence begin reset (Some colors.Reset) = reset
color_sequence begin reset (Some color) = begin ++ (color_code color ++ codes "m")
