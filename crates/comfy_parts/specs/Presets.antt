-- The thirteen presets. A line of a style is written as its characters: left, fill, junction and
-- right of a frame line; left, junction and right of a content line. `_` is a missing character.
-- Source: style::presets of comfy-table 8.0.1.
use Rattle.std.specs.Prelude.{ℕ, ◌==◌, List, [], ◌∷◌, Option, Some, None, option_map, find, slice_get, slice_index, codes, bytes_eq, if◌then◌else◌}
use Prim.Native.String.{String}
use Rattle.comfy_parts.specs.Text.{Text}
use Rattle.comfy_parts.specs.declared.style.table_style.ContentLineStyle.{ContentLineStyle}
use Rattle.comfy_parts.specs.declared.style.table_style.LineStyle.{LineStyle}
use Rattle.comfy_parts.specs.declared.style.table_style.TableStyle.{TableStyle}

-- a character of a line; `_` is a missing one
abbrev pub part : ℕ → Option ℕ
part c = if c == 0x5F then None else Some c

-- a frame line of these four characters
abbrev pub line : String → LineStyle
line s =
    record {
      left = part (slice_index (codes s) 0);
      fill = part (slice_index (codes s) 1);
      junction = part (slice_index (codes s) 2);
      right = part (slice_index (codes s) 3);
    }

-- a content line of these three characters
abbrev pub content : String → ContentLineStyle
content s =
    record {
      left = part (slice_index (codes s) 0);
      junction = part (slice_index (codes s) 1);
      right = part (slice_index (codes s) 2);
    }

-- a style: top border, header lines, header separator, content lines, row separator, bottom border
abbrev pub style_of : String → String → String → String → String → String → TableStyle
style_of top header separator body between bottom =
    record {
      top_border = line top;
      header_lines = content header;
      header_separator = line separator;
      content_lines = content body;
      row_separator = line between;
      bottom_border = line bottom;
    }

-- the style of a new table
abbrev pub ascii_full : TableStyle
ascii_full = style_of "+-++" "|||" "+==+" "|||" "|-+|" "+-++"

-- `ascii_full` without lines between rows
abbrev pub ascii_full_condensed : TableStyle
ascii_full_condensed = style_of "+-++" "|||" "+==+" "|||" "____" "+-++"

-- `ascii_full` without outer borders
abbrev pub ascii_no_borders : TableStyle
ascii_no_borders = style_of "____" "_|_" "_==_" "_|_" "_-+_" "____"

-- outer borders and the header's separator, without vertical lines inside, and with a line of
-- spaces between rows
abbrev pub ascii_borders_only : TableStyle
ascii_borders_only = style_of "+--+" "|_|" "+==+" "|_|" "|__|" "+--+"

-- `ascii_borders_only` without lines between rows
abbrev pub ascii_borders_only_condensed : TableStyle
ascii_borders_only_condensed = style_of "+--+" "|_|" "+==+" "|_|" "____" "+--+"

-- only horizontal lines
abbrev pub ascii_horizontal_only : TableStyle
ascii_horizontal_only = style_of "_--_" "___" "_==_" "___" "_--_" "_--_"

-- a Markdown table
abbrev pub ascii_markdown : TableStyle
ascii_markdown = style_of "____" "|||" "|-||" "|||" "____" "____"

-- all borders, of box characters
abbrev pub utf8_full : TableStyle
utf8_full = style_of "┌─┬┐" "│┆│" "╞═╪╡" "│┆│" "├╌┼┤" "└─┴┘"

-- `utf8_full` without lines between rows
abbrev pub utf8_full_condensed : TableStyle
utf8_full_condensed = style_of "┌─┬┐" "│┆│" "╞═╪╡" "│┆│" "____" "└─┴┘"

-- `utf8_full` without outer borders
abbrev pub utf8_no_borders : TableStyle
utf8_no_borders = style_of "____" "_┆_" "_═╪_" "_┆_" "_╌┼_" "____"

-- outer borders of box characters, and the header's separator
abbrev pub utf8_borders_only : TableStyle
utf8_borders_only = style_of "┌──┐" "│_│" "╞══╡" "│_│" "____" "└──┘"

-- only horizontal lines, of box characters
abbrev pub utf8_horizontal_only : TableStyle
utf8_horizontal_only = style_of "_──_" "___" "_══_" "___" "_──_" "_──_"

-- no lines at all
abbrev pub nothing : TableStyle
nothing = style_of "____" "___" "____" "___" "____" "____"

-- the presets with their names, in the order of their positions
abbrev pub named_presets : List (Text × TableStyle)
named_presets =
    (codes "ASCII_FULL", ascii_full)
    ∷ (codes "ASCII_FULL_CONDENSED", ascii_full_condensed)
    ∷ (codes "ASCII_NO_BORDERS", ascii_no_borders)
    ∷ (codes "ASCII_BORDERS_ONLY", ascii_borders_only)
    ∷ (codes "ASCII_BORDERS_ONLY_CONDENSED", ascii_borders_only_condensed)
    ∷ (codes "ASCII_HORIZONTAL_ONLY", ascii_horizontal_only)
    ∷ (codes "ASCII_MARKDOWN", ascii_markdown)
    ∷ (codes "UTF8_FULL", utf8_full)
    ∷ (codes "UTF8_FULL_CONDENSED", utf8_full_condensed)
    ∷ (codes "UTF8_NO_BORDERS", utf8_no_borders)
    ∷ (codes "UTF8_BORDERS_ONLY", utf8_borders_only)
    ∷ (codes "UTF8_HORIZONTAL_ONLY", utf8_horizontal_only)
    ∷ (codes "NOTHING", nothing)
    ∷ []

-- the value next to a word in a list of pairs; `None` if the list doesn't have the word
abbrev pub beside : {A : Type 0} → List (Text × A) → Text → Option A
beside table word = option_map (λ entry. entry.1) (find (λ entry. bytes_eq word entry.0) table)

-- the preset of this name; `None` if no preset has it
abbrev pub preset_named : Text → Option TableStyle
preset_named = beside named_presets

-- the preset at this position, counted from 0; `None` at a greater position
abbrev pub preset_at : ℕ → Option TableStyle
preset_at position = option_map (λ entry. entry.1) (slice_get named_presets position)
