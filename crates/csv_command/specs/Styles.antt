-- The styles that arguments name.
-- Source: this library's own.
use Rattle.std.specs.Prelude.{Bool, true, ◌||◌, List, [], ◌∷◌, ◌++◌, Option, Some, None, codes, find, map, option_map, unwrap_or}
use Rattle.std.specs.Option.{option_or}
use Rattle.std.specs.Str.{str_eq_ignore_ascii_case}
use Rattle.comfy_parts.specs.Presets.{ascii_full, ascii_markdown, named_presets, nothing, utf8_full}
use Rattle.comfy_parts.specs.StyleModifiers.{with_rounded_corners}
use Rattle.comfy_parts.specs.Text.{Text}
use Rattle.comfy_parts.specs.declared.style.table_style.TableStyle.{TableStyle}

-- true if an argument is this name, in letters of either case
abbrev pub is_named : Text → Text → Bool
is_named name word = str_eq_ignore_ascii_case name word

-- the style if no name is given
abbrev pub compact_style : TableStyle
compact_style = with_rounded_corners utf8_full

-- the program's own names, and their styles
abbrev pub own_styles : List (Text × TableStyle)
own_styles =
    (codes "rounded", compact_style)
    ∷ (codes "box", utf8_full)
    ∷ (codes "grid", compact_style)
    ∷ (codes "ascii", ascii_full)
    ∷ (codes "plain", nothing)
    ∷ (codes "markdown", ascii_markdown)
    ∷ []

-- the names of styles
abbrev pub style_names : List Text
style_names = map (λ entry. entry.0) own_styles ++ map (λ entry. entry.0) named_presets

-- the style of the first name that is equal to an argument
abbrev pub style_within : List (Text × TableStyle) → Text → Option TableStyle
style_within styles word =
    option_map (λ entry. entry.1) (find (λ entry. is_named entry.0 word) styles)

-- the style with a name, or `utf8_full` for another word
abbrev pub named_style : Text → TableStyle
named_style word =
    unwrap_or (option_or (style_within own_styles word) (style_within named_presets word)) utf8_full

-- the style that is requested: the one with a name, or `rounded` without a name
abbrev pub style_for : Option Text → TableStyle
style_for None = compact_style
style_for (Some word) = named_style word

-- true for the name of a style that has lines between rows only if a row has more than one line
abbrev pub is_compact : Option Text → Bool
is_compact None = true
is_compact (Some word) = is_named (codes "rounded") word || is_named (codes "box") word
