-- Colours and attributes as escape sequences: ESC, `[`, a code, `m`.
-- Source: style_line of comfy-table 8.0.1 over crossterm: SGR sequences of ECMA-48 (ISO 6429).
use Rattle.std.specs.Prelude.{Bool, List, [], ◌∷◌, ◌++◌, Option, Some, None, length, filter, flat_map, codes, decimal, bytes_eq, if◌then◌else◌, is_some, ◌==◌}
use Rattle.std.specs.List.{list_any}
use Rattle.comfy_parts.specs.CellValue.{CellValue}
use Rattle.comfy_parts.specs.Text.{Text}
use Rattle.comfy_parts.specs.declared.style.attribute.Attribute.{Attribute}
use Rattle.comfy_parts.specs.declared.style.attribute.Attribute.TheVariants as attributes
use Rattle.comfy_parts.specs.declared.style.color.Color.{Color}
use Rattle.comfy_parts.specs.declared.style.color.Color.TheVariants as colors

-- the escape sequence of a code
abbrev pub sequence : Text → Text
sequence code = codes "\u{1b}[" ++ (code ++ codes "m")

-- the code of a colour after `38;` or `48;`: `5;` and its number, or `2;` and its red, green and
-- blue parts
abbrev pub color_code : Color → Text
color_code colors.Reset = []
color_code colors.Black = codes "5;0"
color_code colors.DarkRed = codes "5;1"
color_code colors.DarkGreen = codes "5;2"
color_code colors.DarkYellow = codes "5;3"
color_code colors.DarkBlue = codes "5;4"
color_code colors.DarkMagenta = codes "5;5"
color_code colors.DarkCyan = codes "5;6"
color_code colors.Grey = codes "5;7"
color_code colors.DarkGrey = codes "5;8"
color_code colors.Red = codes "5;9"
color_code colors.Green = codes "5;10"
color_code colors.Yellow = codes "5;11"
color_code colors.Blue = codes "5;12"
color_code colors.Magenta = codes "5;13"
color_code colors.Cyan = codes "5;14"
color_code colors.White = codes "5;15"
color_code (colors.AnsiValue v) = codes "5;" ++ decimal v
color_code (colors.Rgb r g b) =
    codes "2;" ++ (decimal r ++ (codes ";" ++ (decimal g ++ (codes ";" ++ decimal b))))

-- the code of a foreground
abbrev pub foreground_code : Color → Text
foreground_code colors.Reset = codes "39"
foreground_code color = codes "38;" ++ color_code color

-- the code of a background
abbrev pub background_code : Color → Text
background_code colors.Reset = codes "49"
background_code color = codes "48;" ++ color_code color

-- the code of an attribute
abbrev pub attribute_code : Attribute → Text
attribute_code attributes.Reset = codes "0"
attribute_code attributes.Bold = codes "1"
attribute_code attributes.Dim = codes "2"
attribute_code attributes.Italic = codes "3"
attribute_code attributes.Underlined = codes "4"
attribute_code attributes.DoubleUnderlined = codes "4:2"
attribute_code attributes.Undercurled = codes "4:3"
attribute_code attributes.Underdotted = codes "4:4"
attribute_code attributes.Underdashed = codes "4:5"
attribute_code attributes.SlowBlink = codes "5"
attribute_code attributes.RapidBlink = codes "6"
attribute_code attributes.Reverse = codes "7"
attribute_code attributes.Hidden = codes "8"
attribute_code attributes.CrossedOut = codes "9"
attribute_code attributes.Fraktur = codes "20"
attribute_code attributes.NoBold = codes "21"
attribute_code attributes.NormalIntensity = codes "22"
attribute_code attributes.NoItalic = codes "23"
attribute_code attributes.NoUnderline = codes "24"
attribute_code attributes.NoBlink = codes "25"
attribute_code attributes.NoReverse = codes "27"
attribute_code attributes.NoHidden = codes "28"
attribute_code attributes.NotCrossedOut = codes "29"
attribute_code attributes.Framed = codes "51"
attribute_code attributes.Encircled = codes "52"
attribute_code attributes.OverLined = codes "53"
attribute_code attributes.NotFramedOrEncircled = codes "54"
attribute_code attributes.NotOverLined = codes "55"

-- all attributes, in the order in which they are written
abbrev pub all_attributes : List Attribute
all_attributes =
    attributes.Reset ∷ attributes.Bold ∷ attributes.Dim ∷ attributes.Italic ∷ attributes.Underlined
    ∷ attributes.DoubleUnderlined ∷ attributes.Undercurled ∷ attributes.Underdotted
    ∷ attributes.Underdashed ∷ attributes.SlowBlink ∷ attributes.RapidBlink ∷ attributes.Reverse
    ∷ attributes.Hidden ∷ attributes.CrossedOut ∷ attributes.Fraktur ∷ attributes.NoBold
    ∷ attributes.NormalIntensity ∷ attributes.NoItalic ∷ attributes.NoUnderline ∷ attributes.NoBlink
    ∷ attributes.NoReverse ∷ attributes.NoHidden ∷ attributes.NotCrossedOut ∷ attributes.Framed
    ∷ attributes.Encircled ∷ attributes.OverLined ∷ attributes.NotFramedOrEncircled
    ∷ attributes.NotOverLined ∷ []

-- the attribute is in the list; attributes are compared by their codes, which are all different
abbrev pub has_attribute : List Attribute → Attribute → Bool
has_attribute given a =
    list_any (λ (b : Attribute). bytes_eq (attribute_code a) (attribute_code b)) given

-- the sequences of the given attributes, each once and in the order of `all_attributes`, even if
-- some are given several times or in another order
abbrev pub attribute_sequences : List Attribute → Text
attribute_sequences given =
    flat_map (λ (a : Attribute). sequence (attribute_code a))
    (filter (has_attribute given) all_attributes)

-- the sequence of a colour, if there is one
abbrev pub optional_sequence : (Color → Text) → Option Color → Text
optional_sequence code None = []
optional_sequence code (Some color) = sequence (code color)

-- the sequences before a styled text: background, foreground, attributes
abbrev pub style_begin : CellValue → Text
style_begin cell =
    optional_sequence background_code cell.background
    ++ (optional_sequence foreground_code cell.foreground ++ attribute_sequences cell.attributes)

-- the sequences after a styled text without attributes: `49` for a background, and then `39` for a
-- foreground
abbrev pub style_end_without_attributes : Option Color → Option Color → Text
style_end_without_attributes background foreground =
    (if is_some background then sequence (codes "49") else [])
    ++ (if is_some foreground then sequence (codes "39") else [])

-- the sequences after a styled text: `0` if the cell has an attribute
abbrev pub style_end : CellValue → Text
style_end cell =
    if length cell.attributes == 0
    then style_end_without_attributes cell.background cell.foreground
    else sequence (codes "0")

-- a text between the sequences of a cell's colours and attributes, if the cell has any
abbrev pub styled : CellValue → Text → Text
styled cell text = style_begin cell ++ (text ++ style_end cell)
