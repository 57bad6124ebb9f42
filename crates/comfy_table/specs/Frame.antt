-- The frame of a table: the borders that are drawn, and the characters of its lines.
-- Source: formatting::borders and helper::count_border_columns of comfy-table 8.0.1.
use Rattle.std.specs.Prelude.{ℕ, ◌+◌, ◌-◌, ◌^◌, min, Bool, ◌||◌, List, [], ◌∷◌, ◌++◌, Option, is_some, unwrap_or, map, encode_utf8, if◌then◌else◌}
use Rattle.std.specs.List.{repeat, join_by}
pub use Rattle.comfy_parts.specs.Borders.{draws_left_border, draws_right_border, draws_vertical_lines, junction_characters, left_characters, right_characters}
use Rattle.comfy_parts.specs.Text.{Text}
use Rattle.comfy_parts.specs.declared.style.table_style.ContentLineStyle.{ContentLineStyle}
use Rattle.comfy_parts.specs.declared.style.table_style.LineStyle.{LineStyle}
use Rattle.comfy_parts.specs.declared.style.table_style.TableStyle.{TableStyle}

-- the number of border characters in a line over n columns: left, right, and one between each two
-- columns if vertical lines are drawn
abbrev pub border_count : TableStyle → ℕ → ℕ
border_count style n =
    (if draws_left_border style then 1 else 0) + (if draws_right_border style then 1 else 0)
    + (if draws_vertical_lines style then n - 1 else 0)

-- the number of border characters in a line as a `usize`: at most 2 ^ 64 - 1
abbrev pub saturated_border_count : TableStyle → ℕ → ℕ
saturated_border_count style n = min (2 ^ 64 - 1) (border_count style n)

-- a character of a style, or a space for a missing one
abbrev pub character : Option ℕ → Text
character c = encode_utf8 (unwrap_or c 0x20)

-- pieces side by side: junctions between them if vertical lines are drawn, and a border at each
-- side that has one
abbrev pub between_borders : TableStyle → Option ℕ → Option ℕ → Option ℕ → List Text → Text
between_borders style left junction right pieces =
    (if draws_left_border style then character left else [])
    ++ (join_by (λ (piece : Text). piece)
    (if draws_vertical_lines style then character junction else []) pieces
    ++ (if draws_right_border style then character right else []))

-- a line of a row, made from its pieces
abbrev pub content_line : TableStyle → ContentLineStyle → List Text → Text
content_line style line pieces = between_borders style line.left line.junction line.right pieces

-- a frame line over columns of these whole widths
abbrev pub frame_line : TableStyle → LineStyle → List ℕ → Text
frame_line style line widths =
    between_borders style line.left line.junction line.right
    (map (λ (width : ℕ). repeat width (character line.fill)) widths)

-- a frame line is drawn if any of its four parts is set
abbrev pub is_drawn : LineStyle → Bool
is_drawn line =
    is_some line.left || (is_some line.fill || (is_some line.junction || is_some line.right))

-- the frame line, if it is drawn
abbrev pub optional_frame_line : TableStyle → LineStyle → List ℕ → List Text
optional_frame_line style line widths =
    if is_drawn line then frame_line style line widths ∷ [] else []
