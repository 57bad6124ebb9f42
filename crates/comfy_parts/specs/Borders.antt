-- Borders and vertical lines. A style draws a border or vertical lines if any of its six lines has
-- a character at this place.
-- Source: has_left_border, has_right_border and has_vertical_lines of comfy-table 8.0.1.
use Rattle.std.specs.Prelude.{ℕ, Bool, List, [], ◌∷◌, Option, is_some}
use Rattle.std.specs.List.{list_any}
use Rattle.comfy_parts.specs.declared.style.table_style.TableStyle.{TableStyle}

-- the left characters of the six lines of a style
abbrev pub left_characters : TableStyle → List (Option ℕ)
left_characters style =
    style.top_border.left ∷ style.header_lines.left ∷ style.header_separator.left
    ∷ style.content_lines.left ∷ style.row_separator.left ∷ style.bottom_border.left ∷ []

-- the right characters of the six lines of a style
abbrev pub right_characters : TableStyle → List (Option ℕ)
right_characters style =
    style.top_border.right ∷ style.header_lines.right ∷ style.header_separator.right
    ∷ style.content_lines.right ∷ style.row_separator.right ∷ style.bottom_border.right ∷ []

-- the junctions of the six lines of a style
abbrev pub junction_characters : TableStyle → List (Option ℕ)
junction_characters style =
    style.top_border.junction ∷ style.header_lines.junction ∷ style.header_separator.junction
    ∷ style.content_lines.junction ∷ style.row_separator.junction ∷ style.bottom_border.junction
    ∷ []

-- the left border is drawn if any line has a left character
abbrev pub draws_left_border : TableStyle → Bool
draws_left_border style = list_any (λ (c : Option ℕ). is_some c) (left_characters style)

-- the right border is drawn if any line has a right character
abbrev pub draws_right_border : TableStyle → Bool
draws_right_border style = list_any (λ (c : Option ℕ). is_some c) (right_characters style)

-- vertical lines are drawn if any line has a junction
abbrev pub draws_vertical_lines : TableStyle → Bool
draws_vertical_lines style = list_any (λ (c : Option ℕ). is_some c) (junction_characters style)
