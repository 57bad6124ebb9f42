-- The lines of bytes.
-- Source: this library's own.
use Rattle.std.specs.Prelude.{ℕ, zero, suc, ◌≡◌, ◌==◌, ◌&&◌, ◌||◌, Bool, [], ◌∷◌, ◌++◌, drop, take, if◌then◌else◌}
use Rattle.std.specs.List.{position_or_len}
use Rattle.comfy_parts.specs.Text.{Text}

abbrev pub ends_line : ℕ → Bool
ends_line b = (b == 0x0A) || (b == 0x0D)

-- the number of bytes before the first line end
abbrev pub line_len : Text → ℕ
line_len text = position_or_len ends_line text

-- the number of bytes of a line end at the front: a carriage return with a line feed is one line
-- end
abbrev pub end_len : Text → ℕ
end_len [] = 0
end_len (a ∷ []) = if ends_line a then 1 else 0
end_len (a ∷ b ∷ rest) = if (a == 0x0D) && (b == 0x0A) then 2 else if ends_line a then 1 else 0

-- the first line, without its end
abbrev pub first_line : Text → Text
first_line text = take (line_len text) text

-- the text after the first line and its end
abbrev pub below_line : Text → Text
below_line text =
    let rest = drop (line_len text) text in
    drop (end_len rest) rest

-- the text after the first `count` lines
abbrev pub below_lines : ℕ → Text → Text
below_lines zero text = text
below_lines (suc count) text = below_lines count (below_line text)

-- a text ends with `end`
abbrev pub EndsIn : Text → Text → Type 0
EndsIn text end = (front : Text) × (text ≡ front ++ end)
