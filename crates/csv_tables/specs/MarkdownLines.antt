-- Fields that are read back from the lines of an output for Markdown.
-- Source: this library's own; CommonMark for backslashes, GitHub for tables.
use Rattle.std.specs.Prelude.{ℕ, Bool, false, not, ◌==◌, ◌&&◌, List, [], ◌∷◌, ◌++◌, if◌then◌else◌}
use Rattle.csv_tables.specs.Markdown.{unescaped}

-- the parts of a line of which `part` has been read. A bar ends a part, unless it is escaped: it
-- follows a backslash that isn't escaped.
abbrev pub parts_from : Bool → List ℕ → List ℕ → List (List ℕ)
parts_from is_escaped part [] = part ∷ []
parts_from is_escaped part (c ∷ rest) =
    if not is_escaped && (c == 0x7C)
    then part ∷ parts_from false [] rest
    else parts_from (not is_escaped && (c == 0x5C)) (part ++ c ∷ []) rest

-- the parts of a line between its bars
abbrev pub parts_between_bars : List ℕ → List (List ℕ)
parts_between_bars line = parts_from false [] line

-- a character before others, or nothing for a space before none
abbrev pub before_spaces : ℕ → List ℕ → List ℕ
before_spaces c [] = if c == 0x20 then [] else c ∷ []
before_spaces c (d ∷ rest) = c ∷ d ∷ rest

-- characters without the spaces at their end
abbrev pub without_last_spaces : List ℕ → List ℕ
without_last_spaces [] = []
without_last_spaces (c ∷ rest) = before_spaces c (without_last_spaces rest)

-- characters without the spaces at their start
abbrev pub without_first_spaces : List ℕ → List ℕ
without_first_spaces [] = []
without_first_spaces (c ∷ rest) = if c == 0x20 then without_first_spaces rest else c ∷ rest

-- characters without the spaces at both ends
abbrev pub without_outer_spaces : List ℕ → List ℕ
without_outer_spaces cs = without_first_spaces (without_last_spaces cs)

-- the characters that are read from a part
abbrev pub read_part : List ℕ → List ℕ
read_part part = without_outer_spaces (unescaped part)
