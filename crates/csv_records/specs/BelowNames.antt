-- Lines whose fields are below the names of a first line. Here a line is a list of its characters,
-- and a place is a position in this list, counted from 0.
-- Source: this library's own.
use Rattle.std.specs.Prelude.{ℕ, ◌==◌, ◌&&◌, ◌||◌, not, nat_le, nat_lt, Bool, List, [], ◌∷◌, ◌++◌, Option, Some, None, chars, codes, encode_utf8, flat_map, length, slice_index, take, if◌then◌else◌}
use Rattle.std.specs.List.{filter, list_all, list_any, range_with_len, suffix_len}
use Rattle.comfy_parts.specs.Text.{Text}

abbrev pub places : List ℕ → List ℕ
places line = range_with_len 0 (length line)

abbrev pub has_space : List ℕ → ℕ → Bool
has_space line at = slice_index line at == 0x20

-- the number of spaces directly before a place
abbrev pub spaces_before : List ℕ → ℕ → ℕ
spaces_before line at = suffix_len (λ c. c == 0x20) (take at line)

-- true if a name begins at a place: no space is there, and three spaces or more precede it
abbrev pub begins_name : List ℕ → ℕ → Bool
begins_name line at = nat_le 3 (spaces_before line at) && not (has_space line at)

-- the places of a line at which names begin
abbrev pub starts_of : List ℕ → List ℕ
starts_of line = filter (begins_name line) (places line)

abbrev pub is_start : List ℕ → ℕ → Bool
is_start starts at = list_any (λ start. start == at) starts

-- true if a line fits the starts of names at this place. Two spaces or more precede each start. At
-- any other place nothing begins after two spaces or more.
abbrev pub fits_at : List ℕ → List ℕ → ℕ → Bool
fits_at starts line at =
    if is_start starts at
    then nat_le 2 (spaces_before line at)
    else has_space line at || nat_lt (spaces_before line at) 2

abbrev pub fits : List ℕ → List ℕ → Bool
fits starts line = list_all (fits_at starts line) (places line)

-- the starts of names in the first line, if it has two or more and all lines fit them
abbrev pub first_starts : List Text → List ℕ
first_starts [] = []
first_starts (first ∷ others) = starts_of (chars first)

abbrev pub name_starts : List Text → Option (List ℕ)
name_starts lines =
    let starts = first_starts lines in
    if nat_le 2 (length starts) && list_all (λ line. fits starts (chars line)) lines
    then Some starts
    else None

-- a character of a field, with the space before it if that is a single one
abbrev pub with_space : ℕ → ℕ → Text
with_space spaces c =
    if c == 0x20
    then []
    else (if spaces == 1 then codes " " else []) ++ encode_utf8 (if c == 0x09 then 0x20 else c)

-- the character at a place, with a TAB before it if the place is a start
abbrev pub columns_at : List ℕ → List ℕ → ℕ → Text
columns_at starts line at =
    (if is_start starts at then codes "\t" else [])
    ++ with_space (spaces_before line at) (slice_index line at)

abbrev pub columns_of : List ℕ → List ℕ → Text
columns_of starts line = flat_map (columns_at starts line) (places line)

abbrev pub columns_text : List ℕ → List Text → Text
columns_text starts lines = flat_map (λ line. columns_of starts (chars line) ++ 0x0A ∷ []) lines
