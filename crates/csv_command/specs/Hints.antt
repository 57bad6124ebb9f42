-- Hints in messages about words that choose no column.
-- Source: this library's own.
use Rattle.std.specs.Prelude.{ℕ, Bool, ◌+◌, ◌-◌, ◌==◌, nat_lt, List, [], ◌++◌, Option, codes, decimal, flat_map, length, min, if◌then◌else◌}
use Rattle.std.specs.List.{position_from, range_with_len}
use Rattle.std.specs.Option.{option_map_or}
use Rattle.comfy_parts.specs.Text.{Text}
use Rattle.csv_records.specs.Number.{is_word}
use Rattle.csv_records.specs.Spaces.{trimmed_line}
use Rattle.csv_tables.specs.Fields.{field_or_blank}

-- true if two names are equal in letters of either case, without white space at the ends
abbrev pub is_alike : Text → Text → Bool
is_alike word name = is_word (trimmed_line word) (trimmed_line name)

-- the position of the first name that is similar to this word
abbrev pub position_alike : Text → List Text → Option ℕ
position_alike word names = position_from (is_alike word) 0 names

-- the name of a column in quotes, or its number if it has none
abbrev pub name_or_number : List Text → ℕ → Text
name_or_number names position =
    if length (field_or_blank names position) == 0 then decimal (position + 1)
    else (codes "'" ++ field_or_blank names position) ++ codes "'"

-- the greatest number of names that a message lists
abbrev pub most_listed : ℕ
most_listed = 8

-- a part of a list: a name, or, after the listed names, the number of the others
abbrev pub listed_part : List Text → ℕ → ℕ → Text
listed_part names count place =
    if nat_lt place most_listed
    then name_or_number names place
    else decimal (count - most_listed) ++ codes " more"

-- the text before a part of a list with this many parts
abbrev pub separator_before : ℕ → ℕ → Text
separator_before parts place =
    if place == 0 then [] else if nat_lt (place + 1) parts then codes ", " else codes " and "

abbrev pub listed_names : List Text → ℕ → Text
listed_names names count =
    let parts = min count (most_listed + 1) in
    flat_map (λ place. separator_before parts place ++ listed_part names count place)
    (range_with_len 0 parts)

-- the text for this number of columns
abbrev pub column_count : ℕ → Text
column_count count = if count == 1 then codes "1 column" else decimal count ++ codes " columns"

-- the columns that exist: their names, or their number if there is no header
abbrev pub there_are : List Text → ℕ → Text
there_are names count =
    (if count == 1 then codes "there is " else codes "there are ")
    ++ (if length names == 0 then column_count count else listed_names names count)

-- the hint for a word that chooses no column: a similar name, or else a list of the columns
abbrev pub hint_for : List Text → ℕ → Text → Text
hint_for names count word =
    option_map_or
    (λ position. (codes "did you mean " ++ name_or_number names position) ++ codes "?")
    (position_alike word names) (there_are names count)
