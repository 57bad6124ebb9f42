-- Texts whose fields are separated by runs of spaces and TABs.
-- Source: this library's own.
use Rattle.std.specs.Prelude.{ℕ, zero, suc, ◌+◌, ◌-◌, ◌==◌, ◌&&◌, ◌||◌, not, nat_le, Bool, true, false, List, [], ◌∷◌, ◌++◌, Option, Some, None, bytes_eq, codes, drop, flat_map, fold, map, max, min, take, if◌then◌else◌, length}
use Rattle.std.specs.List.{filter, list_any, position_or_len, prefix_len, slice_split, suffix_len}
use Rattle.std.specs.Char.{is_ascii_whitespace}
use Rattle.comfy_parts.specs.Text.{Text}
use Rattle.csv_records.specs.BelowNames.{columns_text, name_starts}

-- true for a space or a TAB
abbrev pub is_gap : ℕ → Bool
is_gap b = (b == 0x20) || (b == 0x09)

-- the first field of a line; a line without the gap at its front; and the text after the first
-- field and its gap
abbrev pub first_field : Text → Text
first_field line = take (position_or_len is_gap line) line

abbrev pub after_gap : Text → Text
after_gap line = drop (prefix_len is_gap line) line

abbrev pub after_field : Text → Text
after_field line = after_gap (drop (position_or_len is_gap line) line)

-- the number of gaps that begin in a line; `begun` is true if the byte before it is in a gap
abbrev pub gaps_from : Bool → Text → ℕ
gaps_from begun [] = 0
gaps_from begun (b ∷ bs) = (if is_gap b && not begun then 1 else 0) + gaps_from (is_gap b) bs

-- a line without the white space of ASCII at its ends
abbrev pub trimmed_line : Text → Text
trimmed_line line =
    let rest = drop (prefix_len is_ascii_whitespace line) line in
    take (length rest - suffix_len is_ascii_whitespace rest) rest

-- the lines of a text that aren't blank
abbrev pub filled_lines : Text → List Text
filled_lines text =
    filter (λ line. not (length (trimmed_line line) == 0)) (slice_split (λ b. b == 0x0A) text)

-- true for a line such as `total 92`, which `ls -l` writes above its list
abbrev pub begins_with_digit : Text → Bool
begins_with_digit [] = false
begins_with_digit (b ∷ rest) = nat_le 0x30 b && nat_le b 0x39

abbrev pub is_total : Text → Bool
is_total line =
    bytes_eq (first_field line) (codes "total") && begins_with_digit (after_field line)

-- the number of gaps of a line
abbrev pub line_gaps : Text → ℕ
line_gaps line = gaps_from false (trimmed_line line)

-- the greatest number of gaps of a line
abbrev pub most_gaps : List Text → ℕ
most_gaps [] = 0
most_gaps (line ∷ lines) = max (line_gaps line) (most_gaps lines)

-- the number of gaps of the line with the fewest gaps
abbrev pub fewest_gaps : List Text → ℕ
fewest_gaps [] = 0
fewest_gaps (line ∷ lines) = fold min (line_gaps line) (map line_gaps lines)

-- a line begins with a gap
abbrev pub is_indented : Text → Bool
is_indented [] = false
is_indented (b ∷ rest) = is_gap b

-- True if the first column has no name, as in the output of `free`. Only the first line then begins
-- with a gap, and the fullest line below it has one field more.
abbrev pub lacks_name : List Text → Bool
lacks_name [] = false
lacks_name (first ∷ others) =
    (is_indented first && not (list_any is_indented others))
    && (most_gaps others - line_gaps first == 1)

-- the gap after the missing name
abbrev pub name_gap : List Text → Text
name_gap lines = if lacks_name lines then 0x09 ∷ [] else []

-- the number of gaps that separate columns: that of the first line, or of the fullest line below it
-- if that is smaller
abbrev pub column_gaps : List Text → ℕ
column_gaps [] = 0
column_gaps (first ∷ []) = line_gaps first
column_gaps (first ∷ other ∷ others) =
    if lacks_name (first ∷ other ∷ others)
    then most_gaps (other ∷ others)
    else min (line_gaps first) (most_gaps (other ∷ others))

-- a line with spaces in place of its TABs
abbrev pub spaced : Text → Text
spaced line = map (λ b. if b == 0x09 then 0x20 else b) line

-- a line with TABs in place of its first `gaps` gaps; its last field is the rest of the line
abbrev pub tabbed_line : ℕ → Text → Text
tabbed_line zero line = spaced line
tabbed_line (suc gaps) line =
    if length (after_field line) == 0
    then spaced line
    else first_field line ++ 0x09 ∷ tabbed_line gaps (after_field line)

-- lines with TABs for their first gaps
abbrev pub lines_text : ℕ → List Text → Text
lines_text gaps lines = flat_map (λ line. tabbed_line gaps (trimmed_line line) ++ 0x0A ∷ []) lines

-- below names there are as many columns as the names say; without names, as many as the line with
-- the fewest fields has, and at least two
abbrev pub gaps_text : Bool → List Text → Text
gaps_text true lines = name_gap lines ++ lines_text (column_gaps lines) lines
gaps_text false lines = lines_text (max 1 (fewest_gaps lines)) lines

-- lines with TABs between their fields: at the places of the first line's names, if all fields are
-- below these
abbrev pub tabbed_by : Bool → Option (List ℕ) → List Text → Text
tabbed_by has_names (Some starts) lines = columns_text starts lines
tabbed_by has_names None lines = gaps_text has_names lines

abbrev pub tabbed_lines : Bool → List Text → Text
tabbed_lines has_names lines = tabbed_by has_names (name_starts lines) lines

-- a first line like `total 92` is the header, so that no line below it is one; without a header it
-- is left out
abbrev pub total_text : Bool → Text → Text
total_text has_header line = if has_header then lines_text 0 (line ∷ []) else []

abbrev pub tabbed_by_total : Bool → List Text → Text
tabbed_by_total has_header [] = []
tabbed_by_total has_header (line ∷ lines) =
    if is_total line
    then total_text has_header line ++ tabbed_lines false lines
    else tabbed_lines has_header (line ∷ lines)

-- a text with TABs between its fields; its first line may be a header
abbrev pub tabbed_text : Bool → Text → Text
tabbed_text has_header text = tabbed_by_total has_header (filled_lines text)
