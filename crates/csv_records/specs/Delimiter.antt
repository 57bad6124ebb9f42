-- The delimiter between the fields of a text, and the place at which its records begin.
-- Source: this library's own; a line `sep=X` is Excel's.
use Rattle.std.specs.Prelude.{ℕ, ◌+◌, ◌<◌, ◌==◌, ◌&&◌, ◌||◌, nat_lt, not, Bool, true, false, List, [], ◌∷◌, Option, Some, None, bytes_eq, codes, drop, is_some, length, map, option_and_then, option_map, take, unwrap_or, if◌then◌else◌}
use Rattle.std.specs.Char.{to_ascii_lowercase}
use Rattle.std.specs.List.{count_by, filter, find, list_all}
use Rattle.comfy_parts.specs.Text.{Text, greatest}
use Rattle.csv.specs.Reading.{records_from, strip_bom}
use Rattle.csv.specs.declared.parser.State.TheVariants as st
use Rattle.csv_records.specs.Input.{config_for}
use Rattle.csv_records.specs.Lines.{below_line, first_line}
use Rattle.csv_records.specs.declared.delimiter.Delimiter.{Delimiter}
use Rattle.csv_records.specs.declared.delimiter.Delimiter.TheVariants.{Auto, Byte, NamedOrTab, Spaces}

-- ---- a line that names the delimiter

-- the byte of a word of one byte, which is neither a quote nor a line end
abbrev pub only_byte : Text → Option ℕ
only_byte [] = None
only_byte (b ∷ []) = if ((b == 0x22) || (b == 0x0A)) || (b == 0x0D) then None else Some b
only_byte (b ∷ c ∷ rest) = None

-- the byte of a word of one ASCII character, which is neither a quote nor a line end
abbrev pub only_ascii : Text → Option ℕ
only_ascii word = option_and_then (λ b. if nat_lt b 128 then Some b else None) (only_byte word)

-- the word before the delimiter in a line that names it; letters of either case count
abbrev pub naming_word : Text
naming_word = codes "sep="

-- the delimiter that a line names
abbrev pub delimiter_in : Text → Option ℕ
delimiter_in line =
    if bytes_eq (map to_ascii_lowercase (take (length naming_word) line)) naming_word
    then only_ascii (drop (length naming_word) line)
    else None

-- the delimiter that a first line names, also after a byte-order mark, and the text after that line
abbrev pub named_delimiter : Text → Option (ℕ × Text)
named_delimiter text =
    option_map (λ b. (b, below_line (strip_bom text))) (delimiter_in (first_line (strip_bom text)))

-- ---- a delimiter that is found

-- the numbers of fields of the first records, at most `most` of them
abbrev pub field_counts : Bool → Text → ℕ → ℕ → List ℕ
field_counts has_quotes text delimiter most =
    map (λ fields. length fields)
    (records_from (config_for delimiter has_quotes) most st.StartRecord (strip_bom text))

-- the number of records that have the commonest number of fields above 1
abbrev pub agreement : List ℕ → ℕ
agreement counts =
    greatest (map (λ n. count_by (λ m. m == n) counts) (filter (λ n. nat_lt 1 n) counts))

-- the number of first records that are compared
abbrev pub first_looked_at : ℕ
first_looked_at = 10

-- the number of first records that agree in their number of fields, with this delimiter
abbrev pub agreement_by : Bool → Text → ℕ → ℕ
agreement_by has_quotes text delimiter =
    agreement (field_counts has_quotes text delimiter first_looked_at)

-- TAB, `;`, `,` and `|`, in the order in which they are tried
abbrev pub tried_delimiters : List ℕ
tried_delimiters = 0x09 ∷ 0x3B ∷ 0x2C ∷ 0x7C ∷ []

-- the first of the delimiters with which most records agree, or a comma if no records agree with
-- any
abbrev pub best_delimiter : (ℕ → ℕ) → List ℕ → ℕ
best_delimiter agree delimiters =
    let most = greatest (map agree delimiters) in
    unwrap_or (find (λ d. nat_lt 0 (agree d) && (agree d == most)) delimiters) 0x2C

-- the best of the delimiters that are tried
abbrev pub found_delimiter : Bool → Text → ℕ
found_delimiter has_quotes text = best_delimiter (agreement_by has_quotes text) tried_delimiters

-- With this delimiter a text has more records than are compared. The compared records are then
-- complete, however the text goes on.
abbrev pub has_first_records : Bool → Text → ℕ → Bool
has_first_records has_quotes text delimiter =
    let wanted = first_looked_at + 1 in
    length (field_counts has_quotes text delimiter wanted) == wanted

-- ---- the delimiter of a text

-- the byte between the fields of a text, and the part of the text that holds its records
abbrev pub delimited : Delimiter → Bool → Text → ℕ × Text
delimited (Byte b) has_quotes text = (b, text)
delimited Auto has_quotes text =
    unwrap_or (named_delimiter text) (found_delimiter has_quotes text, text)
delimited NamedOrTab has_quotes text = unwrap_or (named_delimiter text) (0x09, text)
delimited Spaces has_quotes text = (0x09, text)

-- a byte that isn't set by options is ASCII
abbrev pub IsAsciiUnlessSet : Delimiter → ℕ → Type 0
IsAsciiUnlessSet (Byte b) delimiter = Unit {0}
IsAsciiUnlessSet Auto delimiter = delimiter < 128
IsAsciiUnlessSet NamedOrTab delimiter = delimiter < 128
IsAsciiUnlessSet Spaces delimiter = delimiter < 128

-- A text shows its delimiter, however it goes on, in one of four cases. The delimiter is a given
-- byte other than a line feed, or `NamedOrTab` is set, or the first line names it. Or each tried
-- delimiter gives the text more records than are compared. If spaces are the delimiter, no
-- beginning is enough.
abbrev pub shows_delimiter : Delimiter → Bool → Text → Bool
shows_delimiter (Byte b) has_quotes text = not (b == 0x0A)
shows_delimiter Auto has_quotes text =
    is_some (named_delimiter text) || list_all (has_first_records has_quotes text) tried_delimiters
shows_delimiter NamedOrTab has_quotes text = true
shows_delimiter Spaces has_quotes text = false
