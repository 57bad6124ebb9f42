-- Messages about words that are no number, no encoding or no delimiter, and about options that have
-- another meaning here.
-- Source: this library's own.
use Rattle.std.specs.Prelude.{ℕ, pos, ◌-◌, ◌^◌, Bool, false, ◌==◌, ◌||◌, ◌&&◌, nat_le, List, [], ◌∷◌, ◌++◌, Option, Some, None, bytes_eq, codes, decimal, find, length, option_and_then, unwrap_or, if◌then◌else◌}
use Rattle.std.specs.List.{after_first, before_first, list_any}
use Rattle.std.specs.Option.{option_map_or, option_or}
use Rattle.std.specs.Str.Parse.{without_leading_plus}
use Rattle.clap.specs.Lexer.{has_byte, strip_byte}
use Rattle.clap.specs.Words.{Rule}
use Rattle.clap.specs.declared.builder.value_parser.ValueParser.{ValueParser}
use Rattle.clap.specs.declared.builder.value_parser.ValueParser.TheVariants as vp
use Rattle.comfy_parts.specs.Text.{Text}
use Rattle.csv_command.specs.Program.{csvtable_rules, encodings}
use Rattle.csv_command.specs.Styles.{is_named}
use Rattle.csv_records.specs.Numerals.{number_for}

-- the message about a word that can't be a delimiter
abbrev pub wrong_delimiter : Text → Text
wrong_delimiter word =
    codes "a delimiter is `tab`, `spaces`, `auto` or one ASCII character other than "
    ++ codes "a quote or a line end, not '" ++ word ++ codes "'"

-- true if an option has this name
abbrev pub is_long : Text → Option Text → Bool
is_long word None = false
is_long word (Some name) = bytes_eq word name

-- true if an option has this letter
abbrev pub is_short : ℕ → Option ℕ → Bool
is_short b None = false
is_short b (Some letter) = b == letter

-- true if the rest of a word after its first hyphen is a hyphen with an option's name, or its
-- letter
abbrev pub is_name_of : Text → Rule → Bool
is_name_of [] rule = false
is_name_of (b ∷ more) rule =
    if b == 0x2D then is_long more rule.long else length more == 0 && is_short b rule.short

-- true if a word is a hyphen and an option's letter, or two hyphens and its name
abbrev pub is_called : Text → Rule → Bool
is_called [] rule = false
is_called (b ∷ more) rule = b == 0x2D && is_name_of more rule

-- the greatest number that a value may be, if it is a number
abbrev pub greatest_read : Option ValueParser → Option ℕ
greatest_read (Some (vp.Signed least (pos greatest))) = Some greatest
greatest_read (Some (vp.Unsigned least greatest)) = Some greatest
greatest_read parser = None

-- the greatest number of the option that a word calls, among these options
abbrev pub greatest_within : List (Rule × List Text) → Text → Option ℕ
greatest_within rules word =
    option_and_then (λ (known : Rule × List Text). greatest_read known.0.parser)
    (find (λ (known : Rule × List Text). is_called word known.0) rules)

-- the greatest number that an option of the program takes, or `None` if it takes no number
unfoldable pub greatest_number : Text → Option ℕ
greatest_number word = greatest_within csvtable_rules word

-- true if a word is a number up to `greatest`; a plus may precede it
abbrev pub is_number_to : ℕ → Text → Bool
is_number_to greatest word =
    option_map_or (λ n. nat_le n greatest) (number_for 64 (without_leading_plus word)) false

-- the message about a word that isn't a number up to `greatest`
abbrev pub number_reason : Text → ℕ → Text → Text
number_reason option greatest word =
    option
    ++ (codes " takes a number from 0 to "
    ++ (decimal greatest ++ (codes ", not '" ++ (word ++ codes "'"))))

-- options of other programs whose value is the number of records to draw
abbrev pub limits_elsewhere : List Text
limits_elsewhere =
    codes "-n" ∷ codes "--head" ∷ codes "--max-rows" ∷ codes "--nrows" ∷ codes "--rows" ∷ []

-- the message about a number after an option of `limits_elsewhere`
abbrev pub limit_reason : Text → Text
limit_reason word =
    codes "for the first records type --limit " ++ word ++ codes "; -n means no header"

-- true for a name of an encoding, in letters of either case
abbrev pub is_encoding : Text → Bool
is_encoding word = list_any (λ name. is_named name word) encodings

-- the message about a word after the option for encodings that isn't the name of an encoding
unfoldable pub encoding_reason : Text → Option Text
encoding_reason word =
    if length word == 0 || is_encoding word
    then None
    else Some
    (codes "csvtable reads utf-8, utf-16 and cp1252; for others try iconv -f " ++ word
    ++ codes " FILE | csvtable")

-- the message about an option of other programs against wrapping
abbrev pub no_wrap_reason : Text
no_wrap_reason = codes "-w 0 wraps nothing; -m 1 draws each row on one line"

-- the message about an option of other programs for sorting
abbrev pub sort_reason : Text
sort_reason = codes "csvtable doesn't sort; try mlr --csv sort -nr COLUMN FILE | csvtable"

-- the message about an option of other programs that selects records
abbrev pub filter_reason : Text
filter_reason =
    codes "csvtable doesn't filter; try mlr --csv filter '$COLUMN < 0' FILE | csvtable"

-- the message about an option that other programs have for wrapping, sorting or filtering
abbrev pub reason_elsewhere : Text → Option Text
reason_elsewhere option =
    if bytes_eq option (codes "--no-wrap")
    then Some no_wrap_reason
    else if bytes_eq option (codes "--sort")
    then Some sort_reason
    else if bytes_eq option (codes "--filter")
    then Some filter_reason
    else None

-- the message about other options, by the word after them
abbrev pub reason_without_number : Text → Text → Option Text
reason_without_number option word =
    if list_any (bytes_eq option) limits_elsewhere && is_number_to (2 ^ 64 - 1) word
    then Some (limit_reason word)
    else if bytes_eq option (codes "-e") || bytes_eq option (codes "--encoding")
    then encoding_reason word
    else reason_elsewhere option

-- the message about an option and the word after it
abbrev pub reason_of : Text → Text → Option Text
reason_of option word =
    option_map_or
    (λ greatest.
    if length word == 0 || is_number_to greatest word
    then None
    else Some (number_reason option greatest word))
    (greatest_number option)
    (reason_without_number option word)

-- an option and its value, if the value isn't empty
abbrev pub with_value : Text → Text → Option (Text × Text)
with_value option value = if length value == 0 then None else Some (option, value)

-- an option of one letter and its value in one word, without its hyphen, as `w5`
abbrev pub split_letter : Text → Option (Text × Text)
split_letter rest =
    option_map_or (with_value (codes "-w")) (strip_byte 0x77 rest)
    (option_map_or (with_value (codes "-m")) (strip_byte 0x6D rest)
    (option_map_or (with_value (codes "-n")) (strip_byte 0x6E rest)
    (option_and_then (with_value (codes "-e")) (strip_byte 0x65 rest))))

-- an option and its value in one word, as `--width=5`, `-w=5` and `-w5`
abbrev pub in_one_word : Text → Option (Text × Text)
in_one_word word =
    if has_byte 0x3D word
    then Some (before_first (λ b. b == 0x3D) word, after_first (λ b. b == 0x3D) word)
    else option_and_then split_letter (strip_byte 0x2D word)

-- an option and the next word, or an empty word if there is none
abbrev pub next_given : Text → List Text → Text × Text
next_given option [] = (option, [])
next_given option (word ∷ more) = (option, word)

-- an option and its value, which is in the same word, or is the next word
abbrev pub given : Text → List Text → Text × Text
given option more = unwrap_or (in_one_word option) (next_given option more)

-- the message about the first word that isn't the number or the encoding that its option takes;
-- after `--` no word is an option
abbrev pub wrong_value : List Text → Option Text
wrong_value [] = None
wrong_value (option ∷ more) =
    if bytes_eq option (codes "--")
    then None
    else option_or (reason_of (given option more).0 (given option more).1) (wrong_value more)
