-- The records of an input for some options, and the errors if it has none.
-- Source: this library's own.
use Rattle.std.specs.Prelude.{ℕ, ◌≡◌, ◌≢◌, Bool, true, false, List, ◌++◌, MatchOption, None}
use Rattle.comfy_parts.specs.Text.{Text}
use Rattle.csv.specs.Reading.{strip_bom}
use Rattle.csv.specs.declared.parser.State.TheVariants as st
use Rattle.csv_records.specs.Delimiter.{delimited}
use Rattle.csv_records.specs.Encoding.{IsDecoded, IsRefusedIn, encoding_of}
use Rattle.csv_records.specs.NotText.{not_text_for}
use Rattle.csv_records.specs.Input.{AreRecordsOf, SplitsCharacter, line_number}
use Rattle.csv_records.specs.Quotes.{IsUnclosed, state_after}
use Rattle.csv_records.specs.Spaces.{tabbed_text}
use Rattle.csv_records.specs.declared.delimiter.Delimiter.{Delimiter}
use Rattle.csv_records.specs.declared.delimiter.Delimiter.TheVariants.{Auto, Byte, NamedOrTab, Spaces}
use Rattle.csv_records.specs.declared.error.DecodeError.{DecodeError}
use Rattle.csv_records.specs.declared.error.DecodeError.TheVariants as decode
use Rattle.csv_records.specs.declared.error.RecordsError.{RecordsError}
use Rattle.csv_records.specs.declared.error.RecordsError.TheVariants.{OutOfMemory, SplitCharacter, Unclosed}
use Rattle.csv_records.specs.declared.options.InputOptions.{InputOptions}

-- an input has this text below the lines that are left out, in the encoding that is set or found
pub record IsDecodedBy (options : InputOptions) (input text : Text) : Type 0 where
  pub is_decoded : IsDecoded (encoding_of options.encoding input) options.skip input text
  pub is_text : not_text_for options.encoding options.skip input ≡ None

-- the error for an input without a text: it is recognised as something else, or it isn't in its
-- encoding
abbrev pub IsWithoutText : InputOptions → Text → DecodeError → Type 0
IsWithoutText options input e =
    MatchOption (not_text_for options.encoding options.skip input)
    (IsRefusedIn (encoding_of options.encoding input) options.skip input e)
    (λ what. e ≡ decode.NotText what)

-- the text that is split into records: if spaces separate the fields, TABs replace them, by the
-- names of a header if the text has one
abbrev pub read_text : Bool → Delimiter → Text → Text
read_text has_header (Byte b) text = text
read_text has_header Auto text = text
read_text has_header NamedOrTab text = text
read_text has_header Spaces text = tabbed_text has_header text

-- true if quotes count: never if spaces separate the fields
abbrev pub counts_quotes : Delimiter → Bool → Bool
counts_quotes (Byte b) has_quotes = has_quotes
counts_quotes Auto has_quotes = has_quotes
counts_quotes NamedOrTab has_quotes = has_quotes
counts_quotes Spaces has_quotes = false

abbrev pub reads_quotes : InputOptions → Bool
reads_quotes options = counts_quotes options.delimiter options.has_quotes

-- the byte between the fields of a text, and the part with its records: without a line that names
-- the byte
abbrev pub parted : InputOptions → Text → ℕ × Text
parted options text =
    delimited options.delimiter (reads_quotes options)
    (read_text options.has_header options.delimiter text)

-- `records` are the records of a text, and if quotes count, the text doesn't end within them
pub record AreRecordsIn (options : InputOptions) (text : Text) (records : List
    (List Text)) : Type 0 where
  pub are_records :
      AreRecordsOf (parted options text).0 (reads_quotes options) (parted options text).1 records
  pub is_closed : reads_quotes options ≡ true
      → state_after (parted options text).0 (strip_bom (parted options text).1) ≢ st.InQuoted

-- a quote that opens a field in this line is never closed; the lines that are left out are counted
-- too
pub record HasUnclosedQuote (options : InputOptions) (text : Text) (line : ℕ) : Type 0 where
  pub has_quotes : reads_quotes options ≡ true
  pub before : Text
  pub from_quote : Text
  pub parts : text ≡ before ++ from_quote
  pub is_unclosed :
      IsUnclosed (parted options text).0 (strip_bom (parted options text).1) from_quote
  pub numbered : line ≡ line_number options.skip before

-- the delimiter isn't ASCII, and splits a character of a record
abbrev pub HasSplitCharacter : InputOptions → Text → Type 0
HasSplitCharacter options text =
    SplitsCharacter (parted options text).0 (reads_quotes options) (parted options text).1

-- the error for a text without records
abbrev pub IsTextWithoutRecords : InputOptions → Text → RecordsError → Type 0
IsTextWithoutRecords options text (Unclosed line) = HasUnclosedQuote options text line
IsTextWithoutRecords options text SplitCharacter = HasSplitCharacter options text
IsTextWithoutRecords options text OutOfMemory = Unit {0}

-- `records` are the records of an input, in the encoding that is set or found
pub record AreRecordsFor (options : InputOptions) (input : Text) (records : List
    (List Text)) : Type 0 where
  pub text : Text
  pub is_text : IsDecodedBy options input text
  pub are_records : AreRecordsIn options text records

-- an input has only one list of records
abbrev pub RecordsAreOne : InputOptions → Text → List (List Text) → List (List Text) → Type 0
RecordsAreOne options input records others =
    AreRecordsFor options input records → AreRecordsFor options input others → records ≡ others
