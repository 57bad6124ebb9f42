-- A beginning of an input that is enough for its first records.
-- Source: this library's own.
use Rattle.std.specs.Prelude.{ℕ, ◌≡◌, ◌≢◌, ◌<◌, ◌==◌, Bool, true, List, [], ◌∷◌, ◌++◌, length, take, if◌then◌else◌}
use Rattle.std.specs.List.{count_by, list_any}
use Rattle.comfy_parts.specs.Text.{Text}
use Rattle.csv_records.specs.Delimiter.{shows_delimiter}
use Rattle.csv_records.specs.Lines.{below_lines}
use Rattle.csv_records.specs.Longer.{longer_records}
use Rattle.csv_records.specs.Encoding.{encoding_of}
use Rattle.csv_records.specs.Reading.{AreRecordsFor, AreRecordsIn, IsDecodedBy}
use Rattle.csv_records.specs.declared.encoding.Encoding.TheVariants.{Utf16}
use Rattle.csv_records.specs.declared.options.InputOptions.{InputOptions}
use Rattle.csv_records.specs.declared.records.FirstRecords.{FirstRecords}

abbrev pub is_line_feed : ℕ → Bool
is_line_feed b = b == 0x0A

-- a text up to and with its last line feed, or nothing if it has none
abbrev pub whole_lines : Text → Text
whole_lines [] = []
whole_lines (b ∷ rest) =
    if list_any is_line_feed (b ∷ rest) then b ∷ whole_lines rest else []

-- true if a text ends with a line feed
abbrev pub EndsWithLine : Text → Type 0
EndsWithLine text = (front : Text) × (text ≡ front ++ 0x0A ∷ [])

-- A beginning of an input is enough for its first `most` records if it has more line feeds than
-- `most`, and more records. Below the lines that are left out it ends with a line feed, and outside
-- quotes if quotes count. Its text shows the field delimiter. No beginning in UTF-16 is enough.
pub record IsEnough (options : InputOptions) (most : ℕ) (beginning : Text) (records : List
    (List Text)) : Type 0 where
  pub no_utf16 : encoding_of options.encoding beginning ≢ Utf16
  pub feeds : most < count_by is_line_feed beginning
  pub text : Text
  pub is_text : IsDecodedBy options beginning text
  pub ends : EndsWithLine (below_lines options.skip beginning)
  pub shows : shows_delimiter options.delimiter options.has_quotes text ≡ true
  pub are_records : AreRecordsIn options text records
  pub more : most < length records

-- the complete lines of `read` are a beginning that is enough, and `first` are its first `most`
-- records
pub record AreFirstByBeginning (options : InputOptions) (most : ℕ) (read : Text) (first : List
    (List Text)) : Type 0 where
  pub records : List (List Text)
  pub is_enough : IsEnough options most (whole_lines read) records
  pub are_first : first ≡ take most records

-- `found` has the first records of these bytes, the number of records in them, and the records with
-- more fields than the first one
pub record IsFoundInBeginning (options : InputOptions) (most : ℕ) (read : Text)
    (found : FirstRecords) : Type 0 where
  pub are_first : AreFirstByBeginning options most read found.records
  pub count : found.count ≡ length are_first.records
  pub longer : found.longer ≡ longer_records options are_first.is_enough.text found.records

-- the complete lines of `read` aren't enough, whatever their records are
abbrev pub NoneAreEnough : InputOptions → ℕ → Text → Type 0
NoneAreEnough options most read =
    (records : List (List Text)) → ¬ (IsEnough options most (whole_lines read) records)

-- the records of a beginning that is enough are the first records of the whole input
abbrev pub FirstRecordsStay : InputOptions → ℕ → Text → Text → List (List Text)
    → List (List Text) → Type 0
FirstRecordsStay options most beginning after records all =
    IsEnough options most beginning records → AreRecordsFor options (beginning ++ after) all
    → (more : List (List Text)) × (all ≡ records ++ more)
