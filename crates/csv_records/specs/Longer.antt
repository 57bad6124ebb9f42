-- Records that have more fields than the first record.
-- Source: this library's own.
use Rattle.std.specs.Prelude.{ℕ, zero, suc, ◌-◌, ◌==◌, nat_lt, Bool, List, [], Option, None, drop, length, option_map, slice_get, take, unwrap_or}
use Rattle.std.specs.List.{count_by, position, prefix_len, suffix_len}
use Rattle.std.specs.Option.{option_map_or}
use Rattle.comfy_parts.specs.Text.{Text}
use Rattle.csv.specs.Machine.{next_record}
use Rattle.csv.specs.Reading.{strip_bom}
use Rattle.csv.specs.declared.parser.Config.{Config}
use Rattle.csv.specs.declared.parser.State.TheVariants as st
use Rattle.csv_records.specs.Input.{config_for, line_number}
use Rattle.csv_records.specs.Lines.{ends_line}
use Rattle.csv_records.specs.Reading.{parted, reads_quotes}
use Rattle.csv_records.specs.declared.delimiter.Delimiter.{Delimiter}
use Rattle.csv_records.specs.declared.delimiter.Delimiter.TheVariants.{Spaces}
use Rattle.csv_records.specs.declared.longer.LongRecords.{LongRecords}
use Rattle.csv_records.specs.declared.options.InputOptions.{InputOptions}

-- ---- lines of records

-- a text without the line ends at its front
abbrev pub skip_newlines : Text → Text
skip_newlines text = drop (prefix_len ends_line text) text

-- the text after the first record
abbrev pub skip_record : Config → Text → Text
skip_record config text =
    option_map_or (λ found. found.2) (next_record config st.StartRecord [] [] text) []

-- the text from the record after the first `before` ones
abbrev pub skip_records : Config → ℕ → Text → Text
skip_records config zero text = skip_newlines text
skip_records config (suc before) text = skip_records config before (skip_record config text)

-- the number of the line in which a record begins that has `before` records above it. The lines
-- that are left out are counted too.
abbrev pub line_of_record : InputOptions → Text → ℕ → ℕ
line_of_record options text before =
    let config = config_for (parted options text).0 (reads_quotes options) in
    let rest = skip_records config before (strip_bom (parted options text).1) in
    line_number options.skip (take (length text - length rest) text)

-- ---- records with more fields

-- the number of fields of the record at a position
abbrev pub field_count : List (List Text) → ℕ → ℕ
field_count records at = length (unwrap_or (slice_get records at) [])

-- the number of fields of a record up to the last that isn't empty
abbrev pub filled_len : List Text → ℕ
filled_len fields = length fields - suffix_len (λ field. length field == 0) fields

-- true if a record has more fields than the first of `records`, not counting empty ones at its end
abbrev pub is_longer : List (List Text) → List Text → Bool
is_longer records fields = nat_lt (field_count records 0) (filled_len fields)

-- The report if the first longer record is at the position `at`. It has the line and the number of
-- fields of this record, and the number of other longer records. `lasts` is true if these are all
-- records after it.
abbrev pub longer_at : (ℕ → ℕ) → List (List Text) → ℕ → LongRecords
longer_at line_of records at =
    record {
      line = line_of at;
      fields = filled_len (unwrap_or (slice_get records at) []);
      first_fields = field_count records 0;
      others = count_by (is_longer records) records - 1;
      lasts = count_by (is_longer records) records - 1 == (length records - at) - 1;
    }

abbrev pub longer_by : (ℕ → ℕ) → List (List Text) → Option LongRecords
longer_by line_of records =
    option_map (longer_at line_of records) (position (is_longer records) records)

-- the report, or `None` if spaces separate the fields: the last column then takes the rest of its
-- line
abbrev pub unless_spaces : {T : Type 0} → Delimiter → Option T → Option T
unless_spaces Spaces longer = None
unless_spaces _ longer = longer

abbrev pub longer_records : InputOptions → Text → List (List Text) → Option LongRecords
longer_records options text records =
    unless_spaces options.delimiter (longer_by (line_of_record options text) records)
