-- The records of an input that have more fields than the header.
-- Source: this library's own.
use Rattle.std.specs.Prelude.{◌≡◌, List, Option, None, if◌then◌else◌, option_map}
use Rattle.comfy_parts.specs.Text.{Text}
use Rattle.csv_records.specs.Beginning.{whole_lines}
use Rattle.csv_records.specs.Longer.{longer_records}
use Rattle.csv_records.specs.Reading.{AreRecordsFor}
use Rattle.csv_records.specs.declared.longer.LongRecords.{LongRecords}
use Rattle.csv_command.specs.Drawn.{AreEnough, most_drawn}
use Rattle.csv_command.specs.declared.arguments.Options.{Options}
use Rattle.csv_tables.specs.Drawn.{limited}
use Rattle.csv_tables.specs.declared.selection.Selection.{Selection}
use Rattle.devices.specs.Outcome.{Beginning, Extent, Whole}

-- the records that are drawn, including the header
abbrev pub drawn_records : Selection → List (List Text) → List (List Text)
drawn_records selection records =
    limited (option_map (most_drawn selection.has_header) selection.limit) records

-- the report of those drawn records that have more fields than the header, if there is one
abbrev pub long_records_for : Options → Text → List (List Text) → Option LongRecords
long_records_for options text records =
    if options.selection.has_header
    then longer_records options.input text (drawn_records options.selection records)
    else None

-- the report of `long_records_for`, for an input that was read whole
pub record AreLongRecordsOfInput (options : Options) (input : Text)
    (longer : Option LongRecords) : Type 0 where
  pub records : List (List Text)
  pub are_records : AreRecordsFor options.input input records
  pub is : longer ≡ long_records_for options are_records.text records

-- the report of `long_records_for`, for a beginning that is enough (`AreEnough`)
pub record AreLongRecordsOfBeginning (options : Options) (beginning : Text)
    (longer : Option LongRecords) : Type 0 where
  pub records : List (List Text)
  pub are_enough : AreEnough options beginning records
  pub is : longer ≡ long_records_for options are_enough.are.text records

abbrev pub AreLongRecordsOf : Options → Extent → Text → Option LongRecords → Type 0
AreLongRecordsOf options Whole input longer = AreLongRecordsOfInput options input longer
AreLongRecordsOf options Beginning read longer =
    AreLongRecordsOfBeginning options (whole_lines read) longer
