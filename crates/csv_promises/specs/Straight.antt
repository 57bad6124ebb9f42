-- Lines that show the same number of terminal columns.
-- Source: this library's own.
use Rattle.std.specs.Prelude.{◌≡◌, ◌||◌, ◌≤◌, ℕ, false, List, Option, Ok, All, chars}
use Rattle.std.specs.Char.{is_control}
use Rattle.std.specs.List.{list_any}
use Rattle.comfy_parts.specs.Text.{Text, measure}
use Rattle.csv_records.specs.Cleaning.{turns_direction}
use Rattle.csv_command.specs.Columns.{columns_for}
use Rattle.csv_command.specs.Drawn.{layout_with}
use Rattle.csv_command.specs.declared.arguments.Options.{Options}
use Rattle.csv_tables.specs.Columns.{ColumnsValue}
use Rattle.csv_tables.specs.Laws.{CharactersFitEachWidth}
use Rattle.promises.specs.Shown.{ShowsColumns}
use Rattle.csv_promises.specs.Counted.{EachDrawnLine}

-- P holds for each field of each record
abbrev pub EachField : (Text → Type 0) → List (List Text) → Type 0
EachField P records = All (All P) records

-- a field that is drawn as it is, and takes at most 65535 terminal columns: it has no control
-- character, and no character that turns the direction of text
pub record IsPlainField (field : Text) : Type 0 where
  pub plain : list_any (λ c. is_control c || turns_direction c) (chars field) ≡ false
  pub short : measure field ≤ 65535

-- all lines of the output for records show the same number of terminal columns, except those that
-- count records
abbrev pub IsStraight : Options → List (List Text) → Text → Type 0
IsStraight options records text =
    (columns : ℕ) × EachDrawnLine (ShowsColumns columns) options records text

-- Each character of the drawn fields and names has room in its column. This is about the columns
-- that options choose, each table that may be drawn of the records, and the widths that are
-- arranged for it.
abbrev pub FieldsFitTheirColumns : Options → List (List Text) → Type 0
FieldsFitTheirColumns options records =
    (known : Option ℕ) (columns : ColumnsValue) → columns_for options records ≡ Ok columns
    → CharactersFitEachWidth known (layout_with options columns) records

-- if characters have room in their columns, the output for the records is straight
abbrev pub IsStraightWhereFieldsFit : Options → List (List Text) → Text → Type 0
IsStraightWhereFieldsFit options records text =
    FieldsFitTheirColumns options records → IsStraight options records text
