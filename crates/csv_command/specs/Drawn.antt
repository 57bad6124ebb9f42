-- The output for an input.
-- Source: this library's own.
use Rattle.std.specs.Prelude.{ℕ, ◌+◌, Bool, false, ◌≡◌, List, [], ◌∷◌, Option, Some, None, Ok, if◌then◌else◌, ◌⊎◌}
use Rattle.comfy_parts.specs.Text.{Text}
use Rattle.csv_command.specs.Columns.{columns_for}
use Rattle.csv_command.specs.declared.arguments.Options.{Options}
use Rattle.csv_records.specs.Beginning.{IsEnough, whole_lines}
use Rattle.csv_records.specs.Reading.{AreRecordsFor}
use Rattle.csv_tables.specs.Columns.{ColumnsValue}
use Rattle.csv_tables.specs.Drawn.{RendersRecords, count_below}
use Rattle.csv_tables.specs.declared.options.Layout.{Layout}
use Rattle.devices.specs.Outcome.{Beginning, Extent, IsTested, NoneIsEnough, Whole, tested_front}

-- ---- records

-- the greatest number of records that are drawn, including the header
abbrev pub most_drawn : Bool → ℕ → ℕ
most_drawn has_header limit = if has_header then limit + 1 else limit

-- the layout for some options, with the columns that are chosen
abbrev pub layout_with : Options → ColumnsValue → Layout
layout_with options columns =
    record { selection = options.selection; columns = columns; look = options.look }

-- the output for some records, with the columns that words choose; `count` is the number of records
-- below the header, if it is known
pub record RendersChosen (count : Option ℕ) (options : Options) (records : List (List Text))
    (output : Text) : Type 0 where
  pub columns : ColumnsValue
  pub are_chosen : columns_for options records ≡ Ok columns
  pub is_output : RendersRecords count (layout_with options columns) records output

-- the output for records that are counted: nothing if there are none
abbrev pub RendersCounted : Options → List (List Text) → Text → Type 0
RendersCounted options [] output = output ≡ []
RendersCounted options (first ∷ rest) output =
    RendersChosen (Some (count_below options.selection (first ∷ rest))) options (first ∷ rest)
    output

-- the output for a whole input is the one for its records, which are counted
pub record RendersInput (options : Options) (input output : Text) : Type 0 where
  pub records : List (List Text)
  pub are_records : AreRecordsFor options.input input records
  pub is_output : RendersCounted options records output

-- ---- beginnings of inputs

-- there is a limit, and records aren't counted
pub record HasLimit (options : Options) : Type 0 where
  pub limit : ℕ
  pub is : options.selection.limit ≡ Some limit
  pub uncounted : options.counts_all ≡ false

-- `records` are the records of a beginning of an input that is enough: there are more than are
-- drawn
pub record AreEnough (options : Options) (beginning : Text) (records : List
    (List Text)) : Type 0 where
  pub has_limit : HasLimit options
  pub are :
      IsEnough options.input (most_drawn options.selection.has_header has_limit.limit) beginning
      records

-- the output for a beginning that is enough is the one for its records, which aren't counted
pub record RendersBeginning (options : Options) (beginning output : Text) : Type 0 where
  pub records : List (List Text)
  pub are_enough : AreEnough options beginning records
  pub is_output : RendersChosen None options records output

-- the output for an input, or for the complete lines of the bytes that were read
abbrev pub RendersExtent : Options → Extent → Text → Text → Type 0
RendersExtent options Whole input output = RendersInput options input output
RendersExtent options Beginning read output = RendersBeginning options (whole_lines read) output

-- the complete lines of the bytes that were read aren't enough
abbrev pub IsNotEnough : Options → Text → Type 0
IsNotEnough options read =
    (records : List (List Text)) → ¬ (AreEnough options (whole_lines read) records)

-- the output of `draw`. Beginnings of 65536 bytes, of twice as many and so on are tried. It is the
-- output for the first one that is enough, or for the whole input if none is.
abbrev pub IsDrawnOf : Options → Text → Text → Type 0
IsDrawnOf options input output =
    (NoneIsEnough (IsNotEnough options) input × RendersInput options input output)
    ⊎ ((n : ℕ) × IsTested (IsNotEnough options) n input
    × RendersBeginning options (whole_lines (tested_front n input)) output)
