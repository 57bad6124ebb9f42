-- The facts after a call of `draw`, by its result.
-- Source: this library's own.
use Rattle.std.specs.Prelude.{◌≡◌, ◌≢◌, ◌⊎◌, Bool, true, false, List, [], Result, Ok, Err, IsUtf8}
use Rattle.comfy_parts.specs.Text.{Text}
use Rattle.devices.specs.Outcome.{Beginning, Extent, IsByExtent, OfWhole, Whole, IsAfterFault, IsAfterOk, IsAfterOutOfMemory, IsAfterRead, IsAfterUnfinished, IsAfterWrite, RunFacts}
use Rattle.csv_command.specs.Columns.{IsColumnsRefusal, columns_for}
use Rattle.csv_command.specs.Drawn.{AreEnough, HasLimit, IsNotEnough, RendersExtent}
use Rattle.csv_records.specs.Beginning.{whole_lines}
use Rattle.csv_records.specs.Lines.{below_lines}
use Rattle.csv_records.specs.Encoding.{encoding_of}
use Rattle.csv_records.specs.Reading.{AreRecordsFor, IsDecodedBy, IsTextWithoutRecords, IsWithoutText}
use Rattle.csv_records.specs.declared.encoding.Encoding.TheVariants.{Utf8}
use Rattle.csv_records.specs.declared.error.DecodeError.TheVariants as decode
use Rattle.csv_records.specs.declared.error.RecordsError.TheVariants as records
use Rattle.csv_command.specs.declared.error.ColumnsError.TheVariants as columns
use Rattle.csv_command.specs.declared.error.CsvError.{CsvError}
use Rattle.csv_command.specs.declared.error.CsvError.TheVariants.{Columns, Decode, OutOfMemory, Read, Records, Write}
use Rattle.csv_command.specs.declared.arguments.Options.{Options}

-- true if the result says that the source failed
abbrev pub is_read_fault : {T : Type 0} → Result T CsvError → Bool
is_read_fault (Err Read) = true
is_read_fault _ = false

-- true if the result says that the sink failed
abbrev pub is_write_fault : {T : Type 0} → Result T CsvError → Bool
is_write_fault (Err Write) = true
is_write_fault _ = false

-- An input can't be drawn for one of three reasons: it isn't text, the text can't be read as
-- records, or columns can't be chosen from the records.
abbrev pub IsInputFault : Options → Text → CsvError → Type 0
IsInputFault options input (Decode e) =
    (e ≢ decode.OutOfMemory) × IsWithoutText options.input input e
IsInputFault options input (Records e) =
    (e ≢ records.OutOfMemory) × (text : Text) × IsDecodedBy options.input input text
    × IsTextWithoutRecords options.input text e
IsInputFault options input (Columns e) =
    (e ≢ columns.OutOfMemory) × (found : List (List Text))
    × AreRecordsFor options.input input found × (found ≢ [])
    × IsColumnsRefusal e (columns_for options found)
IsInputFault options input _ = ⊥

-- an input that is read as UTF-8 is UTF-8, below the lines that are left out
abbrev pub IsUtf8IfWanted : Options → Text → Type 0
IsUtf8IfWanted options input =
    encoding_of options.input.encoding input ≡ Utf8 → IsUtf8 (below_lines options.input.skip input)

-- the facts after memory ran out; if only a beginning was read, there is a limit, because otherwise
-- the whole input is read
abbrev pub IsFine : Options → Extent → Text → Type 0
IsFine options Whole input = IsUtf8IfWanted options input
IsFine options Beginning input = HasLimit options

-- a beginning that is enough can't be drawn if columns can't be chosen from its records
abbrev pub IsBeginningFault : Options → Text → CsvError → Type 0
IsBeginningFault options beginning (Columns e) =
    (e ≢ columns.OutOfMemory) × (found : List (List Text)) × AreEnough options beginning found
    × IsColumnsRefusal e (columns_for options found)
IsBeginningFault options beginning _ = ⊥

abbrev pub IsFault : Options → Extent → Text → CsvError → Type 0
IsFault options Whole input e = IsInputFault options input e
IsFault options Beginning read e = IsBeginningFault options (whole_lines read) e

-- the error for an input, or for the bytes that were read, that has no output: it can't be drawn,
-- or there is no memory
abbrev pub IsRefusal : Options → Extent → Text → CsvError → Type 0
IsRefusal options extent input OutOfMemory = IsFine options extent input
IsRefusal options extent input e = IsFault options extent input e

-- the error for an input that was read whole
abbrev pub IsInputRefusal : Options → Text → CsvError → Type 0
IsInputRefusal options input e = IsRefusal options Whole input e

-- The facts after a call, by its result. If memory ran out, this was before the first piece of the
-- drawing was written, or later.
abbrev pub IsAfterIn : {T : Type 0} → Options → Result T CsvError → Extent → RunFacts → Type 0
IsAfterIn options (Ok _) extent facts = IsAfterOk (RendersExtent options extent) facts
IsAfterIn options (Err Read) extent facts = OfWhole (IsAfterRead facts) extent
IsAfterIn options (Err Write) extent facts = IsAfterWrite (RendersExtent options extent) facts
IsAfterIn options (Err OutOfMemory) extent facts =
    IsAfterOutOfMemory (IsFine options extent) facts
    ⊎ IsAfterUnfinished (RendersExtent options extent) facts
IsAfterIn options (Err e) extent facts =
    IsAfterFault (λ input. IsFault options extent input e) facts

abbrev pub IsAfter : {T : Type 0} → Options → Result T CsvError → RunFacts → Type 0
IsAfter options result facts =
    IsByExtent (IsNotEnough options) (IsAfterIn options result) facts
