-- The error of a drawing, for each error of the layers below: each lack of memory is the same
-- error.
-- Source: this library's own.
use Rattle.csv_records.specs.declared.error.DecodeError.{DecodeError}
use Rattle.csv_records.specs.declared.error.DecodeError.TheVariants as decode
use Rattle.csv_records.specs.declared.error.RecordsError.{RecordsError}
use Rattle.csv_records.specs.declared.error.RecordsError.TheVariants as records
use Rattle.csv_command.specs.declared.error.ColumnsError.{ColumnsError}
use Rattle.csv_command.specs.declared.error.ColumnsError.TheVariants as columns
use Rattle.csv_command.specs.declared.error.CsvError.{CsvError}
use Rattle.csv_command.specs.declared.error.CsvError.TheVariants.{Columns, Decode, OutOfMemory, Read, Records, Write}
use Rattle.devices.specs.declared.transfer.Stop.{Stop}
use Rattle.devices.specs.declared.transfer.Stop.TheVariants as stop

abbrev pub of_decoding : DecodeError → CsvError
of_decoding decode.OutOfMemory = OutOfMemory
of_decoding fault = Decode fault

abbrev pub of_records : RecordsError → CsvError
of_records records.OutOfMemory = OutOfMemory
of_records fault = Records fault

abbrev pub of_columns : ColumnsError → CsvError
of_columns columns.OutOfMemory = OutOfMemory
of_columns fault = Columns fault

-- the error of a run that stopped
abbrev pub of_stop : Stop CsvError → CsvError
of_stop stop.Read = Read
of_stop stop.Write = Write
of_stop stop.OutOfMemory = OutOfMemory
of_stop stop.Unfinished = OutOfMemory
of_stop (stop.Refused e) = e
