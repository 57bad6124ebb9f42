-- The end of the program: its status and its message.
-- Source: this library's own.
use Rattle.std.specs.Prelude.{◌≡◌, ℕ, ◌-◌, ◌==◌, ◌&&◌, ◌||◌, nat_lt, Bool, true, false, ◌++◌, [], MatchBool, MatchResult, Option, Some, None, chars, codes, decimal, if◌then◌else◌, option_map, string_bytes}
use Rattle.std.specs.List.{list_any}
use Rattle.std.specs.declared.io.ErrorKind.{ErrorKind as IoErrorKind}
use Rattle.std.specs.declared.io.ErrorKind.TheVariants as io
use Rattle.clap.specs.declared.error.kind.ErrorKind.{ErrorKind}
use Rattle.clap.specs.declared.error.kind.ErrorKind.TheVariants as kind
use Rattle.comfy_parts.specs.Text.{Text}
use Rattle.csv_records.specs.Cleaning.{is_harmful}
use Rattle.csv_records.specs.Shown.{shown_text}
use Rattle.csv_command.specs.declared.arguments.Invocation.{Invocation}
use Rattle.csv_records.specs.declared.encoding.Encoding.{Encoding}
use Rattle.csv_records.specs.declared.error.DecodeError.{DecodeError}
use Rattle.csv_records.specs.declared.error.DecodeError.TheVariants as decode
use Rattle.csv_records.specs.declared.longer.LongRecords.{LongRecords}
use Rattle.csv_records.specs.declared.not_text.NotText.{NotText}
use Rattle.csv_records.specs.declared.not_text.NotText.TheVariants as not_text
use Rattle.csv_records.specs.declared.error.RecordsError.{RecordsError}
use Rattle.csv_records.specs.declared.error.RecordsError.TheVariants as records
use Rattle.csv_command.specs.declared.error.ColumnsError.{ColumnsError}
use Rattle.csv_command.specs.declared.error.ColumnsError.TheVariants as columns
use Rattle.csv_command.specs.declared.error.CsvError.{CsvError}
use Rattle.csv_command.specs.declared.error.CsvError.TheVariants as err
use Rattle.csv_command.specs.declared.ending.Outcome.{Outcome}
use Rattle.csv_command.specs.declared.ending.Ending.{Ending}
use Rattle.csv_command.specs.declared.ending.Message.{Message}
use Rattle.csv_command.specs.declared.ending.Message.TheVariants as messages

-- a name in a message
abbrev pub shown_name : Text → Text
shown_name name = shown_text false name

-- the input in a message
abbrev pub input_name : Option Text → Text
input_name None = codes "standard input"
input_name (Some path) = shown_name path

-- the reason for an input that can't be opened or read, by the kind of the error
abbrev pub reading_reason : Option IoErrorKind → Text
reading_reason (Some io.NotFound) = codes "no such file"
reading_reason (Some io.IsADirectory) = codes "is a directory"
reading_reason (Some io.PermissionDenied) = codes "permission denied"
reading_reason _ = codes "can't be read"

-- the hint for an input that isn't UTF-8, if no encoding is set
abbrev pub encoding_hint : Option Encoding → Bool → Text
encoding_hint None may_be_cp1252 =
    if may_be_cp1252
    then codes "; try -e cp1252, or iconv -f ENCODING FILE | csvtable"
    else codes "; try iconv -f ENCODING FILE | csvtable"
encoding_hint (Some encoding) may_be_cp1252 = []

-- the kind of an input that isn't CSV in UTF-8, with a hint
abbrev pub not_text_reason : NotText → Text
not_text_reason not_text.Gzip = codes "compressed by gzip; try zcat FILE | csvtable"
not_text_reason not_text.Zip =
    codes "a zip archive; try unzip -p FILE | csvtable, or save a spreadsheet as CSV"
not_text_reason not_text.Xz = codes "compressed by xz; try xzcat FILE | csvtable"
not_text_reason not_text.Zstd = codes "compressed by zstd; try zstdcat FILE | csvtable"
not_text_reason not_text.Bzip2 = codes "compressed by bzip2; try bzcat FILE | csvtable"
not_text_reason not_text.Pdf =
    codes "a PDF document; try pdftotext -layout FILE - | csvtable -d spaces"
not_text_reason not_text.Json =
    codes "looks like JSON; try mlr --ijson --ocsv unsparsify FILE | csvtable"
    ++ codes "; -e utf-8 reads it anyway"
not_text_reason not_text.Html =
    codes "an HTML page, perhaps one that asks for a login; -e utf-8 reads it anyway"
not_text_reason not_text.Utf16 = codes "looks like UTF-16; try -e utf-16"
not_text_reason (not_text.Binary number) =
    (codes "line " ++ decimal number)
    ++ codes " has a NUL byte, so this isn't text; -e utf-8 reads it anyway"

-- the reason for an input without text
abbrev pub decoding_reason : Option Encoding → DecodeError → Text
decoding_reason encoding (decode.NotText other) = not_text_reason other
decoding_reason encoding (decode.NotUtf8 number may_be_cp1252) =
    ((codes "line " ++ decimal number) ++ codes " isn't UTF-8")
    ++ encoding_hint encoding may_be_cp1252
decoding_reason encoding (decode.NotUtf16 number) =
    (codes "line " ++ decimal number) ++ codes " isn't UTF-16"
decoding_reason encoding decode.OutOfMemory = codes "out of memory"

-- the reason for a text without records
abbrev pub records_reason : RecordsError → Text
records_reason (records.Unclosed number) =
    (codes "a quote that opens in line " ++ decimal number)
    ++ codes " is never closed; try --no-quotes"
records_reason records.SplitCharacter = codes "the delimiter splits a character"
records_reason records.OutOfMemory = codes "out of memory"

-- the reason for an error in the choice of columns
abbrev pub columns_reason : ColumnsError → Text
columns_reason (columns.NoColumn word hint) =
    (codes "no column '" ++ shown_name (string_bytes word))
    ++ (codes "'; " ++ shown_name (string_bytes hint))
columns_reason columns.NoneLeft = codes "no column is left"
columns_reason (columns.TwoSides name) =
    (codes "column '" ++ shown_name (string_bytes name))
    ++ codes "' can't be aligned both left and right"
columns_reason columns.OutOfMemory = codes "out of memory"

-- the reason for a missing drawing
abbrev pub reason_for : Option Encoding → Option IoErrorKind → CsvError → Text
reason_for encoding fault err.Read = reading_reason fault
reason_for encoding fault err.Write = codes "the output can't be written"
reason_for encoding fault (err.Decode e) = decoding_reason encoding e
reason_for encoding fault (err.Records e) = records_reason e
reason_for encoding fault (err.Columns e) = columns_reason e
reason_for encoding fault err.OutOfMemory = codes "out of memory"

-- true if an error is one of the input, so that its message names the input
abbrev pub is_of_input : CsvError → Bool
is_of_input err.Write = false
is_of_input err.OutOfMemory = false
is_of_input _ = true

-- the beginning of a message
abbrev pub about : Bool → Option Text → Text
about true file = (codes "csvtable: " ++ input_name file) ++ codes ": "
about false file = codes "csvtable: "

-- the line about an error
abbrev pub message_for : Invocation → Option IoErrorKind → CsvError → Text
message_for invocation fault e =
    (about (is_of_input e) (option_map string_bytes invocation.file)
    ++ reason_for invocation.options.input.encoding fault e) ++ codes "\n"

-- the number of other records with more fields
abbrev pub others_counted : ℕ → Text
others_counted others =
    if others == 0 then []
    else if others == 1 then codes " (and 1 more line)"
    else (codes " (and " ++ decimal others) ++ codes " more lines)"

-- True if the long records, those with more fields than the header, seem to be below lines that
-- aren't part of the table. There are then at least two long records, and all records after the
-- first of them are long too. One more field than the header isn't enough, unless the header has a
-- single field: a text may have a comma in each line.
abbrev pub is_below_preamble : LongRecords → Bool
is_below_preamble longer =
    (longer.lasts && nat_lt 0 longer.others)
    && ((longer.first_fields == 1) || nat_lt 1 (longer.fields - longer.first_fields))

-- a hint to leave out the lines above `line`
abbrev pub skip_hint : ℕ → Text
skip_hint line = codes "; try --skip " ++ decimal (line - 1)

-- a hint to leave out the lines above the first of these records, if they are below other lines
abbrev pub preamble_hint : LongRecords → Text
preamble_hint longer = if is_below_preamble longer then skip_hint longer.line else []

-- the line about records that have more fields than the header
abbrev pub longer_line : Option Text → LongRecords → Text
longer_line file longer =
    (((about true file
    ++ (((codes "line " ++ decimal longer.line) ++ (codes " has " ++ decimal longer.fields))
    ++ (codes " fields, the header has " ++ decimal longer.first_fields)))
    ++ others_counted longer.others)
    ++ preamble_hint longer)
    ++ codes "\n"

-- the line about an input without records, whose first `skip` lines are left out
abbrev pub blank_line : Option Text → ℕ → Text
blank_line file skip =
    about true file
    ++ (if skip == 0
    then codes "no records\n"
    else (codes "no records below --skip " ++ decimal skip) ++ codes "\n")

-- the line before the input is read: the program waits for it if it comes from a terminal
abbrev pub waiting_notice : Option Text → Bool → Text
waiting_notice None true = codes "csvtable: reading from the terminal; end with Ctrl-D\n"
waiting_notice None false = []
waiting_notice (Some path) is_terminal = []

-- the line for an argument that isn't UTF-8
abbrev pub argument_not_utf8 : Text
argument_not_utf8 = codes "csvtable: an argument isn't UTF-8\n"

-- the line for an output that can't be written
abbrev pub output_unwritten : Text
output_unwritten = codes "csvtable: the output can't be written\n"

-- the line for an output that takes no more for now
abbrev pub output_full : Text
output_full = codes "csvtable: the output takes no more for now; is it nonblocking?\n"

abbrev pub no_memory : Text
no_memory = codes "csvtable: out of memory\n"

-- the text of a message
abbrev pub text_of : Message → Text
text_of messages.Nothing = []
text_of messages.OutOfMemory = no_memory
text_of messages.NotUtf8 = argument_not_utf8
text_of messages.WriteFailed = output_unwritten
text_of messages.WouldBlock = output_full
text_of (messages.Text text) = string_bytes text

-- P holds for the text of a message, or there is no memory for the text
abbrev pub Says : (Text → Type 0) → Message → Type 0
Says P messages.Nothing = ⊥
Says P messages.OutOfMemory = Unit {0}
Says P messages.NotUtf8 = ⊥
Says P messages.WriteFailed = ⊥
Says P messages.WouldBlock = ⊥
Says P (messages.Text text) = P (string_bytes text)

-- the status is n, and there is no message
pub record IsSilent (n : ℕ) (ending : Ending) : Type 0 where
  pub status : ending.status ≡ n
  pub silent : ending.message ≡ messages.Nothing

-- the status is n, and this line, which needs no memory, is written to standard error
pub record IsLine (n : ℕ) (line : Message) (ending : Ending) : Type 0 where
  pub status : ending.status ≡ n
  pub is_message : ending.is_message ≡ true
  pub message : ending.message ≡ line

-- the status is n, and P holds for the message on standard error
pub record IsMessage (n : ℕ) (P : Text → Type 0) (ending : Ending) : Type 0 where
  pub status : ending.status ≡ n
  pub is_message : ending.is_message ≡ true
  pub message : Says P ending.message

-- the end if the output wasn't written, by the kind of the error; there is no message if the reader
-- of a pipe has ended
abbrev pub IsEndOfUnwritten : Option IoErrorKind → Ending → Type 0
IsEndOfUnwritten (Some io.BrokenPipe) ending = IsSilent 1 ending
IsEndOfUnwritten (Some io.WouldBlock) ending = IsLine 1 messages.WouldBlock ending
IsEndOfUnwritten _ ending = IsLine 1 messages.WriteFailed ending

-- the end after an error
abbrev pub IsEndOfError : Outcome → CsvError → Ending → Type 0
IsEndOfError drawing err.Write ending = IsEndOfUnwritten drawing.output_fault ending
IsEndOfError drawing err.OutOfMemory ending = IsLine 1 messages.OutOfMemory ending
IsEndOfError drawing e ending =
    IsMessage 1 (λ text. text ≡ message_for drawing.invocation.now drawing.fault e) ending

-- the end after an empty output to a terminal
abbrev pub IsEndOfBlank : Invocation → Ending → Type 0
IsEndOfBlank invocation ending =
    IsMessage 0
    (λ text. text ≡ blank_line (option_map string_bytes invocation.file)
    invocation.options.input.skip)
    ending

-- The end after a drawing was written. A message lists records with more fields than the header. In
-- a terminal, a message says that there are no records.
abbrev pub IsEndOfDrawing : Outcome → Option LongRecords → Ending → Type 0
IsEndOfDrawing drawing None ending =
    MatchBool drawing.is_blank (IsEndOfBlank drawing.invocation.now ending) (IsSilent 0 ending)
IsEndOfDrawing drawing (Some longer) ending =
    IsMessage 0
    (λ text. text ≡ longer_line (option_map string_bytes drawing.invocation.now.file) longer)
    ending

-- the end after a drawing, by its result
abbrev pub IsEndOfOutcome : Outcome → Ending → Type 0
IsEndOfOutcome drawing ending =
    MatchResult drawing.result (λ longer. IsEndOfDrawing drawing longer ending)
    (λ e. IsEndOfError drawing e ending)

-- line feeds are the only control characters, and no character turns the direction of text
abbrev pub IsHarmless : Text → Type 0
IsHarmless text = list_any is_harmful (chars text) ≡ false

-- the end after help or the version
pub record IsHelp (ending : Ending) : Type 0 where
  pub status : ending.status ≡ 0
  pub no_message : ending.is_message ≡ false
  pub message : Says IsHarmless ending.message

-- the end if clap has a text to write, by its kind
abbrev pub IsEndOfRefusal : ErrorKind → Ending → Type 0
IsEndOfRefusal kind.OutOfMemory ending = IsLine 1 messages.OutOfMemory ending
IsEndOfRefusal kind.DisplayHelp ending = IsHelp ending
IsEndOfRefusal kind.DisplayVersion ending = IsHelp ending
IsEndOfRefusal _ ending = IsMessage 2 IsHarmless ending

-- the end if the arguments couldn't be read, by the kind of error: one isn't UTF-8, or there is no
-- memory
abbrev pub IsEndWithoutArguments : IoErrorKind → Ending → Type 0
IsEndWithoutArguments io.InvalidData ending = IsLine 2 messages.NotUtf8 ending
IsEndWithoutArguments _ ending = IsLine 1 messages.OutOfMemory ending
