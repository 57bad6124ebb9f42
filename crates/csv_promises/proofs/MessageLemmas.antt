-- Messages are lines without control characters.
use Rattle.std.proofs.Common.{◌≡◌, ℕ, Bool, true, false, List, [], ◌∷◌, ◌++◌, Option, Some, None, append-nil, arith, codes, decimal, map, chars, refl, ◌∙◌, string_bytes, option_map}
use Rattle.std.specs.Int.{is_in_range}
use Rattle.std.specs.Prelude.{if◌then◌else◌}
use Rattle.std.specs.Str.{NonePass}
use Rattle.std.specs.declared.io.ErrorKind.{ErrorKind as IoErrorKind}
use Rattle.std.specs.declared.io.ErrorKind.TheVariants as io
use Rattle.std.proofs.lemmas.Bool.{and_parts}
use Rattle.std.proofs.lemmas.Bool.Decides.{nat_tests}
use Rattle.std.proofs.lemmas.Str.{NoCharPasses-append, NoCharPasses-nil, encode_ascii}
use Rattle.comfy_parts.specs.Text.{Text, is_printable_ascii}
use Rattle.csv_command.specs.Ending.{about, columns_reason, decoding_reason, encoding_hint, not_text_reason, input_name, is_of_input, message_for, reading_reason, reason_for, records_reason, shown_name}
use Rattle.csv_command.specs.declared.arguments.Invocation.{Invocation}
use Rattle.csv_records.specs.Cleaning.{is_replaced, shown}
use Rattle.csv_records.specs.declared.encoding.Encoding.{Encoding}
use Rattle.csv_records.specs.declared.error.DecodeError.{DecodeError}
use Rattle.csv_records.specs.declared.error.DecodeError.TheVariants as decode
use Rattle.csv_records.specs.declared.error.RecordsError.{RecordsError}
use Rattle.csv_records.specs.declared.error.RecordsError.TheVariants as records
use Rattle.csv_records.specs.declared.not_text.NotText.{NotText}
use Rattle.csv_records.specs.declared.not_text.NotText.TheVariants as not_text
use Rattle.csv_tables.proofs.FieldLemmas.{number_is_printable}
use Rattle.csv_command.specs.declared.error.ColumnsError.{ColumnsError}
use Rattle.csv_command.specs.declared.error.ColumnsError.TheVariants as columns
use Rattle.csv_command.specs.declared.error.CsvError.{CsvError}
use Rattle.csv_command.specs.declared.error.CsvError.TheVariants as err
use Rattle.csv_promises.specs.Messages.{IsTame, IsTameLine}

both : (xs ys : Text) → IsTame xs → IsTame ys → IsTame (xs ++ ys)
both = NoCharPasses-append is_replaced

-- printable ASCII has no control character
printable : (text : Text) → is_printable_ascii text ≡ true → IsTame text
printable [] all = NoCharPasses-nil is_replaced
printable (b ∷ rest) all =
    let parts = and_parts (is_in_range 0x20 0x7E b) (is_printable_ascii rest) all in
    both (b ∷ []) rest (b ∷ [], append-nil _ ∙ encode_ascii b (grind (arith, nat_tests, parts.0)), (tame b parts.0, tt)) (printable rest parts.1)
  where
    tame : (c : ℕ) → is_in_range 0x20 0x7E c ≡ true → is_replaced c ≡ false
    tame c in_range = grind (arith, nat_tests, in_range)

-- a name as it is written in messages
name : (text : Text) → IsTame (shown_name text)
name text = (map (shown) (chars text), refl, none (chars text))
  where
    one : (c : ℕ) → is_replaced (shown c) ≡ false
    one c = by_test (is_replaced c) refl
      where
        by_test : (b : Bool) → is_replaced c ≡ b → is_replaced (if b then 0xFFFD else c) ≡ false
        by_test true is = refl
        by_test false is = is

    none : (cs : List ℕ) → NonePass is_replaced (map (shown) cs)
    none [] = tt
    none (c ∷ cs) = (one c, none cs)

-- a number
number : (n : ℕ) → IsTame (decimal n)
number n = printable (decimal n) (number_is_printable n)

pub message : (invocation : Invocation) (fault : Option IoErrorKind) (e : CsvError) → IsTameLine (message_for invocation fault e)
message invocation fault e = (about (is_of_input e) (option_map string_bytes invocation.file) ++ reason_for invocation.options.input.encoding fault e, refl, both (about (is_of_input e) (option_map string_bytes invocation.file)) _ (front (is_of_input e) (option_map string_bytes invocation.file)) (reason invocation.options.input.encoding e))
  where
    input : (file : Option Text) → IsTame (input_name file)
    input None = printable (codes "standard input") refl
    input (Some path) = name path

    front : (named : Bool) (file : Option Text) → IsTame (about named file)
    front true file = both _ (codes ": ") (both (codes "csvtable: ") (input_name file) (printable (codes "csvtable: ") refl) (input file)) (printable (codes ": ") refl)
    front false file = printable (codes "csvtable: ") refl

    reading : (kind : Option IoErrorKind) → IsTame (reading_reason kind)
    reading (Some io.NotFound) = printable (codes "no such file") refl
    reading (Some io.IsADirectory) = printable (codes "is a directory") refl
    reading (Some io.PermissionDenied) = printable (codes "permission denied") refl
    reading _ = printable (codes "can't be read") refl

    hint : (encoding : Option Encoding) (may : Bool) → IsTame (encoding_hint encoding may)
    hint None true = printable (encoding_hint None true) refl
    hint None false = printable (encoding_hint None false) refl
    hint (Some encoding) may = printable [] refl

    of_not_text : (f : NotText) → IsTame (not_text_reason f)
    of_not_text not_text.Gzip = printable (not_text_reason not_text.Gzip) refl
    of_not_text not_text.Zip = printable (not_text_reason not_text.Zip) refl
    of_not_text not_text.Json = printable (not_text_reason not_text.Json) refl
    of_not_text not_text.Xz = printable (not_text_reason not_text.Xz) refl
    of_not_text not_text.Zstd = printable (not_text_reason not_text.Zstd) refl
    of_not_text not_text.Bzip2 = printable (not_text_reason not_text.Bzip2) refl
    of_not_text not_text.Pdf = printable (not_text_reason not_text.Pdf) refl
    of_not_text not_text.Html = printable (not_text_reason not_text.Html) refl
    of_not_text not_text.Utf16 = printable (not_text_reason not_text.Utf16) refl
    of_not_text (not_text.Binary n) = both _ (codes " has a NUL byte, so this isn't text; -e utf-8 reads it anyway") (both (codes "line ") (decimal n) (printable (codes "line ") refl) (number n)) (printable (codes " has a NUL byte, so this isn't text; -e utf-8 reads it anyway") refl)

    decoding : (encoding : Option Encoding) (d : DecodeError) → IsTame (decoding_reason encoding d)
    decoding encoding (decode.NotText f) = of_not_text f
    decoding encoding (decode.NotUtf8 n may) = both _ (encoding_hint encoding may) (both _ (codes " isn't UTF-8") (both (codes "line ") (decimal n) (printable (codes "line ") refl) (number n)) (printable (codes " isn't UTF-8") refl)) (hint encoding may)
    decoding encoding (decode.NotUtf16 n) = both _ (codes " isn't UTF-16") (both (codes "line ") (decimal n) (printable (codes "line ") refl) (number n)) (printable (codes " isn't UTF-16") refl)
    decoding encoding decode.OutOfMemory = printable (codes "out of memory") refl

    of_records : (r : RecordsError) → IsTame (records_reason r)
    of_records (records.Unclosed n) = both _ (codes " is never closed; try --no-quotes") (both (codes "a quote that opens in line ") (decimal n) (printable (codes "a quote that opens in line ") refl) (number n)) (printable (codes " is never closed; try --no-quotes") refl)
    of_records records.SplitCharacter = printable (codes "the delimiter splits a character") refl
    of_records records.OutOfMemory = printable (codes "out of memory") refl

    of_columns : (c : ColumnsError) → IsTame (columns_reason c)
    of_columns (columns.NoColumn word more) =
        both _ _ (both (codes "no column '") (shown_name (string_bytes word)) (printable (codes "no column '") refl) (name (string_bytes word))) (both (codes "'; ") (shown_name (string_bytes more)) (printable (codes "'; ") refl) (name (string_bytes more)))
    of_columns columns.NoneLeft = printable (codes "no column is left") refl
    of_columns (columns.TwoSides own) = both _ (codes "' can't be aligned both left and right") (both (codes "column '") (shown_name (string_bytes own)) (printable (codes "column '") refl) (name (string_bytes own))) (printable (codes "' can't be aligned both left and right") refl)
    of_columns columns.OutOfMemory = printable (codes "out of memory") refl

    reason : (encoding : Option Encoding) (e : CsvError) → IsTame (reason_for encoding fault e)
    reason encoding err.Read = reading fault
    reason encoding err.Write = printable (codes "the output can't be written") refl
    reason encoding (err.Decode d) = decoding encoding d
    reason encoding (err.Records r) = of_records r
    reason encoding (err.Columns c) = of_columns c
    reason encoding err.OutOfMemory = printable (codes "out of memory") refl
