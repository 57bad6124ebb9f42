-- Reading of texts: the lines that are left out, and the delimiter. Then fields that aren't broken, and inputs that
-- aren't CSV.
use Rattle.std.proofs.Common.{◌≡◌, ℕ, Bool, true, false, List, [], ◌∷◌, ◌++◌, Option, Some, None, codes, map, refl}
use Prim.Native.String.{String}
use Rattle.std.specs.Fmt.{digits}
use Rattle.std.specs.List.{list_all, list_any}
use Rattle.std.specs.Str.{chars}
use Rattle.std.specs.declared.io.ErrorKind.TheVariants as io
use Rattle.csv.specs.Machine.{next_record}
use Rattle.csv.specs.Reading.{records_from, strip_bom}
use Rattle.csv.specs.declared.parser.State.TheVariants as st
use Rattle.ucd_category.proofs.Computing.{ucd_category}
use Rattle.comfy_parts.specs.Text.{Text}
use Rattle.csv_command.specs.Ending.{input_name, reading_reason, reason_for}
use Rattle.csv_records.specs.Number.{has_indian_groups, is_neutral, is_number}
use Rattle.csv_records.specs.Lines.{below_lines}
use Rattle.csv_records.specs.Longer.{longer_records}
use Rattle.csv_records.specs.Delimiter.{agreement, delimited, delimiter_in}
use Rattle.csv_tables.specs.NoWrap.{is_nowrap}
use Rattle.csv_command.specs.Arguments.{delimiter_for, encoding_for}
use Rattle.csv_records.specs.NotText.{not_text_for}
use Rattle.csv_records.specs.Input.{config_for, is_like_cp1252}
use Rattle.csv_records.specs.declared.delimiter.Delimiter.{Delimiter}
use Rattle.csv_records.specs.declared.delimiter.Delimiter.TheVariants.{Auto, Byte, NamedOrTab}
use Rattle.csv_records.specs.declared.encoding.Encoding.TheVariants.{Cp1252, Utf16, Utf8}
use Rattle.csv_records.specs.declared.error.DecodeError.TheVariants as decode
use Rattle.csv_records.specs.declared.not_text.NotText.TheVariants.{Binary, Bzip2, Gzip, Html, Json, Pdf, Utf16 as UnmarkedUtf16, Xz, Zip, Zstd}
use Rattle.csv_records.specs.declared.options.InputOptions.{InputOptions}
use Rattle.csv_command.specs.declared.error.CsvError.TheVariants as err

abbrev texts : List String → List Text
texts words = map (λ (word : String). codes word) words

-- ---- lines

-- a carriage return with a line feed is one line end; two line feeds are two, with an empty line between them
lines_below : map (λ (count : ℕ). below_lines count (codes "a\r\n\nb\rc")) (0 ∷ 1 ∷ 2 ∷ 3 ∷ 4 ∷ 9 ∷ []) ≡ texts ("a\r\n\nb\rc" ∷ "\nb\rc" ∷ "b\rc" ∷ "c" ∷ "" ∷ "" ∷ [])
lines_below = refl

-- ---- the delimiter

-- the number of records that have the commonest number of fields above 1
agreements : map agreement ([] ∷ (1 ∷ 1 ∷ 1 ∷ []) ∷ (3 ∷ 3 ∷ 2 ∷ []) ∷ (1 ∷ 1 ∷ 1 ∷ 4 ∷ []) ∷ (2 ∷ 5 ∷ 2 ∷ 5 ∷ 3 ∷ 5 ∷ []) ∷ []) ≡ 0 ∷ 0 ∷ 2 ∷ 1 ∷ 3 ∷ []
agreements = refl

-- the delimiter with which most records agree
found_ones : map (λ (input : String). (delimited Auto true (codes input)).0) ("a\tb\n1\t2\n" ∷ "a;b\n1;2,5\n" ∷ "a,b\n1,2;3\n" ∷ "a|b,c\n1|2\n" ∷ []) ≡ 0x09 ∷ 0x3B ∷ 0x2C ∷ 0x7C ∷ []
unfolding strip_bom records_from next_record
found_ones = refl

-- some records lack a field or have one more, or are below other lines
ragged :
    map (λ (input : String). (delimited Auto true (codes input)).0)
    ("a\tb\tc\n1\t2,5\t3,5\n4\t5\n" ∷ "Datum;Betrag\n1.2.;3,5\nSumme\n" ∷ "a,b\n1,2\n3\n4,5;6\n" ∷ "Konto|1\nStand\na,b\n1,2\n3,4,5\n" ∷ [])
    ≡ 0x09 ∷ 0x3B ∷ 0x2C ∷ 0x2C ∷ []
unfolding strip_bom records_from next_record
ragged = refl

-- of several delimiters, the first in the order TAB, `;`, `,`, `|`
ties : map (λ (input : String). (delimited Auto true (codes input)).0) ("a,b;c\n1,2;3\n" ∷ "a\tb;c\n" ∷ "a|b,c\n" ∷ "a;b\n1,2\n" ∷ []) ≡ 0x3B ∷ 0x09 ∷ 0x2C ∷ 0x3B ∷ []
unfolding strip_bom records_from next_record
ties = refl

-- a comma if no delimiter separates the fields of a record
none_found : map (λ (input : String). (delimited Auto true (codes input)).0) ("" ∷ "a b\n" ∷ "a\n1\n" ∷ []) ≡ 0x2C ∷ 0x2C ∷ 0x2C ∷ []
unfolding strip_bom records_from next_record
none_found = refl

-- ---- records with more fields than the first

abbrev below_two : InputOptions
below_two = record { encoding = None; skip = 2; delimiter = Auto; has_header = true; has_quotes = true }

-- the line of the first such record, also after quoted lines and empty ones, the number of the others, and whether
-- these are all that follow
longer_ones : map (λ (input : String). longer_records below_two (codes input) (records_from (config_for 0x2C true) 9 st.StartRecord (strip_bom (codes input))))
    ("a,b\n\"x\ny\",1\n\r\n2,b,c\n" ∷ "a,b\n1\n2,3\n" ∷ "a\r\n1\r\n2,3\r\n4,5,6" ∷ "a\n1,2\n3\n4,5\n" ∷ "a\n1,2\n3\n" ∷ "" ∷ [])
    ≡ Some (record { line = 7; fields = 3; first_fields = 2; others = 0; lasts = true }) ∷ None ∷ Some (record { line = 5; fields = 2; first_fields = 1; others = 1; lasts = true })
    ∷ Some (record { line = 4; fields = 2; first_fields = 1; others = 1; lasts = false }) ∷ Some (record { line = 4; fields = 2; first_fields = 1; others = 0; lasts = false }) ∷ None ∷ []
unfolding strip_bom records_from next_record
longer_ones = refl

-- empty fields at the end of a record don't count, and others do
empty_at_the_end : map (λ (input : String). longer_records below_two (codes input) (records_from (config_for 0x2C true) 9 st.StartRecord (strip_bom (codes input))))
    ("a,b\n1,2,\n3,4,,\n" ∷ "a,b\n1,2,\n3,,5,\n" ∷ "a,b,\n1,2,3,\n" ∷ []) ≡ None ∷ Some (record { line = 5; fields = 3; first_fields = 2; others = 0; lasts = true }) ∷ None ∷ []
unfolding strip_bom records_from next_record
empty_at_the_end = refl

-- quotes as csv reads them, and as characters
with_quotes : map (λ (has_quotes : Bool). (delimited Auto has_quotes (codes "\"a;b\",c\n1,2\n")).0) (true ∷ false ∷ []) ≡ 0x2C ∷ 0x2C ∷ []
unfolding strip_bom records_from next_record
with_quotes = refl

without_quotes : map (λ (has_quotes : Bool). (delimited Auto has_quotes (codes "\"a;b\"\n\"1;2\"\n3,4\n")).0) (true ∷ false ∷ []) ≡ 0x2C ∷ 0x3B ∷ []
unfolding strip_bom records_from next_record
without_quotes = refl

-- a first line that names the delimiter, which isn't a record; also after a mark, and it overrides the name of a file
by_line : map (λ (delimiter : Delimiter). delimited delimiter true (codes "sep=;\r\na;b\n")) (Auto ∷ NamedOrTab ∷ Byte 0x2C ∷ []) ≡ (0x3B, codes "a;b\n") ∷ (0x3B, codes "a;b\n") ∷ (0x2C, codes "sep=;\r\na;b\n") ∷ []
unfolding strip_bom records_from next_record
by_line = refl

after_a_mark : delimited Auto true ((0xEF ∷ 0xBB ∷ 0xBF ∷ []) ++ codes "SEP=|") ≡ (0x7C, [])
unfolding strip_bom records_from next_record
after_a_mark = refl

by_name : delimited NamedOrTab true (codes "a,b\n") ≡ (0x09, codes "a,b\n")
unfolding strip_bom records_from next_record
by_name = refl

named_in_lines : map delimiter_in (texts ("sep=;" ∷ "Sep=\t" ∷ "sep=" ∷ "sep=ab" ∷ "sep=\"" ∷ "sep ;" ∷ "a;b" ∷ [])) ≡ Some 0x3B ∷ Some 0x09 ∷ None ∷ None ∷ None ∷ None ∷ None ∷ []
named_in_lines = refl

-- ---- words for it

by_words :
    map (λ (word : Option Text). delimiter_for word (Some (codes "a.csv"))) (None ∷ map Some (texts (";" ∷ "tab" ∷ "TAB" ∷ "AUTO" ∷ "" ∷ "ab" ∷ "\"" ∷ [])))
    ≡ Some Auto ∷ Some (Byte 0x3B) ∷ Some (Byte 0x09) ∷ Some (Byte 0x09) ∷ Some Auto ∷ None ∷ None ∷ None ∷ []
by_words = refl

by_escape : delimiter_for (Some (0x5C ∷ 0x74 ∷ [])) None ≡ Some (Byte 0x09)
by_escape = refl

by_files : map (λ (file : Option Text). delimiter_for None file) (None ∷ map Some (texts ("a.tsv" ∷ "A.TAB" ∷ "tsv" ∷ ".tab" ∷ "a.tsv.csv" ∷ []))) ≡ Some Auto ∷ Some NamedOrTab ∷ Some NamedOrTab ∷ Some Auto ∷ Some NamedOrTab ∷ Some Auto ∷ []
by_files = refl

encodings : map encoding_for (None ∷ map Some (texts ("utf-8" ∷ "UTF-16" ∷ "cp1252" ∷ "Latin1" ∷ "utf8" ∷ "UTF16" ∷ "utf-16LE" ∷ "ISO-8859-1" ∷ []))) ≡ None ∷ Some Utf8 ∷ Some Utf16 ∷ Some Cp1252 ∷ Some Cp1252 ∷ Some Utf8 ∷ Some Utf16 ∷ Some Utf16 ∷ Some Cp1252 ∷ []
encodings = refl

-- ---- fields that aren't broken

unbroken : list_all is_nowrap (texts ("" ∷ "-84,50" ∷ "($3.00)" ∷ "02.05.2026" ∷ "2026-05-01T09:10:00+02:00" ∷ "192.168.0.1" ∷ "10:00 - 11:30" ∷ "0042" ∷ "n/a" ∷ [])) ≡ true
unfolding chars lib.Utf8.encode ucd_category is_neutral is_number has_indian_groups
unbroken = refl

-- words, and texts of more than 25 characters
broken : list_any is_nowrap (texts ("no" ∷ "May 2" ∷ "1.2.3b" ∷ "12345678901234567890123456" ∷ [])) ≡ false
unfolding chars lib.Utf8.encode ucd_category is_neutral is_number has_indian_groups
broken = refl

-- ---- signs that an input is no text in UTF-8

-- kinds of input by their first bytes, and inputs with nearly these bytes
fronts :
    map (not_text_for None 1)
    (
    (0xFD ∷ 0x37 ∷ 0x7A ∷ 0x58 ∷ 0x5A ∷ 0 ∷ 1 ∷ []) ∷ (0x28 ∷ 0xB5 ∷ 0x2F ∷ 0xFD ∷ []) ∷ codes "BZh91AY&SY" ∷ codes "%PDF-1.7" ∷ codes "BZh11AY&SY" ∷ codes "%PDF" ∷ codes "\n%PDF-1.7" ∷ []
    )
    ≡ Some Xz ∷ Some Zstd ∷ Some Bzip2 ∷ Some Pdf ∷ None ∷ None ∷ None ∷ []
fronts = refl

-- a page below a line that is left out, and a word with nearly the same beginning
html_inputs : map (λ (input : String). not_text_for None 1 (codes input)) ("\n <!DOCTYPE HTML>" ∷ "\n<html lang=\"en\">" ∷ "<html>\na,b" ∷ "\n<htm>" ∷ "\na<html>" ∷ [])
    ≡ Some Html ∷ Some Html ∷ None ∷ None ∷ None ∷ []
html_inputs = refl

-- without a set encoding: gzip, zip, NULs at every second byte, in either order, and other NULs
not_text_inputs :
    map (not_text_for None 0) ((0x1F ∷ 0x8B ∷ []) ∷ (0x50 ∷ 0x4B ∷ 3 ∷ 4 ∷ []) ∷ (0x61 ∷ 0 ∷ 0x2C ∷ 0 ∷ []) ∷ (0 ∷ 0x61 ∷ 0 ∷ 0x2C ∷ []) ∷ (0x61 ∷ 0x0A ∷ 0 ∷ []) ∷ (0 ∷ 0 ∷ 0 ∷ 0 ∷ []) ∷ [])
    ≡ Some Gzip ∷ Some Zip ∷ Some UnmarkedUtf16 ∷ Some UnmarkedUtf16 ∷ Some (Binary 2) ∷ Some (Binary 1) ∷ []
not_text_inputs = refl

-- JSON, and headers that look similar
json_inputs : map (λ (input : String). not_text_for None 1 (codes input)) ("\n[\n  {\n" ∷ "\n{ \"a\": 1}\n" ∷ "\n[[1]]" ∷ "\n[\"a\"]" ∷ "\n\"{\"\"a\"\": 1}\"" ∷ "\n[a],b\n" ∷ "\n{" ∷ "[{" ∷ [])
    ≡ Some Json ∷ Some Json ∷ Some Json ∷ Some Json ∷ None ∷ None ∷ None ∷ None ∷ []
json_inputs = refl

-- words with nearly these beginnings, a mark of UTF-16, and a set encoding
no_signs : map (not_text_for None 0) ((0x1F ∷ []) ∷ (0x50 ∷ 0x4B ∷ 0x2C ∷ 4 ∷ []) ∷ (0xFF ∷ 0xFE ∷ 0x61 ∷ 0 ∷ []) ∷ []) ≡ None ∷ None ∷ None ∷ []
no_signs = refl

as_chosen : not_text_for (Some Utf8) 0 (0x61 ∷ 0 ∷ 0x2C ∷ 0 ∷ []) ≡ None
as_chosen = refl

-- NULs in lines that are left out don't count, and lines are counted from the start of the input
below_a_nul : map (λ (skip : ℕ). not_text_for None skip (0 ∷ 0x0A ∷ 0x61 ∷ 0x0A ∷ 0 ∷ [])) (0 ∷ 1 ∷ 2 ∷ 3 ∷ []) ≡ Some (Binary 1) ∷ Some (Binary 3) ∷ Some (Binary 3) ∷ None ∷ []
below_a_nul = refl

-- the control characters of text are TAB, line feed, form feed and carriage return; five bytes of Windows-1252 are
-- undefined
like_cp1252 : map is_like_cp1252 ((0x61 ∷ 0xE4 ∷ 0x80 ∷ 9 ∷ 0x0A ∷ 0x0C ∷ 0x0D ∷ []) ∷ (0x1B ∷ []) ∷ (0x7F ∷ []) ∷ (0x81 ∷ []) ∷ (0x9D ∷ []) ∷ []) ≡ true ∷ false ∷ false ∷ false ∷ false ∷ []
like_cp1252 = refl

-- ---- messages

names_of_inputs : map input_name (None ∷ Some (codes "a.csv") ∷ []) ≡ texts ("standard input" ∷ "a.csv" ∷ [])
unfolding chars lib.Utf8.encode
names_of_inputs = refl

reasons : map reading_reason (Some io.NotFound ∷ Some io.IsADirectory ∷ Some io.PermissionDenied ∷ Some io.TimedOut ∷ None ∷ []) ≡ texts ("no such file" ∷ "is a directory" ∷ "permission denied" ∷ "can't be read" ∷ "can't be read" ∷ [])
reasons = refl

hinted : map (λ encoding. reason_for encoding None (err.Decode (decode.NotUtf8 12 true))) (None ∷ Some Utf8 ∷ []) ≡ texts ("line 12 isn't UTF-8; try -e cp1252, or iconv -f ENCODING FILE | csvtable" ∷ "line 12 isn't UTF-8" ∷ [])
unfolding digits
hinted = refl
