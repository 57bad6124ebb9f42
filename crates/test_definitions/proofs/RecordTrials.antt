-- Fields and columns of `csvtable`: numbers, control characters, Markdown, chosen columns, alignment. Then the options
-- for words.
use Rattle.std.proofs.Common.{◌≡◌, ℕ, Bool, true, false, List, [], ◌∷◌, ◌++◌, Option, Some, None, Ok, Err, codes, decimal, encode_utf8_all, fold, map, refl, arith, length, take}
use Prim.Native.String.{String}
use Rattle.comfy_parts.proofs.Computing.{wrapping}
use Rattle.comfy_parts.specs.Text.{Text}
use Rattle.comfy_parts.specs.declared.style.cell.CellAlignment.TheVariants.{Left, Right}
use Rattle.std.specs.Char.Unicode.Alphabetic.{alphabetic_ranges, is_alphabetic}
use Rattle.std.specs.Char.Unicode.Rows.{in_ranges}
use Rattle.std.specs.Fmt.{digits}
use Rattle.std.specs.List.{list_all, list_any}
use Rattle.std.specs.Str.{chars}
use Rattle.ucd_category.proofs.Computing.{ucd_category}
use Rattle.csv.specs.Records.{field_at}
use Rattle.csv_records.specs.Cleaning.{after_piece, pieces, start}
use Rattle.csv_records.specs.Input.{line_breaks as line_breaks_of, line_number}
use Rattle.csv_tables.specs.Columns.{alignment_for, seen}
use Rattle.csv_tables.specs.Kinds.{column_kind, is_number_kind}
use Rattle.csv_tables.specs.Summaries.{column_fields}
use Rattle.csv_command.specs.Columns.{columns_with, position_named, positions_of_word}
use Rattle.csv_command.specs.Columns.ColumnFault.{missing, none_left, two_sided}
use Rattle.csv_tables.specs.Drawn.{condensed_style, limited, note_for, record_line}
use Rattle.csv_tables.specs.Markdown.{rule_line}
use Rattle.comfy_parts.specs.CellValue.{plain_cell, plain_row}
use Rattle.comfy_table.specs.TableValue.{TableValue, new_table, with_rows}
use Rattle.csv_tables.specs.Markdown.{escaped, unescaped}
use Rattle.csv_tables.specs.References.{begins_reference}
use Rattle.csv_records.specs.Number.{has_indian_groups, back_of, figure_of, front_of, is_neutral, is_number}
use Rattle.clap.proofs.OnLiterals.{clap_on_literals}
use Rattle.clap.specs.Words.{first_of, matches_of}
use Rattle.csv_command.specs.Program.{csvtable_rules, with_rules, wordless}
use Rattle.csv_command.specs.Arguments.{file_for, is_bold_for, separators_for, terminal_width, wants_color, width_for, words_in}
use Rattle.csv_records.specs.Numerals.{number_for}
use Rattle.csv_records.specs.Shown.{shown_in}
use Rattle.csv_command.specs.Styles.{style_for}
use Rattle.csv_command.specs.declared.arguments.OutputContext.{OutputContext}
use Rattle.csv_tables.specs.declared.options.RowSeparators.TheVariants.{Styled, Needed, Never}
use Rattle.comfy_parts.specs.Presets.{nothing, utf8_full, utf8_full_condensed}
use Rattle.comfy_parts.specs.StyleModifiers.{with_rounded_corners}
use Rattle.csv_tables.specs.Cells.{held, columns_within, unless_blank}
use Rattle.csv_tables.specs.declared.options.ColumnPlan.{ColumnPlan}
use Rattle.csv_tables.specs.declared.selection.Noun.TheVariants.{Record, Row}

abbrev texts : List String → List Text
texts words = map (λ (word : String). codes word) words

-- ---- numbers

numbers : list_all is_number (texts ("0" ∷ "-12" ∷ "+12.50" ∷ ".5" ∷ "5." ∷ "8.1e4" ∷ "2E-3" ∷ "7%" ∷ "12 %" ∷ "-$12" ∷ "$-12" ∷ "$ 12" ∷ "5$" ∷ "(12)" ∷ "($12.50)" ∷ [])) ≡ true
unfolding chars lib.Utf8.encode ucd_category is_number has_indian_groups
numbers = refl

-- numbers with groups; one mark with three digits after it is a decimal mark or a group mark, and the field is a number
-- either way
grouped_numbers : list_all is_number (texts ("1,234" ∷ "1234,567" ∷ "1_000" ∷ "1'234.5" ∷ "1 234,5" ∷ "-1,234.5" ∷ "1.234,56" ∷ "12.345.678" ∷ "1.234.567.890" ∷ "1.000.000.000,5" ∷ "1,234e5" ∷ [])) ≡ true
unfolding chars lib.Utf8.encode ucd_category is_number has_indian_groups
grouped_numbers = refl

-- in Indian groups, all digits except the last are in groups of two, separated by commas
indian_numbers : map (λ (text : String). is_number (codes text)) ("12,34,567" ∷ "1,00,000.50" ∷ "-9,99,99,999" ∷ "1,23,45" ∷ "12,34,56" ∷ "123,45,678" ∷ "1,234,56" ∷ "12.34.567" ∷ "1,00,000." ∷ []) ≡ true ∷ true ∷ true ∷ false ∷ false ∷ false ∷ false ∷ false ∷ true ∷ []
unfolding chars lib.Utf8.encode ucd_category is_number has_indian_groups
indian_numbers = refl

-- U+2212, a pound, a euro after U+00A0, and U+202F between groups
numbers_beyond_ascii : list_all is_number (map encode_utf8_all ((0x2212 ∷ 0x33 ∷ []) ∷ (0x2D ∷ 0xA3 ∷ 0x35 ∷ []) ∷ (0x31 ∷ 0x32 ∷ 0xA0 ∷ 0x20AC ∷ []) ∷ (0x31 ∷ 0x202F ∷ 0x32 ∷ 0x33 ∷ 0x34 ∷ []) ∷ [])) ≡ true
unfolding chars lib.Utf8.encode ucd_category is_number has_indian_groups
numbers_beyond_ascii = refl

no_numbers : list_any is_number (texts ("" ∷ "-" ∷ "." ∷ "$" ∷ "%" ∷ "()" ∷ "e5" ∷ "1e" ∷ "1e+" ∷ "1e2.5" ∷ "1 e5" ∷ "1-2" ∷ "--1" ∷ "-$-1" ∷ "$12%" ∷ "%5" ∷ "(-5)" ∷ "-(5)" ∷ "( 5)" ∷ "- 1" ∷ "12a" ∷ [])) ≡ false
unfolding chars lib.Utf8.encode ucd_category is_number has_indian_groups
no_numbers = refl

-- a minus directly after the figure
later_signs : list_all is_number (texts ("1.250,00-" ∷ "5-" ∷ "EUR 5-" ∷ "5- EUR" ∷ "5-%" ∷ [])) ≡ true
unfolding chars lib.Utf8.encode ucd_category is_number has_indian_groups
later_signs = refl

no_later_signs : list_any is_number (texts ("-5-" ∷ "5+" ∷ "5 -" ∷ "5--" ∷ "(5-)" ∷ "EUR -5-" ∷ [])) ≡ false
unfolding chars lib.Utf8.encode ucd_category is_number has_indian_groups
no_later_signs = refl

-- currencies by their codes and names, and units of sizes and times
coded_numbers : list_all is_number (texts ("USD 12.50" ∷ "12.50 EUR" ∷ "EUR12" ∷ "-5 CHF" ∷ "USD -5" ∷ "USD-5" ∷ "-USD 5" ∷ "(JPY 100)" ∷ "(100 JPY)" ∷ "R$ 1.250,00" ∷ "-R$5" ∷ "99 kr" ∷ "kr 5" ∷ [])) ≡ true
unfolding chars lib.Utf8.encode ucd_category is_number has_indian_groups
coded_numbers = refl

measured_numbers : list_all is_number (texts ("1.5K" ∷ "23M" ∷ "4 GiB" ∷ "512 kB" ∷ "100Mi" ∷ "7B" ∷ "1E" ∷ "1e3E" ∷ "12 ms" ∷ "3min" ∷ "-5d" ∷ "1,000 us" ∷ "(2 h)" ∷ [])) ≡ true
unfolding chars lib.Utf8.encode ucd_category is_number has_indian_groups
measured_numbers = refl

-- millionths of a second with either letter, after a narrow no-break space
millionths : list_all is_number (map encode_utf8_all ((0x33 ∷ 0xB5 ∷ 0x73 ∷ []) ∷ (0x33 ∷ 0x202F ∷ 0x03BC ∷ 0x73 ∷ []) ∷ [])) ≡ true
unfolding chars lib.Utf8.encode ucd_category is_number has_indian_groups
millionths = refl

-- words that aren't codes or units here, more than one of them, or two spaces
no_units : list_any is_number (texts ("usd 5" ∷ "5 XXX" ∷ "5 XAU" ∷ "5 ABC" ∷ "EURO 5" ∷ "EUR5EUR" ∷ "5 m" ∷ "5kb" ∷ "5 KIB" ∷ "5iB" ∷ "5 kBB" ∷ "kB 5" ∷ "5 hr" ∷ "5 D" ∷ "$5K" ∷ "5K%" ∷ "EUR 5 kB" ∷ "USD  5" ∷ "5  kB" ∷ "1e" ∷ "5 KR" ∷ "r$ 5" ∷ "R 5" ∷ [])) ≡ false
unfolding chars lib.Utf8.encode ucd_category is_number has_indian_groups
no_units = refl

-- spaces around a number don't count: a space, TAB, a line feed, a carriage return, U+00A0 and U+202F
spaced_numbers : list_all is_number (map encode_utf8_all ((0x20 ∷ 0x20 ∷ 0x35 ∷ []) ∷ (0x35 ∷ 0x0D ∷ 0x0A ∷ []) ∷ (0x09 ∷ 0x24 ∷ 0x35 ∷ 0xA0 ∷ []) ∷ (0x202F ∷ 0x35 ∷ 0x25 ∷ 0x20 ∷ []) ∷ [])) ≡ true
unfolding chars lib.Utf8.encode ucd_category is_number has_indian_groups
spaced_numbers = refl

-- the figure goes from the first digit or mark to the last one, with the text before it and the text after it
figure_parts : map (λ part. part (codes "-$ 1,234.5 kB")) (front_of ∷ figure_of ∷ back_of ∷ []) ≡ texts ("-$ " ∷ "1,234.5" ∷ " kB" ∷ [])
figure_parts = refl

-- groups of another length, and groups with two different marks
ungrouped_digits : list_any is_number (texts ("1 2" ∷ "1,2,3" ∷ "1_00" ∷ "12,34,5678" ∷ "1234,567,890" ∷ "1,234.567,890" ∷ "1.234,567.8" ∷ [])) ≡ false
unfolding chars lib.Utf8.encode ucd_category is_number has_indian_groups
ungrouped_digits = refl

-- names, dates, times, versions and addresses
other_digits : list_any is_number (texts ("0042" ∷ "-007" ∷ "$0042" ∷ "USD 0042" ∷ "(0042)" ∷ "0042 s" ∷ " 0042" ∷ "2026-05-02" ∷ "02.05.2026" ∷ "12:30" ∷ "1.2.3" ∷ "192.168.1.10" ∷ "192.168.100.200" ∷ "1.000.000.000" ∷ [])) ≡ false
unfolding chars lib.Utf8.encode ucd_category is_number has_indian_groups
other_digits = refl

neutral_fields : list_all is_neutral (texts ("" ∷ "-" ∷ "n/a" ∷ "N/A" ∷ "na" ∷ "Null" ∷ "NaN" ∷ "-inf" ∷ "+INF" ∷ " " ∷ " - " ∷ " n/a " ∷ "None" ∷ "#N/A" ∷ "(null)" ∷ "<NULL>" ∷ ".." ∷ [])) ≡ true
unfolding chars lib.Utf8.encode is_neutral
neutral_fields = refl

-- `\N`, two dashes, and spaces and line breaks alone are neutral too
blank_fields : list_all is_neutral (map encode_utf8_all ((0x5C ∷ 0x4E ∷ []) ∷ (0x2013 ∷ []) ∷ (0x20 ∷ 0x2014 ∷ []) ∷ (0x20 ∷ 0x0A ∷ []) ∷ (0x0D ∷ 0x0A ∷ 0x09 ∷ []) ∷ (0xA0 ∷ 0x202F ∷ []) ∷ [])) ≡ true
unfolding chars lib.Utf8.encode is_neutral
blank_fields = refl

telling_fields : list_any is_neutral (texts ("0" ∷ "--" ∷ "+" ∷ "." ∷ "..." ∷ "nones" ∷ "n / a" ∷ "infinity" ∷ "- -" ∷ [])) ≡ false
unfolding chars lib.Utf8.encode is_neutral
telling_fields = refl

-- ---- fields as they are drawn

abbrev drawn : Bool → List ℕ → Text
drawn keeps_sequences characters = (fold after_piece start (pieces keeps_sequences characters)).text

-- TABs go to the next multiple of four terminal columns, and each line begins at a tab stop
tabs : drawn false (0x61 ∷ 0x09 ∷ 0x62 ∷ 0x09 ∷ 0x09 ∷ 0x63 ∷ 0x0A ∷ 0x09 ∷ 0x64 ∷ []) ≡ codes "a   b       c" ++ 0x0A ∷ codes "    d"
unfolding wrapping lib.Utf8.encode
tabs = refl

-- a wide character takes two terminal columns
wide_before_a_tab : drawn false (0x738B ∷ 0x09 ∷ 0x62 ∷ []) ≡ 0xE7 ∷ 0x8E ∷ 0x8B ∷ codes "  b"
unfolding wrapping lib.Utf8.encode
wide_before_a_tab = refl

-- a letter with an accent takes one terminal column, and a flag of two characters takes two
joined_before_a_tab : drawn false (0x65 ∷ 0x0301 ∷ 0x09 ∷ 0x62 ∷ []) ≡ 0x65 ∷ 0xCC ∷ 0x81 ∷ codes "   b"
unfolding wrapping lib.Utf8.encode
joined_before_a_tab = refl

flag_before_a_tab : drawn false (0x1F1E9 ∷ 0x1F1EA ∷ 0x09 ∷ 0x62 ∷ []) ≡ encode_utf8_all (0x1F1E9 ∷ 0x1F1EA ∷ []) ++ codes "  b"
unfolding wrapping lib.Utf8.encode
flag_before_a_tab = refl

line_breaks : drawn false (0x61 ∷ 0x0D ∷ 0x0A ∷ 0x62 ∷ 0x0D ∷ 0x63 ∷ 0x0A ∷ 0x0D ∷ 0x64 ∷ []) ≡ 0x61 ∷ 0x0A ∷ 0x62 ∷ 0x0A ∷ 0x63 ∷ 0x0A ∷ 0x0A ∷ 0x64 ∷ []
unfolding wrapping lib.Utf8.encode
line_breaks = refl

abbrev replacement : Text
replacement = 0xEF ∷ 0xBF ∷ 0xBD ∷ []

-- BEL and ESC become U+FFFD
control_characters : drawn false (0x07 ∷ 0x1B ∷ []) ≡ replacement ++ replacement
unfolding wrapping lib.Utf8.encode
control_characters = refl

-- an override, an isolate and their ends become U+FFFD too; a direction mark stays
directions : drawn false (0x202E ∷ 0x202C ∷ 0x2066 ∷ 0x2069 ∷ 0x200F ∷ []) ≡ replacement ++ (replacement ++ (replacement ++ (replacement ++ 0xE2 ∷ 0x80 ∷ 0x8F ∷ [])))
unfolding wrapping lib.Utf8.encode
directions = refl

sequence_without_ansi : drawn false (codes "\u{1b}[1m") ≡ replacement ++ codes "[1m"
unfolding wrapping lib.Utf8.encode
sequence_without_ansi = refl

-- SGR sequences stay if they are kept
kept_sequences : drawn true (codes "\u{1b}[31ma \u{1b}[0m") ≡ codes "\u{1b}[31ma \u{1b}[0m"
unfolding wrapping lib.Utf8.encode
kept_sequences = refl

-- an ESC of another sequence is replaced: one that writes to the clipboard, one that clears the screen, and the first
-- of two before a sequence
clipboard : drawn true (codes "\u{1b}]52;c;aGk=") ≡ replacement ++ codes "]52;c;aGk="
unfolding wrapping lib.Utf8.encode
clipboard = refl

clear_screen : drawn true (codes "\u{1b}[2J") ≡ replacement ++ codes "[2J"
unfolding wrapping lib.Utf8.encode
clear_screen = refl

escape_before_a_sequence : drawn true (codes "\u{1b}\u{1b}[1m[1m") ≡ replacement ++ codes "\u{1b}[1m[1m"
unfolding wrapping lib.Utf8.encode
escape_before_a_sequence = refl

-- with a sequence before it, a TAB goes to the same stop
tab_after_a_sequence : drawn true (codes "a\u{1b}[31m" ++ 0x09 ∷ codes "b") ≡ codes "a\u{1b}[31m   b"
unfolding wrapping lib.Utf8.encode
tab_after_a_sequence = refl

-- ---- Markdown

escapes : escaped (codes "a|b<c" ++ 0x0A ∷ 0x5C ∷ []) ≡ codes "a" ++ 0x5C ∷ codes "|b" ++ 0x5C ∷ codes "<c<br>" ++ 0x5C ∷ 0x5C ∷ []
escapes = refl

-- an underscore at the start, before another one; an underscore after a letter; and a single one
underscores : map escaped (texts ("_a_" ∷ "a_b_" ∷ "_" ∷ [])) ≡ texts ("\\_a_" ∷ "a_b_" ∷ "_" ∷ [])
unfolding is_alphabetic in_ranges alphabetic_ranges
underscores = refl

-- an address has no backslash inside it, but may have one before it
addresses :
    map escaped (texts ("http://a.b/?c=1&d=2" ∷ "http://a.b/?c&d;" ∷ "www.a.b/~c" ∷ "www.a.b/~c~ w." ∷ []))
    ≡ texts ("http://a.b/?c=1&d=2" ∷ "http\\://a.b/?c\\&d;" ∷ "www.a.b/~c" ∷ "www\\.a.b/\\~c~ w." ∷ [])
addresses = refl

-- names and numbers are references if `;` follows
references :
    map begins_reference (texts ("amp;" ∷ "b2;" ∷ "#42;" ∷ "#x2a;" ∷ "#XF;" ∷ []))
    ≡ true ∷ true ∷ true ∷ true ∷ true ∷ []
references = refl

no_references :
    map begins_reference (texts ("" ∷ ";" ∷ "amp" ∷ "b=2;" ∷ "2;" ∷ "#;" ∷ "#a;" ∷ "#x;" ∷ "#xg;" ∷ "a b;" ∷ []))
    ≡ false ∷ false ∷ false ∷ false ∷ false ∷ false ∷ false ∷ false ∷ false ∷ false ∷ []
no_references = refl

read_back : unescaped (codes "<br>" ++ 0x5C ∷ codes "<br>") ≡ 0x0A ∷ codes "<br>"
read_back = refl

-- ---- lines of an input

-- a carriage return with a line feed after it is one break, and in the other order they are two
breaks : line_breaks_of (0x61 ∷ 0x0D ∷ 0x0A ∷ 0x62 ∷ 0x0D ∷ 0x63 ∷ 0x0A ∷ 0x0D ∷ 0x64 ∷ []) ≡ 4
breaks = refl

-- a line has ended between a carriage return and a line feed, and the lines above are counted
lines : map (λ (at : ℕ). line_number 4 (take at (0x0D ∷ 0x0A ∷ 0x61 ∷ []))) (0 ∷ 1 ∷ 2 ∷ 3 ∷ []) ≡ 5 ∷ 6 ∷ 6 ∷ 6 ∷ []
lines = refl

-- ---- columns

by_number : map (positions_of_word [] 4) (texts ("4" ∷ "1-2" ∷ "3-3" ∷ "002" ∷ [])) ≡ Ok (3 ∷ []) ∷ Ok (0 ∷ 1 ∷ []) ∷ Ok (2 ∷ []) ∷ Ok (1 ∷ []) ∷ []
by_number = refl

-- a number isn't a name, and a name isn't a range
by_number_first : positions_of_word (texts ("2" ∷ "b" ∷ [])) 2 (codes "2") ≡ Ok (1 ∷ [])
by_number_first = refl

by_name_before_range : positions_of_word (texts ("1-2" ∷ "b" ∷ [])) 2 (codes "1-2") ≡ Ok (0 ∷ [])
by_name_before_range = refl

by_name : position_named (codes "b") (texts ("a" ∷ "b" ∷ "b" ∷ [])) ≡ Some 1
by_name = refl

no_such_name : position_named (codes "c") (texts ("a" ∷ "b" ∷ [])) ≡ None
no_such_name = refl

-- a message quotes the word, and has the number of columns
missing_columns :
    map (positions_of_word [] 3) (texts ("3-1" ∷ "0" ∷ "0-1" ∷ "09" ∷ "2-9" ∷ "a" ∷ "" ∷ []))
    ≡ map (λ word. Err (missing word (codes "there are 3 columns"))) (texts ("3-1" ∷ "0" ∷ "0-1" ∷ "09" ∷ "2-9" ∷ "a" ∷ "" ∷ []))
unfolding digits
missing_columns = refl

columns_before_right : columns_with [] (Err (missing (codes "a") [])) (Err none_left) (Err (missing (codes "c") [])) ≡ Err (missing (codes "a") [])
columns_before_right = refl

-- the first right-aligned column that is left-aligned too, by its name, or else by its number
at_two_sides_named : columns_with (texts ("a" ∷ "b" ∷ [])) (Ok (0 ∷ 1 ∷ [])) (Ok (1 ∷ 0 ∷ [])) (Ok (0 ∷ 1 ∷ [])) ≡ Err (two_sided (codes "b"))
unfolding field_at
at_two_sides_named = refl

at_two_sides_numbered : columns_with [] (Ok (0 ∷ [])) (Ok (2 ∷ [])) (Ok (2 ∷ [])) ≡ Err (two_sided (decimal 3))
unfolding field_at
at_two_sides_numbered = refl

abbrev rows : List (List Text)
rows = texts ("x" ∷ "1" ∷ "2" ∷ "-" ∷ "0042" ∷ []) ∷ texts ("3" ∷ "n/a" ∷ []) ∷ texts ("3" ∷ "" ∷ "2" ∷ "" ∷ "42" ∷ []) ∷ []

-- a column with a word, one with neutral fields, one with a missing field, one of neutral fields alone, one with a
-- name, and one without a field
alignments : map (λ p. alignment_for [] [] (is_number_kind (column_kind (column_fields rows p))) p) (0 ∷ 1 ∷ 2 ∷ 3 ∷ 4 ∷ 5 ∷ []) ≡ None ∷ Some Right ∷ Some Right ∷ None ∷ None ∷ None ∷ []
unfolding field_at chars lib.Utf8.encode ucd_category is_neutral is_number has_indian_groups
alignments = refl

-- if sequences are kept, a coloured number is a number
abbrev in_red : Text
in_red = 0x1B ∷ codes "[31m12" ++ 0x1B ∷ codes "[0m"

coloured_alignments : map (λ keeps. alignment_for [] [] (is_number_kind (column_kind (column_fields (map (seen keeps) ((in_red ∷ []) ∷ [])) 0))) 0) (true ∷ false ∷ []) ≡ Some Right ∷ None ∷ []
unfolding field_at chars lib.Utf8.encode ucd_category is_neutral is_number has_indian_groups
coloured_alignments = refl

-- right overrides left, and both override numbers
chosen_alignments : map (λ p. alignment_for (0 ∷ []) (0 ∷ 1 ∷ []) (is_number_kind (column_kind (column_fields rows p))) p) (0 ∷ 1 ∷ []) ≡ Some Right ∷ Some Left ∷ []
unfolding field_at chars lib.Utf8.encode ucd_category is_neutral is_number has_indian_groups
chosen_alignments = refl

-- ---- the line on records that aren't drawn

notes : map (note_for Record false (Some 2)) (Some 1 ∷ Some 2 ∷ Some 3 ∷ None ∷ []) ≡ [] ∷ [] ∷ codes "2 of 3 records\n" ∷ codes "first 2 records; there are more\n" ∷ []
unfolding digits
notes = refl

note_on_one : note_for Record false (Some 1) None ≡ codes "first 1 record; there are more\n"
unfolding digits
note_on_one = refl

-- rows of a caller aren't called records
notes_on_rows : note_for Row false (Some 1) None ∷ note_for Row false (Some 0) (Some 2) ∷ [] ≡ codes "first 1 row; there are more\n" ∷ codes "0 of 2 rows\n" ∷ []
unfolding digits
notes_on_rows = refl

-- in Markdown the note is below an empty line
note_in_markdown : note_for Record true (Some 2) (Some 3) ≡ codes "\n2 of 3 records\n"
unfolding digits
note_in_markdown = refl

-- the line below a header for Markdown: the second column is right-aligned
rule : rule_line (None ∷ Some Right ∷ []) (3 ∷ 1 ∷ []) ≡ codes "|-----|--:|"
rule = refl

-- the heading of a record
third_record : record_line Record 3 (Some 12) ≡ codes "record 3 of 12\n"
unfolding digits
third_record = refl

-- the same with an unknown count
third_uncounted : record_line Record 3 None ≡ codes "record 3\n"
unfolding digits
third_uncounted = refl

-- the heading of a row
third_row : record_line Row 3 (Some 12) ≡ codes "row 3 of 12\n"
unfolding digits
third_row = refl

first_rows : limited {A = ℕ} (Some 2) (1 ∷ 2 ∷ 3 ∷ []) ≡ 1 ∷ 2 ∷ []
first_rows = refl

-- ---- words

listed : words_in (Some (codes "name,3-5,,2")) ≡ texts ("name" ∷ "3-5" ∷ "" ∷ "2" ∷ [])
listed = refl

none_listed : words_in None ≡ []
none_listed = refl

bits : map (number_for 16) (texts ("65535" ∷ "65536" ∷ "" ∷ "1x" ∷ [])) ≡ Some 65535 ∷ None ∷ None ∷ None ∷ []
bits = refl

-- values after a space, after `=`, and after a letter, the last of two; a flag that is set, one that isn't, and options
-- without a value
abbrev found : String → Option Text
found id = first_of (codes id) (matches_of (with_rules wordless (map (λ known. known.0) csvtable_rules)) (texts ("csvtable" ∷ "-w" ∷ "9" ∷ "-w" ∷ "60" ∷ "--limit=2" ∷ "-nr3" ∷ "a.csv" ∷ [])))

values : map found ("width" ∷ "limit" ∷ "right" ∷ "file" ∷ "no-header" ∷ "full" ∷ "color" ∷ "columns" ∷ []) ≡ Some (codes "60") ∷ Some (codes "2") ∷ Some (codes "3") ∷ Some (codes "a.csv") ∷ Some (codes "true") ∷ Some (codes "false") ∷ None ∷ None ∷ []
unfolding clap_on_literals
values = refl

files : map file_for (None ∷ Some (codes "-") ∷ Some (codes "a.csv") ∷ []) ≡ None ∷ None ∷ Some (codes "a.csv") ∷ []
files = refl

-- ---- what words ask for

-- a number from 1 to 65535, or else 80
terminal_widths :
    map terminal_width (None ∷ map Some (texts ("40" ∷ "0" ∷ "1" ∷ "65535" ∷ "65536" ∷ "+40" ∷ "" ∷ "wide" ∷ [])))
    ≡ 80 ∷ 40 ∷ 80 ∷ 1 ∷ 65535 ∷ 80 ∷ 80 ∷ 80 ∷ 80 ∷ []
terminal_widths = refl

-- in a terminal: no width, a width of 0, and another one
abbrev terminal : OutputContext
terminal = record { is_terminal = true; columns = None; no_color = None }

widths_kept : map (λ (invocation : Option ℕ). width_for invocation terminal) (None ∷ Some 0 ∷ Some 7 ∷ []) ≡ Some 80 ∷ None ∷ Some 7 ∷ []
widths_kept = refl

widths_elsewhere : map (λ (invocation : Option ℕ). width_for invocation (record terminal { is_terminal = false })) (None ∷ Some 0 ∷ Some 7 ∷ []) ≡ None ∷ None ∷ Some 7 ∷ []
widths_elsewhere = refl

colors : map wants_color (None ∷ Some [] ∷ Some (codes "1") ∷ []) ≡ true ∷ true ∷ false ∷ []
colors = refl

bold : map (λ (word : Option Text). is_bold_for word terminal) (None ∷ Some (codes "auto") ∷ Some (codes "never") ∷ Some (codes "always") ∷ []) ≡ true ∷ true ∷ false ∷ true ∷ []
bold = refl

-- names in letters of either case, and no name
styles : map (λ (name : Option Text). style_for name) (None ∷ map Some (texts ("Rounded" ∷ "BOX" ∷ "grid" ∷ "plain" ∷ "utf8_full" ∷ []))) ≡ with_rounded_corners utf8_full ∷ with_rounded_corners utf8_full ∷ utf8_full ∷ with_rounded_corners utf8_full ∷ nothing ∷ utf8_full ∷ []
styles = refl

separators :
    map (λ (name : Option Text). separators_for false false name) (None ∷ map Some (texts ("rounded" ∷ "box" ∷ "grid" ∷ "UTF8_FULL" ∷ []))) ≡ Needed ∷ Needed ∷ Needed ∷ Styled ∷ Styled ∷ []
separators = refl

separators_by_words : separators_for true false None ∷ separators_for false true (Some (codes "grid")) ∷ [] ≡ Styled ∷ Never ∷ []
separators_by_words = refl

condensed : condensed_style utf8_full ≡ utf8_full_condensed
condensed = refl

-- ---- texts of messages

shown : map (shown_in false) (0x61 ∷ 0x1B ∷ 0x0A ∷ 0x9B ∷ 0x202E ∷ 0x200F ∷ []) ≡ 0x61 ∷ 0xFFFD ∷ 0xFFFD ∷ 0xFFFD ∷ 0xFFFD ∷ 0x200F ∷ []
shown = refl

shown_in_lines : map (shown_in true) (0x09 ∷ 0x0A ∷ []) ≡ 0xFFFD ∷ 0x0A ∷ []
shown_in_lines = refl

-- ---- what laws refuse

abbrev one_row : TableValue
one_row = with_rows (plain_row (plain_cell (codes "a") ∷ []) ∷ []) (new_table utf8_full)

-- false: csv_records::laws::records_are_one
one_record_is_not_none : ¬ (◌≡◌ {A = List (List Text)} [] ((codes "a" ∷ []) ∷ []))
one_record_is_not_none same = cc same

-- false: csv_records::laws::first_records_stay
other_records : ¬ ((more : List (List Text)) × ((codes "b" ∷ []) ∷ [] ≡ ((codes "a" ∷ []) ∷ []) ++ more))
other_records found = let is : ◌≡◌ {A = ℕ} 0x62 0x61 = cc found.1 in omega (arith, is)

-- a line break is read back as one
line_break_is_read : ¬ (unescaped (codes "<br>") ≡ codes "<br>")
line_break_is_read same = let is : 0x0A ∷ [] ≡ codes "<br>" = same in cc is

-- ---- cells

abbrev placed_columns_at : List ℕ → List ColumnPlan
placed_columns_at positions = map (λ (p : ℕ). record { position = p; alignment = None; points = None; is_nowrap = false }) positions

-- a record of one field reaches the first of three columns, or the columns up to that of its field
reaches : map (λ positions. length (columns_within (texts ("1" ∷ [])) (placed_columns_at positions))) ((0 ∷ 1 ∷ 2 ∷ []) ∷ (2 ∷ 0 ∷ 1 ∷ []) ∷ (2 ∷ 1 ∷ []) ∷ []) ≡ 1 ∷ 2 ∷ 0 ∷ []
reaches = refl

-- it has the field of one of them
holds : map (λ positions. length (held (texts ("1" ∷ [])) (placed_columns_at positions))) ((0 ∷ 1 ∷ 2 ∷ []) ∷ (2 ∷ 0 ∷ 1 ∷ []) ∷ (2 ∷ 1 ∷ []) ∷ []) ≡ 1 ∷ 1 ∷ 0 ∷ []
holds = refl

-- spaces and line feeds alone are drawn as an empty cell, and no other text is
blank_texts : map unless_blank (codes "   " ∷ codes " \n " ∷ codes "\n" ∷ codes " a " ∷ codes "\t" ∷ []) ≡ [] ∷ [] ∷ [] ∷ codes " a " ∷ codes "\t" ∷ []
blank_texts = refl
