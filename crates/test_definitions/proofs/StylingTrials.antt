-- Styled pieces, and lines with sequences, computed.
use Rattle.std.proofs.Common.{◌≡◌, [], ◌∷◌, refl, Option, Some, None, true, false, Bool, List, lit≤, map}
use Rattle.std.specs.Prelude.{codes}
use Prim.Native.String.{String}
use Rattle.std.specs.Fmt.{digits}
use Rattle.comfy_parts.proofs.Computing.{wrapping}
use Rattle.comfy_parts.specs.CellValue.{CellValue, ColumnInfo, plain_cell, plain_row}
use Rattle.comfy_parts.specs.Presets.{ascii_full}
use Rattle.comfy_parts.specs.declared.style.attribute.Attribute.{Attribute}
use Rattle.comfy_parts.specs.declared.style.attribute.Attribute.TheVariants.{Bold, SlowBlink, Underlined}
use Rattle.comfy_parts.specs.declared.style.color.Color.{Color}
use Rattle.comfy_parts.specs.declared.style.color.Color.TheVariants.{Reset, Green, Black, Rgb, AnsiValue}
use Rattle.test_definitions.proofs.TrialTables.{at_widths, by_steps, texts}
use Rattle.comfy_table.specs.Lines.{as_measured}
use Rattle.comfy_table.specs.Pieces.{piece}
use Rattle.comfy_table.specs.TableValue.{TableValue, new_table, with_row, max_content_widths, measured_table}
use Rattle.comfy_parts.specs.Laws.{characters_without}
use Rattle.comfy_parts.specs.VisibleLines.{CellLine, LineStart, line_starts, line_texts}
use Rattle.comfy_table.specs.Drawing.{drawing}
use Rattle.comfy_table.specs.Arrangement.{IsDrawingOf}
use Rattle.comfy_parts.specs.declared.style.table.ContentArrangement.TheVariants.{Dynamic}

-- styling is enforced, without a terminal
abbrev styled_table : Bool → TableValue
styled_table text_only = record (new_table ascii_full) { no_tty = true; enforce_styling = true; style_text_only = text_only }

abbrev info : ColumnInfo
info = record { padding = (1, 1); delimiter = None; alignment = None; content_width = 1; is_hidden = false }

abbrev wide_info : ColumnInfo
wide_info = record info { content_width = 19 }

abbrev wider_info : ColumnInfo
wider_info = record info { content_width = 29 }

abbrev styled_cell : String → Option Color → Option Color → List Attribute → CellValue
styled_cell text foreground background attributes =
    record (plain_cell (codes text)) { foreground = foreground; background = background; attributes = attributes }

bold_header : piece (styled_table false) (styled_cell "Header1" None None (Bold ∷ [])) wide_info (as_measured (codes "Header1")) ≡ codes "\u{1b}[1m Header1             \u{1b}[0m"
unfolding wrapping
bold_header = refl

all_the_things : piece (styled_table true) (styled_cell "COMBINE ALL THE THINGS" (Some Green) (Some Black) (Bold ∷ SlowBlink ∷ [])) wider_info (as_measured (codes "COMBINE ALL THE THINGS")) ≡ codes " \u{1b}[48;5;0m\u{1b}[38;5;10m\u{1b}[1m\u{1b}[5mCOMBINE ALL THE THINGS\u{1b}[0m        "
unfolding wrapping
all_the_things = refl

two_colours : piece (styled_table false) (styled_cell "x" (Some Green) (Some Black) []) info (as_measured (codes "x")) ≡ codes "\u{1b}[48;5;0m\u{1b}[38;5;10m x \u{1b}[49m\u{1b}[39m"
unfolding wrapping
two_colours = refl

each_attribute_once : piece (styled_table true) (styled_cell "x" None None (Underlined ∷ Bold ∷ Bold ∷ [])) info (as_measured (codes "x")) ≡ codes " \u{1b}[1m\u{1b}[4mx\u{1b}[0m "
unfolding wrapping
each_attribute_once = refl

reset_foreground : piece (styled_table false) (styled_cell "x" (Some Reset) None []) info (as_measured (codes "x")) ≡ codes "\u{1b}[39m x \u{1b}[39m"
unfolding wrapping
reset_foreground = refl

three_parts : piece (styled_table false) (styled_cell "x" (Some (Rgb 1 2 3)) None []) info (as_measured (codes "x")) ≡ codes "\u{1b}[38;2;1;2;3m x \u{1b}[39m"
unfolding wrapping digits
three_parts = refl

one_of_256 : piece (styled_table false) (styled_cell "x" None (Some (AnsiValue 200)) []) info (as_measured (codes "x")) ≡ codes "\u{1b}[48;5;200m x \u{1b}[49m"
unfolding wrapping digits
one_of_256 = refl

nothing_set : piece (styled_table false) (styled_cell "x" None None []) info (as_measured (codes "x")) ≡ codes " x "
unfolding wrapping
nothing_set = refl

-- ---- sequences in cells

-- a line as it is measured, and as it is written
abbrev as_line : String → String → CellLine
as_line visible written = record { measured = codes visible; written = codes written }

over_two_lines : line_texts 10 0x20 (codes "hello\u{1b}[34m\u{1b}[2m123" ∷ codes "456\u{1b}[0mcell1" ∷ []) ≡ as_line "hello123" "hello\u{1b}[34m\u{1b}[2m123\u{1b}[0m" ∷ as_line "456cell1" "\u{1b}[34m\u{1b}[2m456\u{1b}[0mcell1" ∷ []
unfolding wrapping
over_two_lines = refl

-- `ESC[m` doesn't close sequences, so it is resumed and closed itself
other_resets : line_texts 2 0x20 (codes "\u{1b}[1mab\u{1b}[mcd" ∷ []) ≡ as_line "ab" "\u{1b}[1mab\u{1b}[0m" ∷ as_line "cd" "\u{1b}[1m\u{1b}[mcd\u{1b}[0m" ∷ []
unfolding wrapping
other_resets = refl

-- a text line of sequences alone is an empty line, and the sequences stay open
sequences_alone : line_texts 5 0x20 (codes "\u{1b}[1m" ∷ codes "a\u{1b}[0m" ∷ codes "\u{1b}[0m" ∷ []) ≡ as_line "" "" ∷ as_line "a" "\u{1b}[1ma\u{1b}[0m" ∷ as_line "" "" ∷ []
unfolding wrapping
sequences_alone = refl

-- an ESC that begins no sequence is visible, also if the text around a removed sequence would form one
visible_escapes : line_texts 9 0x20 (codes "\u{1b}[\u{1b}[1m1mx\u{1b}" ∷ []) ≡ as_line "\u{1b}[1mx\u{1b}" "\u{1b}[\u{1b}[1m1mx\u{1b}\u{1b}[0m" ∷ []
unfolding wrapping
visible_escapes = refl

-- ---- tables with custom styling

abbrev custom_cell : CellValue → TableValue
custom_cell cell = record (with_row (plain_row (cell ∷ [])) (new_table ascii_full)) { custom_styling = true }

abbrev bold_letters : TableValue
bold_letters = custom_cell (plain_cell (codes "\u{1b}[1mabcdef\u{1b}[0m"))

custom_contents : max_content_widths bold_letters ≡ 6 ∷ []
unfolding wrapping
custom_contents = refl

measured_drawing : IsDrawingOf (measured_table bold_letters) (texts ("+--------+" ∷ "| abcdef |" ∷ "+--------+" ∷ []))
unfolding wrapping
measured_drawing = (6 ∷ [], at_widths refl refl refl, refl)

measured_dynamic_drawing : IsDrawingOf (measured_table (record bold_letters { arrangement = Dynamic; set_width = Some 7 })) (texts ("+-----+" ∷ "| abc |" ∷ "| def |" ∷ "+-----+" ∷ []))
unfolding wrapping
measured_dynamic_drawing = (3 ∷ [], at_widths refl refl (by_steps (record { lower = []; level = Some 3; shrunk = [] }) refl (lit≤ tt, lit≤ tt, lit≤ tt, λ some. refl) refl refl), refl)

over_a_break : IsDrawingOf (record bold_letters { arrangement = Dynamic; set_width = Some 7 }) (texts ("+-----+" ∷ "| \u{1b}[1mabc\u{1b}[0m |" ∷ "| \u{1b}[1mdef\u{1b}[0m |" ∷ "+-----+" ∷ []))
unfolding wrapping
over_a_break = (3 ∷ [], at_widths refl refl (by_steps (record { lower = []; level = Some 3; shrunk = [] }) refl (lit≤ tt, lit≤ tt, lit≤ tt, λ some. refl) refl refl), refl)

-- a cut line keeps no sequences
cut_without_sequences : drawing (record bold_letters { rows = record (plain_row (plain_cell (codes "\u{1b}[1mabcdef\u{1b}[0m") ∷ [])) { max_height = Some 1 } ∷ [] }) (3 ∷ []) ≡ texts ("+-----+" ∷ "| ab… |" ∷ "+-----+" ∷ [])
unfolding wrapping
cut_without_sequences = refl

-- a sequence in its indicator is closed
cut_and_closed : drawing (record bold_letters { rows = record (plain_row (plain_cell (codes "\u{1b}[1mabcdefghi\u{1b}[0m") ∷ [])) { max_height = Some 1 } ∷ []; indicator = codes "\u{1b}[2m" }) (6 ∷ []) ≡ texts ("+--------+" ∷ "| ab\u{1b}[2m\u{1b}[0m |" ∷ "+--------+" ∷ [])
unfolding wrapping
cut_and_closed = refl

over_a_space : drawing (custom_cell (plain_cell (codes "a\u{1b}[31m bc\u{1b}[0m d"))) (2 ∷ []) ≡ texts ("+----+" ∷ "| a  |" ∷ "| \u{1b}[31mbc\u{1b}[0m |" ∷ "| d  |" ∷ "+----+" ∷ [])
unfolding wrapping
over_a_space = refl

over_each_space : line_texts 1 0x20 (codes "a\u{1b}[31m b\u{1b}[0m c" ∷ []) ≡ as_line "a" "a" ∷ as_line "b" "\u{1b}[31mb\u{1b}[0m" ∷ as_line "c" "c" ∷ []
unfolding wrapping
over_each_space = refl

inside_a_sequence_nothing_divides : line_texts 1 0x6D (codes "a\u{1b}[1mb" ∷ []) ≡ as_line "a" "a" ∷ as_line "b" "\u{1b}[1mb\u{1b}[0m" ∷ []
unfolding wrapping
inside_a_sequence_nothing_divides = refl

-- a cell's own colours surround its line
round_the_line : drawing (record (custom_cell (record (plain_cell (codes "\u{1b}[1mx")) { foreground = Some Green })) { enforce_styling = true; style_text_only = true }) (2 ∷ []) ≡ texts ("+----+" ∷ "| \u{1b}[38;5;10m\u{1b}[1mx\u{1b}[0m\u{1b}[39m  |" ∷ "+----+" ∷ [])
unfolding wrapping
round_the_line = refl

-- each line begins at the place where it is resumed: in its own text line, at its first visible byte
begins_in_its_text_line : map (λ (start : LineStart). start.at) (line_starts 2 0x20 (codes "\u{1b}[1mab\u{1b}[mcd" ∷ codes "e" ∷ [])) ≡ 0 ∷ 2 ∷ 0 ∷ []
unfolding wrapping
begins_in_its_text_line = refl

-- a text without its delimiters
spaces_left_out : characters_without 0x20 (codes "a  b c ") ≡ codes "abc"
unfolding wrapping
spaces_left_out = refl
