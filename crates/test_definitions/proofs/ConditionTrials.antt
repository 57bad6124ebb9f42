-- Counterexamples to the laws about conditions of promises.
use Rattle.std.proofs.Common.{◌≡◌, ◌≤◌, ℕ, false, true, List, [], ◌∷◌, None, Some, ap, arith, codes, length, slice_index_or, unwrap_or}
use Rattle.std.specs.List.{All, join_by}
use Rattle.std.specs.Prelude.{encode_utf8_all, slice_index}
use lib.Utf8.{encode}
use Rattle.std.proofs.lemmas.List.Elements.{All-head}
use Rattle.comfy_parts.proofs.Computing.{wrapping}
use Rattle.comfy_parts.specs.CellValue.{ColumnInfo, ColumnValue, RowValue, new_column, plain_cell, plain_row}
use Rattle.comfy_parts.specs.Columns.{CharactersFit, IsOneColumnStyle}
use Rattle.comfy_parts.specs.Presets.{ascii_full}
use Rattle.comfy_parts.specs.Text.{Text, is_printable_ascii}
use Rattle.comfy_parts.specs.declared.style.column.ColumnConstraint.TheVariants.{Hidden}
use Rattle.comfy_parts.specs.declared.style.table_style.TableStyle.{TableStyle}
use Rattle.comfy_table.specs.Drawing.{drawing_of_infos, drawn_rows, infos_of, outer_widths}
use Rattle.comfy_table.specs.Frame.{optional_frame_line}
use Rattle.comfy_table.specs.TableValue.{TableValue, new_table, with_header, with_rows}
use Rattle.promises.specs.Conditions.{IsOfRows, framed}
use Rattle.promises.specs.Rows.{IsNarrowCell}
use Rattle.promises.specs.Tables.{HasPlainFrame}
use Rattle.test_definitions.proofs.PromiseTrials.{wide_is_refused, widening_after_a_selector}
use Rattle.test_definitions.proofs.StraightTrials.{number_sign_adds_two, selector_joins}
use Rattle.test_definitions.proofs.TrialTables.{row_of, utf8}

-- a character of two terminal columns, and a cell that breaks at other characters than spaces
-- false: promises::laws::printable_texts_are_narrow
wide_text : ¬ (IsNarrowCell (plain_cell (utf8 "京")))
unfolding encode
wide_text is = wide_is_refused (All-head (CharactersFit 1) (utf8 "京") [] is.characters)

other_delimiter : ¬ (IsNarrowCell (record (plain_cell (codes "ab")) { delimiter = Some 0x2D }))
other_delimiter is = cc is.delimiter

-- a line of a text doesn't fit if one character is too wide, or two selectors clash
-- false: promises::laws::fitting_texts_have_fitting_lines
wide_second_line : ¬ (All (CharactersFit 1) (plain_cell (utf8 "a\n京")).text_lines)
unfolding wrapping encode
wide_second_line each = wide_is_refused (each 1 [] (omega arith))

clashing_line : ¬ (All (CharactersFit 2) (plain_cell (encode_utf8_all (0x201C ∷ 0xFE0F ∷ 0xFE01 ∷ []))).text_lines)
unfolding wrapping encode
clashing_line each = widening_after_a_selector (each 0 [] (omega arith))

-- false: promises::laws::numbers_are_printable
half : ¬ (is_printable_ascii (utf8 "1½") ≡ true)
unfolding wrapping
half is = let wrong : false ≡ true = is in cc wrong

-- borders that a variation selector after them makes wide
abbrev numbered : TableStyle
numbered = record ascii_full { top_border = record ascii_full.top_border { left = Some 0x23 } }

-- false: promises::laws::frame_characters_make_plain_styles
number_sign_in_a_style : ¬ (IsOneColumnStyle numbered)
number_sign_in_a_style style = number_sign_adds_two (style 0 (Some 0x23) (omega arith))

number_sign_below :
    ¬ (IsOneColumnStyle (record ascii_full { bottom_border = record ascii_full.bottom_border { right = Some 0x23 } }))
number_sign_below style = number_sign_adds_two (style 21 (Some 0x23) (omega arith))

-- a row of one cell, and tables of two such rows
abbrev row : RowValue
row = row_of ("ab" ∷ [])

abbrev table : TableValue
table = with_rows (row ∷ []) (with_header row (new_table ascii_full))

abbrev with_column : ColumnValue → TableValue
with_column column = record table { columns = column ∷ [] }

-- false: promises::laws::new_frames_are_plain
number_sign_in_a_frame : ¬ (HasPlainFrame (record table { style = numbered }))
number_sign_in_a_frame frame = number_sign_in_a_style frame.style

breaking_at_number_signs : ¬ (HasPlainFrame (record table { delimiter = Some 0x23 }))
breaking_at_number_signs frame = number_sign_adds_two frame.delimiter

column_that_breaks_there : ¬ (HasPlainFrame (with_column (record (new_column 0) { delimiter = Some 0x23 })))
column_that_breaks_there frame = number_sign_adds_two (frame.column_delimiters 0 (new_column 0) (omega arith))

cell_that_breaks_there :
    ¬ (HasPlainFrame (record table { rows = plain_row (record (plain_cell (codes "ab")) { delimiter = Some 0x23 } ∷ []) ∷ [] }))
cell_that_breaks_there frame =
    number_sign_adds_two (frame.cell_delimiters 1 row (omega arith) 0 (plain_cell []) (omega arith))

joining_indicator : ¬ (HasPlainFrame (record table { indicator = encode_utf8_all (0xFE0F ∷ []) }))
joining_indicator frame = selector_joins frame.indicator

no_padding : ¬ (HasPlainFrame (with_column (record (new_column 0) { padding = (0, 1) })))
no_padding frame = let some : 1 ≤ 0 = frame.paddings 0 (new_column 0) (omega arith) in absurd (omega (arith, some))

-- the table has this header and these rows
abbrev IsTable : RowValue → List RowValue → TableValue → Type 0
IsTable header rows made = IsOfRows (new_table ascii_full) header rows made

abbrev two_cells : RowValue
two_cells = row_of ("ab" ∷ "cd" ∷ [])

-- false: promises::laws::rows_are_below_each_other
row_is_missing : ¬ (IsTable row (row ∷ row ∷ []) table)
row_is_missing is = let few : 1 ≡ 2 = ap (λ (t : TableValue). length t.rows) is.is in absurd (omega (arith, few))

other_header : ¬ (IsTable two_cells (row ∷ []) table)
other_header is =
    let few : 1 ≡ 2 = ap (λ (t : TableValue). length (unwrap_or t.header row).cells) is.is in absurd (omega (arith, few))

rows_turned_round :
    ¬ (IsTable two_cells (two_cells ∷ row ∷ []) (with_rows (row ∷ two_cells ∷ []) (with_header two_cells (new_table ascii_full))))
rows_turned_round is =
    let few : 1 ≡ 2 = ap (λ (t : TableValue). length (slice_index_or t.rows 0 row).cells) is.is in
    absurd (omega (arith, few))

other_width : ¬ (IsTable row (row ∷ []) (record table { set_width = Some 9 }))
other_width is = let same : Some 9 ≡ None = ap (λ (t : TableValue). t.set_width) is.is in cc same

constrained_column : ¬ (IsTable row (row ∷ []) (with_column (record (new_column 0) { constraint = Some Hidden })))
constrained_column is = cc (is.columns 0 (new_column 0) (omega arith)).no_constraint

unpadded_column : ¬ (IsTable row (row ∷ []) (with_column (record (new_column 0) { padding = (0, 1) })))
unpadded_column is =
    let same : 0 ≡ 1 = ap (λ (padding : ℕ × ℕ). padding.0) (is.columns 0 (new_column 0) (omega arith)).padding in
    absurd (omega (arith, same))

delimited_column : ¬ (IsTable row (row ∷ []) (with_column (record (new_column 0) { delimiter = Some 0x2D })))
delimited_column is = cc (is.columns 0 (new_column 0) (omega arith)).no_delimiter

cell_without_a_column : ¬ (IsTable row (row ∷ []) (record table { columns = [] }))
cell_without_a_column is = let fits : 1 ≤ 0 = is.room 0 row (omega arith) in absurd (omega (arith, fits))

-- ---- parts

-- the drawing of the table, whose column has two terminal columns: a frame line, the header, a frame line, the row, a
-- frame line
abbrev infos : List ColumnInfo
infos = infos_of table (2 ∷ [])

abbrev drawn : List Text
drawn = drawing_of_infos table infos

-- it isn't the drawing without its row, without its header, or without its borders
-- false: promises::laws::parts_are_framed_rows
row_is_lost : ¬ (drawn ≡ framed table infos [])
unfolding wrapping
row_is_lost is = let few : ◌≡◌ {A = ℕ} 5 4 = ap length is in absurd (omega (arith, few))

header_is_lost : ¬ (drawn ≡ framed (record table { header = None }) infos (drawn_rows table infos (row ∷ [])))
unfolding wrapping
header_is_lost is = let few : ◌≡◌ {A = ℕ} 5 3 = ap length is in absurd (omega (arith, few))

borders_are_lost : ¬ (drawn ≡ drawn_rows table infos (row ∷ []))
unfolding wrapping
borders_are_lost is = let few : ◌≡◌ {A = ℕ} 5 1 = ap length is in absurd (omega (arith, few))

-- two rows, without a line between them, and in another order
abbrev of_two : TableValue
of_two = with_rows (row ∷ row_of ("cd" ∷ []) ∷ []) (new_table ascii_full)

abbrev parts : List RowValue → List RowValue → List Text → List Text
parts first second between =
    framed of_two infos (join_by (drawn_rows of_two infos) between (first ∷ second ∷ []))

separator_is_lost : ¬ (drawing_of_infos of_two infos ≡ parts (row ∷ []) (row_of ("cd" ∷ []) ∷ []) [])
unfolding wrapping
separator_is_lost is = let few : ◌≡◌ {A = ℕ} 5 4 = ap length is in absurd (omega (arith, few))

parts_turned_round : ¬ (drawing_of_infos of_two infos
    ≡ parts (row_of ("cd" ∷ []) ∷ []) (row ∷ []) (optional_frame_line ascii_full ascii_full.row_separator (outer_widths infos)))
unfolding wrapping encode
parts_turned_round is =
    let letter : 0x61 ≡ 0x63 = ap (λ (ls : List Text). slice_index (slice_index_or ls 1 []) 2) is in
    absurd (omega (arith, letter))
