-- Lines that break promises about files, and records that keep the premises of one.
use Rattle.std.proofs.Common.{◌≡◌, ◌==◌, ◌&&◌, ◌||◌, zero, suc, ◌⊎◌, inl, inr, ◌≤◌, ℕ, Bool, List, [], None, Some, Option, ◌∷◌, ◌++◌, arith, codes, append-nil, length, length-append, drop, map, refl, reverse, slice_index_or, sym, ap, ap₂, ◌∙◌, subst, true, false}
use Rattle.std.specs.Fmt.{digits}
use Rattle.std.specs.List.{All, list_any, slice_get, slice_split}
use Rattle.std.proofs.lemmas.List.Splits.{slice_split_none}
use Rattle.std.specs.Prelude.{IfSome, MatchOption, ◌<◌, encode_utf8_all, if◌then◌else◌}
use Rattle.std.specs.Str.{NoCharPasses, NonePass, chars}
use Rattle.std.proofs.lemmas.Bool.{or_parts, true≢false}
use Rattle.std.proofs.lemmas.List.{append_cancel_right, reverse-append}
use Rattle.std.proofs.lemmas.Str.{encodes_same}
use Rattle.std.proofs.lemmas.List.Elements.{All-head, All-tail}
use lib.Utf8.{encode}
use Rattle.comfy_parts.proofs.CallerLemmas.{All-none, measure-printable, none_by_characters}
use Rattle.comfy_parts.proofs.Computing.{wrapping}
use Rattle.comfy_parts.specs.CellValue.{CellValue, RowValue, plain_cell, plain_row}
use Rattle.comfy_parts.specs.Presets.{utf8_full}
use Rattle.comfy_parts.specs.declared.style.cell.CellAlignment.{CellAlignment}
use Rattle.comfy_parts.specs.declared.style.cell.CellAlignment.TheVariants.{Left, Right}
use Rattle.comfy_parts.specs.Text.{Text, measure, spaces}
use Rattle.csv_tables.specs.Cells.{is_blank}
use Rattle.csv.specs.Records.{field_at}
use Rattle.ucd_category.proofs.Computing.{ucd_category}
use Rattle.csv_records.specs.Number.{has_indian_groups, is_neutral, is_number}
use Rattle.csv_tables.specs.declared.options.Expansion.{Expansion}
use Rattle.csv_tables.specs.declared.options.Expansion.TheVariants.{Always, Auto, Never}
use Rattle.csv_tables.specs.NoWrap.{framed_width, is_nowrap}
use Rattle.csv_tables.specs.declared.options.Layout.{Layout}
use Rattle.csv_tables.specs.declared.options.Look.{Look}
use Rattle.csv_command.specs.declared.arguments.Options.{Options}
use Rattle.promises.specs.Shown.{ShowsColumns}
use Rattle.promises.specs.Tables.{HasCharactersWithin}
use Rattle.csv_tables.specs.Columns.{ColumnsValue}
use Rattle.csv_tables.specs.Drawn.{drawn_rows, note_for, record_line}
use Rattle.csv_tables.specs.declared.selection.Noun.TheVariants.{Record, Row}
use Rattle.csv_tables.specs.declared.selection.Selection.{Selection}
use Rattle.comfy_table.specs.Drawing.{terminated_text_of}
use Rattle.comfy_table.specs.Laws.{AreLinesOf, LeavesNoneOpen}
use Rattle.csv_promises.specs.Counted.{AreExpanded, DrawsLines, EachDrawnLine, HasEachLine, MayExpand}
use Rattle.csv_promises.specs.Fields.{AreLinedUp, HoldsField, HoldsFields, IsDrawingOf, KeepsNumbers, ShowsAllFields, ShowsDrawn, ShowsFields, ShowsPairs, ShowsRecords, ShowsRows, StaysAsItIs, all_rows, columns_of_options, mark_for, no_marks, positions_in, side_at, side_for, sides_after_number, sides_for, whole_for}
use Rattle.csv_promises.specs.Harmless.{IsHarmlessFor, IsInBold, ShowsNothingHarmful}
use Rattle.csv_promises.specs.Messages.{IsTameLine}
use Rattle.csv_records.specs.Cleaning.{cleaned, is_harmful, is_replaced}
use Rattle.csv_promises.specs.Harmless.IsInBold.{nothing, plain, bold as bold_part}
use Rattle.csv_promises.specs.Straight.{IsPlainField, IsStraight}
use Rattle.test_definitions.proofs.ClosedLineTrials.{bold_stays_open}
use Rattle.test_definitions.proofs.OutputLineTrials.{found, one_line, two_lines}
use Rattle.test_definitions.proofs.PromiseTrials.{shows_itself}
use Rattle.test_definitions.proofs.CsvFieldTrials.{IsOneText, begins, blank_line, dashed, ends_plain, has_line, one_row}
use Rattle.test_definitions.proofs.TrialTables.{utf8}
use Rattle.test_definitions.proofs.PlainLook.{plain_look}

-- ---- straight edges

-- the look of a table with a header in bold
abbrev pub bold : Look
bold = record plain_look { style = utf8_full; expansion = Auto; has_bold_header = true }

-- a look without a bold header and with aligned decimal marks, in a style whose hyphen no row draws
abbrev unbold : Look
unbold = record bold { has_bold_header = false; aligns_decimals = false; style = dashed }

-- options without a header, with records expanded or not, and with a limit
abbrev pub with_expansion : Expansion → Option ℕ → Options → Options
with_expansion expansion limit options = record options { selection = record options.selection { has_header = false; limit = limit; noun = Record }; look = record unbold { expansion = expansion } }

-- without a limit, the output for rows has only the drawn lines
pub drawn_lines : (P : Text → Type 0) (options : Options) → options.look.expansion ≡ Never → options.selection.limit ≡ None → (records : List (List Text)) (text : Text) → EachDrawnLine P options records text → HasEachLine P text
drawn_lines P options never unlimited records text is =
    subst (HasEachLine P) (sym (is.joined ∙ ap (λ (limit : Option ℕ). is.drawn ++ note_for options.selection.noun false limit is.count) unlimited ∙ append-nil is.drawn))
    (subst (λ (b : Bool). DrawsLines P options.selection.noun (drawn_rows options.selection records) b is.count is.drawn) (subst (λ (e : Expansion). MayExpand e is.is_expanded) never is.expansion) is.draws)

-- two lines of rows show the same number of terminal columns
same_columns : (first second text : Text) → slice_split (λ b. b == 0x0A) text ≡ first ∷ second ∷ [] ∷ [] → list_any (λ b. b == 0x1B) first ≡ false → list_any (λ b. b == 0x1B) second ≡ false → (options : Options) (records : List (List Text)) → IsStraight (with_expansion Never None options) records text → measure first ≡ measure second
same_columns first second text cut plain_first plain_second options records is =
    let own = drawn_lines (ShowsColumns is.0) (with_expansion Never None options) refl refl records text is.1 in
    let all : All (ShowsColumns is.0) (first ∷ second ∷ []) = subst (All (ShowsColumns is.0)) (two_lines first second own.lines (sym cut ∙ found text own.lines own.are)) own.each in
    let one = All-head (ShowsColumns is.0) first (second ∷ []) all in
    let other = All-head (ShowsColumns is.0) second [] (All-tail (ShowsColumns is.0) first (second ∷ []) all) in
    sym (ap measure (shows_itself one.1 plain_first)) ∙ one.2 ∙ sym other.2 ∙ ap measure (shows_itself other.1 plain_second)

pub one_column : measure (codes "a") ≡ 1
unfolding wrapping encode
one_column = refl

pub two_columns : measure (codes "ba") ≡ 2
unfolding wrapping encode
two_columns = refl

-- false: csv_promises::straight_output, csv_promises::straight_whole_output
two_widths_are_not_straight : (options : Options) (records : List (List Text)) → ¬ (IsStraight (with_expansion Never None options) records (codes "ba\na\n"))
two_widths_are_not_straight options records is =
    let same = same_columns (codes "ba") (codes "a") (codes "ba\na\n") refl refl refl options records is in absurd (omega (arith, same, one_column, two_columns))

wide_columns : measure (utf8 "| 京 |") ≡ 6
unfolding wrapping encode
wide_columns = refl

narrow_columns : measure (codes "| a |") ≡ 5
unfolding wrapping encode
narrow_columns = refl

-- a drawing in which a wide character counts as one terminal column isn't straight
-- false: csv_promises::straight_fitting_output, csv_promises::straight_wide_output
wide_in_a_narrow_column : (options : Options) (records : List (List Text)) → ¬ (IsStraight (with_expansion Never None options) records (utf8 "| 京 |\n| a |\n"))
unfolding encode
wide_in_a_narrow_column options records is =
    let same = same_columns (utf8 "| 京 |") (codes "| a |") (utf8 "| 京 |\n| a |\n") refl refl refl options records is in absurd (omega (arith, same, wide_columns, narrow_columns))

counted_columns : measure (codes "record 7") ≡ 8
unfolding wrapping encode
counted_columns = refl

noted_columns : measure (codes "3 of 9 records") ≡ 14
unfolding wrapping encode
noted_columns = refl

-- nor is one with a line that counts records, if records aren't expanded and none is left out
counted_row : (options : Options) (records : List (List Text)) → ¬ (IsStraight (with_expansion Never None options) records (codes "| a |\nrecord 7\n"))
counted_row options records is =
    let same = same_columns (codes "| a |") (codes "record 7") (codes "| a |\nrecord 7\n") refl refl refl options records is in absurd (omega (arith, same, narrow_columns, counted_columns))

counted_rows : (options : Options) (records : List (List Text)) → ¬ (IsStraight (with_expansion Never None options) records (codes "| a |\n3 of 9 records\n"))
counted_rows options records is =
    let same = same_columns (codes "| a |") (codes "3 of 9 records") (codes "| a |\n3 of 9 records\n") refl refl refl options records is in absurd (omega (arith, same, narrow_columns, noted_columns))

-- fields that meet the conditions: an accent takes one terminal column, and Chinese is drawn as it is
accent_is_narrow : HasCharactersWithin 1 (utf8 "é")
unfolding wrapping encode
accent_is_narrow = refl

chinese_is_plain : IsPlainField (utf8 "京都")
unfolding wrapping encode
chinese_is_plain = record { plain = refl; short = omega arith }

-- ---- fields

-- a text without lines
no_text_lines : (lines : List Text) → AreLinesOf [] lines → lines ≡ []
no_text_lines [] are = refl
no_text_lines (line ∷ lines) are = by_line line are.joined
  where
    by_line : (line : Text) → [] ≡ (line ++ 0x0A ∷ []) ++ terminated_text_of lines → line ∷ lines ≡ []
    by_line [] same = absurd (cc same)
    by_line (b ∷ line) same = absurd (cc same)

-- ASCII without line feeds, whose first character is given and isn't a space, is one text line
one_text : (c : ℕ) (rest : Text) → ((c == 0x20) || (c == 0x0A)) ≡ false → list_any (λ b. b == 0x0A) (c ∷ rest) ≡ false → IsOneText (c ∷ rest)
one_text c rest filled unbroken =
    record {
      one = ap (λ (b : Bool). slice_split (λ x. x == 0x0A) (if b && is_blank rest then [] else c ∷ rest)) filled ∙ slice_split_none (λ b. b == 0x0A) (c ∷ rest) (All-none (λ b. b == 0x0A) (c ∷ rest) unbroken);
      unspaced = λ more same. let letter : c ≡ 0x20 = cc same in let blank : ((c == 0x20) || (c == 0x0A)) ≡ true = ap (λ (x : ℕ). (x == 0x20) || (x == 0x0A)) letter in absurd (cc (sym blank ∙ filled));
    }

-- a blank field is one text line
blank_text : IsOneText []
blank_text = record { one = refl; unspaced = λ rest same. cc same }

-- a row has a cell for each field that isn't empty
some_cell : (c : ℕ) (field : Text) (fields : List Text) (row : RowValue) {sides : List CellAlignment} → HoldsFields sides ((c ∷ field) ∷ fields) row → ¬ (row.cells ≡ [])
unfolding field_at
some_cell c field fields row {sides} hold none = let gone : c ∷ field ≡ [] = subst (λ (cells : List CellValue). MatchOption (slice_get cells 0) (c ∷ field ≡ []) (HoldsField (side_at sides 0) (c ∷ field))) none (hold.each 0) in cc gone

second_cell : (blank : Text) (c : ℕ) (field : Text) (fields : List Text) (row : RowValue) {sides : List CellAlignment} → HoldsFields sides (blank ∷ (c ∷ field) ∷ fields) row → ¬ (row.cells ≡ [])
unfolding field_at
second_cell blank c field fields row {sides} hold none = let gone : c ∷ field ≡ [] = subst (λ (cells : List CellValue). MatchOption (slice_get cells 1) (c ∷ field ≡ []) (HoldsField (side_at sides 1) (c ∷ field))) none (hold.each 1) in cc gone

-- an empty text doesn't show a field
nothing_shows_no_field : {has_names : Bool} {sides : List CellAlignment} (look : Look) → look.style ≡ dashed → look.has_bold_header ≡ false → IfSome look.width (λ w. w ≤ 65535) → (rest : List Text) → (whole : List Bool) → ¬ (ShowsRows look false has_names sides whole ((codes "a" ∷ rest) ∷ []) [])
nothing_shows_no_field look style weight narrow rest whole (inl none) = cc none.0
nothing_shows_no_field look style weight narrow rest whole (inr is) =
    let row = one_row look style weight narrow whole (codes "a" ∷ rest) [] [] no_text_lines is in
    let some = has_line whole (codes "a") rest [] (one_text 0x61 [] refl refl) row (some_cell 0x61 [] rest row.row row.hold) (λ same. cc same) in
    absurd (omega (arith, some))

-- the only line of a text
only : (line text : Text) → slice_split (λ b. b == 0x0A) text ≡ line ∷ [] ∷ [] → (own : List Text) → AreLinesOf text own → own ≡ line ∷ []
only line text cut own are = one_line line own (sym cut ∙ found text own are)

-- this line shows one row of fields
abbrev ShowsRow : List Text → Text → Type 0
ShowsRow fields line = IsDrawingOf unbold false false [] [] (fields ∷ []) (line ++ codes "\n")

-- another amount doesn't show an amount, though a frame may have its hyphen
other_amount : ¬ (ShowsRow (codes "12.80" ∷ []) (codes " -12.80 "))
other_amount is =
    let row = one_row unbold refl refl tt [] (codes "12.80" ∷ []) (codes " -12.80 " ∷ []) (codes " -12.80 \n") (only (codes " -12.80 ") (codes " -12.80 \n") refl) is in
    let own = begins [] (codes "12.80") [] (codes " -12.80 ") [] (one_text 0x31 (codes "2.80") refl refl) row (some_cell 0x31 (codes "2.80") [] row.row row.hold) in
    by_left own.right own.others own.tail own.left own.front own.is own.fronts
  where
    by_left : (right : ℕ) (others tail : Text) (left : ℕ) (front : Text) → codes " -12.80 " ≡ (spaces (suc left) ++ (front ++ spaces (suc right))) ++ others → ¬ (codes "12.80" ≡ front ++ tail)
    by_left right others tail (suc left) front made fronts = let letter : ◌≡◌ {A = ℕ} 0x2D 0x20 = cc made in absurd (omega (arith, letter))
    by_left right others tail zero [] made fronts = let letter : ◌≡◌ {A = ℕ} 0x2D 0x20 = cc made in absurd (omega (arith, letter))
    by_left right others tail zero (x ∷ front) made fronts =
        let hyphen : 0x2D ≡ x = cc made in
        let one : 0x31 ≡ x = cc fronts in absurd (omega (arith, hyphen, one))

-- a field isn't in the column to the left of its own, in which the field is blank
wrong_column : ¬ (ShowsRow ([] ∷ codes "1280" ∷ []) (codes " 1280    "))
wrong_column is =
    let row = one_row unbold refl refl tt [] ([] ∷ codes "1280" ∷ []) (codes " 1280    " ∷ []) (codes " 1280    \n") (only (codes " 1280    ") (codes " 1280    \n") refl) is in
    let own = begins [] [] (codes "1280" ∷ []) (codes " 1280    ") [] blank_text row (second_cell [] 0x31 (codes "280") [] row.row row.hold) in
    by_left own.right own.others own.tail own.left own.front own.is own.fronts
  where
    by_left : (right : ℕ) (others tail : Text) (left : ℕ) (front : Text) → codes " 1280    " ≡ (spaces (suc left) ++ (front ++ spaces (suc right))) ++ others → ¬ (◌≡◌ {A = Text} [] (front ++ tail))
    by_left right others tail (suc left) front made fronts = let letter : ◌≡◌ {A = ℕ} 0x31 0x20 = cc made in absurd (omega (arith, letter))
    by_left right others tail zero [] made fronts = let letter : ◌≡◌ {A = ℕ} 0x31 0x20 = cc made in absurd (omega (arith, letter))
    by_left right others tail zero (x ∷ front) made fronts = cc fronts

-- a number isn't split over lines in a column that is kept whole
split_number : ¬ (IsDrawingOf unbold false false [] (true ∷ []) ((codes "12" ∷ []) ∷ []) (codes " 1 \n 2 \n"))
split_number is =
    let row = one_row unbold refl refl tt (true ∷ []) (codes "12" ∷ []) (codes " 1 " ∷ codes " 2 " ∷ []) (codes " 1 \n 2 \n") (λ own are. two_lines (codes " 1 ") (codes " 2 ") own (found (codes " 1 \n 2 \n") own are)) is in
    let own = begins (true ∷ []) (codes "12") [] (codes " 1 ") (codes " 2 " ∷ []) (one_text 0x31 (codes "2") refl refl) row (some_cell 0x31 (codes "2") [] row.row row.hold) in
    by_left own.right own.others own.left own.front own.is (own.whole_front refl short)
  where
    short : measure (codes "12") ≤ 65535
    short = let two = measure-printable (codes "12") refl in omega (arith, two)

    by_left : (right : ℕ) (others : Text) (left : ℕ) (front : Text) → codes " 1 " ≡ (spaces (suc left) ++ (front ++ spaces (suc right))) ++ others → ¬ (front ≡ codes "12")
    by_left right others (suc left) front made whole = let letter : ◌≡◌ {A = ℕ} 0x31 0x20 = cc made in absurd (omega (arith, letter))
    by_left right others zero front made whole = let same = made ∙ ap (λ (t : Text). (spaces 1 ++ (t ++ spaces (suc right))) ++ others) whole in let letter : ◌≡◌ {A = ℕ} 0x20 0x32 = cc same in absurd (omega (arith, letter))

-- a number isn't left-aligned in a right-aligned column
number_at_the_left : ¬ (IsDrawingOf unbold false false (Right ∷ []) [] ((codes "7" ∷ []) ∷ []) (codes " 7  \n"))
number_at_the_left is =
    let row = one_row unbold refl refl tt [] (codes "7" ∷ []) (codes " 7  " ∷ []) (codes " 7  \n") (only (codes " 7  ") (codes " 7  \n") refl) is in
    let own = begins [] (codes "7") [] (codes " 7  ") [] (one_text 0x37 [] refl refl) row (some_cell 0x37 [] [] row.row row.hold) in
    by_left own.left own.front own.tail own.fronts (own.is ∙ ap₂ (λ (right : ℕ) (others : Text). (spaces (suc own.left) ++ (own.front ++ spaces (suc right))) ++ others) (own.at_right refl) (own.alone refl))
  where
    by_left : (left : ℕ) (front tail : Text) → codes "7" ≡ front ++ tail → ¬ (codes " 7  " ≡ (spaces (suc left) ++ (front ++ spaces 1)) ++ [])
    by_left (suc left) front tail fronts made = let letter : ◌≡◌ {A = ℕ} 0x37 0x20 = cc made in absurd (omega (arith, letter))
    by_left zero [] tail fronts made = let letter : ◌≡◌ {A = ℕ} 0x37 0x20 = cc made in absurd (omega (arith, letter))
    by_left zero (a ∷ []) tail fronts made = cc made
    by_left zero (a ∷ b ∷ front) tail fronts made = cc fronts

-- a number isn't drawn without the spaces after it that align its decimal mark
mark_out_of_line : ¬ (IsDrawingOf unbold false false (Right ∷ []) (true ∷ []) ((codes "22  " ∷ []) ∷ []) (codes "   22 \n"))
mark_out_of_line is =
    let row = one_row unbold refl refl tt (true ∷ []) (codes "22  " ∷ []) (codes "   22 " ∷ []) (codes "   22 \n") (only (codes "   22 ") (codes "   22 \n") refl) is in
    let own = begins (true ∷ []) (codes "22  ") [] (codes "   22 ") [] (one_text 0x32 (codes "2  ") refl refl) row (some_cell 0x32 (codes "2  ") [] row.row row.hold) in
    let four = measure-printable (codes "22  ") refl in
    by_left own.left own.right own.others (own.is ∙ ap (λ (front : Text). (spaces (suc own.left) ++ (front ++ spaces (suc own.right))) ++ own.others) (own.whole_front refl (omega (arith, four))))
  where
    by_left : (left right : ℕ) (others : Text) → ¬ (codes "   22 " ≡ (spaces (suc left) ++ (codes "22  " ++ spaces (suc right))) ++ others)
    by_left zero right others made = let letter : ◌≡◌ {A = ℕ} 0x20 0x32 = cc made in absurd (omega (arith, letter))
    by_left (suc zero) right others made = let letter : ◌≡◌ {A = ℕ} 0x20 0x32 = cc made in absurd (omega (arith, letter))
    by_left (suc (suc zero)) right others made = cc made
    by_left (suc (suc (suc left))) right others made = let letter : ◌≡◌ {A = ℕ} 0x32 0x20 = cc made in absurd (omega (arith, letter))

-- a right-aligned column of numbers has these spaces, unless it is set to the left
amounts : List (List Text)
amounts = (codes "1.5" ∷ []) ∷ (codes "22" ∷ []) ∷ []

first_column : List ℕ → ColumnsValue
first_column left = record { drawn = 0 ∷ []; right = []; left = left }

lined_up_amounts : all_rows false (mark_for true (first_column []) amounts) (0 ∷ []) None amounts ≡ (codes "1.5" ∷ []) ∷ (codes "22  " ∷ []) ∷ []
unfolding amounts first_column chars digits encode ucd_category field_at is_neutral is_number has_indian_groups
lined_up_amounts = refl

unaligned_amounts : all_rows false (mark_for false (first_column []) amounts) (0 ∷ []) None amounts ≡ amounts
unfolding amounts first_column chars digits encode ucd_category field_at is_neutral is_number has_indian_groups
unaligned_amounts = refl

own_sides : map (λ left. sides_for true (first_column left) amounts) ([] ∷ (0 ∷ []) ∷ []) ≡ (Right ∷ Right ∷ []) ∷ (Right ∷ Left ∷ []) ∷ []
unfolding amounts first_column chars digits encode ucd_category field_at is_neutral is_number has_indian_groups
own_sides = refl

sides_of_words : sides_for false (first_column []) ((codes "a" ∷ []) ∷ amounts) ≡ Left ∷ []
unfolding amounts first_column chars digits encode ucd_category field_at is_neutral is_number has_indian_groups
sides_of_words = refl

-- a column of words has none, unless it is set to the right
right_side_of_words : sides_for false (record { drawn = 0 ∷ []; right = 0 ∷ []; left = [] }) ((codes "a" ∷ []) ∷ amounts) ≡ Right ∷ []
unfolding amounts chars digits encode ucd_category field_at is_neutral is_number has_indian_groups
right_side_of_words = refl

-- without a width, marks are aligned if that is requested; they never are if it isn't
marks_are_left_as_they_are : ¬ (AreLinedUp (record unbold { aligns_decimals = true }) false)
marks_are_left_as_they_are is = true≢false (sym (is.without_width refl))

marks_are_lined_up_unset : ¬ (AreLinedUp unbold true)
marks_are_lined_up_unset is = true≢false (is.unaligned refl)

-- with `auto`, columns of numbers and dates are kept whole, and so is that of record numbers, if there is a row
numbers_and_words : List (List Text)
numbers_and_words = (codes "12" ∷ codes "a" ∷ []) ∷ (codes "2026-05-02" ∷ []) ∷ []

whole_under_auto : map (λ rows. whole_for (Some 9) Auto true (1 ∷ 0 ∷ []) rows) (numbers_and_words ∷ [] ∷ []) ≡ (true ∷ false ∷ true ∷ []) ∷ [] ∷ []
unfolding numbers_and_words chars encode ucd_category field_at is_neutral is_number has_indian_groups
whole_under_auto = refl

-- otherwise no column is kept whole under a width, and all are without one
whole_otherwise : map (λ width. whole_for width Never true (1 ∷ 0 ∷ []) numbers_and_words) (Some 9 ∷ None ∷ []) ≡ [] ∷ (true ∷ true ∷ true ∷ []) ∷ []
unfolding numbers_and_words
whole_otherwise = refl

-- two numbers in neighbouring columns aren't joined
joined_numbers : ¬ (ShowsRow (codes "2024" ∷ codes "123" ∷ []) (codes " 2024123 "))
joined_numbers is =
    let row = one_row unbold refl refl tt [] (codes "2024" ∷ codes "123" ∷ []) (codes " 2024123 " ∷ []) (codes " 2024123 \n") (only (codes " 2024123 ") (codes " 2024123 \n") refl) is in
    let own = begins [] (codes "2024") (codes "123" ∷ []) (codes " 2024123 ") [] (one_text 0x32 (codes "024") refl refl) row (some_cell 0x32 (codes "024") (codes "123" ∷ []) row.row row.hold) in
    by_left own.right own.tail own.others own.left own.front own.is own.fronts
  where
    by_left : (right : ℕ) (tail others : Text) (left : ℕ) (front : Text) → codes " 2024123 " ≡ (spaces (suc left) ++ (front ++ spaces (suc right))) ++ others → ¬ (codes "2024" ≡ front ++ tail)
    by_left right tail others (suc left) front made fronts = let letter : ◌≡◌ {A = ℕ} 0x32 0x20 = cc made in absurd (omega (arith, letter))
    by_left right tail others zero [] made fronts = let letter : ◌≡◌ {A = ℕ} 0x32 0x20 = cc made in absurd (omega (arith, letter))
    by_left right tail others zero (a ∷ []) made fronts = let letter : ◌≡◌ {A = ℕ} 0x30 0x20 = cc made in absurd (omega (arith, letter))
    by_left right tail others zero (a ∷ b ∷ []) made fronts = let letter : ◌≡◌ {A = ℕ} 0x32 0x20 = cc made in absurd (omega (arith, letter))
    by_left right tail others zero (a ∷ b ∷ c ∷ []) made fronts = let letter : ◌≡◌ {A = ℕ} 0x34 0x20 = cc made in absurd (omega (arith, letter))
    by_left right tail others zero (a ∷ b ∷ c ∷ d ∷ []) made fronts = let letter : ◌≡◌ {A = ℕ} 0x31 0x20 = cc made in absurd (omega (arith, letter))
    by_left right tail others zero (a ∷ b ∷ c ∷ d ∷ e ∷ front) made fronts = cc fronts

-- a record of one blank field has one line of its own
blank_line_of : (lines : List Text) (text : Text) → ((own : List Text) → AreLinesOf text own → own ≡ lines) → IsDrawingOf unbold false false [] [] (([] ∷ []) ∷ []) text → length lines ≡ 1
blank_line_of lines text cut is = blank_line [] lines (one_row unbold refl refl tt [] ([] ∷ []) lines text cut is)

lost_blank_line : ¬ (ShowsRows unbold false false [] [] (([] ∷ []) ∷ []) [])
lost_blank_line (inl none) = cc none.0
lost_blank_line (inr is) = let one = blank_line_of [] [] no_text_lines is in absurd (omega (arith, one))

one_more_blank_line : ¬ (ShowsRows unbold false false [] [] (([] ∷ []) ∷ []) (codes "   \n   \n"))
one_more_blank_line (inl none) = cc none.0
one_more_blank_line (inr is) =
    let one = blank_line_of (codes "   " ∷ codes "   " ∷ []) (codes "   \n   \n") (λ own are. two_lines (codes "   ") (codes "   ") own (found (codes "   \n   \n") own are)) is in absurd (omega (arith, one))

-- a text gains no space
gained_space : ¬ (ShowsRow (codes "therapist" ∷ []) (codes " the rapist "))
gained_space is =
    let row = one_row unbold refl refl tt [] (codes "therapist" ∷ []) (codes " the rapist " ∷ []) (codes " the rapist \n") (only (codes " the rapist ") (codes " the rapist \n") refl) is in
    let own = begins [] (codes "therapist") [] (codes " the rapist ") [] (one_text 0x74 (codes "herapist") refl refl) row (some_cell 0x74 (codes "herapist") [] row.row row.hold) in
    by_left own.tail own.left own.right own.front own.fronts (own.is ∙ ap (λ (t : Text). (spaces (suc own.left) ++ (own.front ++ spaces (suc own.right))) ++ t) (own.alone refl))
  where
    by_left : (tail : Text) (left right : ℕ) (front : Text) → codes "therapist" ≡ front ++ tail → ¬ (codes " the rapist " ≡ (spaces (suc left) ++ (front ++ spaces (suc right))) ++ [])
    by_left tail (suc left) right front fronts made = let letter : ◌≡◌ {A = ℕ} 0x74 0x20 = cc made in absurd (omega (arith, letter))
    by_left tail zero right [] fronts made = let letter : ◌≡◌ {A = ℕ} 0x74 0x20 = cc made in absurd (omega (arith, letter))
    by_left tail zero right (a ∷ []) fronts made = let letter : ◌≡◌ {A = ℕ} 0x68 0x20 = cc made in absurd (omega (arith, letter))
    by_left tail zero right (a ∷ b ∷ []) fronts made = let letter : ◌≡◌ {A = ℕ} 0x65 0x20 = cc made in absurd (omega (arith, letter))
    by_left tail zero zero (a ∷ b ∷ c ∷ []) fronts made = cc made
    by_left tail zero (suc right) (a ∷ b ∷ c ∷ []) fronts made = let letter : ◌≡◌ {A = ℕ} 0x72 0x20 = cc made in absurd (omega (arith, letter))
    by_left tail zero right (a ∷ b ∷ c ∷ d ∷ front) fronts made =
        let blank : 0x20 ≡ d = cc made in
        let letter : 0x72 ≡ d = cc fronts in absurd (omega (arith, blank, letter))

-- a text isn't hidden: a line has only the sequences of bold
hidden : ¬ (IsInBold (codes " a ") (codes "\u{1b}[8m a "))
hidden is = by_parts is refl refl
  where
    by_parts : {line styled : Text} → IsInBold line styled → line ≡ codes " a " → ¬ (styled ≡ codes "\u{1b}[8m a ")
    by_parts nothing none same = cc none
    by_parts (plain [] line styled own) line_is same = by_parts own line_is same
    by_parts (plain (x ∷ part) line styled own) line_is same =
        let space : x ≡ 0x20 = cc line_is in
        let escape : x ≡ 0x1B = cc same in absurd (omega (arith, space, escape))
    by_parts (bold_part part line styled own) line_is same = let letter : ◌≡◌ {A = ℕ} 0x31 0x38 = ap (λ (t : Text). slice_index_or t 2 0) same in absurd (omega (arith, letter))

-- a line that begins in bold ends in it
left_open : ¬ (IsInBold (codes "a") (codes "\u{1b}[1ma"))
left_open is = by_parts is refl refl
  where
    by_parts : {line styled : Text} → IsInBold line styled → line ≡ codes "a" → ¬ (styled ≡ codes "\u{1b}[1ma")
    by_parts nothing none same = cc none
    by_parts (plain [] line styled own) line_is same = by_parts own line_is same
    by_parts (plain (x ∷ part) line styled own) line_is same =
        let letter : x ≡ 0x61 = cc line_is in
        let escape : x ≡ 0x1B = cc same in absurd (omega (arith, letter, escape))
    by_parts (bold_part part line styled own) line_is same =
        let long = ap length same in
        let whole = length-append (codes "\u{1b}[1m" ++ (part ++ codes "\u{1b}[0m")) styled in
        let inner = length-append part (codes "\u{1b}[0m") in
        absurd (omega (arith, long, whole, inner))

-- ---- expanded records

-- a text that ends in a space doesn't end in an `m`
ends_in_m : (line front : Text) → line ≡ front ++ codes "m" → ¬ ((own : Text) × (line ≡ own ++ codes " "))
ends_in_m line front is (own, ends) =
    let letter : ◌≡◌ {A = ℕ} 0x6D 0x20 = ap (λ (t : Text). slice_index_or t 0 0) (sym (reverse-append front (codes "m")) ∙ ap reverse (sym is ∙ ends) ∙ reverse-append own (codes " ")) in absurd (omega (arith, letter))

-- one expanded record of a field `a` with the name `a`
abbrev OneExpanded : Text → Type 0
OneExpanded = AreExpanded (ShowsPairs unbold (codes "a" ∷ []) (0 ∷ [])) Record (Some 1) 1 ((codes "a" ∷ []) ∷ [])

-- it has its own number, and its heading
another_number : ¬ (OneExpanded (codes "record 2 of 1\n a  a \n"))
unfolding digits
another_number (own, rest, is, shows, more) = let letter : ◌≡◌ {A = ℕ} 0x32 0x31 = ap (λ (t : Text). slice_index_or t 7 0) is in absurd (omega (arith, letter))

no_number : ¬ (OneExpanded (codes " a  a \n"))
no_number (own, rest, is, shows, more) = let letter : ◌≡◌ {A = ℕ} 0x20 0x72 = cc is in absurd (omega (arith, letter))

-- its name isn't lost
a_stays : cleaned false (codes "a") ≡ codes "a"
unfolding chars encode
a_stays = refl

no_name : ¬ (OneExpanded (codes "record 1 of 1\n"))
unfolding digits field_at
no_name (own, rest, is, shows, more) = by_own own (ap (drop 14) is) shows
  where
    by_own : (own : Text) → ◌≡◌ {A = Text} [] (own ++ rest) → ¬ (ShowsRows unbold false true [] (true ∷ true ∷ []) ((cleaned false (codes "a") ∷ cleaned false (codes "a") ∷ []) ∷ []) own)
    by_own (b ∷ own) same shows = absurd (cc same)
    by_own [] same shows = nothing_shows_no_field unbold refl refl tt (cleaned false (codes "a") ∷ []) (true ∷ true ∷ []) (subst (λ (name : Text). ShowsRows unbold false true [] (true ∷ true ∷ []) ((name ∷ cleaned false (codes "a") ∷ []) ∷ []) []) a_stays shows)

-- its field isn't in bold, though its name is, and without names no row is
abbrev bold_names : Look
bold_names = record unbold { has_bold_header = true }

bold_field : ¬ (IsDrawingOf bold_names false true [] [] ((codes "a" ∷ codes "b" ∷ []) ∷ []) (codes "\u{1b}[1m a \u{1b}[0m\u{1b}[1m b \u{1b}[0m\n"))
bold_field is =
    let line = codes "\u{1b}[1m a \u{1b}[0m\u{1b}[1m b \u{1b}[0m" in
    ends_in_m line (codes "\u{1b}[1m a \u{1b}[0m\u{1b}[1m b \u{1b}[0") refl (ends_plain bold_names refl true [] (codes "a" ∷ codes "b" ∷ []) refl line (codes "\u{1b}[1m a \u{1b}[0m\u{1b}[1m b \u{1b}[0m\n") (only line (codes "\u{1b}[1m a \u{1b}[0m\u{1b}[1m b \u{1b}[0m\n") refl) is)

bold_row : ¬ (IsDrawingOf bold_names false false [] [] ((codes "b" ∷ []) ∷ []) (codes "\u{1b}[1m b \u{1b}[0m\n"))
bold_row is =
    let line = codes "\u{1b}[1m b \u{1b}[0m" in
    ends_in_m line (codes "\u{1b}[1m b \u{1b}[0") refl (ends_plain bold_names refl false [] (codes "b" ∷ []) refl line (codes "\u{1b}[1m b \u{1b}[0m\n") (only line (codes "\u{1b}[1m b \u{1b}[0m\n") refl) is)

-- a date that has room isn't split
abbrev date_cell : CellValue
date_cell = plain_cell (codes "2026-05-02")

split_date : ¬ (KeepsNumbers unbold 18 6 (plain_row (plain_cell (codes "day") ∷ date_cell ∷ [])))
unfolding wrapping chars encode ucd_category is_neutral is_number has_indian_groups
split_date keeps =
    let room : framed_width dashed (4 ∷ measure (codes "2026-05-02") ∷ []) ≤ 18 = omega arith in
    let whole : 10 ≤ 6 = All-head (λ line. is_nowrap line ≡ true → framed_width dashed (4 ∷ measure line ∷ []) ≤ 18 → measure line ≤ 6) (codes "2026-05-02") [] (keeps date_cell refl) refl room in
    omega (arith, whole)

-- no text follows the last record
text_after : ¬ (AreExpanded (ShowsPairs unbold [] []) Record (Some 1) 2 [] (codes " a \n"))
text_after is = cc is

-- records are always expanded if that is requested, and never if it is excluded
expanded_never : ¬ (MayExpand Never true)
expanded_never is = cc is

rows_always : ¬ (MayExpand Always false)
rows_always is = cc is

-- ---- records

abbrev expanded : Options → Options
expanded options = with_expansion Always None options

-- no record is lost if all columns are drawn
abbrev in_rows : Look
in_rows = record unbold { expansion = Never }

lost_field : (columns : ColumnsValue) (selection : Selection) (count : Option ℕ) → columns.drawn ≡ 0 ∷ [] → selection.is_numbered ≡ false → ¬ (ShowsFields false in_rows selection columns None ((codes "a" ∷ []) ∷ []) count [])
unfolding field_at
lost_field columns selection count first unnumbered (are, lined, shows) =
    nothing_shows_no_field in_rows refl refl tt [] (true ∷ [])
    (subst (λ (field : Text). Shows false (0 ∷ []) ((field ∷ []) ∷ [])) a_stays
    (subst (λ (positions : List ℕ). Shows false positions (all_rows false no_marks positions None ((codes "a" ∷ []) ∷ []))) first
    (subst (λ (b : Bool). Shows b columns.drawn (all_rows b no_marks columns.drawn None ((codes "a" ∷ []) ∷ []))) unnumbered
    (subst (λ (b : Bool). Shows selection.is_numbered columns.drawn (all_rows selection.is_numbered (mark_for b columns ((codes "a" ∷ []) ∷ [])) columns.drawn None ((codes "a" ∷ []) ∷ []))) (lined.unaligned refl) shows))))
  where
    Shows : Bool → List ℕ → List (List Text) → Type 0
    Shows b positions rows = ShowsRows in_rows false false (sides_after_number b (map (side_for columns ((codes "a" ∷ []) ∷ [])) positions)) (whole_for None Never b positions ((codes "a" ∷ []) ∷ [])) rows []

lost_record : (options : Options) → options.columns.chosen.items ≡ [] → options.columns.dropped.items ≡ [] → options.selection.is_numbered ≡ false → ¬ (ShowsRecords (with_expansion Never None options) ((codes "a" ∷ []) ∷ []) [])
lost_record options chosen dropped unnumbered is =
    lost_field columns (with_expansion Never None options).selection is.count first unnumbered
    (subst (ShowsFields false in_rows (with_expansion Never None options).selection columns None ((codes "a" ∷ []) ∷ []) is.count) (sym (is.joined ∙ append-nil is.drawn))
    (subst (λ (b : Bool). ShowsDrawn b (with_expansion Never None options) None ((codes "a" ∷ []) ∷ []) is.count is.drawn) is.expansion is.draws))
  where
    columns : ColumnsValue
    columns = columns_of_options (with_expansion Never None options) [] ((codes "a" ∷ []) ∷ [])

    first : positions_in (with_expansion Never None options) [] ((codes "a" ∷ []) ∷ []) ≡ 0 ∷ []
    first = rw chosen (rw dropped refl)

-- nor is a text that a program in C passes in a row
-- false: comfy_c::drawn_rows
abbrev one_column_of : ColumnsValue → Layout
one_column_of columns = record { columns = columns; look = in_rows; selection = record { has_header = false; is_numbered = false; limit = None; noun = Row } }

lost_text : (MayCount : Option ℕ → Type 0) (columns : ColumnsValue) → columns.drawn ≡ 0 ∷ [] → ¬ (ShowsAllFields MayCount (one_column_of columns) ((codes "a" ∷ []) ∷ []) [])
lost_text MayCount columns first is =
    lost_field columns (one_column_of columns).selection is.count first refl
    (subst (ShowsFields false in_rows (one_column_of columns).selection columns None ((codes "a" ∷ []) ∷ []) is.count) (sym (is.joined ∙ append-nil is.drawn))
    (subst (λ (b : Bool). ShowsFields b in_rows (one_column_of columns).selection columns None ((codes "a" ∷ []) ∷ []) is.count is.drawn) is.expansion is.draws))

-- fields after their numbers, and without numbers
rows_after_numbers : map (λ is_numbered. all_rows is_numbered no_marks (1 ∷ []) (Some (codes "a" ∷ codes "b" ∷ [])) ((codes "x" ∷ codes "y" ∷ []) ∷ (codes "z" ∷ []) ∷ [])) (true ∷ false ∷ [])
    ≡ ((codes "#" ∷ codes "b" ∷ []) ∷ (codes "1" ∷ codes "y" ∷ []) ∷ (codes "2" ∷ [] ∷ []) ∷ []) ∷ ((codes "b" ∷ []) ∷ (codes "y" ∷ []) ∷ ([] ∷ []) ∷ []) ∷ []
unfolding chars digits field_at encode
rows_after_numbers = refl

-- the line below the first of two records counts two, or says that there are more
abbrev first_of_two : Options → Text → Type 0
first_of_two options text = ShowsRecords (with_expansion Never (Some 1) options) ((codes "a" ∷ []) ∷ (codes "b" ∷ []) ∷ []) text

-- `2` or a space precedes its last nine characters
abbrev the_count : Text → ℕ
the_count text = slice_index_or (reverse text) 9 0

counts_two : (options : Options) (text : Text) → first_of_two options text → (the_count text ≡ 0x32) ⊎ (the_count text ≡ 0x20)
unfolding digits
counts_two options text is = by_count is.count is.is_count is.joined
  where
    by_count : (count : Option ℕ) → MatchOption count ((options.counts_all ≡ false) × (1 < 2)) (λ n. n ≡ 2) → text ≡ is.drawn ++ note_for Record false (Some 1) count → (the_count text ≡ 0x32) ⊎ (the_count text ≡ 0x20)
    by_count None more made = inr (ap (λ (t : Text). slice_index_or t 9 0) (ap reverse made ∙ reverse-append is.drawn (note_for Record false (Some 1) None)))
    by_count (Some n) two made = inl (ap (λ (t : Text). slice_index_or t 9 0) (ap reverse (made ∙ ap (λ (m : ℕ). is.drawn ++ note_for Record false (Some 1) (Some m)) two) ∙ reverse-append is.drawn (note_for Record false (Some 1) (Some 2))))

neither : (n : ℕ) → ¬ (n ≡ 0x32) → ¬ (n ≡ 0x20) → ¬ ((n ≡ 0x32) ⊎ (n ≡ 0x20))
neither n two more (inl is) = two is
neither n two more (inr is) = more is

-- so it doesn't count three, and it isn't missing
three_records : (options : Options) → ¬ (first_of_two options (codes " a \n1 of 3 records\n"))
three_records options is = neither 0x33 (λ same. absurd (omega (arith, same))) (λ same. absurd (omega (arith, same))) (counts_two options (codes " a \n1 of 3 records\n") is)

no_line_below : (options : Options) → ¬ (first_of_two options (codes " a \n"))
no_line_below options is = neither 0 (λ same. absurd (omega (arith, same))) (λ same. absurd (omega (arith, same))) (counts_two options (codes " a \n") is)

-- records aren't called rows: `d` of `records`, or `r` of `more`, precedes the last two characters
called_so : (options : Options) (text : Text) → first_of_two options text → (slice_index_or (reverse text) 2 0 ≡ 0x64) ⊎ (slice_index_or (reverse text) 2 0 ≡ 0x72)
unfolding digits
called_so options text is = by_count is.count is.is_count is.joined
  where
    by_count : (count : Option ℕ) → MatchOption count ((options.counts_all ≡ false) × (1 < 2)) (λ n. n ≡ 2) → text ≡ is.drawn ++ note_for Record false (Some 1) count → (slice_index_or (reverse text) 2 0 ≡ 0x64) ⊎ (slice_index_or (reverse text) 2 0 ≡ 0x72)
    by_count None more made = inr (ap (λ (t : Text). slice_index_or t 2 0) (ap reverse made ∙ reverse-append is.drawn (note_for Record false (Some 1) None)))
    by_count (Some n) two made = inl (ap (λ (t : Text). slice_index_or t 2 0) (ap reverse (made ∙ ap (λ (m : ℕ). is.drawn ++ note_for Record false (Some 1) (Some m)) two) ∙ reverse-append is.drawn (note_for Record false (Some 1) (Some 2))))

neither_noun : (n : ℕ) → ¬ (n ≡ 0x64) → ¬ (n ≡ 0x72) → ¬ ((n ≡ 0x64) ⊎ (n ≡ 0x72))
neither_noun n one other (inl is) = one is
neither_noun n one other (inr is) = other is

called_rows : (options : Options) → ¬ (first_of_two options (codes " a \n1 of 2 rows\n"))
called_rows options is = neither_noun 0x77 (λ same. absurd (omega (arith, same))) (λ same. absurd (omega (arith, same))) (called_so options (codes " a \n1 of 2 rows\n") is)

-- a single record isn't one of two
-- false: csv_promises::output_with_all_fields
another_count : (options : Options) → ¬ (ShowsRecords (expanded options) ((codes "a" ∷ []) ∷ []) (codes "record 1 of 2\n 1  a \n"))
unfolding digits
another_count options is =
    by_count is.count is.is_count (subst (λ (b : Bool). ShowsDrawn b (expanded options) None ((codes "a" ∷ []) ∷ []) is.count is.drawn) is.expansion is.draws) (is.joined ∙ append-nil is.drawn)
  where
    by_count : (count : Option ℕ) → MatchOption count ((options.counts_all ≡ false) × (1 < 1)) (λ n. n ≡ 1) → ShowsDrawn true (expanded options) None ((codes "a" ∷ []) ∷ []) count is.drawn → ¬ (codes "record 1 of 2\n 1  a \n" ≡ is.drawn)
    by_count None more shows made = absurd (omega (arith, more.1))
    by_count (Some n) one (own, rest, is, shows, more) made =
        let same : codes "record 1 of 2\n 1  a \n" ≡ record_line Record 1 (Some 1) ++ (own ++ rest) = made ∙ is ∙ ap (λ (m : ℕ). record_line Record 1 (Some m) ++ (own ++ rest)) one in
        let letter : ◌≡◌ {A = ℕ} 0x32 0x31 = ap (λ (t : Text). slice_index_or t 12 0) same in absurd (omega (arith, letter))

-- if a count is requested, it isn't left out
count_is_missing : (options : Options) → options.counts_all ≡ true → ¬ (first_of_two options (codes " a \nfirst 1 record; there are more\n"))
unfolding digits
count_is_missing options counts is = by_count is.count is.is_count is.joined
  where
    by_count : (count : Option ℕ) → MatchOption count ((options.counts_all ≡ false) × (1 < 2)) (λ n. n ≡ 2) → ¬ (codes " a \nfirst 1 record; there are more\n" ≡ is.drawn ++ note_for Record false (Some 1) count)
    by_count None uncounted made = absurd (cc (counts, uncounted.0))
    by_count (Some n) two made =
        let letter : ◌≡◌ {A = ℕ} 0x65 0x73 = ap (λ (t : Text). slice_index_or t 1 0) (ap reverse (made ∙ ap (λ (m : ℕ). is.drawn ++ note_for Record false (Some 1) (Some m)) two) ∙ reverse-append is.drawn (note_for Record false (Some 1) (Some 2))) in absurd (omega (arith, letter))

-- ---- texts that a terminal gets

-- a text with a harmful character isn't shown
harmful_is_not_shown : (visible : Text) (cs : List ℕ) → visible ≡ encode_utf8_all cs → list_any is_harmful cs ≡ true → ¬ (NoCharPasses is_harmful visible)
harmful_is_not_shown visible cs is some none = true≢false (sym some ∙ by_characters cs (subst (NonePass is_harmful) (encodes_same none.0 cs (none.1 ∙ is)) none.2))
  where
    by_characters : (cs : List ℕ) → NonePass is_harmful cs → list_any is_harmful cs ≡ false
    by_characters [] none = refl
    by_characters (c ∷ cs) none = rw none.0 (by_characters cs none.1)

-- false: csv_promises::harmless_output
direction_is_turned : (look : Look) → ¬ (IsHarmlessFor look (utf8 "\u{202e}"))
unfolding encode
direction_is_turned look is = harmful_is_not_shown is.visible (0x202E ∷ []) (shows_itself is.shows refl) refl is.harmless

bell_is_rung : (look : Look) → ¬ (IsHarmlessFor look (0x07 ∷ []))
unfolding encode
bell_is_rung look is = harmful_is_not_shown is.visible (0x07 ∷ []) (shows_itself is.shows refl) refl is.harmless

-- nothing is hidden, also with a bold header: the visible text has no ESC
hidden_output : ¬ (IsHarmlessFor bold (codes "\u{1b}[8ma"))
hidden_output is = by_parts (is.in_bold (inl refl)) refl is.harmless
  where
    by_parts : {line styled : Text} → IsInBold line styled → styled ≡ codes "\u{1b}[8ma" → ¬ (NoCharPasses is_harmful line)
    by_parts nothing same none = cc same
    by_parts (plain [] line styled own) same none = by_parts own same none
    by_parts (plain (x ∷ part) line styled own) same none =
        let escape : x ≡ 0x1B = cc same in
        let clear = (or_parts (x == 0x1B) _ (none_by_characters is_harmful 0x1B (omega arith) refl (x ∷ (part ++ line)) none)).0 in true≢false (sym (ap (λ (n : ℕ). n == 0x1B) escape) ∙ clear)
    by_parts (bold_part part line styled own) same none = let letter : ◌≡◌ {A = ℕ} 0x31 0x38 = ap (λ (t : Text). slice_index_or t 2 0) same in absurd (omega (arith, letter))

-- without a bold header nothing is in bold
bold_without_a_header : ¬ (IsHarmlessFor unbold (codes "\u{1b}[1ma\u{1b}[0m"))
bold_without_a_header is =
    let same = is.plain (inl (refl, refl)) in
    let clear = none_by_characters is_harmful 0x1B (omega arith) refl is.visible is.harmless in
    true≢false (ap (list_any (λ b. b == 0x1B)) same ∙ clear)

-- bold isn't open at the end of a line, if colours of fields are kept
open_at_the_end : ¬ (IsHarmlessFor (record unbold { has_sequences = true }) (codes "| \u{1b}[1mab |\n"))
open_at_the_end is =
    let own = is.closed refl in
    bold_stays_open (All-head LeavesNoneOpen (codes "| \u{1b}[1mab |") [] (subst (All LeavesNoneOpen) (one_line (codes "| \u{1b}[1mab |") own.lines (sym cut ∙ found (codes "| \u{1b}[1mab |\n") own.lines own.are)) own.each))
  where
    cut : slice_split (λ b. b == 0x0A) (codes "| \u{1b}[1mab |\n") ≡ codes "| \u{1b}[1mab |" ∷ [] ∷ []
    cut = refl

-- false: csv_promises::harmless_drawing
c1_is_harmful : ¬ (ShowsNothingHarmful (utf8 "\u{9b}2J"))
unfolding encode
c1_is_harmful (visible, shows, none) = harmful_is_not_shown visible (codes "\u{9b}2J") (shows_itself shows refl) refl none

-- ---- messages

-- a line with a harmful character
wild : (cs : List ℕ) → list_any is_replaced cs ≡ true → ¬ (IsTameLine (encode_utf8_all cs ++ codes "\n"))
wild cs some (line, made, none) = true≢false (sym some ∙ by_characters cs (subst (NonePass is_replaced) (encodes_same none.0 cs (none.1 ∙ sym (append_cancel_right (encode_utf8_all cs) line (codes "\n") made))) none.2))
  where
    by_characters : (cs : List ℕ) → NonePass is_replaced cs → list_any is_replaced cs ≡ false
    by_characters [] none = refl
    by_characters (c ∷ cs) none = rw none.0 (by_characters cs none.1)

-- false: csv_promises::harmless_message
bell_is_wild : ¬ (IsTameLine (codes "\u{7}\n"))
unfolding encode
bell_is_wild = wild (0x07 ∷ []) refl

turn_is_wild : ¬ (IsTameLine (utf8 "\u{202e}" ++ codes "\n"))
turn_is_wild = wild (0x202E ∷ []) refl

two_lines_are_wild : ¬ (IsTameLine (codes "a\nb\n"))
unfolding encode
two_lines_are_wild = wild (codes "a\nb") refl

-- ---- fields that stay

-- false: csv_promises::plain_fields_stay
-- an accent stays, and a control character is replaced
accent_stays : StaysAsItIs false (utf8 "é") → cleaned false (utf8 "é") ≡ utf8 "é"
unfolding chars encode
accent_stays stays = stays (0xE9 ∷ [], (refl, refl)) refl

control_is_replaced : ¬ (cleaned false (0x07 ∷ []) ≡ 0x07 ∷ [])
unfolding chars encode
control_is_replaced same = cc same
