-- Tables for which the premises of promises hold, and texts that break these promises.
use Rattle.std.proofs.Common.{◌≡◌, ◌==◌, ◌&&◌, inl, inr, ◌≤◌, ◌<◌, ℕ, zero, suc, Bool, true, false, not, List, [], ◌∷◌, ◌++◌, ◌∙◌, length, length-append, max, flat_map, append-nil, append_assoc, Contains, Option, Some, None, codes, refl, sym, ap, subst, arith, slice_index_or}
use Rattle.std.specs.List.{All, AllZip, join_by, list_all, slice_get}
use Rattle.std.specs.Char.{is_control}
use Rattle.std.specs.Prelude.{encode_utf8_all, replicate, slice_index}
use Rattle.std.specs.Str.{NoCharPasses}
use Prim.Native.String.{String}
use lib.Utf8.{encode}
use Rattle.std.proofs.lemmas.Bool.{or_parts}
use Rattle.std.proofs.lemmas.List.Elements.{All-from_recursion, All-head}
use Rattle.std.proofs.lemmas.Option.{same_Some}
use Rattle.std.proofs.lemmas.Str.{NoCharPasses-byte}
use Rattle.std.specs.Int.{is_in_range}
use Rattle.std.proofs.lemmas.List.{length-replicate}
use Rattle.comfy_parts.proofs.CallerLemmas.{All-at, All-every, frame_adds, measure-printable, one_column_characters}
use Rattle.comfy_parts.proofs.Computing.{wrapping}
use Rattle.comfy_parts.specs.CellValue.{ColumnInfo, info_of, new_column, CellValue, ColumnValue, RowValue, plain_cell, plain_row}
use Rattle.comfy_parts.specs.Columns.{CharactersFit, IsOneColumn}
use Rattle.comfy_parts.specs.Presets as presets
use Rattle.comfy_parts.specs.Presets.{ascii_full, utf8_full}
use Rattle.comfy_parts.specs.Text.{HasNo, IsOnly, Text, measure}
use Rattle.comfy_parts.specs.declared.style.table.ContentArrangement.{ContentArrangement}
use Rattle.comfy_parts.specs.declared.style.table.ContentArrangement.TheVariants.{Disabled, Dynamic, DynamicFullWidth}
use Rattle.comfy_parts.specs.declared.style.attribute.Attribute.{Attribute}
use Rattle.comfy_parts.specs.declared.style.attribute.Attribute.TheVariants.{Bold}
use Rattle.comfy_parts.specs.declared.style.table_style.ContentLineStyle.{ContentLineStyle}
use Rattle.comfy_parts.specs.declared.style.column.ColumnConstraint.TheVariants.{ContentWidth, Hidden}
use Rattle.comfy_parts.specs.declared.style.cell.CellAlignment.TheVariants.{Left}
use Rattle.comfy_table.specs.Frame.{frame_line, optional_frame_line}
use Rattle.comfy_table.specs.HiddenColumns.{without_hidden}
use Rattle.comfy_table.specs.TableValue.{cell_content_width, TableValue, header_and_rows, new_table, should_style, shown_columns, constrained, with_rows}
use Rattle.promises.specs.Added.{AreSameButForHidden, HasRoomFor, IsBelowAsWide, Stay, StayWithRow}
use Rattle.promises.specs.Headline.{IsFramedBy, IsHeadline, IsPiece, is_styled}
use Rattle.promises.specs.Kept.{AreShown, AreSlicesOf, ShowAllTexts, ShowWholeTexts, ShowsRow, ShowsWholeRow}
use Rattle.promises.specs.Promises.{KeepsPromises}
use Rattle.promises.specs.Shown.{AreShownEquallyWide, HasNoControls, IsHarmless, Shows}
use Rattle.promises.specs.Shown.Shows.{nothing, byte, sequence}
use Rattle.promises.specs.Tables.{CharactersFitColumns, EachShownText, EachText, HasPlainFrame, IsPlain, IsShownWhole}
use Rattle.promises.specs.Straight.{AreShownStraight, AreStraight, AreStraightWhereCharactersFit, AreStraightWhole}
use Rattle.promises.specs.Widths.{FillWidth, IsFree, IsNarrow, KeepToWidth, KeepToWidthWhereCharactersFit, frame_room}
use Rattle.test_definitions.proofs.StraightTrials.{ellipsis_is_apart}
use Rattle.test_definitions.proofs.TrialTables as tables
use Rattle.test_definitions.proofs.HeadlineTrials.{no_parameters}
use Rattle.test_definitions.proofs.KeptTrials.{squeezed, squeezed-piece}
use Rattle.test_definitions.proofs.LawTrials.{shorter_line}
use Rattle.test_definitions.proofs.TrialTables.{no_ab_inside, utf8}

-- ---- a table

abbrev pub row_of : String → String → RowValue
row_of first second = tables.row_of (first ∷ second ∷ [])

-- a header and a row of two cells, with an arrangement and a width
abbrev kept_table : ContentArrangement → Option ℕ → String → String → TableValue
kept_table a w first second =
    record (tables.table_of utf8_full ("day" ∷ "text" ∷ []) ((first ∷ second ∷ []) ∷ [])) { arrangement = a; set_width = w }

abbrev pub table_of : String → String → TableValue
table_of first second = kept_table Disabled None first second

-- ---- premises that hold

is_plain : (a : ContentArrangement) (w : Option ℕ) (first second : String) → IsPlain (kept_table a w first second)
is_plain a w first second = record { no_styles = refl; no_sequences = refl }

space : IsOneColumn None
space = frame_adds 0x20 refl

has_plain_frame : (a : ContentArrangement) (w : Option ℕ) (first second : String) → HasPlainFrame (kept_table a w first second)
unfolding wrapping encode
has_plain_frame a w first second =
    record {
      style = one_column_characters utf8_full refl;
      delimiter = space;
      column_delimiters = All-from_recursion (λ (column : ColumnValue). IsOneColumn column.delimiter) (kept_table a w first second).columns (space, (space, tt));
      cell_delimiters = All-from_recursion (λ (row : RowValue). All (λ (cell : CellValue). IsOneColumn cell.delimiter) row.cells) (header_and_rows (kept_table a w first second)) (own "day" "text", (own first second, tt));
      indicator = ellipsis_is_apart;
      paddings = All-from_recursion (λ (column : ColumnValue). 1 ≤ column.padding.0) (kept_table a w first second).columns (omega arith, (omega arith, tt));
    }
  where
    own : (one other : String) → All (λ (cell : CellValue). IsOneColumn cell.delimiter) (row_of one other).cells
    own one other = All-from_recursion (λ (cell : CellValue). IsOneColumn cell.delimiter) (row_of one other).cells (space, (space, tt))

is_free : (a : ContentArrangement) (w : Option ℕ) (first second : String) → IsFree (kept_table a w first second)
is_free a w first second = (
  omega arith,
  All-from_recursion (λ (column : ColumnValue). column.constraint ≡ None)
      (kept_table a w first second).columns (refl, (refl, tt)),
)

-- P holds for each of the four texts
each_of : (a : ContentArrangement) (w : Option ℕ) (P : Text → Type 0) (first second : String) → P (utf8 "day") → P (utf8 "text") → All P (plain_cell (utf8 first)).text_lines → All P (plain_cell (utf8 second)).text_lines → EachText P (kept_table a w first second)
unfolding encode
each_of a w P first second day text one other =
    All-from_recursion (λ (row : RowValue). All (λ (cell : CellValue). All P cell.text_lines) row.cells) (header_and_rows (kept_table a w first second)) (
      All-from_recursion (λ (cell : CellValue). All P cell.text_lines) (row_of "day" "text").cells (All-from_recursion P (utf8 "day" ∷ []) (day, tt), (All-from_recursion P (utf8 "text" ∷ []) (text, tt), tt)),
      (All-from_recursion (λ (cell : CellValue). All P cell.text_lines) (row_of first second).cells (one, (other, tt)), tt),
    )

-- Latin with an accent, and Cyrillic
characters_of_one : (a : ContentArrangement) (w : Option ℕ) → EachText (CharactersFit 1) (kept_table a w "3 mai é" "Отчёт")
unfolding wrapping encode
characters_of_one a w =
    each_of a w (CharactersFit 1) "3 mai é" "Отчёт" refl refl (All-from_recursion (CharactersFit 1) (utf8 "3 mai é" ∷ []) (refl, tt)) (All-from_recursion (CharactersFit 1) (utf8 "Отчёт" ∷ []) (refl, tt))

is_narrow : (a : ContentArrangement) (w : Option ℕ) → IsNarrow (kept_table a w "3 mai é" "Отчёт")
is_narrow a w =
    (is_plain a w "3 mai é" "Отчёт", has_plain_frame a w "3 mai é" "Отчёт", is_free a w "3 mai é" "Отчёт", characters_of_one a w)

-- three borders, four paddings and two columns take nine terminal columns
frame_of_two : frame_room (table_of "3 mai é" "Отчёт") ≡ 9
frame_of_two = refl

-- Chinese: each character takes two terminal columns
characters_of_two : CharactersFit 2 (utf8 "京都")
unfolding wrapping encode
characters_of_two = refl

is_shown_whole : IsShownWhole (table_of "京都" "김철수")
unfolding wrapping encode
is_shown_whole =
    record {
      no_constraint = (is_free Disabled None "京都" "김철수").1;
      uncut = All-from_recursion (λ (row : RowValue). row.max_height ≡ None) (header_and_rows (table_of "京都" "김철수")) (refl, (refl, tt));
      short = each_of Disabled None (λ text. measure text ≤ 65535) "京都" "김철수" (omega arith) (omega arith) (All-from_recursion (λ text. measure text ≤ 65535) (utf8 "京都" ∷ []) (omega arith, tt)) (All-from_recursion (λ text. measure text ≤ 65535) (utf8 "김철수" ∷ []) (omega arith, tt));
    }

-- two columns of these content widths
abbrev columns_of : ℕ → ℕ → List ColumnInfo
columns_of n w = info_of (new_column 0) n ∷ info_of (new_column 1) w ∷ []

-- the characters of a row's cells fit these columns
abbrev FitColumns : List ColumnInfo → RowValue → Type 0
FitColumns columns row = (i : ℕ) (column : ColumnInfo) → slice_get columns i ≡ Some column
    → column.is_hidden ≡ false → (cell : CellValue) → slice_get row.cells i ≡ Some cell
    → All (CharactersFit column.content_width) cell.text_lines

-- the characters of two cells fit if each cell's characters fit its column
two_fit : (n w : ℕ) (one other : CellValue)
    → All (CharactersFit (max 1 n)) one.text_lines
    → All (CharactersFit (max 1 w)) other.text_lines
    → FitColumns (columns_of n w) (plain_row (one ∷ other ∷ []))
two_fit n w one other first second = at
  where
    fit : (a b : ColumnInfo) (x y : CellValue) → Some a ≡ Some b → Some x ≡ Some y
        → All (CharactersFit a.content_width) x.text_lines
        → All (CharactersFit b.content_width) y.text_lines
    fit a b x y columns cells own =
        subst (λ (c : ColumnInfo). All (CharactersFit c.content_width) y.text_lines)
        (same_Some a b columns)
        (subst (λ (c : CellValue). All (CharactersFit a.content_width) c.text_lines)
        (same_Some x y cells) own)

    at : FitColumns (columns_of n w) (plain_row (one ∷ other ∷ []))
    at zero column is visible cell found =
        fit (info_of (new_column 0) n) column one cell is found first
    at (suc zero) column is visible cell found =
        fit (info_of (new_column 1) w) column other cell is found second
    at (suc (suc i)) column is visible cell found = absurd (cc found)

-- each character has room in its own column: digits in a column of one terminal column, Chinese in one of two
characters_fit_their_columns : CharactersFitColumns (table_of "17" "京都") (columns_of 1 2)
unfolding wrapping encode
characters_fit_their_columns =
    All-from_recursion (FitColumns (columns_of 1 2)) (header_and_rows (table_of "17" "京都")) (
      two_fit 1 2 (plain_cell (utf8 "day")) (plain_cell (utf8 "text")) (one_line 1 "day" refl)
          (one_line 2 "text" refl),
      (
        two_fit 1 2 (plain_cell (utf8 "17")) (plain_cell (utf8 "京都")) (one_line 1 "17" refl)
            (one_line 2 "京都" refl),
        tt,
      ),
    )
  where
    one_line : (w : ℕ) (s : String) → CharactersFit w (utf8 s)
        → All (CharactersFit w) (utf8 s ∷ [])
    one_line w s own = All-from_recursion (CharactersFit w) (utf8 s ∷ []) (own, tt)

-- a property of all texts is one of the shown texts
shown_of_all : (P : Text → Type 0) (table : TableValue) → EachText P table → EachShownText P table
shown_of_all P table each =
    All-every (λ (p : ℕ × ColumnValue). All (λ (row : RowValue). (cell : CellValue) → slice_get row.cells p.0 ≡ Some cell → All P cell.text_lines) (header_and_rows table)) (shown_columns table)
    (λ p k default under cell found. All-at (λ (c : CellValue). All P c.text_lines) (slice_index_or (header_and_rows table) k default).cells p.0 cell (each k default under) found)

-- none of these characters is a control character
no_controls : HasNoControls (table_of "é" "Отчёт")
unfolding wrapping encode
no_controls =
    record {
      texts = shown_of_all (NoCharPasses is_control) (table_of "é" "Отчёт") (each_of Disabled None (NoCharPasses is_control) "é" "Отчёт" (codes "day", refl, (refl, (refl, (refl, tt)))) (codes "text", refl, (refl, (refl, (refl, (refl, tt)))))
          (All-from_recursion (NoCharPasses is_control) (utf8 "é" ∷ []) ((codes "é", refl, (refl, tt)), tt))
          (All-from_recursion (NoCharPasses is_control) (utf8 "Отчёт" ∷ []) ((codes "Отчёт", refl, (refl, (refl, (refl, (refl, (refl, tt)))))), tt)));
      indicator = (0x2026 ∷ [], refl, (refl, tt));
      style = refl;
    }

-- a hidden column with any text
abbrev hiding : String → TableValue
hiding secret = let table : TableValue = table_of secret "oats" in record table { columns = constrained (Hidden ∷ []) table.columns }

hidden_is_gone : without_hidden (hiding "secret") ≡ without_hidden (hiding "other")
hidden_is_gone = refl

-- a row that has room: each of its cells is below a header cell that is as wide
has_room : HasRoomFor (table_of "3 mai é" "Отчёт") (row_of "day" "text")
has_room = record { columns = omega arith; widths = λ i cell found. at i cell found }
  where
    header : Contains (header_and_rows (table_of "3 mai é" "Отчёт")) (row_of "day" "text")
    header = (0, omega arith, refl)

    at : (i : ℕ) (cell : CellValue) → slice_get (row_of "day" "text").cells i ≡ Some cell
        → (above : RowValue) × (other : CellValue) × Contains (header_and_rows (table_of "3 mai é" "Отчёт")) above × (slice_get above.cells i ≡ Some other) × (cell_content_width cell ≤ cell_content_width other)
    at zero cell found = (row_of "day" "text", cell, header, found, omega arith)
    at (suc zero) cell found = (row_of "day" "text", cell, header, found, omega arith)
    at (suc (suc i)) cell found = absurd (cc found)

-- ---- what is refused

-- a character of two terminal columns, though one is allowed
pub wide_is_refused : ¬ (CharactersFit 1 (utf8 "京"))
unfolding wrapping encode
wide_is_refused is = cc is

-- U+FE01, which widens a quotation mark, takes at most two terminal columns alone
widening_alone : CharactersFit 1 (encode_utf8_all (0xFE01 ∷ []))
unfolding wrapping encode
widening_alone = refl

-- but it doesn't fit directly beside another selector, on either side
pub widening_after_a_selector : ¬ (CharactersFit 2 (encode_utf8_all (0x201C ∷ 0xFE0F ∷ 0xFE01 ∷ [])))
unfolding wrapping encode
widening_after_a_selector is = cc is

widening_before_a_selector : ¬ (CharactersFit 2 (encode_utf8_all (0x201C ∷ 0xFE01 ∷ 0xFE0E ∷ [])))
unfolding wrapping encode
widening_before_a_selector is = cc is

-- a character of two terminal columns in a column of one, though the other column has room
wide_in_the_narrow_column : ¬ (CharactersFitColumns (table_of "京" "17") (columns_of 1 2))
unfolding wrapping encode
wide_in_the_narrow_column fit =
    let own : All (CharactersFit 1) (utf8 "京" ∷ []) =
    fit 1 (row_of "京" "17") (omega arith) 0 (info_of (new_column 0) 1) refl refl
    (plain_cell (utf8 "京")) refl in
    wide_is_refused (All-head (CharactersFit 1) (utf8 "京") [] own)

-- a text in bold is harmless, and shows the text
bold_shows : Shows (codes "\u{1b}[1ma\u{1b}[0m") (codes "a")
bold_shows = sequence (codes "1") (codes "a\u{1b}[0m") (codes "a") refl (byte 0x61 (codes "\u{1b}[0m") [] refl (sequence (codes "0") [] [] refl nothing))

-- a harmless text doesn't begin with a lone ESC
lone_escape : {text shown : Text} → Shows text shown → ¬ (text ≡ 0x1B ∷ [])
lone_escape nothing is = cc is
lone_escape (byte b text shown clear rest) is = let same : b ≡ 0x1B = cc is in cc (clear, ap (λ c. c == 0x1B) same)
lone_escape (sequence code text shown all rest) is = cc is

-- nor with a sequence that clears the screen, ESC, `[`, `2`, `J`, though `m` follows
clear_screen : {text shown : Text} → Shows text shown → ¬ (text ≡ codes "\u{1b}[2Jm")
clear_screen nothing is = cc is
clear_screen (byte b text shown clear rest) is = let same : b ≡ 0x1B = cc is in cc (clear, ap (λ c. c == 0x1B) same)
clear_screen (sequence code text shown all rest) is = no_parameters code text all (cc is)

-- a text without ESC is its own visible text
pub shows_itself : {text shown : Text} → Shows text shown → HasNo 0x1B text → shown ≡ text
shows_itself nothing none = refl
shows_itself (byte b text shown clear rest) none =
    ap (λ (t : Text). b ∷ t) (shows_itself rest (or_parts (b == 0x1B) _ none).1)
shows_itself (sequence code text shown all rest) none = absurd (cc none)

-- a control character acts on the terminal, so a text with it isn't harmless
abbrev speaks : ℕ → Bool
speaks c = is_control c && not (c == 0x0A)

control_is_harmful : (c : ℕ) → c < 128 → HasNo 0x1B (c ∷ []) → speaks c ≡ true → ¬ (IsHarmless (c ∷ []))
control_is_harmful c below clear is (shown, shows, none) =
    let own : NoCharPasses speaks (c ∷ []) = subst (NoCharPasses speaks) (shows_itself shows clear) none in
    let isnt : speaks c ≡ false = NoCharPasses-byte speaks (c ∷ []) 0 own (omega arith) below in
    cc (is, isnt)

-- false: promises::harmless_text, csv_promises::harmless_output, csv_promises::harmless_drawing
bell_is_harmful : ¬ (IsHarmless (0x07 ∷ []))
bell_is_harmful = control_is_harmful 0x07 (omega arith) refl refl

-- nor is a carriage return, a lone ESC, or a sequence that clears the screen
return_is_harmful : ¬ (IsHarmless (0x0D ∷ []))
return_is_harmful = control_is_harmful 0x0D (omega arith) refl refl

escape_is_harmful : ¬ (IsHarmless (0x1B ∷ []))
escape_is_harmful (shown, shows, none) = lone_escape shows refl

clearing_is_harmful : ¬ (IsHarmless (codes "\u{1b}[2Jm"))
clearing_is_harmful (shown, shows, none) = clear_screen shows refl

-- ---- what no call returns

-- lines of two widths
abbrev uneven : List Text
uneven = codes "ab" ∷ codes "a" ∷ []

-- false: promises::straight_lines
uneven_lines : ¬ (AreStraight (table_of "3 mai é" "Отчёт") uneven)
uneven_lines is =
    shorter_line (is (is_plain Disabled None "3 mai é" "Отчёт") (has_plain_frame Disabled None "3 mai é" "Отчёт") (characters_of_one Disabled None))

-- false: promises::straight_whole_lines
uneven_whole_lines : ¬ (AreStraightWhole (table_of "京都" "김철수") uneven)
uneven_whole_lines is =
    shorter_line (is (is_plain Disabled None "京都" "김철수") (has_plain_frame Disabled None "京都" "김철수") refl is_shown_whole)

uneven_is_not_shown_straight : ¬ (AreShownEquallyWide uneven)
unfolding wrapping
uneven_is_not_shown_straight (n, each) =
    let first = each 0 [] (omega arith) in
    let second = each 1 [] (omega arith) in
    let two : 2 ≡ n = ap measure (sym (shows_itself first.1 refl)) ∙ first.2 in
    let one : 1 ≡ n = ap measure (sym (shows_itself second.1 refl)) ∙ second.2 in
    absurd (omega (arith, two, one))

e_fits : EachText (CharactersFit 1) (table_of "é" "Отчёт")
unfolding wrapping encode
e_fits =
    each_of Disabled None (CharactersFit 1) "é" "Отчёт" refl refl (All-from_recursion (CharactersFit 1) (utf8 "é" ∷ []) (refl, tt)) (All-from_recursion (CharactersFit 1) (utf8 "Отчёт" ∷ []) (refl, tt))

-- false: promises::straight_styled_lines
uneven_styled_lines : ¬ (AreShownStraight (table_of "é" "Отчёт") uneven)
uneven_styled_lines is =
    uneven_is_not_shown_straight (is no_controls (has_plain_frame Disabled None "é" "Отчёт") e_fits)

-- nor are they straight if each character has room in its column
uneven_fitting_lines : ¬ (AreStraightWhereCharactersFit (table_of "17" "京都") (columns_of 1 2) uneven)
uneven_fitting_lines (are, straight) =
    shorter_line (straight (is_plain Disabled None "17" "京都") (has_plain_frame Disabled None "17" "京都") characters_fit_their_columns)

-- a line of ten terminal columns, though the frame takes nine
pub ten : measure (codes "0123456789") ≡ 10
unfolding wrapping
ten = refl

abbrev ten_wide : List Text
ten_wide = codes "0123456789" ∷ []

-- false: promises::lines_within
wider_than_the_width : ¬ (KeepToWidth (kept_table Dynamic (Some 3) "3 mai é" "Отчёт") 3 ten_wide)
wider_than_the_width is =
    let few : measure (codes "0123456789") ≤ 9 = is (is_narrow Dynamic (Some 3)) 0 [] (omega arith) in omega (arith, few, ten)

wider_fitting_lines : ¬ (KeepToWidthWhereCharactersFit (kept_table Dynamic (Some 3) "17" "京都") (columns_of 1 2) ten_wide)
wider_fitting_lines (are, keeps) =
    let few : measure (codes "0123456789") ≤ 9 = keeps 3 refl refl (is_plain Dynamic (Some 3) "17" "京都") (has_plain_frame Dynamic (Some 3) "17" "京都") (is_free Dynamic (Some 3) "17" "京都") characters_fit_their_columns 0 [] (omega arith) in
    omega (arith, few, ten)

-- false: promises::lines_over
narrower_than_the_width : ¬ (FillWidth (kept_table DynamicFullWidth (Some 11) "3 mai é" "Отчёт") 11 ten_wide)
narrower_than_the_width is =
    let all : measure (codes "0123456789") ≡ 11 = is (is_narrow DynamicFullWidth (Some 11)) (omega arith) 0 [] (omega arith) in omega (arith, all, ten)

wider_than_filled : ¬ (FillWidth (kept_table DynamicFullWidth (Some 9) "3 mai é" "Отчёт") 9 ten_wide)
wider_than_filled is =
    let all : measure (codes "0123456789") ≡ 9 = is (is_narrow DynamicFullWidth (Some 9)) (omega arith) 0 [] (omega arith) in omega (arith, all, ten)

pub no_lines_lose_texts : ¬ (AreShown (ShowsRow (table_of "3 mai" "oats")) (table_of "3 mai" "oats") [])
no_lines_lose_texts (width, is) = cc is.drawn

no_lines_lose_whole_texts : ¬ (AreShown (ShowsWholeRow (table_of "3 mai" "oats")) (table_of "3 mai" "oats") [])
no_lines_lose_whole_texts (width, is) = cc is.drawn

-- ---- a word that is shown, and a whole text

-- a table of one cell, without a frame
abbrev cell_table : Bool → CellValue → TableValue
cell_table styles cell = with_rows (plain_row (cell ∷ []) ∷ []) (record (new_table presets.nothing) { enforce_styling = styles })

abbrev word_table : Text → TableValue
word_table text = cell_table false (plain_cell text)

-- a word, which may have attributes
abbrev word : List Attribute → CellValue
word attributes = record (plain_cell (codes "ab")) { attributes = attributes }

-- the word in a table that may write styles
abbrev styled_word : Bool → TableValue
styled_word styles = cell_table styles (word [])

abbrev place : ℕ × ColumnValue
place = (0, new_column 0)

-- a single slice with all of a word is the word
only_slice : (slice : Text) → AreSlicesOf 0x20 (codes "ab") (slice ∷ []) → slice ≡ codes "ab"
unfolding encode
only_slice slice (inl whole) = cc whole
only_slice slice (inr (tail, is, ends, (n, only))) = by_gap is.gap is.gap_is_delimiters is.splits
  where
    by_tail : (n : ℕ) (slice tail : Text) → tail ≡ encode_utf8_all (replicate n 0x20) → codes "ab" ≡ slice ++ tail → slice ≡ codes "ab"
    by_tail zero slice tail none made = sym (made ∙ ap (λ (t : Text). slice ++ t) none ∙ append-nil slice)
    by_tail (suc n) [] tail some made = let letter : ◌≡◌ {A = ℕ} 0x61 0x20 = cc (made, some) in absurd (omega (arith, letter))
    by_tail (suc n) (x ∷ []) tail some made = let letter : ◌≡◌ {A = ℕ} 0x62 0x20 = cc (made, some) in absurd (omega (arith, letter))
    by_tail (suc n) (x ∷ y ∷ []) tail some made = cc (made, some)
    by_tail (suc n) (x ∷ y ∷ z ∷ slice) tail some made = cc made

    by_gap : (gap : Text) → IsOnly 0x20 gap → codes "ab" ≡ gap ++ (slice ++ tail) → slice ≡ codes "ab"
    by_gap [] none made = by_tail n slice tail only made
    by_gap (g ∷ gap) (zero, none) made = cc none
    by_gap (g ∷ gap) (suc m, some) made = let letter : ◌≡◌ {A = ℕ} 0x61 0x20 = cc (made, some) in absurd (omega (arith, letter))

no_slice : ¬ (AreSlicesOf 0x20 (codes "ab") [])
unfolding encode
no_slice (inl whole) = cc whole
no_slice (inr (zero, only)) = cc only
no_slice (inr (suc n, only)) = let letter : ◌≡◌ {A = ℕ} 0x61 0x20 = cc only in absurd (omega (arith, letter))

-- the lines of a table of one cell are those of its row
block_is : (styles : Bool) (cell : CellValue) (Shows : ContentLineStyle → RowValue → List Text → Type 0) (width : ℕ → ℕ) (lines : List Text) → IsFramedBy Shows (cell_table styles cell) width lines → Shows presets.nothing.content_lines (plain_row (cell ∷ [])) lines
block_is styles cell Shows width lines is = by_rows is.rows is.are_rows (is.drawn ∙ ap (λ (header : List Text). header ++ (join_by (λ (block : List Text). block) [] is.rows ++ [])) is.is_header)
  where
    by_rows : (rows : List (List Text)) → AllZip (Shows presets.nothing.content_lines) (plain_row (cell ∷ []) ∷ []) rows → lines ≡ join_by (λ (block : List Text). block) [] rows ++ [] → Shows presets.nothing.content_lines (plain_row (cell ∷ [])) lines
    by_rows [] each made = absurd each
    by_rows (block ∷ other ∷ rows) each made = absurd each.1
    by_rows (block ∷ []) each made = subst (Shows presets.nothing.content_lines (plain_row (cell ∷ []))) (sym (made ∙ append-nil (block ++ []) ∙ append-nil block)) each.0

-- a line of one piece is the piece
piece_is : (styles : Bool) (w : ℕ) (part line : Text) (pieces : List Text) → AllZip (λ (p : ℕ × ColumnValue). IsPiece styles Left p.1 w part) (place ∷ []) pieces → line ≡ join_by (λ (piece : Text). piece) [] pieces ++ [] → IsPiece styles Left (new_column 0) w part line
piece_is styles w part line [] zip made = absurd zip
piece_is styles w part line (piece ∷ other ∷ pieces) zip made = absurd zip.1
piece_is styles w part line (piece ∷ []) zip made = subst (IsPiece styles Left (new_column 0) w part) (sym (made ∙ append-nil (piece ++ []) ∙ append-nil piece)) zip.0

-- a line that shows the word is a piece with it
word_is : (styles : Bool) (attributes : List Attribute) (line : Text) → AreShown (ShowsRow (cell_table styles (word attributes))) (cell_table styles (word attributes)) (line ∷ [])
    → (w : ℕ) × IsPiece (is_styled (should_style (cell_table styles (word attributes))) (plain_row (word attributes ∷ [])) place) Left (new_column 0) w (codes "ab") line
word_is styles attributes line (width, is) = (
  width 0,
  subst (λ (part : Text). IsPiece (is_styled (should_style (cell_table styles (word attributes))) (plain_row (word attributes ∷ [])) place) Left (new_column 0) (width 0) part line) part_is
      (piece_is (is_styled (should_style (cell_table styles (word attributes))) (plain_row (word attributes ∷ [])) place) (width 0) (slice_index_or (row.slices place) 0 []) line here.0 here.1 here.2),
)
  where
    row : ShowsRow (cell_table styles (word attributes)) width presets.nothing.content_lines (plain_row (word attributes ∷ [])) (line ∷ [])
    row = block_is styles (word attributes) (ShowsRow (cell_table styles (word attributes)) width) width (line ∷ []) is

    here : (pieces : List Text) × AllZip (λ (p : ℕ × ColumnValue). IsPiece (is_styled (should_style (cell_table styles (word attributes))) (plain_row (word attributes ∷ [])) p) Left p.1 (width p.0) (slice_index_or (row.slices p) 0 [])) (place ∷ []) pieces × (line ≡ join_by (λ (piece : Text). piece) [] pieces ++ [])
    here = row.shown.drawn 0 (omega arith)

    by_slices : (slices : List Text) → length slices ≡ 1 → (of_texts : List (List Text)) → AllZip (AreSlicesOf 0x20) (codes "ab" ∷ []) of_texts → slices ≡ flat_map (λ (of_text : List Text). of_text) of_texts → slices ≡ codes "ab" ∷ []
    by_slices slices few [] zip same = absurd zip
    by_slices slices few (own ∷ other ∷ more) zip same = absurd zip.1
    by_slices slices few ([] ∷ []) zip same = absurd (no_slice zip.0)
    by_slices slices few ((slice ∷ []) ∷ []) zip same = same ∙ ap (λ (t : Text). t ∷ []) (only_slice slice zip.0)
    by_slices slices few ((slice ∷ other ∷ own) ∷ []) zip same = let long = ap length same in absurd (omega (arith, few, long))

    part_is : slice_index_or (row.slices place) 0 [] ≡ codes "ab"
    part_is =
        let high = row.shown.as_high in
        let own = row.are_slices refl 0 place (omega arith) in ap (λ (ls : List Text). slice_index_or ls 0 []) (by_slices (row.slices place) (omega (arith, high)) own.0 own.1 own.2)

-- it isn't torn
torn_word : ¬ (AreShown (ShowsRow (styled_word false)) (styled_word false) (codes " a      b " ∷ []))
torn_word is = let own = word_is false [] (codes " a      b ") is in no_ab_inside (codes " a      b ") refl own.1.before own.1.after own.1.drawn

-- it isn't another text if styles are written
other_styled_word : ¬ (AreShown (ShowsRow (styled_word true)) (styled_word true) (codes " XY " ∷ []))
other_styled_word is = let own = word_is true [] (codes " XY ") is in no_ab_inside (codes " XY ") refl own.1.before own.1.after own.1.drawn

-- it has no sequence inside, if it has an attribute
coloured_inside : ¬ (AreShown (ShowsRow (cell_table true (word (Bold ∷ [])))) (cell_table true (word (Bold ∷ []))) (codes " a\u{1b}[31mb " ∷ []))
coloured_inside is = let own = word_is true (Bold ∷ []) (codes " a\u{1b}[31mb ") is in no_ab_inside (codes " a\u{1b}[31mb ") refl own.1.before own.1.after own.1.drawn

-- it has no sequence beside it, if it has no attribute
hidden_word : ¬ (AreShown (ShowsRow (styled_word true)) (styled_word true) (codes "\u{1b}[8m ab " ∷ []))
hidden_word is =
    let own = word_is true [] (codes "\u{1b}[8m ab ") is in
    let escape : ◌≡◌ {A = ℕ} 0x1B 0x61 = cc (squeezed-piece (new_column 0) own.0 (codes "ab") (codes "\u{1b}[8m ab ") own.1) in absurd (omega (arith, escape))

-- its slice doesn't lack a letter
lost_letter : ¬ (AreSlicesOf 0x20 (codes "ab") (codes "a" ∷ []))
lost_letter own = cc (only_slice (codes "a") own)

-- it has no other letter beside it
word_with_more : ¬ (AreShown (ShowsRow (styled_word false)) (styled_word false) (codes " abs " ∷ []))
word_with_more is = let own = word_is false [] (codes " abs ") is in cc (squeezed-piece (new_column 0) own.0 (codes "ab") (codes " abs ") own.1)

-- there is no text if the row has no cell
text_without_a_cell : (width : ℕ → ℕ) → ¬ (ShowsRow (styled_word false) width presets.nothing.content_lines (plain_row []) (codes " x " ∷ []))
text_without_a_cell width row =
    let here = row.shown.drawn 0 (omega arith) in
    let part = ap (λ (slices : List Text). slice_index_or slices 0 []) (row.are_slices refl 0 place (omega arith)) in
    let own = piece_is false (width 0) (slice_index_or (row.slices place) 0 []) (codes " x ") here.0 here.1 here.2 in
    cc (squeezed-piece (new_column 0) (width 0) (slice_index_or (row.slices place) 0 []) (codes " x ") own ∙ ap squeezed part)

-- `91.50` doesn't show `1`
other_whole_text : ¬ (AreShown (ShowsWholeRow (word_table (codes "1"))) (word_table (codes "1")) (codes " 91.50 " ∷ []))
other_whole_text (width, is) =
    let row = block_is false (plain_cell (codes "1")) (ShowsWholeRow (word_table (codes "1")) width) width (codes " 91.50 " ∷ []) is in
    let here = row.drawn 0 (omega arith) in
    let own = piece_is false (width 0) (codes "1") (codes " 91.50 ") here.0 here.1 here.2 in
    let digit : ◌≡◌ {A = ℕ} 0x39 0x31 = cc (squeezed-piece (new_column 0) (width 0) (codes "1") (codes " 91.50 ") own) in absurd (omega (arith, digit))

-- a whole text isn't on two lines
sliced_text : (width : ℕ → ℕ) → ¬ (ShowsWholeRow (word_table (codes "ab")) width presets.nothing.content_lines (plain_row (plain_cell (codes "ab") ∷ [])) (codes " a " ∷ codes " b " ∷ []))
sliced_text width shows = let high : 2 ≡ 1 = shows.as_high in absurd (omega (arith, high))

other_line : ¬ (uneven ≡ codes "ab" ∷ codes "b" ∷ [])
other_line is = let letter : ◌≡◌ {A = ℕ} 0x61 0x62 = cc is in absurd (omega (arith, letter))

changed_line : (table : TableValue) → ¬ (Stay table (codes "a" ∷ []) (codes "b" ∷ []))
changed_line table (above, added, widths, before, after) = by_above above (optional_frame_line table.style table.style.bottom_border widths) added before after
  where
    other : ¬ (codes "a" ≡ codes "b")
    other is = let letter : ◌≡◌ {A = ℕ} 0x61 0x62 = cc is in absurd (omega (arith, letter))

    by_above : (above last added : List Text) → codes "a" ∷ [] ≡ above ++ last → ¬ (codes "b" ∷ [] ≡ above ++ (added ++ last))
    by_above [] last [] before after = let own : codes "a" ≡ codes "b" = cc (before, after) in other own
    by_above [] last (x ∷ []) before after = let own : [] ≡ codes "a" ∷ [] = cc (before, after) in cc own
    by_above [] last (x ∷ y ∷ added) before after = cc after
    by_above (x ∷ above) last added before after = let own : codes "a" ≡ codes "b" = cc (before, after) in other own

-- false: promises::headline
no_lines_are_no_table : ¬ (IsHeadline (table_of "3 mai" "oats") [])
no_lines_are_no_table is = cc (is.unstyled refl refl ∙ is.is_plain.framed.frame.drawn)

-- ---- tables that don't meet the conditions

-- colours are written, or sequences count nothing
writes_styles : ¬ (IsPlain (styled_word true))
writes_styles is = cc is.no_styles

searches_texts : ¬ (IsPlain (record (word_table (codes "ab")) { custom_styling = true }))
searches_texts is = cc is.no_sequences

-- a column has a constraint, a row is cut, or no column is shown
constrained_word : TableValue
constrained_word = record (word_table (codes "ab")) { columns = record (new_column 0) { constraint = Some ContentWidth } ∷ [] }

constrained_column : ¬ (IsShownWhole constrained_word)
unfolding constrained_word
constrained_column is = cc (is.no_constraint 0 (new_column 0) (omega arith))

constrained_column_keeps_no_width : ¬ (IsFree constrained_word)
unfolding constrained_word
constrained_column_keeps_no_width is = cc (is.1 0 (new_column 0) (omega arith))

cut_row : ¬ (IsShownWhole (record (word_table (codes "ab")) { rows = record (row_of "ab" "cd") { max_height = Some 1 } ∷ [] }))
cut_row is = cc (is.uncut 0 (row_of "ab" "cd") (omega arith))

hidden_column : ¬ (IsFree (record (word_table (codes "ab")) { columns = record (new_column 0) { constraint = Some Hidden } ∷ [] }))
hidden_column is = let none : 0 < 0 = is.0 in absurd (omega (arith, none))

-- a bell is in a shown text, in the indicator, or in the style
bell_speaks : ¬ (NoCharPasses is_control (0x07 ∷ []))
bell_speaks none = let isnt : true ≡ false = NoCharPasses-byte is_control (0x07 ∷ []) 0 none (omega arith) (omega arith) in cc isnt

bell_in_a_text : ¬ (HasNoControls (word_table (0x07 ∷ [])))
bell_in_a_text free = bell_speaks (free.texts 0 (0, new_column 0) (omega arith) 0 (plain_row []) (omega arith) (plain_cell (0x07 ∷ [])) refl 0 [] (omega arith))

bell_in_the_indicator : ¬ (HasNoControls (record (word_table []) { indicator = 0x07 ∷ [] }))
bell_in_the_indicator free = bell_speaks free.indicator

bell_in_the_style : ¬ (HasNoControls (new_table (record presets.nothing { content_lines = record presets.nothing.content_lines { left = Some 0x07 } })))
bell_in_the_style free = cc free.style

-- another text is in a shown column
other_shown_text : ¬ (without_hidden (word_table (codes "ab")) ≡ without_hidden (word_table (codes "ac")))
other_shown_text same =
    let letter : 0x62 ≡ 0x63 = ap (λ (t : TableValue). slice_index (slice_index_or (slice_index_or (slice_index_or t.rows 0 (plain_row [])).cells 0 (plain_cell [])).text_lines 0 []) 1) same in
    absurd (omega (arith, letter))

-- a further row has a further cell, or a wider one
further_cell : ¬ (HasRoomFor (word_table (codes "ab")) (row_of "a" "b"))
further_cell room = let few : 2 ≤ 1 = room.columns in absurd (omega (arith, few))

wider_cell : ¬ (HasRoomFor (word_table (codes "a")) (plain_row (plain_cell (codes "ab") ∷ [])))
unfolding wrapping
wider_cell room = by_row own.0 own.1 own.2 own.3 own.4
  where
    own : IsBelowAsWide (word_table (codes "a")) 0 (plain_cell (codes "ab"))
    own = room.widths 0 (plain_cell (codes "ab")) refl

    by_row : (above : RowValue) (other : CellValue) → Contains (header_and_rows (word_table (codes "a"))) above → slice_get above.cells 0 ≡ Some other → ¬ (2 ≤ cell_content_width other)
    by_row above other (suc k, below, is) found wide = absurd (omega (arith, below))
    by_row above other (zero, below, is) found wide =
        let same : plain_cell (codes "a") ≡ other = same_Some (plain_cell (codes "a")) other (ap (λ (r : RowValue). slice_get r.cells 0) is ∙ found) in
        let one : 1 ≡ cell_content_width other = ap cell_content_width same in
        omega (arith, wide, one)

-- a line is above those that were there, or one of them is missing
line_above : ¬ (Stay (word_table (codes "a")) (codes "a" ∷ codes "b" ∷ []) (codes "c" ∷ codes "a" ∷ codes "b" ∷ []))
line_above (above, added, widths, before, after) = by_above above before after
  where
    other : ¬ (codes "a" ≡ codes "c")
    other is = let letter : ◌≡◌ {A = ℕ} 0x61 0x63 = cc is in absurd (omega (arith, letter))

    by_above : (above : List Text) → codes "a" ∷ codes "b" ∷ [] ≡ above ++ [] → ¬ (codes "c" ∷ codes "a" ∷ codes "b" ∷ [] ≡ above ++ (added ++ []))
    by_above [] before after = cc before
    by_above (x ∷ above) before after = let own : codes "a" ≡ codes "c" = cc (before, after) in other own

lost_line : (table : TableValue) → ¬ (Stay table (codes "a" ∷ codes "b" ∷ []) (codes "a" ∷ []))
lost_line table (above, added, widths, before, after) =
    let last = optional_frame_line table.style table.style.bottom_border widths in
    let two = ap length before in
    let one = ap length after in
    omega (arith, two, one, length-append above last, length-append above (added ++ last), length-append added last)

-- or a row is added below the bottom border
row_below_the_border : ¬ (Stay (new_table ascii_full) (codes "| a |" ∷ codes "+---+" ∷ []) (codes "| a |" ∷ codes "+---+" ∷ codes "| b |" ∷ []))
unfolding encode
row_below_the_border (above, added, widths, before, after) =
    let border = frame_line ascii_full ascii_full.bottom_border widths in
    let last = by_front (above ++ added) border (after ∙ sym (append_assoc above added (border ∷ []))) in
    let corner : ◌≡◌ {A = ℕ} 0x7C 0x2B = ap (λ (t : Text). slice_index t 0) last in
    absurd (omega (arith, corner))
  where
    by_front : (front : List Text) (border : Text) → codes "| a |" ∷ codes "+---+" ∷ codes "| b |" ∷ [] ≡ front ++ border ∷ [] → codes "| b |" ≡ border
    by_front [] border is = let few : 3 ≡ 1 = ap length is in absurd (omega (arith, few))
    by_front (x ∷ []) border is = let few : 3 ≡ 2 = ap length is in absurd (omega (arith, few))
    by_front (x ∷ y ∷ []) border is = cc is
    by_front (x ∷ y ∷ z ∷ front) border is = let many = ap length is in absurd (omega (arith, many, length-append front (border ∷ [])))

-- a text is too long to be drawn whole
long_text : ¬ (IsShownWhole (record (word_table []) { rows = plain_row (record (plain_cell []) { text_lines = replicate 65536 0x61 ∷ [] } ∷ []) ∷ [] }))
long_text is =
    let few : measure (replicate 65536 0x61) ≤ 65535 = is.short 0 (plain_row []) (omega arith) 0 (plain_cell []) (omega arith) 0 [] (omega arith) in
    let long = measure-printable (replicate 65536 0x61) (printable 65536) in
    omega (arith, few, long, length-replicate {A = ℕ} 65536 0x61)
  where
    printable : (n : ℕ) → list_all (is_in_range 0x20 0x7E) (replicate n 0x61) ≡ true
    printable zero = refl
    printable (suc n) = printable n

-- a character takes two terminal columns
wide_table : ¬ (IsNarrow (word_table (utf8 "京")))
unfolding encode
wide_table is = wide_is_refused (is.3 0 (plain_row []) (omega arith) 0 (plain_cell []) (omega arith) 0 [] (omega arith))

-- ---- promises at large

-- false: promises::lines_with_all_texts
torn_texts : ¬ (ShowAllTexts (styled_word false) (codes " a      b " ∷ []))
torn_texts is = torn_word (is refl)

one_is_whole : IsShownWhole (word_table (codes "1"))
unfolding wrapping
one_is_whole =
    record {
      no_constraint = All-from_recursion (λ (column : ColumnValue). column.constraint ≡ None) (word_table (codes "1")).columns (refl, tt);
      uncut = All-from_recursion (λ (row : RowValue). row.max_height ≡ None) (header_and_rows (word_table (codes "1"))) (refl, tt);
      short = All-from_recursion (λ (row : RowValue). All (λ (cell : CellValue). All (λ text. measure text ≤ 65535) cell.text_lines) row.cells) (header_and_rows (word_table (codes "1"))) (All-from_recursion (λ (cell : CellValue). All (λ text. measure text ≤ 65535) cell.text_lines) (plain_cell (codes "1") ∷ []) (All-from_recursion (λ text. measure text ≤ 65535) (codes "1" ∷ []) (omega arith, tt), tt), tt);
    }

-- false: promises::lines_with_whole_texts
other_texts : ¬ (ShowWholeTexts (word_table (codes "1")) (codes " 91.50 " ∷ []))
other_texts is = other_whole_text (is refl refl one_is_whole)

-- false: promises::lines_of_both
a_hidden_text_tells : ¬ (AreSameButForHidden (hiding "secret") (hiding "other") uneven (codes "ab" ∷ codes "b" ∷ []))
a_hidden_text_tells is = other_line (is hidden_is_gone)

-- false: promises::lines_before_and_after
a_line_changes : ¬ (StayWithRow (table_of "3 mai é" "Отчёт") (row_of "day" "text") (codes "a" ∷ []) (codes "b" ∷ []))
a_line_changes is = changed_line (table_of "3 mai é" "Отчёт") (is refl refl has_room)

-- none of these keeps all promises
-- false: promises::laws::drawings_keep_the_promises
uneven_keeps_nothing : ¬ (KeepsPromises (table_of "3 mai é" "Отчёт") uneven)
uneven_keeps_nothing kept = uneven_lines kept.straight

uneven_whole_keeps_nothing : ¬ (KeepsPromises (table_of "京都" "김철수") uneven)
uneven_whole_keeps_nothing kept = uneven_whole_lines kept.straight_whole

uneven_styled_keeps_nothing : ¬ (KeepsPromises (table_of "é" "Отчёт") uneven)
uneven_styled_keeps_nothing kept = uneven_styled_lines kept.straight_styled

wider_keeps_nothing : ¬ (KeepsPromises (kept_table Dynamic (Some 3) "3 mai é" "Отчёт") ten_wide)
wider_keeps_nothing kept = wider_than_the_width (kept.within 3 refl refl)

narrower_keeps_nothing : ¬ (KeepsPromises (kept_table DynamicFullWidth (Some 11) "3 mai é" "Отчёт") ten_wide)
narrower_keeps_nothing kept = narrower_than_the_width (kept.over 11 refl refl)

torn_keeps_nothing : ¬ (KeepsPromises (styled_word false) (codes " a      b " ∷ []))
torn_keeps_nothing kept = torn_texts kept.all_texts

other_keeps_nothing : ¬ (KeepsPromises (word_table (codes "1")) (codes " 91.50 " ∷ []))
other_keeps_nothing kept = other_texts kept.whole_texts

bell_keeps_nothing : ¬ (KeepsPromises (table_of "é" "Отчёт") ((0x07 ∷ []) ∷ []))
bell_keeps_nothing kept = bell_is_harmful (kept.harmless no_controls)
