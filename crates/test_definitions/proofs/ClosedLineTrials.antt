-- Lines that leave a sequence open and lines that don't, and the lines of a cell that aren't cut, computed.
use Rattle.std.proofs.Common.{◌≡◌, ◌<◌, ◌≤◌, ◌⊎◌, ℕ, zero, suc, ◌+◌, arith, drop, lit≤, inl, inr, map, true, false, List, [], ◌∷◌, ◌++◌, Some, None, refl, sym, ap, ap₂, ◌∙◌, ◌==◌, length, slice_index_or, take}
use Rattle.std.specs.List.{All, AllZip}
use Rattle.std.specs.Prelude.{codes}
use Rattle.std.proofs.lemmas.List.Elements.{All-cons, All-head, All-nil}
use Rattle.std.proofs.Math.Seq.{drop-nil}
use Rattle.std.proofs.lemmas.Bool.{true≢false}
use Rattle.comfy_parts.proofs.Computing.{wrapping}
use Rattle.comfy_parts.specs.CellValue.{CellValue, ColumnInfo, ColumnValue, RowValue, new_column, plain_cell, plain_row}
use Rattle.comfy_parts.specs.Presets.{ascii_full, nothing}
use Rattle.comfy_parts.specs.Text.{Text}
use Rattle.comfy_parts.specs.VisibleLines.{CellLine, LineStart}
use Rattle.comfy_parts.specs.VisibleText.{active, open_after, parts, parts_before, visible_text}
use Rattle.comfy_table.specs.Drawing.{drawing}
use Rattle.comfy_table.specs.Laws.{HasNoEscape, HasSequencesInTextsAlone, LeavesNoneOpen, uncut_in_row}
use Rattle.comfy_table.specs.TableValue.{TableValue, column_cells, new_table, visible_cell}
use Rattle.promises.specs.Headline.{AreInOrder, ResumeTheirSequences, ResumesSequences}
use Rattle.test_definitions.proofs.TrialTables.{rows_of, utf8, with_paddings}

-- ---- lines

bold_is_open : open_after (parts (codes "| \u{1b}[1mab |")) ≡ codes "\u{1b}[1m" ∷ []
bold_is_open = refl

-- such a line leaves a sequence open
-- false: comfy_parts::laws::lines_leave_no_sequence_open
-- false: comfy_table::laws::new_tables_leave_no_sequence_open
pub bold_stays_open : ¬ (LeavesNoneOpen (codes "| \u{1b}[1mab |"))
bold_stays_open none = true≢false (sym (ap (λ (ss : List Text). length ss == 0) none))

bold_is_closed : LeavesNoneOpen (codes "| \u{1b}[1mab\u{1b}[0m |")
bold_is_closed = refl

-- half a sequence opens nothing
half_is_none : LeavesNoneOpen (codes "| \u{1b}[1 |")
half_is_none = refl

-- a cell's own attributes end with a reset
attribute_is_closed : LeavesNoneOpen (codes "|\u{1b}[1m x \u{1b}[0m|")
attribute_is_closed = refl

-- its colours end with another sequence, which also counts as open
colour_stays_open : open_after (parts (codes "|\u{1b}[38;5;10m x \u{1b}[39m|")) ≡ codes "\u{1b}[38;5;10m" ∷ codes "\u{1b}[39m" ∷ []
colour_stays_open = refl

-- ---- halves of a sequence in two cells

abbrev pub halves : TableValue
halves = record (rows_of nothing (("\u{1b}[1" ∷ "m" ∷ []) ∷ [])) { custom_styling = true }

abbrev joined_halves : TableValue
joined_halves = with_paddings ((0, 0) ∷ (0, 0) ∷ []) halves

-- separated by paddings, they stay halves
halves_apart : drawing halves (3 ∷ 1 ∷ []) ≡ codes " \u{1b}[1  m " ∷ []
unfolding wrapping
halves_apart = refl

-- next to each other they form a sequence, which stays open
halves_join : drawing joined_halves (3 ∷ 1 ∷ []) ≡ codes "\u{1b}[1m" ∷ []
unfolding wrapping
halves_join = refl

joined_stays_open : ¬ (LeavesNoneOpen (codes "\u{1b}[1m"))
joined_stays_open none = true≢false (sym (ap (λ (ss : List Text). length ss == 0) none))

-- a column has a left padding, or no ESC in its cells
abbrev EndsInTexts : TableValue → ℕ × ColumnValue → Type 0
EndsInTexts table p = (1 ≤ p.1.padding.1) ⊎ All (λ (cell : CellValue). All HasNoEscape cell.text_lines) (column_cells table p.0)

pub halves_end_in_texts : HasSequencesInTextsAlone halves
halves_end_in_texts =
    record { styling = inl refl; style = record { indicator = refl; characters = refl }; ends = All-cons (EndsInTexts halves) (0, new_column 0) ((1, new_column 1) ∷ []) (inl (lit≤ {n = 1} (tt {0}))) (All-cons (EndsInTexts halves) (1, new_column 1) [] (inl (lit≤ {n = 1} (tt {0}))) (All-nil (EndsInTexts halves))) }

joined_halves_do_not : ¬ (HasSequencesInTextsAlone joined_halves)
unfolding wrapping
joined_halves_do_not alone =
    by_case (All-head (EndsInTexts joined_halves) (0, record (new_column 0) { padding = (0, 0) }) ((1, record (new_column 1) { padding = (0, 0) }) ∷ []) alone.ends)
  where
    by_case : (1 ≤ 0) ⊎ All (λ (cell : CellValue). All HasNoEscape cell.text_lines) (visible_cell (plain_cell (utf8 "\u{1b}[1")) ∷ []) → ⊥
    by_case (inl some) = absurd (omega (arith, some))
    by_case (inr clear) =
        true≢false (All-head HasNoEscape (codes "\u{1b}[1") [] (All-head (λ (cell : CellValue). All HasNoEscape cell.text_lines) (visible_cell (plain_cell (utf8 "\u{1b}[1"))) [] clear))

-- ---- a letter of two bytes in bold

abbrev pub bold_letter : TableValue
bold_letter = record (rows_of nothing (("\u{1b}[1mé\u{1b}[0m" ∷ []) ∷ [])) { custom_styling = true }

-- the bytes of the letter are torn apart, on red, and the second one is concealed
abbrev pub torn_letter : Text
torn_letter = codes " \u{1b}[41m" ++ (0xC3 ∷ codes "\u{1b}[8m") ++ (0xA9 ∷ codes " ")

pub torn_stays_open : ¬ (LeavesNoneOpen torn_letter)
torn_stays_open none = true≢false (sym (ap (λ (ss : List Text). length ss == 0) none))

pub bold_ends_in_text : HasSequencesInTextsAlone bold_letter
bold_ends_in_text =
    record { styling = inl refl; style = record { indicator = refl; characters = refl }; ends = All-cons (EndsInTexts bold_letter) (0, new_column 0) [] (inl (lit≤ {n = 1} (tt {0}))) (All-nil (EndsInTexts bold_letter)) }

-- ---- lines that aren't cut

abbrev narrow : ColumnInfo
narrow = record { padding = (1, 1); delimiter = None; alignment = None; content_width = 2; is_hidden = false }

-- a cell of three lines
abbrev three_lines : RowValue
three_lines = plain_row (plain_cell (codes "ab cd ef") ∷ [])

all_three_uncut : uncut_in_row (new_table ascii_full) three_lines narrow (plain_cell (codes "ab cd ef")) ≡ 3
unfolding wrapping
all_three_uncut = refl

as_high_as_the_row : uncut_in_row (new_table ascii_full) (record three_lines { max_height = Some 3 }) narrow (plain_cell (codes "ab cd ef")) ≡ 3
unfolding wrapping
as_high_as_the_row = refl

-- the last line that a row keeps is the one that is cut
one_before_the_cut : uncut_in_row (new_table ascii_full) (record three_lines { max_height = Some 2 }) narrow (plain_cell (codes "ab cd ef")) ≡ 1
unfolding wrapping
one_before_the_cut = refl

-- with custom styling, sequences take no terminal columns
sequences_cut_nothing : uncut_in_row (record (new_table ascii_full) { custom_styling = true }) (record three_lines { max_height = Some 1 }) narrow (plain_cell (codes "\u{1b}[1mab\u{1b}[0m")) ≡ 1
unfolding wrapping
sequences_cut_nothing = refl

-- without it, they do
sequences_are_cut : uncut_in_row (new_table ascii_full) (record three_lines { max_height = Some 1 }) narrow (plain_cell (codes "\u{1b}[1mab\u{1b}[0m")) ≡ 0
unfolding wrapping
sequences_are_cut = refl

-- ---- sequences that are resumed

-- if a cell has one text line, each line begins in this one
only_text : (text : Text) (earlier : List Text) (own : Text) (later : List Text) → text ∷ [] ≡ earlier ++ own ∷ later → (earlier ≡ []) × (own ≡ text)
only_text text [] own later same = (refl, sym (cc same))
only_text text (x ∷ []) own later same = absurd (cc same)
only_text text (x ∷ y ∷ earlier) own later same = absurd (cc same)

-- the second line of such a cell
second_line : (text first second : Text) → ((at : ℕ) → take (length (visible_text second)) (drop at (visible_text text)) ≡ visible_text second → length (visible_text first) ≤ at → ¬ (open_after (parts_before 0 (parts second)) ≡ active [] text (at + 0))) → 0 < length (visible_text second)
    → ¬ (ResumeTheirSequences (record (plain_cell []) { text_lines = text ∷ [] }) (first ∷ second ∷ []))
second_line text first second none some (starts, lines, zip, order, same) = by_lines starts lines zip order same
  where
    by_lines : (starts : List LineStart) (lines : List CellLine) → AllZip (ResumesSequences (record (plain_cell []) { text_lines = text ∷ [] })) starts lines → AreInOrder 0 0 starts lines → ¬ (first ∷ second ∷ [] ≡ map (λ (line : CellLine). line.written) lines)
    by_lines starts [] zip order same = cc same
    by_lines starts (a ∷ []) zip order same = cc same
    by_lines [] (a ∷ b ∷ lines) zip order same = absurd zip
    by_lines (f ∷ []) (a ∷ b ∷ lines) zip order same = absurd zip.1
    by_lines (above ∷ from ∷ starts) (a ∷ line ∷ lines) zip order same = none from.at part after resumed
      where
        own : ResumesSequences (record (plain_cell []) { text_lines = text ∷ [] }) from line
        own = zip.1.0

        written : line.written ≡ second
        written = ap (λ (ts : List Text). slice_index_or ts 1 []) (sym same)

        upper : a.written ≡ first
        upper = ap (λ (ts : List Text). slice_index_or ts 0 []) (sym same)

        measured : line.measured ≡ visible_text second
        measured = sym own.visible ∙ ap visible_text written

        in_cell : (from.earlier ≡ []) × (from.text ≡ text)
        in_cell = only_text text from.earlier from.text own.later own.in_cell

        above_in_cell : (above.earlier ≡ []) × (above.text ≡ text)
        above_in_cell = only_text text above.earlier above.text zip.0.later zip.0.in_cell

        part : take (length (visible_text second)) (drop from.at (visible_text text)) ≡ visible_text second
        part = ap₂ (λ (n : Text) (t : Text). take (length n) (drop from.at (visible_text t))) (sym measured) (sym in_cell.1) ∙ own.part ∙ measured

        after : length (visible_text first) ≤ from.at
        after =
            let long = ap length (sym zip.0.visible ∙ ap visible_text upper) in
            elim order.1.0 [ inl less ↦ absurd (omega (arith, less, ap length in_cell.0, ap length above_in_cell.0)) | inr same_text ↦ omega (arith, same_text.1, long) ]

        resumed : open_after (parts_before 0 (parts second)) ≡ active [] text (from.at + 0)
        resumed =
            ap (λ (t : Text). open_after (parts_before 0 (parts t))) (sym written) ∙ own.resumed 0 (let long = ap length measured in omega (arith, some, long))
            ∙ ap₂ (λ (earlier : List Text) (t : Text). active earlier t (from.at + 0)) in_cell.0 in_cell.1

-- the second line of a bold text is bold
not_resumed : ¬ (ResumeTheirSequences (record (plain_cell []) { text_lines = codes "\u{1b}[1mabcd\u{1b}[0m" ∷ [] }) (codes "\u{1b}[1mab\u{1b}[0m" ∷ codes "cd" ∷ []))
not_resumed = second_line (codes "\u{1b}[1mabcd\u{1b}[0m") (codes "\u{1b}[1mab\u{1b}[0m") (codes "cd") by_at (omega arith)
  where
    by_at : (at : ℕ) → take 2 (drop at (codes "abcd")) ≡ codes "cd" → 2 ≤ at → ¬ ([] ≡ active [] (codes "\u{1b}[1mabcd\u{1b}[0m") (at + 0))
    by_at zero part after same = absurd (omega (arith, after))
    by_at (suc zero) part after same = absurd (omega (arith, after))
    by_at (suc (suc zero)) part after same = cc same
    by_at (suc (suc (suc zero))) part after same = let none : length (codes "cd") ≡ 1 = ap length (sym part) in absurd (omega (arith, none))
    by_at (suc (suc (suc (suc at)))) part after same = let none : ◌≡◌ {A = Text} [] (codes "cd") = sym (ap (take 2) (drop-nil at)) ∙ part in absurd (cc none)

-- and isn't bold, if the second half of the text isn't, though both halves are the same
resumed_too_far : ¬ (ResumeTheirSequences (record (plain_cell []) { text_lines = codes "\u{1b}[1mab\u{1b}[0mab" ∷ [] }) (codes "\u{1b}[1mab\u{1b}[0m" ∷ codes "\u{1b}[1mab\u{1b}[0m" ∷ []))
resumed_too_far = second_line (codes "\u{1b}[1mab\u{1b}[0mab") (codes "\u{1b}[1mab\u{1b}[0m") (codes "\u{1b}[1mab\u{1b}[0m") by_at (omega arith)
  where
    by_at : (at : ℕ) → take 2 (drop at (codes "abab")) ≡ codes "ab" → 2 ≤ at → ¬ (codes "\u{1b}[1m" ∷ [] ≡ active [] (codes "\u{1b}[1mab\u{1b}[0mab") (at + 0))
    by_at zero part after same = absurd (omega (arith, after))
    by_at (suc zero) part after same = absurd (omega (arith, after))
    by_at (suc (suc zero)) part after same = cc same
    by_at (suc (suc (suc zero))) part after same = let none : length (codes "ab") ≡ 1 = ap length (sym part) in absurd (omega (arith, none))
    by_at (suc (suc (suc (suc at)))) part after same = let none : ◌≡◌ {A = Text} [] (codes "ab") = sym (ap (take 2) (drop-nil at)) ∙ part in absurd (cc none)
