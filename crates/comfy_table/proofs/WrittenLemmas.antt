-- The lines of a cell in a row with their written texts: the sequences that are open, and properties that drawing
-- keeps.
use Rattle.std.proofs.Common.{◌≡◌, ℕ, ◌-◌, Bool, true, false, List, [], ◌∷◌, Option, Some, None, length, map, take, drop, nat_le, refl, sym, subst, arith, slice_index_or}
use Rattle.std.specs.List.{All, AllByRecursion, AllZip}
use Rattle.std.specs.Prelude.{if◌then◌else◌}
use Rattle.std.specs.Str.{IsUtf8}
use Rattle.std.proofs.lemmas.Bool.{cond_both}
use Rattle.std.proofs.lemmas.Bool.Decides.{nat_tests}
use Rattle.std.proofs.lemmas.List.{drop_all, drop_at, length-take, take-append-le, take-take}
use Rattle.std.proofs.lemmas.List.Elements.{All-from_recursion, All-map, All-weaker}
use Rattle.comfy_parts.proofs.CallerLemmas.{All-flat_map, All-of_map, AllZip-take, lines_closed, lines_of_text-utf8, lines_resumed, lines_visible, none_open}
use Rattle.comfy_parts.specs.CellValue.{CellValue, RowValue, ColumnInfo}
use Rattle.comfy_parts.specs.Laws.{IsResumedLine}
use Rattle.comfy_parts.specs.Text.{Text}
use Rattle.comfy_parts.specs.VisibleLines.{CellLine, line_starts, line_texts}
use Rattle.comfy_parts.specs.VisibleText.{closed, open_after, parts, visible_text}
use Rattle.comfy_parts.specs.Wrapping.{lines_of_text}
use Rattle.comfy_table.proofs.CutLemmas.{All-cut, whole-measured}
use Rattle.comfy_table.proofs.TextKindLemmas.{cut_text-kept, lines-kept}
use Rattle.comfy_table.proofs.MeasuredLemmas.{cell_measured}
use Rattle.comfy_table.proofs.StyledLemmas.{KeptByDrawing}
use Rattle.comfy_table.specs.Laws.{CutLinesAreClosed, LinesAreResumedInRow, NoneIsOpenAtTheEnd}
use Rattle.comfy_table.specs.Lines.{as_measured, cell_delimiter, cell_lines, cut_line, cut_text, cut_to_limit, uncut_count, uncut_lines}
use Rattle.comfy_table.specs.TableValue.{TableValue}

-- the lines that aren't cut stay the same
uncut-are : (cut : CellLine → CellLine) (limit : Option ℕ) (lines : List CellLine) → take (uncut_count limit lines) (cut_to_limit cut limit lines) ≡ take (uncut_count limit lines) lines
uncut-are cut None lines = refl
uncut-are cut (Some h) lines = grind (arith, nat_tests, take-append-le, take-take, length-take)

-- after them there is at most the line that is cut
cut-is : (cut : CellLine → CellLine) (h : ℕ) (lines : List CellLine) → drop (uncut_count (Some h) lines) (cut_to_limit cut (Some h) lines) ≡ (if nat_le (length lines) h then [] else map cut (take 1 (drop (h - 1) lines)))
cut-is cut h lines = grind (arith, nat_tests, drop_all, drop_at, length-take)

-- a line that is written as it is measured, with its sequences closed
abbrev IsClosedLine : CellLine → Type 0
IsClosedLine line = line.written ≡ closed line.measured

-- the line that is cut is written as it is measured, with its sequences closed
closed_after : (w : ℕ) (indicator : Text) (limit : Option ℕ) (lines : List CellLine) → AllByRecursion IsClosedLine (drop (uncut_count limit lines) (cut_to_limit (cut_line true w indicator) limit lines))
closed_after w indicator None lines = subst (AllByRecursion IsClosedLine) (sym (drop_all (length lines) lines (omega arith))) tt
closed_after w indicator (Some h) lines =
    subst (AllByRecursion IsClosedLine) (sym (cut-is (cut_line true w indicator) h lines))
    (cond_both (nat_le (length lines) h) [] _ (AllByRecursion IsClosedLine) (λ _. tt) (λ _. each (take 1 (drop (h - 1) lines))))
  where
    each : (lines : List CellLine) → AllByRecursion IsClosedLine (map (cut_line true w indicator) lines)
    each [] = tt
    each (line ∷ lines) = (refl, each lines)

module _ (table : TableValue) (row : RowValue) (info : ColumnInfo) (cell : CellValue) where
  abbrev w : ℕ
  w = info.content_width

  abbrev d : ℕ
  d = cell_delimiter table info.delimiter cell

  -- the lines of the cell in the row, with custom styling or without
  abbrev lines_with : Bool → List CellLine
  lines_with custom = cut_to_limit (cut_line custom w table.indicator) row.max_height (uncut_lines custom w d cell)

  -- ---- with custom styling

  -- no sequence is open at the end of a line, cut or not
  pub none_is_open_at_the_end : table.custom_styling ≡ true → NoneIsOpenAtTheEnd table row info cell
  none_is_open_at_the_end on =
      let Ends : CellLine → Type 0 = λ line. open_after (parts line.written) ≡ [] in
      subst (λ custom. All Ends (lines_with custom)) (sym on)
      (All-cut Ends Ends (cut_line true w table.indicator) row.max_height (line_texts w d cell.text_lines) (All-from_recursion Ends (line_texts w d cell.text_lines) (lines_closed w d cell.text_lines)) (λ line own. own)
      (λ h limited below line own. none_open (cut_text w table.indicator line.measured)))

  -- before each visible byte of a line that isn't cut, the open sequences are those that are active there
  pub lines_are_resumed : table.custom_styling ≡ true → LinesAreResumedInRow table row info cell
  lines_are_resumed on =
      let n : ℕ = uncut_count row.max_height (line_texts w d cell.text_lines) in
      subst (λ custom. AllZip IsResumedLine (take (uncut_count row.max_height (uncut_lines custom w d cell)) (line_starts w d cell.text_lines)) (take (uncut_count row.max_height (uncut_lines custom w d cell)) (lines_with custom))) (sym on)
      (subst (AllZip IsResumedLine (take n (line_starts w d cell.text_lines))) (sym (uncut-are (cut_line true w table.indicator) row.max_height (line_texts w d cell.text_lines)))
      (AllZip-take IsResumedLine n (line_starts w d cell.text_lines) (line_texts w d cell.text_lines) (lines_resumed w d cell.text_lines)))

  -- a line that is cut is written as it is measured, with its sequences closed
  pub cut_lines_are_closed : table.custom_styling ≡ true → CutLinesAreClosed table row info cell
  cut_lines_are_closed on =
      subst (λ custom. All IsClosedLine (drop (uncut_count row.max_height (uncut_lines custom w d cell)) (lines_with custom))) (sym on)
      (All-from_recursion IsClosedLine (drop (uncut_count row.max_height (line_texts w d cell.text_lines)) (lines_with true)) (closed_after w table.indicator row.max_height (line_texts w d cell.text_lines)))

  -- ---- properties of measured and written texts

  -- the measured texts of lines have a property that the lines of each text have
  measured_each : (P : Text → Type 0) (custom : Bool) → ((text : Text) → P text → All P (lines_of_text w d text)) → All P (cell_measured custom cell).text_lines → All P (cell_lines w d (cell_measured custom cell))
  measured_each P custom gives each =
      All-flat_map P (lines_of_text w d) (cell_measured custom cell).text_lines (All-weaker P (λ text. All P (lines_of_text w d text)) gives (cell_measured custom cell).text_lines each)

  of_whole : (P : Text → Type 0) (custom : Bool) → All P (cell_lines w d (cell_measured custom cell)) → All (λ (line : CellLine). P line.measured) (uncut_lines custom w d cell)
  of_whole P custom each =
      All-of_map P (λ (line : CellLine). line.measured) (uncut_lines custom w d cell) (subst (All P) (sym (whole-measured custom w d cell)) each)

  module _ (C : Text → Type 0) (R : Text → Text → Type 0) (kept : KeptByDrawing C R) where
    -- the text consists of whole characters and is of the kind
    abbrev Own : Text → Type 0
    Own text = IsUtf8 text × C text

    -- the measured texts of lines are such texts, if the text lines are
    own_lines : (custom : Bool) → All Own (cell_measured custom cell).text_lines → All Own (cell_lines w d (cell_measured custom cell))
    own_lines custom own =
        measured_each Own custom (λ text is k default below. (lines_of_text-utf8 w d text is.0 k default below, lines-kept C kept.joins.kind w d text is.0 is.1 k default below)) own

    -- R holds of the measured and the written text of each line before the cut
    keeps_whole : (custom : Bool) → All Own (cell_measured custom cell).text_lines → All (λ (line : CellLine). R line.measured line.written) (uncut_lines custom w d cell)
    keeps_whole true own =
        λ k default below.
        let line : CellLine = slice_index_or (line_texts w d cell.text_lines) k default in
        let is : visible_text line.written ≡ line.measured = All-from_recursion (λ (line : CellLine). visible_text line.written ≡ line.measured) (line_texts w d cell.text_lines) (lines_visible w d cell.text_lines) k default below in
        let measured : Own line.measured = of_whole Own true (own_lines true own) k default below in
        subst (λ s. R s line.written) is (kept.of_measured line.written (subst C (sym is) measured.1))
    keeps_whole false own =
        All-map (λ (line : CellLine). R line.measured line.written) as_measured (cell_lines w d cell) (All-weaker Own (λ line. R line line) (λ line is. kept.joins.of_kind line is.1) (cell_lines w d cell) (own_lines false own))

    -- R holds of both texts of a line that is cut
    keeps_cut : (custom : Bool) (line : CellLine) → C (cut_text w table.indicator line.measured) → R (cut_text w table.indicator line.measured) (cut_line custom w table.indicator line).written
    keeps_cut true line own = kept.of_closed (cut_text w table.indicator line.measured) own
    keeps_cut false line own = kept.joins.of_kind (cut_text w table.indicator line.measured) own

    -- R holds of both texts of all lines of the cell in its row
    pub keeps_lines : (custom : Bool) → C table.indicator → All IsUtf8 (cell_measured custom cell).text_lines → All C (cell_measured custom cell).text_lines → All (λ (line : CellLine). R line.measured line.written) (lines_with custom)
    keeps_lines custom mark utf8 clear =
        All-cut (λ line. R line.measured line.written × Own line.measured) (λ line. R line.measured line.written) (cut_line custom w table.indicator) row.max_height (uncut_lines custom w d cell)
        (λ k default below. (keeps_whole custom own k default below, of_whole Own custom (own_lines custom own) k default below))
        (λ line is. is.0)
        (λ h limited below line is. keeps_cut custom line (cut_text-kept C kept.joins.kind w table.indicator line.measured mark is.1.0 is.1.1))
      where
        own : All Own (cell_measured custom cell).text_lines
        own k default below = (utf8 k default below, clear k default below)
