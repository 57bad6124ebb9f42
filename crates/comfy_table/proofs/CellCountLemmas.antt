-- Each line of a printable cell fits its column, and its piece is as wide as the column.
use Rattle.std.proofs.lemmas.Bool.{cond_both}
use Rattle.std.proofs.Common.{◌≡◌, ◌<◌, ◌≤◌, ℕ, ◌+◌, ◌-◌, true, [], ◌++◌, length, take, Option, Some, nat_lt, refl, sym, ap, subst, arith}
use Rattle.std.specs.List.{All}
use Rattle.std.specs.Str.{IsUtf8}
use Rattle.std.proofs.lemmas.Bool.Decides.{nat_tests}
use Rattle.std.proofs.lemmas.List.{length-take}
use Rattle.std.proofs.lemmas.List.Elements.{All-weaker}
use Rattle.std.proofs.lemmas.Str.{IsUtf8-nil, chars-nil}
use Rattle.comfy_parts.proofs.CallerLemmas.{All-flat_map, IsPrintableLine, head-printable, lines_of_text-printable, measure-printable, take-printable}
use Rattle.comfy_parts.specs.CellValue.{CellValue, RowValue, ColumnInfo, info_width}
use Rattle.comfy_parts.specs.Text.{Text, measure, is_printable_ascii, AddsOneColumnEach}
use Rattle.comfy_parts.specs.Wrapping.{lines_of_text}
use Rattle.comfy_table.proofs.CountLemmas.{HasCount, HasCount-same, HasCount-append, HasCount-printable, HasCount-utf8, HasCount-spaces}
use Rattle.comfy_table.proofs.CutLemmas.{All-cut, unstyled_piece, measured_in_row}
use Rattle.comfy_table.proofs.SpaceLemmas.{whole_width}
use Rattle.comfy_table.specs.Laws.{count, IsPrintableCell}
use Rattle.comfy_table.specs.Lines.{cell_lines, cell_delimiter, fitting_indicator, cut_text}
use Rattle.comfy_table.specs.Pieces.{cell_alignment, free_before, free_places}
use Rattle.comfy_table.specs.TableValue.{TableValue}

-- a line that measures at most w, and has as many characters as it measures
pub record IsCountedLine (w : ℕ) (line : Text) : Type 0 where
  pub fits : measure line ≤ w
  pub counted : HasCount (measure line) line

-- a printable line that fits measures at most w, and has as many characters as it measures
counted-printable : (w : ℕ) (line : Text) → IsPrintableLine w line → IsCountedLine w line
counted-printable w line plain =
    record { fits = plain.fits; counted = HasCount-same (length line) (measure line) line (sym (measure-printable line plain.printable)) (HasCount-printable line plain.printable) }

-- the lines of a printable cell are printable
pub cell_lines-printable : (table : TableValue) (delimiter : Option ℕ) (w : ℕ) (cell : CellValue) → 1 ≤ w → IsPrintableCell table delimiter cell
    → All (IsPrintableLine w) (cell_lines w (cell_delimiter table delimiter cell) cell)
cell_lines-printable table delimiter w cell places plain =
    All-flat_map (IsPrintableLine w) (lines_of_text w (cell_delimiter table delimiter cell)) cell.text_lines
    (All-weaker (λ line. is_printable_ascii line ≡ true) (λ line. All (IsPrintableLine w) (lines_of_text w (cell_delimiter table delimiter cell) line))
    (λ line printable. lines_of_text-printable w (cell_delimiter table delimiter cell) line (record { columns = places; delimiter = plain.1; printable = printable })) cell.text_lines plain.0)

-- ---- cut lines

-- the indicator that is written is UTF-8, if the indicator is
fitting_indicator-utf8 : (w : ℕ) (indicator : Text) → IsUtf8 indicator → IsUtf8 (fitting_indicator w indicator)
fitting_indicator-utf8 w indicator utf8 = cond_both (nat_lt w (measure indicator)) [] indicator IsUtf8 (λ _. IsUtf8-nil) (λ _. utf8)

-- the indicator that is written measures at most w, if it adds one terminal column for each of its characters
fitting_indicator-le : (w : ℕ) (indicator : Text) → AddsOneColumnEach (fitting_indicator w indicator) → measure (fitting_indicator w indicator) ≤ w
fitting_indicator-le w indicator =
    cond_both (nat_lt w (measure indicator)) [] indicator (λ (text : Text). AddsOneColumnEach text → measure text ≤ w)
    (λ _ even. let none = ap length chars-nil in let measured = even [] refl in omega (arith, none, measured)) (λ narrow even. grind (arith, nat_tests))

-- a printable line that is cut has as many characters as it measures
cut_text-counted : (w : ℕ) (indicator line : Text) → IsUtf8 indicator → AddsOneColumnEach (fitting_indicator w indicator) → is_printable_ascii line ≡ true → IsCountedLine w (cut_text w indicator line)
cut_text-counted w indicator line utf8 even printable =
    let written : Text = fitting_indicator w indicator in
    let front : Text = take (w - measure written) line in
    let front_printable : is_printable_ascii front ≡ true = take-printable (w - measure written) line printable in
    let both : measure (front ++ written) ≡ length front + count written = even front front_printable in
    let alone : measure written ≡ 0 + count written = even [] refl in
    let room : measure written ≤ w = fitting_indicator-le w indicator even in
    let short : length front ≤ w - measure written = let cut = length-take (w - measure written) line in omega (arith, cut) in
    subst (λ front. IsCountedLine w (front ++ written)) (sym (head-printable (w - measure written) line printable))
    (record { fits = omega (arith, both, alone, room, short); counted = HasCount-same (length front + count written) (measure (front ++ written)) (front ++ written) (sym both) (HasCount-append (length front) (count written) front written (HasCount-printable front front_printable) (HasCount-utf8 written (fitting_indicator-utf8 w indicator utf8))) })

-- each line of a printable cell in a row has as many characters as it measures, if the indicator adds one terminal
-- column for each of its characters whenever a line is cut
pub row_cell_lines-counted : (table : TableValue) (row : RowValue) (info : ColumnInfo) (cell : CellValue) → 1 ≤ info.content_width → IsUtf8 table.indicator
    → IsPrintableCell table info.delimiter cell
    → ((h : ℕ) → row.max_height ≡ Some h → h < length (cell_lines info.content_width (cell_delimiter table info.delimiter cell) cell) → AddsOneColumnEach (fitting_indicator info.content_width table.indicator))
    → All (IsCountedLine info.content_width) (measured_in_row table row info cell)
row_cell_lines-counted table row info cell places utf8 plain even =
    All-cut (IsPrintableLine info.content_width) (IsCountedLine info.content_width) (cut_text info.content_width table.indicator) row.max_height (cell_lines info.content_width (cell_delimiter table info.delimiter cell) cell)
    (cell_lines-printable table info.delimiter info.content_width cell places plain) (counted-printable info.content_width)
    (λ h limited below line own. cut_text-counted info.content_width table.indicator line utf8 (even h limited below) own.printable)

-- ---- pieces

-- the piece of a line with as many characters as it measures has as many characters as its column
-- is wide
pub HasCount-unstyled_piece : (cell : CellValue) (info : ColumnInfo) (line : Text) → IsCountedLine info.content_width line → HasCount (info_width info) (unstyled_piece cell info line)
HasCount-unstyled_piece cell info line counted =
    HasCount-same _ _ _ (whole_width (cell_alignment cell info) info.padding.0 (measure line) info.padding.1 info.content_width counted.fits)
    (HasCount-append info.padding.0 _ _ _ (HasCount-spaces info.padding.0)
    (HasCount-append (free_before (cell_alignment cell info) (free_places info (measure line))) _ _ _ (HasCount-spaces _)
    (HasCount-append (measure line) _ _ _ counted.counted
    (HasCount-append (free_places info (measure line) - free_before (cell_alignment cell info) (free_places info (measure line))) info.padding.1 _ _ (HasCount-spaces _) (HasCount-spaces info.padding.1)))))
