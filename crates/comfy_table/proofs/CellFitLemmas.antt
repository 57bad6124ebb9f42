-- The lines of cells whose text lines fit are no wider than their columns.
use Rattle.std.proofs.Common.{◌≡◌, ◌<◌, ◌≤◌, ℕ, ◌+◌, ◌-◌, Bool, true, false, List, [], ◌++◌, Some, length, nat_lt, refl, arith, slice_index_or, subst}
use Rattle.std.specs.Char.{IsScalar}
use Rattle.std.specs.List.{All}
use Rattle.std.specs.Prelude.{if◌then◌else◌, IsUtf8}
use Rattle.std.proofs.lemmas.Bool.{cond_both}
use Rattle.std.proofs.lemmas.Bool.Decides.{nat_tests}
use Rattle.std.proofs.lemmas.List.Elements.{All-weaker}
use Rattle.std.proofs.lemmas.Str.{IsUtf8-append, IsUtf8-nil}
use Rattle.comfy_parts.proofs.CallerLemmas.{All-flat_map, All-of_map, IsFittingLine, head-fitting, head-utf8, lines-agree, lines_of_text-utf8, measure-nil, text_lines_fit}
use Rattle.comfy_parts.specs.CellValue.{CellValue, RowValue, ColumnInfo}
use Rattle.comfy_parts.specs.Columns.{IsApart, SelectorsAgree}
use Rattle.comfy_parts.specs.Text.{Text, measure, head}
use Rattle.comfy_parts.specs.VisibleLines.{CellLine}
use Rattle.comfy_parts.specs.Wrapping.{lines_of_text}
use Rattle.comfy_table.proofs.CutLemmas.{All-cut, row-unstyled, measured_in_row}
use Rattle.comfy_table.proofs.MeasureLemmas.{apart_follows}
use Rattle.comfy_table.specs.Lines.{as_measured, cell_delimiter, cell_lines, cut_text, fitting_indicator}
use Rattle.comfy_table.specs.Straight.{CellLinesFit, TextsFit}
use Rattle.comfy_table.specs.TableValue.{TableValue}

-- ---- cut lines

-- a line that is cut fits its column
cut-fits : (w : ℕ) (indicator line : Text) → IsUtf8 line → SelectorsAgree line → IsUtf8 indicator → IsApart indicator → IsFittingLine w (cut_text w indicator line)
cut-fits w indicator line utf8 summed whole apart = by_test (nat_lt w (measure indicator)) refl
  where
    with : (k : ℕ) (shown : Text) → IsUtf8 shown → IsApart shown → k + measure shown ≤ w → IsFittingLine w (head k line ++ shown)
    with k shown whole apart room =
        let front = head-fitting k line utf8 summed in
        let all = apart (head k line) front.whole in
        let fits = front.fits in
        record { whole = IsUtf8-append (head k line) shown front.whole whole; fits = omega (arith, all, fits, room) }

    by_test : (b : Bool) → nat_lt w (measure indicator) ≡ b → IsFittingLine w (head (w - measure (if b then [] else indicator)) line ++ (if b then [] else indicator))
    by_test true wide = let none = measure-nil in with (w - measure []) [] IsUtf8-nil apart_follows.ends (omega (arith, none))
    by_test false narrow = let fits : measure indicator ≤ w = grind (arith, nat_tests, narrow) in with (w - measure indicator) indicator whole apart (omega (arith, fits))

-- ---- cells

-- the text lines of the cell consist of whole characters, and its delimiter is a character
abbrev pub IsWholeCell : TableValue → RowValue → ColumnInfo → CellValue → Type 0
IsWholeCell table row info cell = All IsUtf8 cell.text_lines × IsScalar (cell_delimiter table info.delimiter cell)

-- the lines of the cell consist of whole characters and fit
abbrev pub HasFittingLines : TableValue → RowValue → ColumnInfo → CellValue → Type 0
HasFittingLines table row info cell = All (IsFittingLine info.content_width) (measured_in_row table row info cell)

module _ (table : TableValue) (row : RowValue) (info : ColumnInfo) (cell : CellValue) (indicator : IsUtf8 table.indicator) (known : IsWholeCell table row info cell) where
  abbrev w : ℕ
  w = info.content_width

  abbrev d : ℕ
  d = cell_delimiter table info.delimiter cell

  abbrev lines : List Text
  lines = cell_lines w d cell

  whole : All IsUtf8 lines
  whole = All-flat_map IsUtf8 (lines_of_text w d) cell.text_lines (All-weaker IsUtf8 (λ text. All IsUtf8 (lines_of_text w d text)) (lines_of_text-utf8 w d) cell.text_lines known.0)

  -- all lines consist of whole characters, also cut ones
  uncut_lines : All IsUtf8 (measured_in_row table row info cell)
  uncut_lines =
      All-cut IsUtf8 IsUtf8 (cut_text w table.indicator) row.max_height lines whole (λ line own. own)
      (λ h limited below line own. IsUtf8-append (head _ line) (fitting_indicator w table.indicator) (head-utf8 _ _ own) (cond_both (nat_lt w (measure table.indicator)) _ _ IsUtf8 (λ _. IsUtf8-nil) (λ _. indicator)))

  -- lines that are no wider than the column fit
  pub lines-fit : CellLinesFit table row info cell → HasFittingLines table row info cell
  lines-fit narrow k default below =
      record {
        whole = uncut_lines k default below;
        fits = All-of_map (λ (line : CellLine). measure line.measured ≤ w) as_measured (measured_in_row table row info cell) (subst (All (λ (line : CellLine). measure line.measured ≤ w)) (row-unstyled table row info cell) narrow) k default below;
      }

  -- the lines of texts that fit also fit
  pub texts-fit : TextsFit table row info cell → HasFittingLines table row info cell
  texts-fit is =
      All-cut (λ line. IsFittingLine w line × ((h : ℕ) → row.max_height ≡ Some h → h < length lines → SelectorsAgree line × IsApart table.indicator)) (IsFittingLine w) (cut_text w table.indicator) row.max_height lines
      (λ k default below. (fit k default below, λ h limited more. (agree (is.cut h limited more).0 k default below, (is.cut h limited more).1)))
      (λ line own. own.0)
      (λ h limited below line own. cut-fits w table.indicator line own.0.whole (own.1 h limited below).0 indicator (own.1 h limited below).1)
    where
      fit : All (IsFittingLine w) lines
      fit =
          All-flat_map (IsFittingLine w) (lines_of_text w d) cell.text_lines
          (λ k default below. text_lines_fit w d (slice_index_or cell.text_lines k default) known.1 (known.0 k default below) (is.fit k default below))

      agree : All SelectorsAgree cell.text_lines → All SelectorsAgree lines
      agree each =
          All-flat_map SelectorsAgree (lines_of_text w d) cell.text_lines (λ k default below. lines-agree w d (slice_index_or cell.text_lines k default) known.1 (known.0 k default below) (each k default below))
