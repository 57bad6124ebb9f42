-- The lines of a cell as they are drawn.
use Rattle.std.proofs.Common.{Option, Some, None, ◌≡◌, ◌<◌, ◌≤◌, ℕ, ◌-◌, Bool, true, false, List, [], ◌∷◌, ◌++◌, ◌&&◌, length, map, take, unwrap_or, refl, ap, ◌∙◌, sym, slice_index_or, arith}
use Rattle.std.specs.List.{AllByRecursion, list_any}
use Rattle.std.specs.Prelude.{IfSome}
use Rattle.std.proofs.lemmas.Bool.Decides.{nat_tests}
use Rattle.std.proofs.lemmas.List.{drop_more, get_or-map, length-map, map-append, take-map}
use Rattle.comfy_parts.proofs.CallerLemmas.{IsAsMeasured, clear_written}
use Rattle.comfy_parts.specs.CellValue.{CellValue, ColumnInfo, RowValue}
use Rattle.comfy_parts.specs.Text.{Text}
use Rattle.comfy_parts.specs.VisibleLines.{CellLine, line_texts}
use Rattle.comfy_parts.specs.VisibleText.{has_escape}
use Rattle.comfy_table.proofs.CutLemmas.{no_limit, measured_of, whole-measured}
use Rattle.std.proofs.lemmas.Simd.{map-map}
use Rattle.comfy_table.proofs.MeasuredLemmas.{cell_measured}
use Rattle.comfy_table.specs.DrawnLines.{DrawnLine, drawn_line, drawn_text, with_texts}
use Rattle.comfy_table.specs.Lines.{as_measured, cell_delimiter, cell_lines, cut_line, cut_to_limit, uncut_lines}
use Rattle.comfy_table.specs.Pieces.{row_cell_lines}
use Rattle.comfy_table.specs.TableValue.{TableValue}

-- lines that are written as they are measured are given by their measured texts
all_as_measured : (lines : List CellLine) → AllByRecursion IsAsMeasured lines → lines ≡ map as_measured (measured_of lines)
all_as_measured [] each = refl
all_as_measured (line ∷ lines) each =
    λ i. record { measured = line.measured; written = each.0 i } ∷ all_as_measured lines each.1 i

-- the lines of a cell without custom styling or without ESC are written as they are measured
pub without_custom_styling : (custom : Bool) (w d : ℕ) (cell : CellValue) → (custom && list_any has_escape cell.text_lines) ≡ false → uncut_lines custom w d cell ≡ map as_measured (cell_lines w d (cell_measured custom cell))
without_custom_styling false w d cell none = refl
without_custom_styling true w d cell none =
    all_as_measured (line_texts w d cell.text_lines) (clear_written w d cell.text_lines none) ∙ ap (map as_measured) (whole-measured true w d cell)

-- without texts the lines stay as they are
pub no_texts : (lines : List DrawnLine) (texts : List Text) → length texts ≡ 0 → with_texts lines texts ≡ lines
no_texts [] texts none = refl
no_texts (line ∷ lines) [] none = refl
no_texts (line ∷ lines) (text ∷ texts) none = absurd (omega (arith, none))

-- with a text for each line, the lines are drawn with these texts
pub all_texts : (lines : List CellLine) → with_texts (map drawn_text (measured_of lines)) (map (λ (line : CellLine). line.written) lines) ≡ map drawn_line lines
all_texts [] = refl
all_texts (line ∷ lines) = ap (λ (more : List DrawnLine). drawn_line line ∷ more) (all_texts lines)

-- ---- the lines of one cell

module _ (table : TableValue) (row : RowValue) (info : ColumnInfo) (cell : CellValue) where
  -- the lines of the cell, before any cut
  abbrev whole : List CellLine
  whole = uncut_lines table.custom_styling info.content_width (cell_delimiter table info.delimiter cell) cell

  -- the lines of the measured cell
  abbrev measured : List Text
  measured = cell_lines info.content_width (cell_delimiter table info.delimiter cell) (cell_measured table.custom_styling cell)

  -- both have the same number of lines
  pub as_many : length whole ≡ length measured
  as_many = grind (arith, whole-measured, length-map)

  -- without sequences or without custom styling, the drawn lines are the measured ones
  pub drawn-measured : (table.custom_styling && list_any has_escape cell.text_lines) ≡ false → map drawn_text measured ≡ map drawn_line whole
  drawn-measured none = grind (arith, without_custom_styling, map-map)

  -- if no line is cut, all lines are drawn
  pub drawn-uncut : (lines : List DrawnLine) → lines ≡ map drawn_text measured → length lines ≤ unwrap_or row.max_height (length lines) → row_cell_lines table row info cell ≡ whole
  drawn-uncut lines are within = let many = ap length are in grind (arith, nat_tests, as_many, no_limit, length-map, many)

  -- a single line is never cut
  pub drawn-one : (line : DrawnLine) → line ∷ [] ≡ map drawn_line whole → IfSome row.max_height (λ lines. 1 ≤ lines) → line ∷ [] ≡ map drawn_line (row_cell_lines table row info cell)
  drawn-one line is limit = is ∙ ap (map drawn_line) (sym (one_uncut row.max_height limit))
    where
      one_uncut : (limit : Option ℕ) → IfSome limit (λ lines. 1 ≤ lines) → cut_to_limit (cut_line table.custom_styling info.content_width table.indicator) limit whole ≡ whole
      one_uncut None _ = refl
      one_uncut (Some h) below = let one = ap length is in grind (arith, nat_tests, one, length-map, below)

  -- if a line is cut, the lines before it are drawn, and then the cut line
  pub drawn-cut : (lines : List DrawnLine) (h : ℕ) (last : DrawnLine) → lines ≡ map drawn_text measured → h ≡ unwrap_or row.max_height (length lines) → h < length lines → last ≡ slice_index_or lines (h - 1) last
      → take (h - 1) (map drawn_line whole) ++ drawn_line (cut_line table.custom_styling info.content_width table.indicator (as_measured last.written)) ∷ [] ≡ map drawn_line (row_cell_lines table row info cell)
  drawn-cut lines h last are is taller read =
      let long : length lines ≡ length measured = ap length are ∙ length-map measured drawn_text in
      let many = as_many in
      let cut = cut_line table.custom_styling info.content_width table.indicator in
      let kept : CellLine = slice_index_or whole (h - 1) (as_measured []) in
      let text : last.written ≡ kept.measured =
      ap (λ (line : DrawnLine). line.written) (read ∙ ap (λ (lines : List DrawnLine). slice_index_or lines (h - 1) last) are ∙ get_or-map drawn_text measured (h - 1) [] last (omega (arith, long, taller)))
      ∙ ap (λ (lines : List Text). slice_index_or lines (h - 1) []) (sym (whole-measured table.custom_styling info.content_width (cell_delimiter table info.delimiter cell) cell))
      ∙ get_or-map (λ (line : CellLine). line.measured) whole (h - 1) (as_measured []) [] (omega (arith, many, long, taller)) in
      let lines : row_cell_lines table row info cell ≡ take (h - 1) whole ++ cut kept ∷ [] = grind (arith, nat_tests, no_limit, many, long, drop_more) in
      ap (λ (t : Text). take (h - 1) (map drawn_line whole) ++ drawn_line (cut (as_measured t)) ∷ []) text
      ∙ ap (λ (front : List DrawnLine). front ++ drawn_line (cut kept) ∷ []) (take-map drawn_line (h - 1) whole)
      ∙ sym (map-append drawn_line (take (h - 1) whole) (cut kept ∷ []))
      ∙ sym (ap (map drawn_line) lines)
