-- Cells of one text line that fits.
use Rattle.std.proofs.Common.{◌≡◌, ◌≤◌, ℕ, Bool, true, false, ◌&&◌, List, [], ◌∷◌, length, map, refl, sym, ap, ◌∙◌, arith, slice_index_or}
use Rattle.std.proofs.lemmas.Bool.Decides.{nat_tests}
use Rattle.std.specs.List.{flat_map, list_any}
use Rattle.std.specs.Prelude.{if◌then◌else◌}
use Rattle.comfy_parts.proofs.CallerLemmas.{clear_lines, line_of_whole}
use Rattle.comfy_parts.specs.CellValue.{CellValue}
use Rattle.comfy_parts.specs.Text.{Text, measure}
use Rattle.comfy_parts.specs.VisibleLines.{line_texts}
use Rattle.comfy_parts.specs.VisibleText.{has_escape, line_text, visible_text}
use Rattle.comfy_parts.specs.Wrapping.{lines_of_text}
use Rattle.comfy_table.proofs.DrawnLineLemmas.{without_custom_styling}
use Rattle.comfy_table.proofs.MeasuredLemmas.{cell_measured}
use Rattle.comfy_table.specs.DrawnLines.{drawn_line}
use Rattle.comfy_table.specs.Lines.{as_measured, cell_lines, uncut_lines}

-- the measured width of a single text line
pub only_width : (custom : Bool) (texts : List Text) (text : Text) (widths : List ℕ) → texts ≡ text ∷ [] → widths ≡ map measure (if custom then map visible_text texts else texts)
    → map measure (if custom then map visible_text texts else texts) ≡ slice_index_or widths 0 0 ∷ []
only_width custom texts text widths single are = one ∙ ap (λ (ns : List ℕ). slice_index_or ns 0 0 ∷ []) (sym (are ∙ one))
  where
    one : map measure (if custom then map visible_text texts else texts) ≡ measure (if custom then visible_text text else text) ∷ []
    one = ap (λ (ts : List Text). map measure (if custom then map visible_text ts else ts)) single ∙ elim custom as (λ b. map measure (if b then visible_text text ∷ [] else text ∷ []) ≡ measure (if b then visible_text text else text) ∷ []) [ true ↦ refl | false ↦ refl ]

module _ (custom : Bool) (w d : ℕ) (cell : CellValue) (text : Text) (columns : ℕ) where
  -- the cell has only this line
  abbrev pub IsOneLine : Type 0
  IsOneLine = record { columns = columns; written = text } ∷ [] ≡ map drawn_line (uncut_lines custom w d cell)

  -- a cell of one text line that fits, and that has no text of its own, has only this line
  pub measured_line : cell.text_lines ≡ text ∷ [] → map measure (cell_measured custom cell).text_lines ≡ columns ∷ [] → columns ≤ w → (custom && list_any has_escape cell.text_lines) ≡ false → IsOneLine
  measured_line single wide fits none =
      let measured : (cell_measured custom cell).text_lines ≡ text ∷ [] = as_it_is custom none ∙ single in
      let width : measure text ≡ columns = let e = sym (ap (map measure) measured) ∙ wide in ap (λ (ns : List ℕ). slice_index_or ns 0 0) e in
      let one : cell_lines w d (cell_measured custom cell) ≡ text ∷ [] = ap (flat_map (lines_of_text w d)) measured ∙ grind (arith, nat_tests, width, fits) in
      ap (λ n. record { columns = n; written = text } ∷ []) (sym width) ∙ sym (ap (map drawn_line) (without_custom_styling custom w d cell none ∙ ap (map as_measured) one))
    where
      as_it_is : (custom : Bool) → (custom && list_any has_escape cell.text_lines) ≡ false → (if custom then map visible_text cell.text_lines else cell.text_lines) ≡ cell.text_lines
      as_it_is true none = sym (clear_lines cell.text_lines none)
      as_it_is false none = refl

  -- a cell of one text line that fits, and that is written as it is, has only this line
  pub whole_line : cell.text_lines ≡ text ∷ [] → map measure (cell_measured custom cell).text_lines ≡ columns ∷ [] → columns ≤ w
      → custom ≡ true → line_text [] text 0 (length (visible_text text)) ≡ text → IsOneLine
  whole_line single wide fits on whole =
      let width : measure (visible_text text) ≡ columns =
      let e = sym (ap (λ (b : Bool). map measure (if b then map visible_text cell.text_lines else cell.text_lines)) on ∙ ap (λ (ts : List Text). map measure (map visible_text ts)) single) ∙ wide in
      ap (λ (ns : List ℕ). slice_index_or ns 0 0) e in
      ap (λ n. record { columns = n; written = text } ∷ []) (sym width)
      ∙ sym (ap (map drawn_line) (ap (λ (b : Bool). uncut_lines b w d cell) on ∙ ap (line_texts w d) single ∙ line_of_whole w d text (omega (arith, width, fits)) whole))
