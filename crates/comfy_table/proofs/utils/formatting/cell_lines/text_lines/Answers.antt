use Rattle.std.proofs.Common.{◌≡◌, [], ◌∷◌, ◌++◌, ℕ, map, ap, ◌∙◌, sym, append-nil, arith}
use Rattle.comfy_parts.specs.CellValue.{CellValue}
use Rattle.comfy_parts.specs.Text.{Text, spaces}
use Rattle.comfy_parts.specs.Wrapping.{lines_of_text}
use Rattle.comfy_table.proofs.RowCellLemmas.{clear_measured, lines_of_one}
use Rattle.comfy_table.specs.DrawnLines.{drawn_text}
use Rattle.comfy_table.specs.Lines.{cell_delimiter, cell_lines}
use Rattle.comfy_table.specs.TableValue.{measured_cell}
use Rattle.comfy_table.proofs.utils.formatting.cell_lines.text_lines.Goals.{then-after-eq0+in_ok-push_lines, else-after-eq0+in_ok-push_spaced}
use Rattle.comfy_table.proofs.utils.formatting.cell_lines.text_lines.Goals as goal

pub returns : goal.returns
returns c =
    let table = c.args.table.now in
    let cell = c.args.cell.now in
    let info = c.args.info.now in
    let w = info.content_width in
    let text = c.line-after.result.0.now in
    let after = c.line-after.result.1 in
    let d = cell_delimiter table info.delimiter cell in
    let delimiter : c.delimiter_in-delimiter.result ≡ d = grind arith in
    let whole : map drawn_text (cell_lines w d cell) ≡ map drawn_text (cell_lines w d (measured_cell table cell)) =
    ap (λ (cell : CellValue). map drawn_text (cell_lines w d cell)) (sym (clear_measured table cell c.line-after.ensures.clear)) in
    elim c.if-after-eq0.branch [
      | then-after-eq0+in_ok-push_lines b ↦
          let none : after ≡ 0 = grind arith in
          let single : cell.text_lines ≡ text ∷ [] = c.line-after.ensures.line ∙ ap (λ (t : Text). t ∷ []) (ap (λ n. text ++ spaces n) none ∙ append-nil text) in
          let lines : map drawn_text (lines_of_text w c.delimiter_in-delimiter.result text) ≡ map drawn_text (cell_lines w d cell) =
          ap (λ (d : ℕ). map drawn_text (lines_of_text w d text)) delimiter ∙ ap (map drawn_text) (sym (lines_of_one w d cell text single)) in
          grind (arith, lines, whole)
      | else-after-eq0+in_ok-push_spaced b ↦
          let lines : map drawn_text (cell_lines w c.delimiter_in-delimiter.result cell) ≡ map drawn_text (cell_lines w d cell) =
          ap (λ (d : ℕ). map drawn_text (cell_lines w d cell)) delimiter in
          grind (arith, lines, whole)
    ]
