use Rattle.std.proofs.Common.{◌≡◌, false, [], ◌++◌, ◌∷◌, ◌==◌, ap, sym, ◌∙◌, arith, append-nil}
use Rattle.std.specs.List.{list_any}
use Rattle.comfy_parts.specs.CellValue.{plain_cell}
use Rattle.comfy_parts.specs.Text.{Text, measure}
use Rattle.comfy_parts.specs.VisibleText.{has_escape}
use Rattle.comfy_table.proofs.RowCellLemmas.{one_line}
use Rattle.comfy_table.proofs.utils.formatting.row_cell.TextCell.of_line.Goals as goal

pub invariant_of-result : goal.invariant_of-result
invariant_of-result c =
    let text = c.args.text.now in
    let same : text ++ [] ≡ text = append-nil text in
    let feedless : list_any (λ b. b == 0x0A) text ≡ false = grind arith in
    let clear : has_escape text ≡ false = grind arith in (
      ap (λ (t : Text). (plain_cell t).text_lines) same ∙ one_line text feedless ∙ ap (λ (t : Text). t ∷ []) (sym same),
      ap has_escape same ∙ clear,
      c.measure_text_width.ensures.value ∙ ap measure (sym same),
      omega arith,
    )
