use Rattle.std.proofs.Common.{◌≡◌, false, arith}
use Rattle.comfy_parts.specs.VisibleText.{has_escape}
use Rattle.comfy_table.proofs.RowCellLemmas.{lines_clear}
use Rattle.comfy_table.proofs.utils.formatting.row_cell.LinesCell.of_lines.Goals as goal

pub invariant_of-result : goal.invariant_of-result
invariant_of-result c =
    let text = c.args.text.now in
    let clear : has_escape text ≡ false = grind arith in (
      lines_clear text clear,
      c.widest_line.ensures,
    )
