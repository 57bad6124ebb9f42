use Rattle.std.proofs.Common.{◌≡◌, ◌+◌, length, true, ◌∙◌, arith}
use Rattle.comfy_parts.specs.Text.{is_printable_ascii}
use Rattle.comfy_table.proofs.RowCellLemmas.{printable_clear, printable_columns, printable_line}
use Rattle.comfy_table.proofs.utils.formatting.row_cell.TextCell.of_printable.Goals as goal

pub invariant_of-result : goal.invariant_of-result
invariant_of-result c =
    let text = c.args.text.now in
    let printable : is_printable_ascii text ≡ true = grind arith in
    let wide = printable_columns text c.args.after printable in
    let columns : c.in_ok-columns.columns ≡ length text + c.args.after = grind arith in (
      printable_line text c.args.after printable,
      printable_clear text c.args.after printable,
      columns ∙ wide,
      omega (arith, columns),
    )
