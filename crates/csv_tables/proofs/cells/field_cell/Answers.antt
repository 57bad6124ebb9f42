use Rattle.std.proofs.Common.{ap, ◌∙◌}
use Rattle.std.proofs.lemmas.Result.{IfOk-weaker}
use Rattle.csv_tables.specs.Cells.{cell_for}
use Rattle.csv_tables.proofs.cells.field_cell.Goals as goal

pub returns : goal.returns
returns c =
    IfOk-weaker c.row_cell.result _ _ (λ cell is. is ∙ ap (cell_for c.args.look.now c.args.column.now.alignment) c.in_ok-after.ensures) c.row_cell.ensures
