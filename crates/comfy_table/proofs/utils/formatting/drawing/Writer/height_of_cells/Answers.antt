use Rattle.std.proofs.Common.{◌≡◌, map, ap, ◌∙◌}
use Rattle.std.proofs.lemmas.Result.{IfOk-weaker}
use Rattle.comfy_table.proofs.DrawnCellLemmas.{height_of_cells}
use Rattle.comfy_table.specs.DrawnCells.{drawn_cell, greatest_height}
use Rattle.comfy_table.specs.Parts.{ArrangedValue}
use Rattle.comfy_table.specs.Pieces.{row_height, shown_infos}
use Rattle.comfy_table.specs.RowCells.{cell_of, row_with}
use Rattle.comfy_table.proofs.utils.formatting.drawing.Writer.height_of_cells.Goals as goal

pub returns : goal.returns
returns c =
    let table = c.self.inside.table.now in
    let infos = c.self.inside.infos.now in
    let row = row_with (map cell_of c.args.cells.now) c.args.limit in
    let cells = map (drawn_cell table row) c.as_slice.result.now in
    let are : cells ≡ map (drawn_cell table row) (shown_infos infos) = ap (map (drawn_cell table row)) (c.as_slice.ensures.value ∙ c.self.invariant.0) in
    IfOk-weaker c.row_height.result (λ height. height ≡ greatest_height cells) (λ height. height ≡ row_height c.args.self.now.table c.args.self.now.infos row)
    (λ height is. is ∙ height_of_cells table infos row cells are ∙ ap (λ (w : ArrangedValue). row_height w.table w.infos row) c.self.view_is)
    c.row_height.ensures
