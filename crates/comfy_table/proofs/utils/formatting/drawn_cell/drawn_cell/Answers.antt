use Rattle.std.proofs.Common.{◌≡◌, Some, map, ap, ◌∙◌, arith}
use Rattle.std.specs.List.{slice_get}
use Rattle.comfy_table.proofs.DrawnCellLemmas.{cell_pieces_are}
use Rattle.comfy_table.specs.CellLines.{lines_of}
use Rattle.comfy_table.specs.DrawnCells.{drawn_cell, piece_with}
use Rattle.comfy_table.specs.DrawnLines.{drawn_line}
use Rattle.comfy_table.specs.RowCells.{cell_in, lines_within, row_in}
use Rattle.comfy_table.specs.declared.utils.formatting.piece.Styles.{Styles}
use Rattle.comfy_table.proofs.utils.formatting.drawn_cell.drawn_cell.Goals as goal

pub returns : goal.returns
returns c =
    let table = c.args.table.now in
    let row = row_in c.args.row in
    let info = c.column.inside.info.now in
    let cell = cell_in c.in-Some.cell in
    let lines = lines_of c.in_ok-lines.lines in
    let drawn = c.in_ok-lines.ensures ∙ ap (λ limit. map drawn_line (lines_within table limit info cell)) c.height_limit.ensures.limit in
    let found : slice_get row.cells c.column.inside.position ≡ Some cell = grind arith in
    ap (λ (styles : Styles). record { info = info; pieces = map (piece_with styles cell info) lines }) c.requires
    ∙ (λ i. record { info = info; pieces = cell_pieces_are table row info (slice_get row.cells c.column.inside.position) cell lines found drawn i })
    ∙ ap (drawn_cell table row) c.column.view_is
