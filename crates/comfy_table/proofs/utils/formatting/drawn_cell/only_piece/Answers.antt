use Rattle.std.proofs.Common.{◌≡◌, ◌≤◌, Some, [], ◌∷◌, ◌++◌, map, ap, ◌∙◌, subst, arith}
use Rattle.std.specs.List.{slice_get}
use Rattle.std.specs.Prelude.{IfSome}
use Rattle.comfy_parts.specs.Text.{Text}
use Rattle.comfy_table.proofs.DrawnCellLemmas.{cell_pieces_are}
use Rattle.comfy_table.proofs.DrawnLineLemmas.{drawn-one}
use Rattle.comfy_table.specs.DrawnCells.{piece_with}
use Rattle.comfy_table.specs.DrawnLines.{DrawnLine, drawn_line}
use Rattle.comfy_table.specs.Pieces.{pieces_at, row_cell_lines}
use Rattle.comfy_table.specs.RowCells.{cell_in, row_in}
use Rattle.comfy_table.specs.declared.utils.formatting.piece.Styles.{Styles}
use Rattle.comfy_table.proofs.utils.formatting.drawn_cell.only_piece.Goals as goal

pub returns : goal.returns
returns c =
    let table = c.args.table.now in
    let row = row_in c.args.row in
    let info = c.column.inside.info.now in
    let cell = cell_in c.in-Some.cell in
    let line : DrawnLine = record { columns = c.in_ok-columns.columns; written = c.in_ok-columns.text.now ++ c.in_ok-columns.end.now } in
    let found : slice_get row.cells c.column.inside.position ≡ Some cell = grind arith in
    let limit : IfSome row.max_height (λ lines. 1 ≤ lines) = subst (λ limit. IfSome limit (λ lines. 1 ≤ lines)) c.height_limit-limit.ensures.limit c.height_limit-limit.ensures.at_least_one in
    let one : line ∷ [] ≡ map drawn_line (row_cell_lines table row info cell) = drawn-one table row info cell line c.in_ok-columns.ensures limit in
    ap (λ (t : Text). t ∷ []) (c.new.ensures ∙ ap (λ (styles : Styles). piece_with styles cell info line) c.requires)
    ∙ cell_pieces_are table row info (slice_get row.cells c.column.inside.position) cell (line ∷ []) found one
    ∙ ap (pieces_at table row) c.column.view_is
