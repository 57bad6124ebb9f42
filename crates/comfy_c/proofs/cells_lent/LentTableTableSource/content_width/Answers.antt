use Rattle.std.proofs.Common.{◌≡◌, ◌∙◌, ap, arith, map, rules}
use Rattle.std.specs.List.{slice_index_or}
use Rattle.comfy_table.specs.RowCells.{cell_of}
use Rattle.comfy_table.specs.TableValue.{TableValue, column_content_width}
use Rattle.comfy_c.proofs.LentLemmas.{width_below}
use Rattle.comfy_c.specs.CellCalls.{rows_with}
use Rattle.comfy_c.proofs.cells_lent.LentTableTableSource.content_width.Goals as goal

pub returns : goal.returns
returns c =
    let own = c.self.inside in
    let i = c.args.position in
    let all = rows_with own.rows.now (map cell_of own.cells.items) in
    let stored : c.unwrap_or-below.result ≡ slice_index_or own.widths.items i 0 = search rules in
    let below = c.self.invariant.2 i in
    let header = c.in_ok-content_width.ensures in
    let greater = c.max.ensures in
    let whole = width_below own.table all i c.self.invariant.0 ∙ ap (λ (table : TableValue). column_content_width table i) c.self.view_is in
    omega (arith, stored, below, header, greater, whole)
