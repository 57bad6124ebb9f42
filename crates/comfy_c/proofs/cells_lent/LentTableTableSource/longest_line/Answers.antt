use Rattle.std.proofs.Common.{◌≡◌, ◌≤◌, ◌∙◌, ℕ, List, ap, arith, map, rules}
use Rattle.comfy_table.specs.Lines.{longest_line}
use Rattle.comfy_table.specs.LongestLine.{cell_longest_line}
use Rattle.comfy_table.specs.RowCells.{cell_of}
use Rattle.comfy_table.specs.TableValue.{TableValue}
use Rattle.comfy_table.specs.declared.utils.formatting.row_cell.RowCell.{RowCell}
use Rattle.csv_tables.specs.Contents.{greatest_at}
use Rattle.comfy_c.proofs.LentLemmas.{longest_below}
use Rattle.comfy_c.specs.CellCalls.{rows_with}
use Rattle.comfy_c.proofs.cells_lent.LentTableTableSource.longest_line.Goals as goal

pub returns-clause-at_most : goal.returns-clause-at_most
returns-clause-at_most c =
    let t : TableValue = c.self.inside.table in
    let rows = c.self.inside.rows.now in
    let all = rows_with rows (map cell_of c.self.inside.cells.items) in
    let i = c.args.position in
    let info = c.args.info.now in
    let lines : TableValue → ℕ = λ w. longest_line w i info.delimiter info.content_width in
    let main = longest_below t all info i c.self.invariant.0 ∙ ap lines c.self.view_is in
    let same = ap (λ (cells : List RowCell). greatest_at t (cell_longest_line t info) (rows_with rows (map cell_of cells)) i) c.as_slice-cells.ensures.value in
    let header : c.in_ok-header.header ≡ lines t = search rules in
    let greater = c.max.ensures in
    let below = c.in_ok-below.ensures.at_most in
    omega (arith, main, same, header, greater, below)

pub returns-clause-exact : goal.returns-clause-exact
returns-clause-exact c within =
    let t : TableValue = c.self.inside.table in
    let rows = c.self.inside.rows.now in
    let all = rows_with rows (map cell_of c.self.inside.cells.items) in
    let i = c.args.position in
    let info = c.args.info.now in
    let lines : TableValue → ℕ = λ w. longest_line w i info.delimiter info.content_width in
    let main = longest_below t all info i c.self.invariant.0 ∙ ap lines c.self.view_is in
    let same = ap (λ (cells : List RowCell). greatest_at t (cell_longest_line t info) (rows_with rows (map cell_of cells)) i) c.as_slice-cells.ensures.value in
    let header : c.in_ok-header.header ≡ lines t = search rules in
    let greater = c.max.ensures in
    let low : c.in_ok-below.below ≤ c.args.limit = omega (arith, greater, within) in
    let below = c.in_ok-below.ensures.exact low in
    omega (arith, main, same, header, greater, below)
