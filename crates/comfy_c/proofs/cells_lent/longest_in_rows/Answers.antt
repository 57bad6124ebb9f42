use Rattle.std.proofs.Common.{◌≡◌, ◌<◌, ◌+◌, ◌∙◌, ℕ, List, ap, arith, drop, get_or, length, map, max, rules, take}
use Rattle.std.proofs.lemmas.List.{drop_all}
use Rattle.std.specs.List.{slice_get}
use Rattle.comfy_parts.specs.CellValue.{CellValue, RowValue}
use Rattle.comfy_table.specs.LongestLine.{cell_longest_line}
use Rattle.comfy_table.specs.RowCells.{cell_of}
use Rattle.comfy_table.specs.declared.utils.formatting.row_cell.RowCell.{RowCell}
use Rattle.csv_tables.specs.Contents.{greatest_at, measured_at}
use Rattle.comfy_c.proofs.CellLemmas.{counts_more, no_row}
use Rattle.comfy_c.proofs.LentLemmas.{cells_in, next_row}
use Rattle.comfy_c.specs.CellCalls.{rows_with}
use Rattle.comfy_c.specs.declared.cells_rows.RowNumbers.{RowNumbers}
use Rattle.comfy_c.proofs.cells_lent.longest_in_rows.Goals as goal

pub loop-row-preserved : goal.loop-row-preserved
loop-row-preserved c =
    let rows : List RowNumbers = c.args.rows.now in
    let cells : List RowCell = c.args.cells.now in
    let values : List CellValue = map cell_of cells in
    let i : ℕ = c.loop-row.row-index in
    let start : ℕ = c.loop-row.start in
    let below : i < length rows = search rules in
    let row : RowNumbers = get_or rows i no_row in
    let mine : List CellValue = take row.cells (drop start values) in
    let others : List RowValue = rows_with (drop (i + 1) rows) (drop (start + row.cells) values) in
    let step = next_row rows i below values start in
    let at : ℕ = c.args.position in
    let f : List RowValue → ℕ = λ own. greatest_at c.args.table.now (cell_longest_line c.args.table.now c.args.info.now) own at in
    let m : List CellValue → ℕ = λ own. measured_at c.args.table.now (cell_longest_line c.args.table.now c.args.info.now) (slice_get own at) in
    let one = c.in_ok-longest_at.ensures ∙ ap m (cells_in cells start row.cells) in
    let parts : f (rows_with (drop i rows) (drop start values)) ≡ max (m mine) (f others) = ap f step in
    let so = c.loop-row.invariant.longest in
    let greater = c.max-longest.ensures in
    record {
      longest = omega (arith, one, parts, so, greater);
      counted = omega (arith, c.loop-row.invariant.counted, counts_more rows i below);
    }

pub returns-then-longest-limit-clause-at_most : goal.returns-then-longest-limit-clause-at_most
returns-then-longest-limit-clause-at_most c =
    let rows : List RowNumbers = c.args.rows.now in
    let cells : List RowCell = c.args.cells.now in
    let values : List CellValue = map cell_of cells in
    let i : ℕ = c.loop-row.row-index in
    let start : ℕ = c.loop-row.start in
    let below : i < length rows = search rules in
    let row : RowNumbers = get_or rows i no_row in
    let mine : List CellValue = take row.cells (drop start values) in
    let others : List RowValue = rows_with (drop (i + 1) rows) (drop (start + row.cells) values) in
    let step = next_row rows i below values start in
    let at : ℕ = c.args.position in
    let f : List RowValue → ℕ = λ own. greatest_at c.args.table.now (cell_longest_line c.args.table.now c.args.info.now) own at in
    let m : List CellValue → ℕ = λ own. measured_at c.args.table.now (cell_longest_line c.args.table.now c.args.info.now) (slice_get own at) in
    let one = c.in_ok-longest_at.ensures ∙ ap m (cells_in cells start row.cells) in
    let parts : f (rows_with (drop i rows) (drop start values)) ≡ max (m mine) (f others) = ap f step in
    let so = c.loop-row.invariant.longest in
    let greater = c.max-longest.ensures in
    omega (arith, one, parts, so, greater)

pub returns-clause-at_most : goal.returns-clause-at_most
returns-clause-at_most c =
    let so = c.loop-row.invariant.longest in
    omega (arith, so)

pub returns-clause-exact : goal.returns-clause-exact
returns-clause-exact c within =
    let rows : List RowNumbers = c.args.rows.now in
    let f : List RowNumbers → ℕ = λ own. greatest_at c.args.table.now (cell_longest_line c.args.table.now c.args.info.now) (rows_with own (drop c.loop-row.start (map cell_of c.args.cells.now))) c.args.position in
    let ended = ap f (drop_all c.loop-row.row-index rows (omega (arith, c.loop-row-test.false))) in
    let so = c.loop-row.invariant.longest in
    omega (arith, ended, so)
