use Rattle.std.proofs.Common.{◌≡◌, ◌<◌, ◌+◌, ◌∙◌, [], ℕ, List, ap, arith, drop, get_or, length, map, max, rules, take}
use Rattle.std.proofs.lemmas.List.{drop_all}
use Rattle.std.specs.List.{slice_get, slice_index_or}
use Rattle.comfy_parts.specs.CellValue.{CellValue, RowValue}
use Rattle.comfy_table.specs.RowCells.{cell_of}
use Rattle.comfy_table.specs.TableValue.{cell_content_width}
use Rattle.comfy_table.specs.declared.utils.formatting.row_cell.RowCell.{RowCell}
use Rattle.csv_tables.specs.Contents.{greatest_at, measured_at}
use Rattle.comfy_c.proofs.CellLemmas.{counts_more, no_row}
use Rattle.comfy_c.proofs.LentLemmas.{cells_in, next_row}
use Rattle.comfy_c.specs.CellCalls.{rows_with}
use Rattle.comfy_c.specs.declared.cells_rows.RowNumbers.{RowNumbers}
use Rattle.comfy_c.proofs.cells_lent.widen_rows.Goals as goal

pub loop-row-preserved : goal.loop-row-preserved
loop-row-preserved c =
    let rows : List RowNumbers = c.args.rows.now in
    let cells : List RowCell = c.args.cells.now in
    let values : List CellValue = map cell_of cells in
    let i : ℕ = c.loop-row.row-index in
    let start : ℕ = c.loop-row.start in
    let below : i < length rows = search rules in
    let row : RowNumbers = get_or rows i no_row in
    let mine : List CellValue = take row.cells (drop start values) in
    let others : List RowValue = rows_with (drop (i + 1) rows) (drop (start + row.cells) values) in
    let step = next_row rows i below values start in
    let f : List RowValue → ℕ → ℕ = λ own j. greatest_at c.args.table.now cell_content_width own j in
    let m : List CellValue → ℕ → ℕ = λ own j. measured_at c.args.table.now cell_content_width (slice_get own j) in
    record {
      widths = λ j.
          let grown : slice_index_or c.widen_row.new.widths.items j 0 ≡ max (slice_index_or c.loop-row.widths.items j 0) (m mine j) = c.in_ok-widen_row.ensures j ∙ ap (λ (own : List CellValue). max (slice_index_or c.loop-row.widths.items j 0) (m own j)) (cells_in cells start row.cells) in
          let parts : f (rows_with (drop i rows) (drop start values)) j ≡ max (m mine j) (f others j) = ap (λ (own : List RowValue). f own j) step in
          let so = c.loop-row.invariant.widths j in
          omega (arith, grown, parts, so);
      counted = omega (arith, c.loop-row.invariant.counted, counts_more rows i below);
    }

pub returns : goal.returns
returns c = λ j.
    let rows : List RowNumbers = c.args.rows.now in
    let ended : drop c.loop-row.row-index rows ≡ [] = drop_all c.loop-row.row-index rows (omega (arith, c.loop-row-test.false)) in
    let none : greatest_at c.args.table.now cell_content_width (rows_with (drop c.loop-row.row-index rows) (drop c.loop-row.start (map cell_of c.args.cells.now))) j ≡ 0 = ap (λ (own : List RowNumbers). greatest_at c.args.table.now cell_content_width (rows_with own (drop c.loop-row.start (map cell_of c.args.cells.now))) j) ended in
    let so = c.loop-row.invariant.widths j in
    omega (arith, none, so)
