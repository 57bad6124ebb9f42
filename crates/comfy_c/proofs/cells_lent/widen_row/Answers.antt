use Rattle.std.proofs.Common.{◌≡◌, ◌<◌, ◌==◌, ◌∙◌, ℕ, List, Some, ap, arith, length, map, max, refl, rules, sym}
use Rattle.std.proofs.lemmas.List.{length-map}
use Rattle.std.specs.List.{slice_get, slice_index_or}
use Rattle.std.specs.Prelude.{if◌then◌else◌}
use Rattle.comfy_parts.specs.CellValue.{CellValue}
use Rattle.comfy_table.specs.RowCells.{cell_of}
use Rattle.comfy_table.specs.TableValue.{cell_content_width}
use Rattle.comfy_table.specs.declared.utils.formatting.row_cell.RowCell.{RowCell}
use Rattle.csv_tables.specs.Contents.{measured_at}
use Rattle.comfy_c.proofs.LentLemmas.{all_cells, cell_there, one_wider}
use Rattle.comfy_c.proofs.cells_lent.widen_row.Goals as goal

pub loop-position-preserved : goal.loop-position-preserved
loop-position-preserved c = λ i.
    let table = c.args.table.now in
    let cells : List RowCell = c.args.cells.now in
    let values : List CellValue = map cell_of cells in
    let k : ℕ = c.loop-position.position in
    let cell : RowCell = c.index-cells-position.result in
    let below : k < length cells = search rules in
    let is : cell ≡ slice_index_or cells k cell = search rules in
    let here : slice_get values k ≡ Some (cell_of cell) = cell_there cells k cell below ∙ ap (λ (own : RowCell). Some (cell_of own)) (sym is) in
    let f : ℕ → ℕ = λ j. measured_at table cell_content_width (slice_get values j) in
    let width : c.content_width.result ≡ f k = c.content_width.ensures ∙ sym (ap (measured_at table cell_content_width) here) in
    c.in_ok-widen_at.ensures i
    ∙ ap (λ n. max (slice_index_or c.loop-position.widths.items i 0) (if i == k then n else 0)) width
    ∙ ap (λ n. max n (if i == k then f k else 0)) (c.loop-position.invariant i)
    ∙ one_wider (slice_index_or c.args.widths.now.items i 0) f i k

pub returns : goal.returns
returns c = λ i.
    let cells : List RowCell = c.args.cells.now in
    let k : ℕ = c.loop-position.position in
    let all : length (map cell_of cells) ≡ k = omega (arith, length-map cells cell_of, c.loop-position-test.false, c.loop-position.auto.position-end) in
    c.loop-position.invariant i
    ∙ ap (max (slice_index_or c.args.widths.now.items i 0)) (all_cells (measured_at c.args.table.now cell_content_width) (map cell_of cells) k i refl all)
