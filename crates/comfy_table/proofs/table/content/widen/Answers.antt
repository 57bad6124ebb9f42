use Rattle.std.proofs.Common.{◌≡◌, ℕ, ◌+◌, ◌<◌, List, suc, length, max, take, ap, ap₂, ◌∙◌, arith}
use Rattle.std.specs.List.{slice_index_or, slice_set}
use Rattle.comfy_parts.specs.CellValue.{CellValue}
use Rattle.comfy_table.specs.TableValue.{widened}
use Rattle.comfy_table.proofs.WidenedLemmas.{widened-more}
use Rattle.comfy_table.proofs.table.content.widen.Goals as goal

pub loop-position-preserved : goal.loop-position-preserved
loop-position-preserved c =
    let table = c.args.table.now in
    let cells = c.args.row.now.cells in
    let cell = c.cell-item.result in
    let widths = c.args.widths.now.items in
    let k : ℕ = c.loop-position.position in
    let items : c.as_slice-cell-items.result.now ≡ cells = c.as_slice-cell-items.ensures.value ∙ c.cell_iter.ensures.rest in
    let long : length c.as_slice-cell-items.result.now ≡ length cells = ap length items in
    let test = c.loop-position-test.true in
    let below : k < length cells = omega (arith, long, test) in
    let is : cell ≡ slice_index_or cells k cell = c.cell-item.is ∙ ap (λ (xs : List CellValue). slice_index_or xs k cell) items in
    let one : suc k ≡ k + 1 = omega arith in
    c.widen_at.ensures
    ∙ ap₂ (λ (ws : List ℕ) (w : ℕ). slice_set ws k (max (slice_index_or ws k 0) w)) c.loop-position.invariant c.cell_content_width.ensures
    ∙ widened-more table cells widths k cell below is
    ∙ ap (λ (n : ℕ). widened table (take n cells) widths) one
