use Rattle.std.proofs.Common.{◌≡◌, ◌<◌, ◌++◌, ◌∷◌, ◌∙◌, [], ℕ, List, ap, arith, length, rules}
use Rattle.comfy_parts.specs.CellValue.{RowValue}
use Rattle.comfy_c.proofs.CellLemmas.{counts_more, rows_more}
use Rattle.comfy_c.specs.declared.cells_rows.RowNumbers.{RowNumbers}
use Rattle.comfy_c.proofs.cells_rows.rows_by.Goals as goal

pub loop-row-preserved : goal.loop-row-preserved
loop-row-preserved c =
    let rows : List RowNumbers = c.args.rows.now in
    let i : ℕ = c.loop-row.row-index in
    let had : List RowValue = c.loop-row.made.items in
    let below : i < length rows = search rules in
    let pushed : c.push.new.self.items ≡ had ++ c.in_ok-row_of.field-0 ∷ [] = search rules in
    let added = pushed ∙ ap (λ (row : RowValue). had ++ row ∷ []) c.in_ok-row_of.ensures in
    record {
      made = c.loop-row.invariant.made ∙ rows_more rows i below c.args.cells.now c.args.texts.now c.loop-row.start had c.push.new.self.items added;
      counted = omega (arith, c.loop-row.invariant.counted, counts_more rows i below);
    }
