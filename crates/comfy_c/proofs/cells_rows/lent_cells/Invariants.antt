use Rattle.std.proofs.Common.{◌≡◌, Bor, map}
use Rattle.comfy_parts.specs.Text.{Text}
use Rattle.comfy_table.specs.RowCells.{cell_of}
use Rattle.comfy_c.specs.Numbers.{cell_with}
use Rattle.comfy_c.specs.declared.cells_rows.CellNumbers.{CellNumbers}
use Rattle.comfy_c.proofs.cells_rows.lent_cells.Given as goal

abbrev pub invariant-loop-cell : goal.invariant-loop-cell
invariant-loop-cell l = map cell_of l.made.items ≡ map (λ (p : CellNumbers × Bor Text). cell_with p.0 p.1.now) (map (λ p. (p.0.now, p.1.now)) l.yielded)
