use Rattle.std.proofs.Common.{◌≡◌, map}
use Rattle.comfy_parts.proofs.convert.VecIntoCells.into_cells.Given as goal

abbrev pub invariant-loop-value : goal.invariant-loop-value
invariant-loop-value g l = l.cells.items ≡ map g.T.IntoCell.cell_of l.yielded
