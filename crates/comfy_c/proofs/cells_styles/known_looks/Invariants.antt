use Rattle.std.proofs.Common.{◌≤◌, length}
use Rattle.comfy_c.proofs.cells_styles.known_looks.Given as goal

abbrev pub invariant-loop-cell : goal.invariant-loop-cell
invariant-loop-cell l = length l.looks.items ≤ 8
