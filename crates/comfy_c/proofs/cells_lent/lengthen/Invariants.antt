use Rattle.std.proofs.Common.{◌≡◌, ◌+◌, ◌-◌, ℕ, length}
use Rattle.std.specs.List.{slice_index_or}
use Rattle.comfy_c.proofs.cells_lent.lengthen.Given as goal

abbrev pub invariant-loop-widths : goal.invariant-loop-widths
invariant-loop-widths l = (i : ℕ) → slice_index_or l.widths.items i 0 ≡ slice_index_or l.initial.widths.items i 0

abbrev pub decreases-loop-widths : goal.decreases-loop-widths
decreases-loop-widths l = (l.position + 1) - length l.widths.items
