use Rattle.std.proofs.Common.{◌≡◌, ◌+◌, ◌++◌, drop}
use Rattle.comfy_table.specs.Deciding.{filled, undecided_count}
use Rattle.comfy_table.specs.Widths.{even_spread}
use Rattle.comfy_table.proofs.utils.arrangement.dynamic.spread.shared_evenly.Given as goal

abbrev pub invariant-loop-width : goal.invariant-loop-width
invariant-loop-width l =
    (l.widths.items ++ filled (drop l.width-index l.width-items) (drop l.index (even_spread l.room l.undecided)) ≡ filled l.width-items (even_spread l.room l.undecided))
    × (l.index + undecided_count (drop l.width-index l.width-items) ≡ l.undecided)
