use Rattle.std.proofs.Common.{◌≡◌, ◌++◌, drop}
use Rattle.comfy_table.specs.Deciding.{decided}
use Rattle.comfy_table.specs.Dynamic.{added}
use Rattle.comfy_table.specs.Widths.{even_spread}
use Rattle.comfy_table.proofs.utils.arrangement.dynamic.spread.widened.Given as goal

abbrev pub invariant-loop-position : goal.invariant-loop-position
invariant-loop-position l =
    l.widths.items ++ added (decided (drop l.position l.width-items)) (drop l.position (even_spread l.budget.room l.count)) ≡ added (decided l.width-items) (even_spread l.budget.room l.count)
