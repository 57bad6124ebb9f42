use Rattle.std.proofs.Common.{arith}
use Rattle.std.proofs.lemmas.List.{length-map}
use Rattle.comfy_table.specs.Deciding.{all_needs, undecided_among}
use Rattle.comfy_table.specs.TableValue.{TableValue}
use Rattle.comfy_table.proofs.LevelSearchLemmas.{level_found, needed_at_first, needed_at_next, one_each-undecided}
use Rattle.comfy_table.proofs.UndecidedLemmas.{length-undecided_among}
use Rattle.comfy_table.proofs.utils.arrangement.dynamic.level.level_from.Goals as goal

pub loop-level-init : goal.loop-level-init
loop-level-init c = grind (arith, length-undecided_among, length-map, needed_at_first)

pub loop-level-preserved : goal.loop-level-preserved
loop-level-preserved c = grind (arith, needed_at_next, one_each-undecided)

pub returns : goal.returns
returns c = λ (table : TableValue).
    let needs = all_needs table c.args.columns.now in
    let widths = c.args.budget.now.widths.items in
    level_found c.args.budget.now.room (undecided_among needs widths) (one_each-undecided needs widths) c.loop-level.level c.loop-level.raised c.loop-level.invariant.some c.loop-level-test.false (c.loop-level.invariant.raised table)
    (c.loop-level.invariant.enough table)
