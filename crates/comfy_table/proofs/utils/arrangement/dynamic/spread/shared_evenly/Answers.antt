use Rattle.std.proofs.Common.{arith}
use Rattle.std.proofs.lemmas.Grind.{common_steps}
use Rattle.comfy_table.proofs.FilledLemmas.{count_none, count_some, filled_none, filled_some}
use Rattle.comfy_table.proofs.utils.arrangement.dynamic.spread.shared_evenly.Goals.{in-Some+in_ok-push-in-Some, in-None+in_ok-push-in-None}
use Rattle.comfy_table.proofs.utils.arrangement.dynamic.spread.shared_evenly.Goals as goal

pub loop-width-preserved : goal.loop-width-preserved
loop-width-preserved c = grind (arith, filled_some, count_some, count_none, filled_none)

pub even_part-requires-clause-fits : goal.even_part-requires-clause-fits
even_part-requires-clause-fits c = grind (arith, common_steps)

pub overflow_add-index : goal.overflow_add-index
overflow_add-index c = grind (arith, common_steps)

pub loop-width-init : goal.loop-width-init
loop-width-init c = grind (arith, common_steps)

pub returns : goal.returns
returns c = grind (arith, common_steps)
