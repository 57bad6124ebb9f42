use Rattle.std.proofs.Common.{arith}
use Rattle.comfy_table.proofs.SettlingLemmas.{undecided_past-none}
use Rattle.comfy_table.proofs.utils.arrangement.dynamic.level.settle_at.Goals as goal

pub returns : goal.returns
returns c = grind (arith, undecided_past-none)
