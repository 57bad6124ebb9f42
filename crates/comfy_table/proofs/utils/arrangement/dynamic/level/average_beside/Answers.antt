use Rattle.std.proofs.Common.{arith}
use Rattle.comfy_table.proofs.LevelSearchLemmas.{left_count-is, one_each-undecided}
use Rattle.comfy_table.proofs.SettlingLemmas.{undecided_past-none}
use Rattle.comfy_table.proofs.utils.arrangement.dynamic.level.average_beside.Goals as goal

pub returns : goal.returns
returns c = grind (arith, undecided_past-none, left_count-is, one_each-undecided)
