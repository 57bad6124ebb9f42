use Rattle.std.proofs.Common.{arith}
use Rattle.std.proofs.lemmas.Grind.{common_steps}
use Rattle.comfy_run.proofs.arguments.settings_of.Goals as goal

pub returns-in_default : goal.returns-in_default
returns-in_default c = grind (arith, common_steps)

pub returns-in_err-width_of : goal.returns-in_err-width_of
returns-in_err-width_of c = grind (arith, common_steps)

pub returns-in_err-arrangement_of : goal.returns-in_err-arrangement_of
returns-in_err-arrangement_of c = grind (arith, common_steps)

pub returns-in_err-by_name : goal.returns-in_err-by_name
returns-in_err-by_name c = grind (arith, common_steps)

pub returns : goal.returns
returns c = grind (arith, common_steps)
