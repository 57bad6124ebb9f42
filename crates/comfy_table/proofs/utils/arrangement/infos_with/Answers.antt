use Rattle.std.proofs.lemmas.Grind.{common_steps}
use Rattle.std.proofs.Common.{arith}
use Rattle.comfy_table.proofs.utils.arrangement.infos_with.Goals.{then-is_hidden+in_ok-content_width, else-is_hidden}
use Rattle.comfy_table.proofs.utils.arrangement.infos_with.Goals as goal

pub loop-position-preserved : goal.loop-position-preserved
loop-position-preserved g c = grind (arith, common_steps)

pub returns : goal.returns
returns g c = grind (arith, common_steps)
