use Rattle.std.proofs.Common.{arith}
use Rattle.std.proofs.lemmas.Grind.{common_steps}
use Rattle.comfy_parts.proofs.cell.text_lines.visible_lines.Goals as goal

pub loop-line-preserved : goal.loop-line-preserved
loop-line-preserved c = record { texts = grind (arith, common_steps); widths = grind (arith, common_steps) }
