use Rattle.std.proofs.Common.{append_assoc, arith}
use Rattle.comfy_parts.proofs.CallerLemmas.{repeat_more}
use Rattle.comfy_table.proofs.utils.formatting.borders.push_repeated.Goals as goal

pub loop-preserved : goal.loop-preserved
loop-preserved c = grind (arith, append_assoc, repeat_more)
