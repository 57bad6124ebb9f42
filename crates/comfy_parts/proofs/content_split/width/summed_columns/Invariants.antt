use Rattle.std.proofs.Common.{length}
use Rattle.comfy_parts.proofs.OwnWidthLemmas.{IsCounted}
use Rattle.comfy_parts.proofs.content_split.width.summed_columns.Given as goal

abbrev pub invariant-loop-rest : goal.invariant-loop-rest
invariant-loop-rest l = IsCounted l.text l.rest l.columns

abbrev pub decreases-loop-rest : goal.decreases-loop-rest
decreases-loop-rest l = length l.rest
