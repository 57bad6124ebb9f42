use Rattle.std.proofs.Common.{length}
use Rattle.comfy_parts.proofs.SummedElementLemmas.{IsRun}
use Rattle.comfy_parts.proofs.content_split.ends.summed_element.Given as goal

abbrev pub invariant-loop-delimiter : goal.invariant-loop-delimiter
invariant-loop-delimiter l = IsRun l.delimiter l.text l.rest l.columns

abbrev pub decreases-loop-delimiter : goal.decreases-loop-delimiter
decreases-loop-delimiter l = length l.rest
