use Rattle.std.proofs.Common.{ap, ◌∙◌}
use Rattle.comfy_parts.specs.VisibleText.{opened, parts}
use Rattle.comfy_parts.proofs.OpenLemmas.{opened-visible}
use Rattle.comfy_parts.proofs.content_split.sequences.leaves_sequence_open.Goals as goal

pub loop-part-preserved : goal.loop-part-preserved
loop-part-preserved c =
    let left = c.loop-part.invariant in
    let step = rw c.in_default.is at c.in-Some.ensures.steps in
    (left.0, left.1 ∙ ap (opened left.0) step.0 ∙ opened-visible left.0 c.in_default.field-0.now (parts c.next.new.self.0.now), left.2)
