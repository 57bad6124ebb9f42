use Rattle.std.proofs.Common.{arith}
use Rattle.std.proofs.lemmas.Grind.{common_steps}
use Rattle.comfy_parts.specs.VisibleText.{parts}
use Rattle.comfy_parts.proofs.FrontLemmas.{visible_bytes-visible}
use Rattle.comfy_parts.proofs.content_split.sequences.visible_text.Goals as goal

pub loop-part-preserved-in-Continue-branch-2 : goal.loop-part-preserved-in-Continue-branch-2
loop-part-preserved-in-Continue-branch-2 c =
    let visible = c.in-Visible.visible.now in
    let left = parts c.next.new.self.0.now in
    let step = rw c.in-Visible.is at c.in-Some.ensures.steps in
    grind (arith, common_steps, step, visible_bytes-visible visible left, c.loop-part.invariant)
