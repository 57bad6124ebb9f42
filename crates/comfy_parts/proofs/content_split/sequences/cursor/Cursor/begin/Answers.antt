use Rattle.std.proofs.Common.{ap, sym, ◌∙◌}
use Rattle.comfy_parts.specs.VisibleText.{opened, parts}
use Rattle.comfy_parts.proofs.OpenLemmas.{opened-visible}
use Rattle.comfy_parts.proofs.content_split.sequences.cursor.Cursor.begin.Goals as goal

pub loop-part-preserved : goal.loop-part-preserved
loop-part-preserved c =
    let sequences = c.loop-part.self.sequences in
    let step = rw c.in_default.is at c.in-Some.ensures.steps in
    sym (opened-visible sequences c.in_default.field-0.now (parts c.next.new.self.0.now)) ∙ ap (opened sequences) (sym step.0) ∙ c.loop-part.invariant
