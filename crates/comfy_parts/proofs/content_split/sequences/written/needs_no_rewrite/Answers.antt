use Rattle.std.proofs.Common.{ap, ◌∙◌}
use Rattle.comfy_parts.specs.VisibleText.{parts}
use Rattle.comfy_parts.proofs.WholeTextLemmas.{closes-visible, written_whole, closes_itself}
use Rattle.comfy_parts.proofs.content_split.sequences.written.needs_no_rewrite.Goals as goal

pub loop-part-preserved-in_default : goal.loop-part-preserved-in_default
loop-part-preserved-in_default c =
    let step = rw c.in_default.is at c.in-Some.ensures.steps in
    let is_open = c.loop-part.is_open in
    let follows = c.loop-part.follows_visible in
    c.loop-part.invariant ∙ ap (closes_itself is_open follows) step.0 ∙ closes-visible is_open follows c.in_default.field-0.now (parts c.next.new.self.0.now) step.1

pub returns : goal.returns
returns c =
    let none = c.in-None.ensures.steps.0 in
    λ closed. written_whole c.args.text.now (c.loop-part.invariant ∙ ap (closes_itself c.loop-part.is_open c.loop-part.follows_visible) none ∙ closed)
