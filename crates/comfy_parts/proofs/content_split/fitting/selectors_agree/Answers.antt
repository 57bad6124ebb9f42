use Rattle.std.proofs.Common.{sym, ap, ◌∙◌, subst}
use Rattle.std.specs.Str.Iter.{chars_rest}
use Rattle.cluster_width.proofs.FittingLemmas.{AgreesAlike, alike-all, alike-clash, alike-end, alike-more}
use Rattle.comfy_parts.proofs.content_split.fitting.selectors_agree.Goals as goal

pub loop-character-init : goal.loop-character-init
loop-character-init c =
    let rest = ap chars_rest c.into_iter-character-iterator.ensures.into_iter_gives ∙ c.chars-character-items.ensures.rest in
    subst (λ t. AgreesAlike c.args.text.now t 0x20) (sym rest) (alike-all c.args.text.now c.utf8.text)

pub loop-character-preserved : goal.loop-character-preserved
loop-character-preserved c =
    alike-more _ _ _ _ c.in-Some.character c.loop-character.invariant c.in-Some.ensures.steps.0 (sym c.clash.ensures ∙ c.if-clash.false)

pub returns-then-clash : goal.returns-then-clash
returns-then-clash c =
    alike-clash _ _ _ _ c.in-Some.character c.loop-character.invariant c.in-Some.ensures.steps.0 (sym c.clash.ensures ∙ c.if-clash.true)

pub returns : goal.returns
returns c = alike-end _ _ _ c.loop-character.invariant c.in-None.ensures.steps.0.0
