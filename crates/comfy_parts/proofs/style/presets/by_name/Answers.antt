use Rattle.std.proofs.Common.{◌∙◌, sym, refl, arith}
use Rattle.comfy_parts.proofs.PresetLemmas.{ended, found, passed}
use Rattle.comfy_parts.proofs.style.presets.by_name.Goals as goal

pub loop-preset-init : goal.loop-preset-init
loop-preset-init c = refl

pub returns-then-eq : goal.returns-then-eq
returns-then-eq c = sym (c.loop-preset.invariant ∙ found _ c.loop-preset.preset-index _ c.args.name.now c.loop-preset-test.true (sym c.eq.ensures ∙ c.if-eq.true))

pub loop-preset-preserved : goal.loop-preset-preserved
loop-preset-preserved c = c.loop-preset.invariant ∙ passed _ c.loop-preset.preset-index _ c.args.name.now c.loop-preset-test.true (sym c.eq.ensures ∙ c.if-eq.false)

pub returns : goal.returns
returns c = sym (c.loop-preset.invariant ∙ ended _ c.loop-preset.preset-index c.args.name.now (omega (arith, c.loop-preset-test.false)))
