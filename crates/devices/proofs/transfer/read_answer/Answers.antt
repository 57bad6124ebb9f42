use Rattle.std.proofs.Common.{◌≡◌, ◌<◌, [], true, length, rules, sym, ◌∙◌}
use Rattle.devices.proofs.TestedLemmas.{answered_by_beginning, answered_by_whole, tested_again}
use Rattle.devices.proofs.DeviceLemmas.{moves_on}
use Rattle.devices.specs.Transfer.{IsRenderedBy}
use Rattle.devices.proofs.transfer.read_answer.Goals as goal

pub returns-in-Some-clause-answer : goal.returns-in-Some-clause-answer
returns-in-Some-clause-answer g c =
    let D = g.D.Render in
    let moved = moves_on _ _ _ [] _ c.loop-input.invariant.moved _ c.in_ok-read_up_to.ensures.moved in
    let full : length c.read_up_to.new.bytes.items ≡ c.loop-input.len = search rules in
    let ended : g.R.Source.end_was_read c.read_up_to.new.source ≡ g.R.Source.end_was_read c.args.source.now = search rules in
    answered_by_beginning (D.is_not_enough c.args.drawing.now) _ _ c.loop-input.len _ c.loop-input.invariant.tested moved (IsRenderedBy g.D.Output.Pieces.rest (D.is_output c.args.drawing.now) (D.are_findings c.args.drawing.now)) (D.is_refusal c.args.drawing.now) c.in-Some.answer _ full
    (λ all is own. g.met.R.Source.ended c.args.source.now (sym ended ∙ is) all own) (rw c.as_slice.ensures.value at c.in-Some.ensures.some)

pub loop-input-preserved : goal.loop-input-preserved
loop-input-preserved g c =
    let moved = moves_on _ _ _ [] _ c.loop-input.invariant.moved _ c.in_ok-read_up_to.ensures.moved in
    let full : length c.read_up_to.new.bytes.items ≡ c.loop-input.len = search rules in
    record {
      moved = moved;
      ended = search rules;
      fewer = search rules;
      tested = tested_again _ _ _ _ _ c.loop-input.invariant.tested moved full (rw c.as_slice.ensures.value at c.in_default.ensures.none);
    }

pub returns-clause-answer : goal.returns-clause-answer
returns-clause-answer g c =
    let D = g.D.Render in
    let moved = moves_on _ _ _ [] _ c.loop-input.invariant.moved _ c.in_ok-read_up_to.ensures.moved in
    let few : length c.read_up_to.new.bytes.items < c.loop-input.len = search rules in
    let ended : g.R.Source.end_was_read c.read_up_to.new.source ≡ true = search rules in
    answered_by_whole (D.is_not_enough c.args.drawing.now) _ _ c.loop-input.len _ c.loop-input.invariant.tested moved (IsRenderedBy g.D.Output.Pieces.rest (D.is_output c.args.drawing.now) (D.are_findings c.args.drawing.now)) (D.is_refusal c.args.drawing.now) c.render.result _ few ended
    (λ left own. g.met.R.Source.ended c.read_up_to.new.source ended left own) c.render.ensures
