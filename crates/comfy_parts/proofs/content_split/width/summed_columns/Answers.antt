use Rattle.std.proofs.Common.{◌≡◌, ◌<◌, ◌+◌, true, length, sym, ap, ◌∙◌, subst, arith}
use Rattle.std.proofs.lemmas.Bool.Decides.{nat_tests}
use Rattle.comfy_parts.proofs.OwnWidthLemmas.{IsCounted, begins-wide, counted-clear, counted-more}
use Rattle.comfy_parts.specs.OwnWidth.{begins_wide}
use Rattle.comfy_parts.specs.Text.{Text}
use Rattle.comfy_parts.proofs.content_split.width.summed_columns.Goals as goal

pub split_at-requires : goal.split_at-requires
split_at-requires c =
    let some : 0 < length c.loop-rest.rest.now = grind (arith, nat_tests) in
    let is : begins_wide c.loop-rest.rest.now ≡ true = ap begins_wide (sym c.as_bytes.ensures.value) ∙ sym c.begins_wide.ensures ∙ c.if-begins_wide.true in
    (begins-wide c.loop-rest.rest.now c.loop-rest.invariant.utf8 some is).boundary

pub loop-rest-preserved-then-begins_wide : goal.loop-rest-preserved-then-begins_wide
loop-rest-preserved-then-begins_wide c =
    let some : 0 < length c.loop-rest.rest.now = grind (arith, nat_tests) in
    let is : begins_wide c.loop-rest.rest.now ≡ true = ap begins_wide (sym c.as_bytes.ensures.value) ∙ sym c.begins_wide.ensures ∙ c.if-begins_wide.true in
    let wide = begins-wide c.loop-rest.rest.now c.loop-rest.invariant.utf8 some is in
    subst (λ (t : Text). IsCounted c.args.text.now t (c.loop-rest.columns + 2)) (sym (c.split_at.ensures.back ∙ wide.after))
    (counted-more c.args.text.now c.loop-rest.rest.now wide.later c.loop-rest.columns wide.first 2 c.loop-rest.invariant wide.splits wide.columns)

pub overflow_add-columns-else-begins_wide : goal.overflow_add-columns-else-begins_wide
overflow_add-columns-else-begins_wide c =
    let more = counted-more c.args.text.now c.loop-rest.rest.now _ c.loop-rest.columns c.in_ok-next.field-0 c.in_ok-columns.field-0 c.loop-rest.invariant
    (sym c.chars-characters.ensures.rest ∙ c.in_ok-next.ensures.steps.0) (sym c.own_width.ensures ∙ c.in_ok-columns.was) in
    omega (arith, more.bound)

pub loop-rest-preserved : goal.loop-rest-preserved
loop-rest-preserved c =
    subst (λ (t : Text). IsCounted c.args.text.now t (c.loop-rest.columns + c.in_ok-columns.field-0)) (sym c.as_str-rest.ensures)
    (counted-more c.args.text.now c.loop-rest.rest.now _ c.loop-rest.columns c.in_ok-next.field-0 c.in_ok-columns.field-0 c.loop-rest.invariant
    (sym c.chars-characters.ensures.rest ∙ c.in_ok-next.ensures.steps.0) (sym c.own_width.ensures ∙ c.in_ok-columns.was))

pub returns-clause-clear : goal.returns-clause-clear
returns-clause-clear c =
    let none : length c.loop-rest.rest.now ≡ 0 = grind (arith, nat_tests) in
    counted-clear c.args.text.now c.loop-rest.rest.now c.loop-rest.columns c.loop-rest.invariant none
