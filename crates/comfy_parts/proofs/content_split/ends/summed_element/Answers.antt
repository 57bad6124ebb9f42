use Rattle.std.proofs.Common.{◌≡◌, ◌<◌, ◌+◌, ◌==◌, ◌++◌, inl, inr, true, false, length, encode_utf8, sym, ap, ◌∙◌, subst, arith}
use Rattle.std.proofs.lemmas.Bool.Decides.{nat_tests}
use Rattle.std.specs.Int.{is_in_range}
use Rattle.std.specs.Str.Iter.{chars_rest}
use Rattle.comfy_parts.proofs.OwnWidthLemmas.{begins-wide}
use Rattle.comfy_parts.proofs.SummedElementLemmas.{IsRun, nothing, run-ends, run-more, wide-other}
use Rattle.comfy_parts.specs.OwnWidth.{begins_wide}
use Rattle.comfy_parts.specs.Text.{Text}
use Rattle.comfy_parts.proofs.content_split.ends.summed_element.Goals as goal

pub split_at-requires : goal.split_at-requires
split_at-requires c =
    let some : 0 < length c.loop-delimiter.rest.now = grind (arith, nat_tests) in
    let is : begins_wide c.loop-delimiter.rest.now ≡ true = ap begins_wide (sym c.as_bytes.ensures.value) ∙ sym c.begins_wide.ensures ∙ c.if-begins_wide.true in
    (begins-wide c.loop-delimiter.rest.now c.loop-delimiter.invariant.after some is).boundary

pub loop-delimiter-preserved-then-begins_wide : goal.loop-delimiter-preserved-then-begins_wide
loop-delimiter-preserved-then-begins_wide c =
    let d = c.args.delimiter in
    let some : 0 < length c.loop-delimiter.rest.now = grind (arith, nat_tests) in
    let is : begins_wide c.loop-delimiter.rest.now ≡ true = ap begins_wide (sym c.as_bytes.ensures.value) ∙ sym c.begins_wide.ensures ∙ c.if-begins_wide.true in
    let wide = begins-wide c.loop-delimiter.rest.now c.loop-delimiter.invariant.after some is in
    let outside : is_in_range 0x4E00 0xCFFF d ≡ false = grind (arith, nat_tests, c.contains.ensures, c.if-contains.false) in
    subst (λ (t : Text). IsRun d c.args.text.now t (c.loop-delimiter.columns + 2)) (sym (c.split_at.ensures.back ∙ wide.after))
    (run-more d c.args.text.now c.loop-delimiter.rest.now wide.later c.loop-delimiter.columns wide.first 2 c.loop-delimiter.invariant wide.splits wide.columns (wide-other wide.first d wide.wide outside))

pub returns-then-character-delimiter : goal.returns-then-character-delimiter
returns-then-character-delimiter c =
    let later = chars_rest c.next.new.self in
    let follows : c.loop-delimiter.rest.now ≡ encode_utf8 c.args.delimiter ++ later =
    sym c.chars-characters.ensures.rest ∙ c.in_ok-character.ensures.steps.0 ∙ ap (λ x. encode_utf8 x ++ later) c.if-character-delimiter.true in
    run-ends c.args.delimiter c.args.text.now c.loop-delimiter.rest.now c.loop-delimiter.columns c.loop-delimiter.invariant c.ranges.delimiter.0 (inr (later, follows))

pub overflow_add-columns-else-begins_wide : goal.overflow_add-columns-else-begins_wide
overflow_add-columns-else-begins_wide c =
    let other : (c.in_ok-character.character == c.args.delimiter) ≡ false = grind (arith, nat_tests, c.if-character-delimiter.false) in
    let more = run-more c.args.delimiter c.args.text.now c.loop-delimiter.rest.now _ c.loop-delimiter.columns c.in_ok-character.character c.in_ok-columns.field-0 c.loop-delimiter.invariant
    (sym c.chars-characters.ensures.rest ∙ c.in_ok-character.ensures.steps.0) (sym c.own_width.ensures ∙ c.in_ok-columns.was) other in
    omega (arith, more.bound)

pub loop-delimiter-preserved : goal.loop-delimiter-preserved
loop-delimiter-preserved c =
    let other : (c.in_ok-character.character == c.args.delimiter) ≡ false = grind (arith, nat_tests, c.if-character-delimiter.false) in
    subst (λ (t : Text). IsRun c.args.delimiter c.args.text.now t (c.loop-delimiter.columns + c.in_ok-columns.field-0)) (sym c.as_str-rest.ensures)
    (run-more c.args.delimiter c.args.text.now c.loop-delimiter.rest.now _ c.loop-delimiter.columns c.in_ok-character.character c.in_ok-columns.field-0 c.loop-delimiter.invariant
    (sym c.chars-characters.ensures.rest ∙ c.in_ok-character.ensures.steps.0) (sym c.own_width.ensures ∙ c.in_ok-columns.was) other)

pub returns : goal.returns
returns c =
    let none : length c.loop-delimiter.rest.now ≡ 0 = grind (arith, nat_tests) in
    run-ends c.args.delimiter c.args.text.now c.loop-delimiter.rest.now c.loop-delimiter.columns c.loop-delimiter.invariant c.ranges.delimiter.0 (inl (nothing c.loop-delimiter.rest.now none))
