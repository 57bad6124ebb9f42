use Rattle.std.proofs.Common.{◌≡◌, ◌+◌, ◌++◌, ◌∙◌, ◌==◌, true, length, ap, sym, arith, append_assoc, length-append}
use Rattle.std.proofs.lemmas.Bool.Decides.{nat_tests}
use Rattle.std.specs.Prelude.{encode_utf8}
use Rattle.comfy_parts.specs.Wrapping.{bytes_taken}
use Rattle.comfy_parts.specs.Text.{Text, measure}
use Rattle.comfy_parts.proofs.FilledLemmas.{if-then_some, passed-bytes, passed-none, passed-next}
use Rattle.comfy_parts.proofs.FollowingLemmas.{follow-next, stripped, taken-more, taken-part}
use Rattle.comfy_parts.proofs.MeasuredLineLemmas.{measured-at}
use Rattle.comfy_parts.proofs.content_split.ends.taken_after.Goals as goal

pub returns-then-columns-saturating_sub : goal.returns-then-columns-saturating_sub
returns-then-columns-saturating_sub c =
    let d = c.args.delimiter in
    let rest = c.loop-filled.rest.now in
    let next = c.measured_element-columns.result.0.now in
    let splits = stripped d rest c.in-Some.others.now c.in-Some.ensures.cases in
    let bytes = ap length splits ∙ length-append (encode_utf8 d) c.in-Some.others.now in
    let more = length-append next c.measured_element-columns.result.1.now in
    let joined = ap length c.measured_element-columns.ensures.element.joined in
    record {
      value = λ es follow.
          let before = c.loop-filled.invariant.taken es follow in
          let step = follow-next d before.0 rest c.in-Some.others.now next c.measured_element-columns.result.1.now before.1 splits c.measured_element-columns.ensures.element in
          let part = ap (bytes_taken c.args.width d c.loop-filled.filled) step.1 ∙ taken-part c.args.width d c.loop-filled.filled next step.0 (omega arith) (omega (arith, c.measured_element-columns.ensures.columns)) in
          let sum = before.2 in
          omega (arith, part, sum, c.part_of_next-part.ensures.value);
      bound = omega (arith, bytes, more, joined);
      columns = rw c.then_some.ensures (if-then_some _ _ _ (λ (none : (c.part_of_next-part.result == 0) ≡ true). passed-bytes d c.args.first c.loop-filled.filled c.args.after.now rest c.loop-filled.invariant.passed _ (grind (arith, nat_tests, none))));
      measured =
          let before = c.loop-filled.invariant.passed in
          measured-at d c.args.after.now (before.passed ++ encode_utf8 d) c.in-Some.others.now next c.measured_element-columns.result.1.now c.measured_element-columns.result.2
          (before.splits ∙ ap (λ (t : Text). before.passed ++ t) splits ∙ sym (append_assoc before.passed (encode_utf8 d) c.in-Some.others.now)) c.measured_element-columns.ensures.element c.measured_element-columns.ensures.columns;
    }

pub loop-filled-preserved : goal.loop-filled-preserved
loop-filled-preserved c =
    let d = c.args.delimiter in
    let rest = c.loop-filled.rest.now in
    let next = c.measured_element-columns.result.0.now in
    let splits = stripped d rest c.in-Some.others.now c.in-Some.ensures.cases in
    let bytes = ap length splits ∙ length-append (encode_utf8 d) c.in-Some.others.now in
    let more = length-append next c.measured_element-columns.result.1.now in
    let joined = ap length c.measured_element-columns.ensures.element.joined in
    record {
      utf8 = c.measured_element-columns.ensures.element.whole_after;
      bound = omega (arith, bytes, more, joined);
      passed = passed-next d _ _ _ rest _ _ _ c.ranges.delimiter.0 c.loop-filled.invariant.passed splits c.measured_element-columns.ensures.element _ (omega (arith, c.measured_element-columns.ensures.columns, c.char_width.ensures.value));
      taken = λ es follow.
          let before = c.loop-filled.invariant.taken es follow in
          let step = follow-next d before.0 rest c.in-Some.others.now next c.measured_element-columns.result.1.now before.1 splits c.measured_element-columns.ensures.element in
          let all = ap (bytes_taken c.args.width d c.loop-filled.filled) step.1 ∙ taken-more c.args.width d c.loop-filled.filled next step.0 (omega arith) (omega (arith, c.measured_element-columns.ensures.columns)) in
          let filled : c.loop-filled.filled + (c.measured_element-columns.result.2 + c.char_width.result) ≡ c.loop-filled.filled + measure next + measure (encode_utf8 d) = omega (arith, c.measured_element-columns.ensures.columns, c.char_width.ensures.value) in
          let same = ap (λ n. bytes_taken c.args.width d n step.0) filled in
          let sum = before.2 in
          (step.0, step.2, omega (arith, all, same, sum, bytes, more, joined));
    }

pub loop-filled-init : goal.loop-filled-init
loop-filled-init c = record { utf8 = c.utf8.after; bound = omega arith; passed = passed-none _ _ _; taken = λ es follow. (es, follow, omega arith) }

pub returns-clause-columns : goal.returns-clause-columns
returns-clause-columns c = passed-bytes c.args.delimiter c.args.first c.loop-filled.filled c.args.after.now c.loop-filled.rest.now c.loop-filled.invariant.passed _ (omega arith)
