use Rattle.std.proofs.Common.{◌≡◌, ◌==◌, ap, sym, subst, ◌∙◌, true, false, rules, tests}
use Rattle.std.specs.Char.{is_ascii_digit}
use Rattle.std.specs.Str.Iter.{chars_rest}
use Rattle.csv_records.proofs.NumberLemmas.{IsWalked, broken-long, broken-mark, broken-other, walked-digit, walked-end, walked-mark, walked-none}
use Rattle.csv_records.proofs.number.is_grouped.Goals as goal
use Rattle.csv_records.proofs.number.is_grouped.Goals.{else-is_ascii_digit-via-then-is_ascii_digit+else-count-size, else-is_ascii_digit-via-else-is_ascii_digit}

pub loop-c-init : goal.loop-c-init
loop-c-init c =
    let rest = ap chars_rest c.into_iter-c-iterator.ensures.into_iter_gives ∙ c.chars-c-items.ensures.rest in
    subst (λ t. IsWalked c.args.size c.args.mark c.args.text.now t true 0) (sym rest) (walked-none c.args.size c.args.mark c.args.text.now c.utf8.text)

pub returns-then-not-is_group_len : goal.returns-then-not-is_group_len
returns-then-not-is_group_len c =
    let is : (c.in-Some.c == c.args.mark) ≡ true = search (rules, tests) in
    broken-mark c.args.size c.args.mark _ _ _ _ _ c.in-Some.c c.loop-c.invariant c.in-Some.ensures.steps.0 is (search (rules, tests))

pub loop-c-preserved-then-c-mark : goal.loop-c-preserved-then-c-mark
loop-c-preserved-then-c-mark c =
    let is : (c.in-Some.c == c.args.mark) ≡ true = search (rules, tests) in
    walked-mark c.args.size c.args.mark _ _ _ _ _ c.in-Some.c c.loop-c.invariant c.in-Some.ensures.steps.0 is (search (rules, tests))

pub loop-c-preserved : goal.loop-c-preserved
loop-c-preserved c =
    let is : (c.in-Some.c == c.args.mark) ≡ false = search (rules, tests) in
    walked-digit c.args.size c.args.mark _ _ _ _ _ c.in-Some.c c.loop-c.invariant c.in-Some.ensures.steps.0 is (search (rules, tests))

pub returns-else-is_ascii_digit : goal.returns-else-is_ascii_digit
returns-else-is_ascii_digit c =
    let is : (c.in-Some.c == c.args.mark) ≡ false = search (rules, tests) in
    elim c.else-is_ascii_digit.branch [
      | else-is_ascii_digit-via-then-is_ascii_digit+else-count-size w ↦
          broken-long c.args.size c.args.mark _ _ _ _ _ c.in-Some.c c.loop-c.invariant c.in-Some.ensures.steps.0 is w.if-count-size.false
      | else-is_ascii_digit-via-else-is_ascii_digit w ↦
          let other : is_ascii_digit c.in-Some.c ≡ false = sym c.is_ascii_digit.ensures.value ∙ w.if-is_ascii_digit.false in
          broken-other c.args.size c.args.mark _ _ _ _ _ c.in-Some.c c.loop-c.invariant c.in-Some.ensures.steps.0 is other
    ]

pub returns : goal.returns
returns c = c.is_group_len-2.ensures ∙ walked-end c.args.size c.args.mark _ _ _ _ c.loop-c.invariant c.in-None.ensures.steps.0.0
