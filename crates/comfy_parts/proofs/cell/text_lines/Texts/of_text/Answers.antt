use Rattle.std.proofs.Common.{◌≡◌, ◌==◌, ◌∙◌, ap, arith, false, List, ℕ, lit<, refl, string_bytes, subst, sym}
use Rattle.std.proofs.lemmas.Grind.{common_steps}
use Rattle.std.proofs.lemmas.Iterator.Consumers.{YieldsList-end}
use Rattle.std.proofs.lemmas.Iterator.Splits.{YieldsList-from_str_split}
use Rattle.std.specs.List.{list_any, slice_split}
use Rattle.std.specs.Str.Iter.{split_text, split_has_more, split_pattern}
use Rattle.comfy_parts.proofs.EscapedLemmas.{none_by_characters, unbroken_line}
use Rattle.comfy_parts.proofs.cell.text_lines.Texts.of_text.Goals as goal

pub returns-then-not-contains-clause-texts : goal.returns-then-not-contains-clause-texts
returns-then-not-contains-clause-texts c =
    let text = string_bytes c.args.text in
    let none : list_any (λ b. b == 0x0A) text ≡ false = subst (λ (text : List ℕ). list_any (λ b. b == 0x0A) text ≡ false) c.deref.ensures (none_by_characters (λ c. c == 0x0A) 0x0A (lit< tt) refl c.deref.result.now c.if-not-contains.ensures.cases) in
    c.one.ensures.texts ∙ sym (unbroken_line text none)

pub loop-line-preserved : goal.loop-line-preserved
loop-line-preserved c = record { texts = grind (arith, common_steps); widths = grind (arith, common_steps) }

pub returns : goal.returns
returns c =
    let same = c.into_iter-line-iterator.ensures.into_iter_gives in
    let split = c.split-line-items.ensures in
    let cut = YieldsList-from_str_split 10 _ (lit< tt) (ap split_text same ∙ split.text) (ap split_has_more same ∙ split.has_more) (ap split_pattern same ∙ split.pattern) in
    let all = YieldsList-end cut c.loop-line.yielded _ c.loop-line.yielded_by _ _ c.in-None.is c.next.ensures.steps in
    record { texts = c.loop-line.invariant.texts ∙ all.0 ∙ ap (slice_split (λ b. b == 0x0A)) c.deref-2.ensures; widths = c.loop-line.invariant.widths }
