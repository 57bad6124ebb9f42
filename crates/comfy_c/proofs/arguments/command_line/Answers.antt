use Rattle.std.proofs.Common.{◌≡◌, ◌∙◌, ◌<◌, ◌∷◌, ap, codes, length, lit<, rules, tests}
use Rattle.std.specs.Str.Iter.{split_text, split_has_more, split_pattern}
use Rattle.std.proofs.lemmas.Iterator.Consumers.{YieldsList-end}
use Rattle.std.proofs.lemmas.Iterator.Splits.{YieldsList-from_str_split}
use Rattle.comfy_c.proofs.ArgumentLemmas.{no_arguments, arguments_in}
use Rattle.comfy_c.proofs.arguments.command_line.Goals as goal

pub returns-then-is_empty : goal.returns-then-is_empty
returns-then-is_empty c =
    let none : length c.args.text.now ≡ 0 = search (rules, tests) in
    no_arguments c.args.text.now _ none (search rules)

pub returns : goal.returns
returns c =
    let same = c.into_iter-argument-iterator.ensures.into_iter_gives in
    let split = c.split-argument-items.ensures in
    let cut = YieldsList-from_str_split 0 _ (lit< tt) (ap split_text same ∙ split.text) (ap split_has_more same ∙ split.has_more) (ap split_pattern same ∙ split.pattern) in
    let all = YieldsList-end cut c.loop-argument.yielded _ c.loop-argument.yielded_by _ _ c.in-None.is c.next.ensures.steps in
    let some : 0 < length c.args.text.now = search (rules, tests) in
    arguments_in c.args.text.now c.without_end.result.now _ (c.without_end.ensures some) (c.loop-argument.invariant ∙ ap (λ arguments. codes "csvtable" ∷ arguments) all.0)
