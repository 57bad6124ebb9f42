use Rattle.std.proofs.Common.{rules, ◌≡◌, ◌++◌, ◌∷◌, [], string_bytes, flat_map, zip, ap, ap₂, ◌∙◌, append_assoc, lit<}
use Rattle.std.proofs.lemmas.Iterator.{YieldsList-from_slice, YieldsList-from_zip}
use Rattle.std.proofs.lemmas.Iterator.Consumers.{YieldsList-end}
use Rattle.csv_tables.specs.Markdown.{rule_part}
use Rattle.csv_tables.proofs.markdown.push_rule.Goals as goal

pub returns : goal.returns
returns c =
    let all = YieldsList-from_zip {s = c.into_iter-side-iterator.result} (YieldsList-from_slice c.args.sides.now cc) (YieldsList-from_slice c.args.widths.now cc) in
    let ended = YieldsList-end all c.loop-side.yielded _ c.loop-side.yielded_by _ c.next.new.self c.in-None.is c.next.ensures.steps in
    let had = string_bytes c.args.text.now in
    let parts = flat_map rule_part (zip c.args.sides.now c.args.widths.now) in
    let so_far : string_bytes c.loop-side.text ≡ had ++ 124 ∷ parts =
    c.loop-side.invariant ∙ ap₂ (λ a b. a ++ flat_map rule_part b) (c.in_ok-push.ensures.bytes ∙ ap (λ t. had ++ t) (c.in_ok-push.ensures.ascii (lit< tt))) ended.0 ∙ append_assoc had (124 ∷ []) parts in
    let line : (had ++ 124 ∷ parts) ++ 10 ∷ [] ≡ had ++ 124 ∷ (parts ++ 10 ∷ []) = append_assoc had (124 ∷ parts) (10 ∷ []) in
    search rules
