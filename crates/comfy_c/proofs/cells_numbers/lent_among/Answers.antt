use Rattle.std.proofs.Common.{◌≡◌, ◌<◌, ◌+◌, ◌/◌, ◌%◌, ◌==◌, ◌++◌, ◌∷◌, ◌∙◌, [], ℕ, List, ap, cond, drop, false, get_or, length, rules, sym, tests}
use Rattle.comfy_parts.specs.declared.style.attribute.Attribute.{Attribute}
use Rattle.comfy_parts.specs.declared.style.attribute.Attribute.TheVariants.{Reset}
use Rattle.comfy_c.proofs.CellLemmas.{attributes_more, one_set}
use Rattle.comfy_c.specs.Numbers.{attributes_by}
use Rattle.comfy_c.proofs.cells_numbers.lent_among.Goals as goal

pub returns-then-rest-eq1 : goal.returns-then-rest-eq1
returns-then-rest-eq1 c =
    let all : List Attribute = c.args.all.now in
    let i : ℕ = c.loop-position.position in
    let below : i < length all = search rules in
    one_set all i Reset below ∙ ap (attributes_by (drop i all)) (sym c.if-rest-eq1.true) ∙ sym c.loop-position.invariant

pub loop-position-preserved : goal.loop-position-preserved
loop-position-preserved c =
    let all : List Attribute = c.args.all.now in
    let i : ℕ = c.loop-position.position in
    let rest : ℕ = c.loop-position.rest in
    let below : i < length all = search rules in
    let test : (rest % 2 == 1) ≡ false = search (rules, tests) in
    c.loop-position.invariant
    ∙ attributes_more all i Reset below rest []
    ∙ ap (λ b. ([] ++ cond b (get_or all i Reset ∷ []) []) ++ attributes_by (drop (i + 1) all) (rest / 2)) test
