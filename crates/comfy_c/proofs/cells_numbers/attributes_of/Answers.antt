use Rattle.std.proofs.Common.{◌≡◌, ◌<◌, ◌+◌, ◌/◌, ◌%◌, ◌==◌, ◌++◌, ◌∷◌, ◌∙◌, [], ℕ, List, ap, append-nil, cond, drop, false, get_or, length, rules, sym, tests, true}
use Rattle.comfy_parts.specs.declared.style.attribute.Attribute.{Attribute}
use Rattle.comfy_parts.specs.declared.style.attribute.Attribute.TheVariants.{Reset}
use Rattle.comfy_table.specs.Styling.{all_attributes}
use Rattle.comfy_c.proofs.CellLemmas.{attributes_more}
use Rattle.comfy_c.specs.Numbers.{attributes_by}
use Rattle.comfy_c.proofs.cells_numbers.attributes_of.Goals as goal
use Rattle.comfy_c.proofs.cells_numbers.attributes_of.Goals.{then-rest-eq1+in_ok-push, else-rest-eq1}

pub loop-attribute-preserved : goal.loop-attribute-preserved
loop-attribute-preserved c =
    let all : List Attribute = all_attributes in
    let i : ℕ = c.loop-attribute.attribute-index in
    let rest : ℕ = c.loop-attribute.rest in
    let had : List Attribute = c.loop-attribute.attributes.items in
    let below : i < length all = search rules in
    let after : List Attribute = attributes_by (drop (i + 1) all) (rest / 2) in
    let more = attributes_more all i Reset below rest had in
    elim c.if-rest-eq1.branch [
      | then-rest-eq1+in_ok-push w ↦
          let test : (rest % 2 == 1) ≡ true = search (rules, tests) in
          let pushed : w.push.new.self.items ≡ had ++ get_or all i Reset ∷ [] = search rules in
          c.loop-attribute.invariant ∙ more ∙ ap (λ b. (had ++ cond b (get_or all i Reset ∷ []) []) ++ after) test ∙ ap (λ (xs : List Attribute). xs ++ after) (sym pushed) ∙ ap (λ v. v.items ++ after) (sym w.attributes-is)
      | else-rest-eq1 w ↦
          let test : (rest % 2 == 1) ≡ false = search (rules, tests) in
          c.loop-attribute.invariant ∙ more ∙ ap (λ b. (had ++ cond b (get_or all i Reset ∷ []) []) ++ after) test ∙ ap (λ (xs : List Attribute). xs ++ after) (append-nil had) ∙ ap (λ v. v.items ++ after) (sym w.attributes-is)
    ]
