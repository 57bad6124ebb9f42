use Rattle.std.proofs.Common.{rules, ◌≡◌, List, [], ◌∷◌, bytes_eq, refl, ◌∙◌}
use Rattle.std.specs.List.{list_any}
use Rattle.comfy_parts.specs.Comparisons.{attribute_eq}
use Rattle.comfy_parts.specs.declared.style.attribute.Attribute.{Attribute}
use Rattle.comfy_table.specs.Styling.{attribute_code, has_attribute}
use Rattle.comfy_table.proofs.utils.formatting.styling.has_attribute.Goals as goal

same_codes : (a b : Attribute) → attribute_eq b a ≡ bytes_eq (attribute_code a) (attribute_code b)
same_codes a b = search rules

any_code : (a : Attribute) (given : List Attribute) → list_any (λ b. attribute_eq b a) given ≡ has_attribute given a
any_code a [] = refl
any_code a (b ∷ more) = let one = same_codes a b in let rest = any_code a more in cc

pub returns : goal.returns
returns c = c.contains.ensures.value ∙ any_code c.args.attribute c.args.given.now
