use Rattle.std.proofs.Common.{refl}
use Rattle.comfy_parts.specs.contracts.style.attribute.AttributeHash.TheImpl.Laws.{respects_eq-law}
use Rattle.comfy_parts.specs.contracts.style.attribute.AttributeOrd.TheImpl.Laws.{total-law}
use Rattle.comfy_parts.proofs.ComparisonLemmas.{attribute_eq_is_same, attribute_equal_is_same}
use Rattle.comfy_parts.proofs.laws.attributes_are_ordered.Goals as goal

pub returns : goal.returns
returns c = record { eq = attribute_eq_is_same; equal = attribute_equal_is_same; order = total-law; ascends = refl; hash = respects_eq-law }
