use Rattle.std.proofs.Common.{refl}
use Rattle.comfy_parts.specs.contracts.style.color.ColorHash.TheImpl.Laws.{respects_eq-law}
use Rattle.comfy_parts.specs.contracts.style.color.ColorOrd.TheImpl.Laws.{total-law}
use Rattle.comfy_parts.proofs.ComparisonLemmas.{color_eq_is_same, color_equal_is_same}
use Rattle.comfy_parts.proofs.laws.colors_are_ordered.Goals as goal

pub returns : goal.returns
returns c = record { eq = color_eq_is_same; equal = color_equal_is_same; order = total-law; ascends = λ r g b v. refl; hash = respects_eq-law }
