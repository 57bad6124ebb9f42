-- The modifiers of a style have no effect when they are applied again.
use Rattle.std.proofs.Common.{refl}
use Rattle.comfy_parts.specs.declared.style.table_style.TableStyle.{TableStyle}
use Rattle.comfy_parts.specs.StyleModifiers.{RoundingTwiceIsOnce, SolidTwiceIsOnce}

rounding_twice_is_once : (style : TableStyle) → RoundingTwiceIsOnce style
rounding_twice_is_once style = refl

solid_twice_is_once : (style : TableStyle) → SolidTwiceIsOnce style
solid_twice_is_once style = refl
