use Rattle.std.proofs.Common.{arith, refl}
use Rattle.comfy_parts.specs.Presets.{utf8_full}
use Rattle.test_callers.proofs.uses.texts.straight_style.Goals as goal

pub returns-then-is_one_column : goal.returns-then-is_one_column
returns-then-is_one_column c = c.if-is_one_column.ensures.adds refl

pub returns-else-is_one_column : goal.returns-else-is_one_column
returns-else-is_one_column c = (c.preset_characters_take_one_column.ensures 7 utf8_full (omega arith)).0
