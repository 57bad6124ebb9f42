use Rattle.std.proofs.Common.{◌≡◌, ◌<◌, ◌≤◌, ◌++◌, List, [], ◌∷◌, length, get_or, string_bytes, refl, ap, ◌∙◌, arith}
use Rattle.comfy_parts.specs.declared.style.attribute.Attribute.{Attribute}
use Rattle.comfy_parts.specs.declared.style.attribute.Attribute.TheVariants as attributes
use Rattle.comfy_table.specs.Styling.{sequence, attribute_code, attribute_sequences}
use Rattle.comfy_table.proofs.utils.formatting.styling.push_attributes.Goals as goal

-- a single attribute is written as its own sequence
single_sequence : (given : List Attribute) → 1 ≤ length given → length given < 2
    → sequence (attribute_code (get_or given 0 attributes.Reset)) ≡ attribute_sequences given
single_sequence [] least below = absurd (omega arith)
single_sequence (attributes.Reset ∷ []) least below = refl
single_sequence (a ∷ []) least below = refl
single_sequence (a ∷ b ∷ more) least below = absurd (omega arith)

pub returns-in_ok-push_str-in-len1 : goal.returns-in_ok-push_str-in-len1
returns-in_ok-push_str-in-len1 c =
    c.in_ok-push_str-in-len1.ensures.bytes
    ∙ ap (λ s. string_bytes c.args.line.now ++ s) (c.attribute_sequence.ensures ∙ single_sequence c.args.given.now c.in-len1.len_at_least c.in-len1.len_below)
