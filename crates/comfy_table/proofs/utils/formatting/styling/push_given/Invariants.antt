use Rattle.std.proofs.Common.{◌≡◌, ◌++◌, string_bytes, take}
use Rattle.std.specs.List.{filter, flat_map}
use Rattle.comfy_parts.specs.declared.style.attribute.Attribute.{Attribute}
use Rattle.comfy_table.specs.Styling.{sequence, attribute_code, has_attribute}
use Rattle.comfy_table.proofs.utils.formatting.styling.push_given.Given as goal

abbrev pub invariant-loop-attribute : goal.invariant-loop-attribute
invariant-loop-attribute l =
    string_bytes l.line ≡ string_bytes l.initial.line ++ flat_map (λ (a : Attribute). sequence (attribute_code a)) (filter (has_attribute l.given) (take l.attribute-index l.attributes))
