use Rattle.std.proofs.Common.{◌≡◌, ◌++◌, drop}
use Rattle.comfy_table.specs.Styling.{all_attributes}
use Rattle.comfy_c.specs.Numbers.{attributes_by}
use Rattle.comfy_c.proofs.cells_numbers.attributes_of.Given as goal

abbrev pub invariant-loop-attribute : goal.invariant-loop-attribute
invariant-loop-attribute l = attributes_by all_attributes l.bits ≡ l.attributes.items ++ attributes_by (drop l.attribute-index all_attributes) l.rest
