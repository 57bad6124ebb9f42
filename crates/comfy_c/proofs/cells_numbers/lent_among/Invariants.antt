use Rattle.std.proofs.Common.{◌≡◌, drop}
use Rattle.comfy_c.specs.Numbers.{attributes_by}
use Rattle.comfy_c.proofs.cells_numbers.lent_among.Given as goal

-- the attributes of the bits that are left
abbrev pub invariant-loop-position : goal.invariant-loop-position
invariant-loop-position l = attributes_by l.all l.bits ≡ attributes_by (drop l.position l.all) l.rest
