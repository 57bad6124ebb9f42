use Rattle.std.proofs.Common.{◌≡◌, string_bytes, take}
use Rattle.comfy_c.specs.CellCalls.{listed}
use Rattle.comfy_c.proofs.cells_draw.listed.Given as goal

abbrev pub invariant-loop-number : goal.invariant-loop-number
invariant-loop-number l = string_bytes l.text ≡ listed (take l.number-index l.numbers)
