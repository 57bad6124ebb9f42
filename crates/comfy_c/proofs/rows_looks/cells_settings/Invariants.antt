use Rattle.std.proofs.Common.{◌≡◌, map, take}
use Rattle.comfy_c.specs.Looks.{look_settings}
use Rattle.comfy_c.proofs.rows_looks.cells_settings.Given as goal

abbrev pub invariant-loop-look : goal.invariant-loop-look
invariant-loop-look l = l.cells.items ≡ map look_settings (take l.look-index l.looks)
