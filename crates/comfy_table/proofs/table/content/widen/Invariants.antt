use Rattle.std.proofs.Common.{◌≡◌, take}
use Rattle.comfy_table.specs.TableValue.{widened}
use Rattle.comfy_table.proofs.table.content.widen.Given as goal

abbrev pub invariant-loop-position : goal.invariant-loop-position
invariant-loop-position l = l.widths.items ≡ widened l.table (take l.position l.row.cells) l.initial.widths.items
