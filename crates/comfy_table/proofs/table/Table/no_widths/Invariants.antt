use Rattle.std.proofs.Common.{◌≡◌, replicate}
use Rattle.comfy_table.proofs.table.Table.no_widths.Given as goal

abbrev pub invariant-loop : goal.invariant-loop
invariant-loop l = l.widths.items ≡ replicate l.counter 0
