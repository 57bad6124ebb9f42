use Rattle.std.proofs.Common.{drop}
use Rattle.comfy_table.proofs.WidenedLemmas.{AreContentsWith}
use Rattle.comfy_table.proofs.table.Table.column_max_content_widths.Given as goal

abbrev pub invariant-loop-row : goal.invariant-loop-row
invariant-loop-row l = AreContentsWith l.self (drop l.row-index l.self.rows) l.widths.items
