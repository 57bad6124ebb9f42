use Rattle.std.proofs.Common.{◌≡◌, take}
use Rattle.comfy_table.specs.Drawing.{further_rows}
use Rattle.comfy_table.specs.Output.{with_lines}
use Rattle.comfy_table.proofs.utils.formatting.drawing.Writer.write_further_rows.Given as goal

abbrev pub invariant-loop-row : goal.invariant-loop-row
invariant-loop-row g l =
    (l.self ≡ l.initial.self)
    × (g.O.Output.kept l.output ≡ with_lines g.O.Output.kept_of (further_rows l.initial.self.table l.initial.self.infos (take l.row-index l.rows)) (g.O.Output.kept l.initial.output))
