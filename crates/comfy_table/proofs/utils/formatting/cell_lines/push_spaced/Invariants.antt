use Rattle.std.proofs.Common.{◌≡◌, ◌++◌, take}
use Rattle.comfy_table.proofs.utils.formatting.cell_lines.push_spaced.Given as goal

abbrev pub invariant-loop-line : goal.invariant-loop-line
invariant-loop-line l = l.lines.items ≡ l.initial.lines.items ++ take l.line-index l.line-items
