use Rattle.std.proofs.Common.{◌≡◌, ◌++◌, length, map}
use Rattle.comfy_parts.specs.Wrapping.{wrapped}
use Rattle.comfy_table.specs.DrawnLines.{drawn_text}
use Rattle.comfy_table.proofs.utils.formatting.cell_lines.push_wrapped.Given as goal

abbrev pub invariant-loop-line : goal.invariant-loop-line
invariant-loop-line l =
    l.lines.items ++ map drawn_text l.wrapped ≡ l.initial.lines.items ++ map drawn_text (wrapped l.info.content_width l.fn.delimiter l.text)

abbrev pub decreases-loop-line : goal.decreases-loop-line
decreases-loop-line l = length l.wrapped
