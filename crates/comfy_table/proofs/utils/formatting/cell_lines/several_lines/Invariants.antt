use Rattle.std.proofs.Common.{◌≡◌, map}
use Rattle.std.specs.List.{flat_map}
use Rattle.comfy_parts.specs.Wrapping.{lines_of_text}
use Rattle.comfy_table.specs.DrawnLines.{drawn_text}
use Rattle.comfy_table.proofs.utils.formatting.cell_lines.several_lines.Given as goal

abbrev pub invariant-loop-line : goal.invariant-loop-line
invariant-loop-line l =
    l.lines.items ≡ map drawn_text (flat_map (lines_of_text l.info.content_width l.delimiter) (map (λ p. p.now) l.yielded))
