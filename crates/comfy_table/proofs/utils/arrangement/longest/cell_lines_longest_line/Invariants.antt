use Rattle.std.proofs.Common.{◌≡◌, map}
use Rattle.comfy_parts.specs.Text.{greatest}
use Rattle.comfy_table.specs.LongestLine.{text_longest_line}
use Rattle.comfy_table.proofs.utils.arrangement.longest.cell_lines_longest_line.Given as goal

abbrev pub invariant-loop-line : goal.invariant-loop-line
invariant-loop-line l =
    l.longest ≡ greatest (map (text_longest_line l.info.content_width l.delimiter) (map (λ p. p.now) l.yielded))
