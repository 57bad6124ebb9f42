use Rattle.std.proofs.Common.{◌≡◌, ◌-◌, map}
use Rattle.std.specs.List.{range_with_len}
use Rattle.comfy_table.specs.DrawnCells.{filled, piece_at}
use Rattle.comfy_table.specs.Gaps.{gap_line}
use Rattle.comfy_table.specs.Output.{with_lines}
use Rattle.comfy_table.proofs.utils.formatting.drawing.push_row.Given as goal

abbrev pub invariant-loop-line : goal.invariant-loop-line
invariant-loop-line g l =
    g.O.Output.kept l.output ≡ with_lines g.O.Output.kept_of (map (λ k. gap_line l.gaps (map (piece_at k) (filled l.columns l.row))) (range_with_len 1 (l.line - 1))) (g.O.Output.kept l.initial.output)
