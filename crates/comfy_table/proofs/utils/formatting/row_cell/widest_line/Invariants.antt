use Rattle.std.proofs.Common.{◌≡◌, map}
use Rattle.comfy_parts.specs.Text.{greatest, measure}
use Rattle.comfy_table.proofs.utils.formatting.row_cell.widest_line.Given as goal

abbrev pub invariant-loop-line : goal.invariant-loop-line
invariant-loop-line l = l.widest ≡ greatest (map measure (map (λ p. p.now) l.yielded))
