use Rattle.std.proofs.Common.{◌≡◌, length, map, max}
use Rattle.comfy_parts.specs.Text.{greatest, measure}
use Rattle.comfy_parts.proofs.content_split.lines.WrappedLines.longest.Given as goal

abbrev pub invariant-loop-line : goal.invariant-loop-line
invariant-loop-line l = max l.longest (greatest (map measure l.lines)) ≡ greatest (map measure l.fn.self)

abbrev pub decreases-loop-line : goal.decreases-loop-line
decreases-loop-line l = length l.lines
