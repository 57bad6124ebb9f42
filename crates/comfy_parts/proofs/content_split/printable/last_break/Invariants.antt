use Rattle.std.proofs.Common.{◌≤◌}
use Rattle.comfy_parts.proofs.PrintableEndLemmas.{IsClearAfter}
use Rattle.comfy_parts.proofs.content_split.printable.last_break.Given as goal

abbrev pub invariant-loop-at : goal.invariant-loop-at
invariant-loop-at l = (l.at ≤ l.width) × IsClearAfter l.width l.delimiter l.text l.at

abbrev pub decreases-loop-at : goal.decreases-loop-at
decreases-loop-at l = l.at
