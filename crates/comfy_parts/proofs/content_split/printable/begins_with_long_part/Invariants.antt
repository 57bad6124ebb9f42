use Rattle.std.proofs.Common.{◌≡◌, ◌≤◌, ◌+◌, ◌-◌, ◌==◌, false, length, take}
use Rattle.std.specs.List.{list_any}
use Rattle.comfy_parts.proofs.content_split.printable.begins_with_long_part.Given as goal

abbrev pub invariant-loop-run : goal.invariant-loop-run
invariant-loop-run l = (l.run ≤ l.width + 1) × (l.run ≤ length l.text) × (list_any (λ c. c == l.delimiter) (take l.run l.text) ≡ false)

abbrev pub decreases-loop-run : goal.decreases-loop-run
decreases-loop-run l = length l.text - l.run
