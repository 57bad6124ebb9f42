use Rattle.std.proofs.Common.{◌≡◌, ◌++◌, string_bytes}
use Rattle.comfy_parts.specs.Text.{spaces}
use Rattle.comfy_table.proofs.utils.formatting.gap.push_spaces.Given as goal

abbrev pub invariant-loop-left : goal.invariant-loop-left
invariant-loop-left l = string_bytes l.text ++ spaces l.left ≡ string_bytes l.initial.text ++ spaces l.count

abbrev pub decreases-loop-left : goal.decreases-loop-left
decreases-loop-left l = l.left
