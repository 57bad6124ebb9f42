use Rattle.std.proofs.Common.{◌≡◌, ◌==◌, List, not, length}
use Rattle.comfy_parts.specs.Text.{Text}
use Rattle.comfy_parts.specs.VisibleText.{open_after, opened, parts}
use Rattle.comfy_parts.proofs.content_split.sequences.leaves_sequence_open.Given as goal

abbrev pub invariant-loop-part : goal.invariant-loop-part
invariant-loop-part l = (ss : List Text) × (open_after (parts l.text) ≡ opened ss (parts l.part-iterator.0.now)) × (l.is_open ≡ not (length ss == 0))
