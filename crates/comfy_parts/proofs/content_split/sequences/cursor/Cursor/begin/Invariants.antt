use Rattle.std.proofs.Common.{◌≡◌}
use Rattle.comfy_parts.specs.Cursor.{open_at_end}
use Rattle.comfy_parts.specs.VisibleText.{opened, parts}
use Rattle.comfy_parts.proofs.content_split.sequences.cursor.Cursor.begin.Given as goal

abbrev pub invariant-loop-part : goal.invariant-loop-part
invariant-loop-part l = opened l.self.sequences (parts l.part-iterator.0.now) ≡ open_at_end l.initial.self
