use Rattle.std.proofs.Common.{◌≡◌, length}
use Rattle.comfy_parts.specs.Cursor.{at_byte}
use Rattle.comfy_parts.proofs.content_split.sequences.cursor.Cursor.pass_sequences.Given as goal

abbrev pub invariant-sequences : goal.invariant-sequences
invariant-sequences l = at_byte 0 l.self ≡ at_byte 0 l.initial.self

abbrev pub decreases-sequences : goal.decreases-sequences
decreases-sequences l = length l.self.ahead
