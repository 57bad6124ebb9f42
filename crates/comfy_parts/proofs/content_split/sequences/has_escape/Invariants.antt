use Rattle.std.proofs.Common.{◌≡◌, take}
use Rattle.comfy_parts.specs.VisibleText.{has_escape}
use Rattle.comfy_parts.proofs.content_split.sequences.has_escape.Given as goal

abbrev pub invariant-loop-byte : goal.invariant-loop-byte
invariant-loop-byte l = l.found ≡ has_escape (take l.byte-index l.bytes)
