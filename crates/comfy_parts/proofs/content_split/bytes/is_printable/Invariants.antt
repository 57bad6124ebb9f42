use Rattle.std.proofs.Common.{◌≡◌, nat_le, take}
use Rattle.comfy_parts.specs.Text.{is_printable_ascii}
use Rattle.comfy_parts.proofs.content_split.bytes.is_printable.Given as goal

abbrev pub invariant-loop-byte : goal.invariant-loop-byte
invariant-loop-byte l = nat_le l.highest 0x5E ≡ is_printable_ascii (take l.byte-index l.bytes)
