use Rattle.std.proofs.Common.{◌≡◌, nat_lt, take}
use Rattle.std.specs.List.{list_any}
use Rattle.comfy_parts.proofs.content_split.bytes.has_control.Given as goal

abbrev pub invariant-loop-byte : goal.invariant-loop-byte
invariant-loop-byte l = l.found ≡ list_any (λ b. nat_lt b 0x20) (take l.byte-index l.bytes)
