use Rattle.std.proofs.Common.{◌≡◌, ◌==◌, map, string_bytes, length}
use Rattle.std.specs.List.{join_with_byte}
use Rattle.comfy_run.proofs.rows.with_line_feeds.Given as goal

abbrev pub invariant-loop-piece : goal.invariant-loop-piece
invariant-loop-piece l =
    record { joined : string_bytes l.text ≡ join_with_byte 0x0A (map (λ p. p.now) l.yielded); first : l.is_first ≡ (length l.yielded == 0) }
