use Rattle.std.proofs.Common.{◌≡◌, ◌++◌, length, string_bytes}
use Rattle.comfy_parts.proofs.pieces.joined.Given as goal

abbrev pub invariant-loop-text : goal.invariant-loop-text
invariant-loop-text g l = string_bytes l.text ++ g.P.Pieces.rest l.pieces ≡ g.P.Pieces.rest l.fn.pieces

abbrev pub decreases-loop-text : goal.decreases-loop-text
decreases-loop-text g l = length (g.P.Pieces.rest l.pieces)
