use Rattle.std.proofs.Common.{◌≡◌, ◌++◌, List, ℕ, Some, false, length}
use Rattle.devices.proofs.transfer.run.Given as goal

abbrev pub invariant-loop-next : goal.invariant-loop-next
invariant-loop-next g l =
    (sent : List ℕ) × (sent ++ g.D.Output.Pieces.rest l.pieces ≡ g.D.Output.Pieces.rest l.initial.pieces) × ((had : List ℕ) → g.W.Sink.taken l.initial.sink ≡ Some had → g.W.Sink.taken l.sink ≡ Some (had ++ sent)) × (g.W.Sink.has_failed l.initial.sink ≡ false → g.W.Sink.has_failed l.sink ≡ false)

abbrev pub decreases-loop-next : goal.decreases-loop-next
decreases-loop-next g l = length (g.D.Output.Pieces.rest l.pieces)
