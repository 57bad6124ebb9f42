use Rattle.std.proofs.Common.{◌≡◌, ◌++◌, List, ℕ, Some, false, length}
use Rattle.devices.proofs.transfer.write_all.Given as goal

abbrev pub invariant-loop-rest : goal.invariant-loop-rest
invariant-loop-rest g l =
    (sent : List ℕ) × (sent ++ l.rest ≡ l.piece) × ((had : List ℕ) → g.W.Sink.taken l.initial.sink ≡ Some had → g.W.Sink.taken l.sink ≡ Some (had ++ sent)) × (g.W.Sink.has_failed l.initial.sink ≡ false → g.W.Sink.has_failed l.sink ≡ false)

abbrev pub decreases-loop-rest : goal.decreases-loop-rest
decreases-loop-rest g l = length l.rest
