use Rattle.std.proofs.Common.{◌≡◌, ◌+◌, ◌≤◌, drop, false}
use Rattle.csv_records.specs.Spaces.{gaps_from}
use Rattle.csv_records.proofs.spaces.gaps_of.Given as goal

abbrev pub invariant-loop-byte : goal.invariant-loop-byte
invariant-loop-byte l = (l.gaps + gaps_from l.begun (drop l.byte-index l.line) ≡ gaps_from false l.line) × (l.gaps ≤ l.byte-index)
