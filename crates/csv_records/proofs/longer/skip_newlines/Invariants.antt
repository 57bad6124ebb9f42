use Rattle.std.proofs.Common.{◌≡◌, length}
use Rattle.csv_records.specs.Longer.{skip_newlines}
use Rattle.csv_records.proofs.longer.skip_newlines.Given as goal

abbrev pub invariant-loop-rest : goal.invariant-loop-rest
invariant-loop-rest l = skip_newlines l.rest ≡ skip_newlines l.fn.bytes

abbrev pub decreases-loop-rest : goal.decreases-loop-rest
decreases-loop-rest l = length l.rest
