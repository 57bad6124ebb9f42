use Rattle.std.proofs.Common.{◌≡◌}
use Rattle.csv_records.specs.Lines.{below_line}
use Rattle.csv_records.proofs.encoding.Units.below_line.Given as goal

abbrev pub invariant-loop-unit : goal.invariant-loop-unit
invariant-loop-unit l = ((goal.iterator-loop-unit).can_next l.rest × (goal.iterator-loop-unit).is_finite l.rest) × (below_line l.rest ≡ below_line l.fn.self)
