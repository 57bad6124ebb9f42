use Rattle.std.proofs.Common.{◌≡◌, ◌-◌}
use Rattle.csv_records.specs.Lines.{EndsIn, below_lines}
use Rattle.csv_records.proofs.lines.below_lines.Given as goal

abbrev pub invariant-loop : goal.invariant-loop
invariant-loop l = EndsIn l.fn.bytes l.rest × (below_lines (l.fn.count - l.counter) l.rest ≡ below_lines l.fn.count l.fn.bytes)
