use Rattle.std.proofs.Common.{◌≡◌, ◌-◌}
use Rattle.csv_records.specs.Lines.{below_lines}
use Rattle.csv_records.proofs.encoding.units_below.Given as goal

abbrev pub invariant-loop : goal.invariant-loop
invariant-loop l = below_lines (l.fn.count - l.counter) l.rest ≡ below_lines l.fn.count l.fn.units
