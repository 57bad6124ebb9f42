use Rattle.std.proofs.Common.{◌≡◌, ◌-◌}
use Rattle.csv_records.specs.Input.{config_for}
use Rattle.csv_records.specs.Longer.{skip_records}
use Rattle.csv_records.proofs.longer.skip_records.Given as goal

abbrev pub invariant-loop : goal.invariant-loop
invariant-loop l = skip_records (config_for l.fn.delimiter l.fn.has_quotes) (l.fn.before - l.counter) l.rest ≡ skip_records (config_for l.fn.delimiter l.fn.has_quotes) l.fn.before l.fn.bytes
