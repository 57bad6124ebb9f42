use Rattle.std.proofs.Common.{◌≡◌, ◌-◌, ◌++◌}
use Rattle.csv_records.specs.Delimiter.{field_counts}
use Rattle.csv_records.proofs.CountLemmas.{counts_left}
use Rattle.csv_records.proofs.counting.field_counts.Given as goal

abbrev pub invariant-loop : goal.invariant-loop
invariant-loop l = l.counts.items ++ counts_left l.fn.delimiter l.fn.has_quotes (l.fn.most - l.counter) l.rest ≡ field_counts l.fn.has_quotes l.fn.text l.fn.delimiter l.fn.most
