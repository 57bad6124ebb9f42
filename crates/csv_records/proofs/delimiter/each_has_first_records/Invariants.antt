use Rattle.std.proofs.Common.{◌≡◌, drop}
use Rattle.std.specs.List.{list_all}
use Rattle.csv_records.specs.Delimiter.{has_first_records, tried_delimiters}
use Rattle.csv_records.proofs.delimiter.each_has_first_records.Given as goal

abbrev pub invariant-loop-delimiter : goal.invariant-loop-delimiter
invariant-loop-delimiter l = list_all (has_first_records l.fn.has_quotes l.fn.text) (drop l.delimiter-index tried_delimiters) ≡ list_all (has_first_records l.fn.has_quotes l.fn.text) tried_delimiters
