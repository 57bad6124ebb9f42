use Rattle.std.proofs.Common.{◌≡◌, ◌-◌, length}
use Rattle.std.specs.List.{range_with_len}
use Rattle.csv_command.specs.Columns.{first_answer, range_at, range_of}
use Rattle.csv_command.proofs.columns.range_of.Given as goal

abbrev pub invariant-loop-at : goal.invariant-loop-at
invariant-loop-at l = first_answer (range_at l.names l.count l.word) (range_with_len l.at (length l.word - l.at)) ≡ range_of l.names l.count l.word
