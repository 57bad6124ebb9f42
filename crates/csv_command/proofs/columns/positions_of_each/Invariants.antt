use Rattle.std.proofs.Common.{◌≡◌, Ok, take}
use Rattle.csv_command.specs.Columns.{positions_of_each}
use Rattle.csv_command.proofs.columns.positions_of_each.Given as goal

abbrev pub invariant-loop-word : goal.invariant-loop-word
invariant-loop-word l = positions_of_each l.names l.count (take l.word-index l.words) ≡ Ok l.positions.items
