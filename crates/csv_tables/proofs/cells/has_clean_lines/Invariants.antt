use Rattle.std.proofs.Common.{◌≡◌, false, map}
use Rattle.std.specs.List.{list_any}
use Rattle.csv_tables.proofs.PlainRowLemmas.{is_replaced_in}
use Rattle.csv_tables.proofs.cells.has_clean_lines.Given as goal

abbrev pub invariant-loop-line : goal.invariant-loop-line
invariant-loop-line l = list_any is_replaced_in (map (λ p. p.now) l.yielded) ≡ false
