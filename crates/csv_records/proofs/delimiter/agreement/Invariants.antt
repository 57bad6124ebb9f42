use Rattle.std.proofs.Common.{◌≡◌, ◌==◌, drop, max}
use Rattle.std.specs.List.{count_by}
use Rattle.csv_records.proofs.BestLemmas.{greatest_above}
use Rattle.csv_records.specs.Delimiter.{agreement}
use Rattle.csv_records.proofs.delimiter.agreement.Given as goal

abbrev pub invariant-loop-count : goal.invariant-loop-count
invariant-loop-count l = max l.most_alike (greatest_above (λ n. count_by (λ m. m == n) l.counts) (drop l.count-index l.counts)) ≡ agreement l.counts
