use Rattle.std.proofs.Common.{◌≡◌, ◌==◌, ℕ, get_or, max, rules}
use Rattle.std.specs.List.{count_by}
use Rattle.csv_records.proofs.BestLemmas.{none_above_one, one_above}
use Rattle.csv_records.specs.Delimiter.{agreement}
use Rattle.csv_records.proofs.delimiter.agreement.Goals as goal
use Rattle.csv_records.proofs.delimiter.agreement.Goals.{then-count-gt1, else-count-gt1}

pub loop-count-preserved : goal.loop-count-preserved
loop-count-preserved c =
    let inv = c.loop-count.invariant in
    let counts = c.args.counts.now in
    let i = c.loop-count.count-index in
    let alike = λ (n : ℕ). count_by (λ m. m == n) counts in
    elim c.if-count-gt1.branch [
      | then-count-gt1 w ↦
          let greater : c.if-count-gt1.most_alike ≡ max c.loop-count.most_alike (count_by (λ m. m == get_or counts i 0) counts) = search rules in
          one_above alike counts i c.loop-count.most_alike (agreement counts) c.loop-count-test.true inv c.if-count-gt1.most_alike w.if-count-gt1.true greater
      | else-count-gt1 w ↦ none_above_one alike counts i c.loop-count.most_alike (agreement counts) c.loop-count-test.true inv c.if-count-gt1.most_alike w.if-count-gt1.false w.most_alike-is
    ]
