use Rattle.std.proofs.Common.{◌∙◌, ap, take}
use Rattle.csv_records.proofs.WholeLineLemmas.{at_place, no_place}
use Rattle.csv_records.proofs.beginning.whole_lines.Goals as goal
use Rattle.csv_records.proofs.beginning.whole_lines.Goals.{in-Some, in-None}

pub returns : goal.returns
returns c =
    elim c.match-memrchr.branch [
      | in-Some w ↦ c.split_at.ensures.front ∙ ap (λ n. take n c.args.read.now) w.end-is ∙ at_place c.args.read.now w.in-Some.at w.in-Some.ensures
      | in-None w ↦ c.split_at.ensures.front ∙ ap (λ n. take n c.args.read.now) w.end-is ∙ no_place c.args.read.now w.in-None.ensures
    ]
