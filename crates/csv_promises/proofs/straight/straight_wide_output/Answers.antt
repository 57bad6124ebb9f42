use Rattle.csv_promises.proofs.WideTextLemmas.{wide_for}
use Rattle.csv_promises.proofs.straight.straight_wide_output.Goals as goal

pub returns : goal.returns
returns c = wide_for _ _ _ _ _ _ c.in_ok-wanted.ensures
