use Rattle.csv_promises.proofs.StraightLemmas.{fitting_for}
use Rattle.csv_promises.proofs.straight.straight_fitting_output.Goals as goal

pub returns : goal.returns
returns c = fitting_for _ _ _ _ _ _ c.in_ok-chosen.ensures
