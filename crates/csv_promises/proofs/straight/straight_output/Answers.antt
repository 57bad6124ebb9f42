use Rattle.csv_promises.proofs.StraightLemmas.{narrow_for}
use Rattle.csv_promises.proofs.straight.straight_output.Goals as goal

pub returns : goal.returns
returns c = narrow_for _ _ _ _ _ _ c.in_ok-parsed.ensures
