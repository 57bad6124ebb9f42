use Rattle.csv_promises.proofs.StraightLemmas.{none_where, whole_for}
use Rattle.csv_promises.proofs.straight.straight_whole_output.Goals as goal

pub returns : goal.returns
returns c = whole_for _ _ _ _ _ _ c.in_ok-invocation.ensures (none_where _ c.if-is_some.ensures) (none_where _ c.if-is_some-2.ensures)
