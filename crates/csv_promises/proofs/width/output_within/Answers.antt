use Rattle.csv_promises.proofs.WidthLemmas.{keeps_width}
use Rattle.csv_promises.proofs.width.output_within.Goals as goal

pub returns : goal.returns
returns c = keeps_width _ _ _ _ _ _ c.in_ok-invocation.ensures
