use Rattle.csv_promises.proofs.OutputFieldLemmas.{fields_shown}
use Rattle.csv_promises.proofs.StraightLemmas.{none_where}
use Rattle.csv_promises.proofs.kept.output_with_all_fields.Goals as goal

pub returns : goal.returns
returns c = fields_shown _ _ _ _ _ _ c.in_ok-invocation.ensures (none_where _ c.if-is_some.ensures)
