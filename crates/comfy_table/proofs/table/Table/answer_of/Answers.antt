use Rattle.std.proofs.Common.{refl}
use Rattle.comfy_table.proofs.table.Table.answer_of.Goals as goal

pub returns : goal.returns
returns g c = record { shown = _; shows = refl; says = record { met = rw c.row_count.ensures at c.predicate.ensures } }
