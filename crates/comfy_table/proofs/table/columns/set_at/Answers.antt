use Rattle.std.proofs.Common.{slice_set, arith}
use Rattle.std.proofs.lemmas.List.{get_or_default, set-set}
use Rattle.comfy_table.proofs.table.columns.set_at.Goals as goal

pub returns : goal.returns
returns c = grind (arith, get_or_default, set-set, slice_set)
