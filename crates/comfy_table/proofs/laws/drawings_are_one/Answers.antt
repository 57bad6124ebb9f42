use Rattle.comfy_table.proofs.OneDrawingLemmas.{drawing_is_one}
use Rattle.comfy_table.proofs.laws.drawings_are_one.Goals as goal

pub returns : goal.returns
returns c = drawing_is_one
