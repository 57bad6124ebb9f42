use Rattle.comfy_table.proofs.ControlLemmas.{free_of_escapes}
use Rattle.comfy_table.proofs.laws.tables_without_controls_have_no_escape.Goals as goal

pub returns : goal.returns
returns c = free_of_escapes
