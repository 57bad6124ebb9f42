use Rattle.comfy_table.proofs.BuiltTableLemmas.{new_tables_are_straight}
use Rattle.comfy_table.proofs.laws.new_tables_are_straight.Goals as goal

pub returns : goal.returns
returns c = new_tables_are_straight
