use Rattle.comfy_table.proofs.FittingTableLemmas.{fitting_tables_are_straight}
use Rattle.comfy_table.proofs.laws.tables_of_fitting_characters_are_straight.Goals as goal

pub returns : goal.returns
returns c = fitting_tables_are_straight
