use Rattle.comfy_table.proofs.BuiltTableLemmas.{new_tables_leave_none_open}
use Rattle.comfy_table.proofs.laws.new_tables_leave_no_sequence_open.Goals as goal

pub returns : goal.returns
returns c = new_tables_leave_none_open
