use Rattle.comfy_table.proofs.OneWidthLemmas.{dynamic_is_one}
use Rattle.comfy_table.proofs.laws.dynamic_widths_are_one_list.Goals as goal

pub returns : goal.returns
returns c = dynamic_is_one
