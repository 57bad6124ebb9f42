use Rattle.comfy_table.proofs.DrawnWidthLemmas.{fills_width, keeps_to_width}
use Rattle.comfy_table.proofs.laws.widths_keep_to_the_width.Goals as goal

pub returns-clause-dynamic : goal.returns-clause-dynamic
returns-clause-dynamic c = keeps_to_width

pub returns-clause-full : goal.returns-clause-full
returns-clause-full c = fills_width
