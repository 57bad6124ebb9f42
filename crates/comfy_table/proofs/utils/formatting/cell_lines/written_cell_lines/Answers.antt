use Rattle.std.proofs.Common.{arith}
use Rattle.comfy_table.proofs.CutLemmas.{whole-measured}
use Rattle.comfy_table.proofs.DrawnLineLemmas.{all_texts, drawn-measured}
use Rattle.comfy_table.proofs.utils.formatting.cell_lines.written_cell_lines.Goals as goal

pub returns-then-not-is_custom_styled : goal.returns-then-not-is_custom_styled
returns-then-not-is_custom_styled c = grind (arith, drawn-measured)

pub returns : goal.returns
returns c = grind (arith, all_texts, whole-measured)
