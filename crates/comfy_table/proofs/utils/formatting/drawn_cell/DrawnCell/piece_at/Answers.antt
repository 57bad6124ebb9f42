use Rattle.std.proofs.Common.{arith}
use Rattle.comfy_table.proofs.DrawnCellLemmas.{piece_in}
use Rattle.comfy_table.proofs.utils.formatting.drawn_cell.DrawnCell.piece_at.Goals as goal

pub returns : goal.returns
returns c = grind (arith, piece_in)

pub returns-in_default-get : goal.returns-in_default-get
returns-in_default-get c = grind (arith, piece_in)
