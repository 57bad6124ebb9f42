use Rattle.comfy_table.proofs.TableLemmas.{frame_fills_width, frame_keeps_to_width}
use Rattle.comfy_table.proofs.laws.frame_lines_keep_to_the_width.Goals as goal

pub returns-clause-dynamic : goal.returns-clause-dynamic
returns-clause-dynamic c = frame_keeps_to_width

pub returns-clause-full : goal.returns-clause-full
returns-clause-full c = frame_fills_width
