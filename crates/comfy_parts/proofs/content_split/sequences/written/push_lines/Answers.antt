use Rattle.std.proofs.Common.{arith, length}
use Rattle.std.proofs.lemmas.Grind.{common_steps}
use Rattle.comfy_parts.proofs.CursorLemmas.{end-same}
use Rattle.comfy_parts.proofs.content_split.sequences.written.push_lines.Goals as goal

pub returns-then-width-from-clause-lines : goal.returns-then-width-from-clause-lines
returns-then-width-from-clause-lines c = grind (arith, common_steps)

pub returns-then-width-from-clause-stays : goal.returns-then-width-from-clause-stays
returns-then-width-from-clause-stays c = end-same (length c.args.visible.now) c.take_line.new.self c.args.cursor.now c.in_ok-take_line.ensures.is_at
