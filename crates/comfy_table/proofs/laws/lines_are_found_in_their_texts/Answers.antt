use Rattle.comfy_table.proofs.BreakLemmas.{joined_lines, terminated_lines}
use Rattle.comfy_table.proofs.laws.lines_are_found_in_their_texts.Goals as goal

pub returns-clause-joined : goal.returns-clause-joined
returns-clause-joined c = joined_lines

pub returns-clause-terminated : goal.returns-clause-terminated
returns-clause-terminated c = terminated_lines
