use Rattle.std.proofs.lemmas.List.Elements.{All-from_recursion}
use Rattle.comfy_parts.proofs.LineTextLemmas.{none_open}
use Rattle.comfy_parts.proofs.VisibleLineLemmas.{lines_closed}
use Rattle.comfy_parts.proofs.laws.lines_leave_no_sequence_open.Goals as goal

pub returns-clause-lines : goal.returns-clause-lines
returns-clause-lines c = λ w d text_lines. All-from_recursion _ _ (lines_closed w d text_lines)

pub returns-clause-cut : goal.returns-clause-cut
returns-clause-cut c = none_open
