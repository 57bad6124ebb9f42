use Rattle.std.proofs.lemmas.List.Elements.{All-from_recursion}
use Rattle.comfy_parts.proofs.VisibleLineLemmas.{visible_lines, lines_visible}
use Rattle.comfy_parts.proofs.laws.sequences_take_no_columns.Goals as goal

pub returns-clause-lines : goal.returns-clause-lines
returns-clause-lines c = visible_lines

pub returns-clause-written : goal.returns-clause-written
returns-clause-written c = λ w d text_lines. All-from_recursion _ _ (lines_visible w d text_lines)
