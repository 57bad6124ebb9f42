use Rattle.comfy_parts.proofs.LineTextLemmas.{line_resumes}
use Rattle.comfy_parts.proofs.VisibleLineLemmas.{lines_resumed}
use Rattle.comfy_parts.proofs.laws.active_sequences_are_resumed.Goals as goal

pub returns-clause-text : goal.returns-clause-text
returns-clause-text c = λ earlier text start len k within below. line_resumes earlier text start len k within below

pub returns-clause-lines : goal.returns-clause-lines
returns-clause-lines c = lines_resumed
