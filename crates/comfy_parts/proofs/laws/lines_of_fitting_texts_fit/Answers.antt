use Rattle.comfy_parts.proofs.ClusterFitLemmas.{head_fits}
use Rattle.comfy_parts.proofs.TextFitLemmas.{fitting_characters_fit, text_lines_narrow}
use Rattle.comfy_parts.proofs.laws.lines_of_fitting_texts_fit.Goals as goal

pub returns-clause-lines : goal.returns-clause-lines
returns-clause-lines c = text_lines_narrow

pub returns-clause-characters : goal.returns-clause-characters
returns-clause-characters c = fitting_characters_fit

pub returns-clause-heads : goal.returns-clause-heads
returns-clause-heads c = head_fits
