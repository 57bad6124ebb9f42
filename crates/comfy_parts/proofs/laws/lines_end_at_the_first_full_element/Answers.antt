use Rattle.comfy_parts.proofs.FirstEndLemmas.{fitting_end, wide_end}
use Rattle.comfy_parts.proofs.laws.lines_end_at_the_first_full_element.Goals as goal

pub returns : goal.returns
returns c = record { fitting = fitting_end; wide = wide_end }
