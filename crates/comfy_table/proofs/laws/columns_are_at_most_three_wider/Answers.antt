use Rattle.comfy_table.proofs.ThreePlacesLemmas.{is_at_most_three_over}
use Rattle.comfy_table.proofs.laws.columns_are_at_most_three_wider.Goals as goal

pub returns : goal.returns
returns c = is_at_most_three_over
