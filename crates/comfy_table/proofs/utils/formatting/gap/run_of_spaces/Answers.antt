use Rattle.std.proofs.Common.{refl}
use Rattle.comfy_table.proofs.utils.formatting.gap.run_of_spaces.Goals as goal

pub returns : goal.returns
returns c = refl
