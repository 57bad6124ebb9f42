use Rattle.comfy_parts.proofs.FrameCharacterLemmas.{preset_characters_take_one_column}
use Rattle.comfy_parts.proofs.laws.preset_characters_take_one_column.Goals as goal

pub returns : goal.returns
returns c = preset_characters_take_one_column
