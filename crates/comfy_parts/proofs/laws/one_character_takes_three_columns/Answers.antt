use Rattle.comfy_parts.proofs.CharacterWidthLemmas.{khmer_sign_takes_three, others_take_two}
use Rattle.comfy_parts.proofs.laws.one_character_takes_three_columns.Goals as goal

pub returns : goal.returns
returns c = record { three = khmer_sign_takes_three; others = others_take_two }
