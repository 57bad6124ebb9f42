use Rattle.comfy_parts.proofs.CallerLemmas.{one_column_characters}
use Rattle.promises.proofs.laws.frame_characters_make_plain_styles.Goals as goal

pub returns : goal.returns
returns c = one_column_characters
