use Rattle.promises.proofs.ConditionLemmas.{plain_frame}
use Rattle.promises.proofs.laws.new_frames_are_plain.Goals as goal

pub returns : goal.returns
returns c = plain_frame
