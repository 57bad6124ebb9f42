use Rattle.comfy_parts.proofs.FrameCharacterLemmas.{frame_adds, frame_apart}
use Rattle.cluster_width.proofs.SpaceMeasureLemmas.{measure-space}
use Rattle.comfy_parts.proofs.laws.spaces_and_borders_add_one_column.Goals as goal

pub returns : goal.returns
returns c = record { space = measure-space; border = frame_adds; apart = frame_apart }
