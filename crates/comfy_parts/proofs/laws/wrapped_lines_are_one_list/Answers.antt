use Rattle.comfy_parts.proofs.WrappedLemmas.{wrapped_is_wrapped}
use Rattle.comfy_parts.proofs.WrappingLemmas.{wrapped_is_one}
use Rattle.comfy_parts.proofs.laws.wrapped_lines_are_one_list.Goals as goal

pub returns : goal.returns
returns c = record { one = wrapped_is_one; some = wrapped_is_wrapped }
