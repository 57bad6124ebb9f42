use Rattle.comfy_parts.proofs.SequenceLemmas.{sequences_are_taken_out, other_bytes_are_visible}
use Rattle.comfy_parts.proofs.laws.sequences_are_taken_out_in_one_pass.Goals as goal

pub returns-clause-sequence : goal.returns-clause-sequence
returns-clause-sequence c = sequences_are_taken_out

pub returns-clause-visible : goal.returns-clause-visible
returns-clause-visible c = other_bytes_are_visible
