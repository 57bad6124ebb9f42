use Rattle.comfy_parts.specs.CellEquality.{cell_hash_respects_eq}
use Rattle.comfy_parts.proofs.ComparisonLemmas.{cell_eq_is_same}
use Rattle.comfy_parts.proofs.laws.cells_are_equal_by_their_values.Goals as goal

pub returns : goal.returns
returns c = record { eq = cell_eq_is_same; hash = cell_hash_respects_eq }
