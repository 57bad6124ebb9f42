use Rattle.comfy_parts.proofs.PrintableLemmas.{even-printable}
use Rattle.comfy_parts.proofs.laws.printable_adds_one_column_each.Goals as goal

pub returns : goal.returns
returns c = even-printable
