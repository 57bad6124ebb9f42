use Rattle.comfy_parts.proofs.PrintableLemmas.{clusters-printable, measure-printable}
use Rattle.comfy_parts.proofs.laws.printable_measures_its_length.Goals as goal

pub returns : goal.returns
returns c = record { measure = measure-printable; clusters = clusters-printable }
