use Rattle.std.proofs.Common.{arith}
use Rattle.std.proofs.lemmas.Grind.{common_steps}
use Rattle.test_callers.proofs.uses.drawing.report_table.Goals as goal

pub returns : goal.returns
returns c = grind (arith, common_steps)
