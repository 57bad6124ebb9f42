use Rattle.std.proofs.Common.{◌-◌, length}
use Rattle.comfy_run.specs.Parts.{IsClearFront}
use Rattle.comfy_run.proofs.rows.clear_run.Given as goal

abbrev pub invariant-loop-run : goal.invariant-loop-run
invariant-loop-run l = IsClearFront l.bytes l.run

abbrev pub decreases-loop-run : goal.decreases-loop-run
decreases-loop-run l = length l.bytes - l.run
