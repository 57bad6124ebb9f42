use Rattle.std.proofs.Common.{◌≡◌, ◌-◌, ◌^◌, ◌<◌, [], vec_len}
use Rattle.devices.proofs.TestedLemmas.{IsTestedNext}
use Rattle.devices.specs.Transfer.{Moves}
use Rattle.devices.proofs.transfer.read_answer.Given as goal

abbrev pub invariant-loop-input : goal.invariant-loop-input
invariant-loop-input g l =
    record {
      moved : Moves (g.R.Source.remaining l.initial.source) (g.R.Source.remaining l.source) [] l.input.items;
      ended : g.R.Source.end_was_read l.source ≡ g.R.Source.end_was_read l.initial.source;
      fewer : vec_len l.input < l.len;
      tested : IsTestedNext (g.D.Render.is_not_enough l.drawing) (g.R.Source.remaining l.initial.source) l.len;
    }

abbrev pub decreases-loop-input : goal.decreases-loop-input
decreases-loop-input g l = 2 ^ 64 - l.len
