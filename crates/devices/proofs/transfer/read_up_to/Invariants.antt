use Rattle.std.proofs.Common.{◌≡◌, ◌-◌, ◌<◌, ◌^◌, vec_len}
use Rattle.devices.specs.Transfer.{Moves}
use Rattle.devices.proofs.transfer.read_up_to.Given as goal

abbrev pub invariant-loop-count : goal.invariant-loop-count
invariant-loop-count g l =
    record {
      moved : Moves (g.R.Source.remaining l.initial.source) (g.R.Source.remaining l.source) l.initial.bytes.items l.bytes.items;
      ended : g.R.Source.end_was_read l.source ≡ g.R.Source.end_was_read l.initial.source;
      fewer : vec_len l.bytes < l.len;
    }

abbrev pub decreases-loop-count : goal.decreases-loop-count
decreases-loop-count g l = 2 ^ 64 - vec_len l.bytes
