use Rattle.std.proofs.Common.{length, drop, ◌-◌, ◌≡◌, ◌+◌, ◌≤◌}
use Rattle.std.specs.List.{prefix_len}
use Rattle.comfy_parts.specs.VisibleText.{is_parameter}
use Rattle.comfy_parts.proofs.content_split.sequences.sequence_len.Given as goal

abbrev pub invariant-parameters : goal.invariant-parameters
invariant-parameters l =
    record {
      from : 2 ≤ l.end;
      within : l.end ≤ length l.bytes;
      counted : prefix_len is_parameter (drop 2 l.bytes) ≡ (l.end - 2) + prefix_len is_parameter (drop l.end l.bytes);
    }

abbrev pub decreases-parameters : goal.decreases-parameters
decreases-parameters l = length l.bytes - l.end
