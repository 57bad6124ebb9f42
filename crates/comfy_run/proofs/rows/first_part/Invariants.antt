use Rattle.std.proofs.Common.{◌≡◌, ◌≤◌, ◌-◌, ◌==◌, false, length, take}
use Rattle.std.specs.List.{list_any}
use Rattle.comfy_run.proofs.rows.first_part.Given as goal

abbrev pub invariant-loop-len : goal.invariant-loop-len
invariant-loop-len l =
    record { bound : l.len ≤ length l.bytes; unbroken : list_any (λ b. b == 0x09) (take l.len l.bytes) ≡ false; from : l.clear ≤ l.len }

abbrev pub decreases-loop-len : goal.decreases-loop-len
decreases-loop-len l = length l.bytes - l.len
