use Rattle.std.proofs.Common.{◌≡◌, ◌≤◌, ◌-◌, ◌==◌, true, false, length, take}
use Rattle.std.specs.List.{list_any}
use Rattle.comfy_parts.specs.Text.{is_printable_ascii}
use Rattle.comfy_parts.proofs.content_split.ends.printable_run.Given as goal

abbrev pub invariant-loop-run : goal.invariant-loop-run
invariant-loop-run l =
    record {
      bound : l.run ≤ length l.bytes;
      printable : is_printable_ascii (take l.run l.bytes) ≡ true;
      no_delimiter : list_any (λ b. b == l.delimiter) (take l.run l.bytes) ≡ false;
    }

abbrev pub decreases-loop-run : goal.decreases-loop-run
decreases-loop-run l = length l.bytes - l.run
