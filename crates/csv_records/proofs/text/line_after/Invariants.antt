use Rattle.std.proofs.Common.{◌≡◌, ◌+◌, ◌≤◌, drop}
use Rattle.csv_records.specs.Input.{line_breaks, line_breaks_after}
use Rattle.csv_records.proofs.text.line_after.Given as goal

abbrev pub invariant-loop-byte : goal.invariant-loop-byte
invariant-loop-byte l = (l.line + line_breaks_after l.after_return (drop l.byte-index l.bytes) ≡ line_breaks l.bytes + 1) × (l.line ≤ l.byte-index + 1)
