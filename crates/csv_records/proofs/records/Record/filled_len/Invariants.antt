use Rattle.std.proofs.Common.{◌≡◌, ◌==◌, ◌≤◌, ◌+◌, length, take}
use Rattle.std.specs.List.{suffix_len}
use Rattle.comfy_parts.specs.Text.{Text}
use Rattle.csv_records.proofs.records.Record.filled_len.Given as goal

abbrev pub invariant-loop-len : goal.invariant-loop-len
invariant-loop-len l =
    (l.len ≤ length l.self)
    × (l.len + suffix_len (λ (field : Text). length field == 0) l.self ≡ length l.self + suffix_len (λ (field : Text). length field == 0) (take l.len l.self))

abbrev pub decreases-loop-len : goal.decreases-loop-len
decreases-loop-len l = l.len
