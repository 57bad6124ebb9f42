use Rattle.std.proofs.Common.{◌≡◌, ◌++◌, ◌+◌, ◌≤◌, chars, drop, flat_map, length, string_bytes}
use denote.Text.{Utf8}
use denote.Shadow.{shadow}
use Rattle.std.specs.List.{range_with_len}
use Rattle.csv_records.specs.BelowNames.{columns_at, columns_of, spaces_before}
use Rattle.csv_records.proofs.below_names.push_columns.Given as goal

abbrev pub invariant-loop-c : goal.invariant-loop-c
invariant-loop-c l =
    shadow (Utf8 l.rest)
    × (string_bytes l.text ++ flat_map (columns_at l.starts (chars l.line)) (range_with_len l.at (length (chars l.rest))) ≡ string_bytes l.fn.text ++ columns_of l.starts (chars l.line))
    × (drop l.at (chars l.line) ≡ chars l.rest)
    × (l.spaces ≡ spaces_before (chars l.line) l.at)
    × (l.at + length l.rest ≤ length l.line)
    × (l.spaces ≤ l.at)

abbrev pub decreases-loop-c : goal.decreases-loop-c
decreases-loop-c l = length l.rest
