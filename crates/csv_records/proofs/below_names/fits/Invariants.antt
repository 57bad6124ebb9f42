use Rattle.std.proofs.Common.{◌≡◌, ◌+◌, ◌≤◌, chars, drop, length}
use denote.Text.{Utf8}
use denote.Shadow.{shadow}
use Rattle.std.specs.List.{list_all, range_with_len}
use Rattle.csv_records.specs.BelowNames.{fits, fits_at, spaces_before}
use Rattle.csv_records.proofs.below_names.fits.Given as goal

abbrev pub invariant-loop-c : goal.invariant-loop-c
invariant-loop-c l =
    shadow (Utf8 l.rest)
    × (list_all (fits_at l.starts (chars l.line)) (range_with_len l.at (length (chars l.rest))) ≡ fits l.starts (chars l.line))
    × (drop l.at (chars l.line) ≡ chars l.rest)
    × (l.spaces ≡ spaces_before (chars l.line) l.at)
    × (l.at + length l.rest ≤ length l.line)
    × (l.spaces ≤ l.at)

abbrev pub decreases-loop-c : goal.decreases-loop-c
decreases-loop-c l = length l.rest
