use Rattle.std.proofs.Common.{◌≡◌, chars, length}
use denote.Shadow.{shadow}
use denote.Text.{Utf8}
use Rattle.csv_records.specs.Number.{from_other, is_space}
use Rattle.csv_records.proofs.number.without_leading_spaces.Given as goal

abbrev pub invariant-spaces : goal.invariant-spaces
invariant-spaces l = shadow (Utf8 l.rest) × (from_other is_space (chars l.text) ≡ from_other is_space (chars l.rest))

abbrev pub decreases-spaces : goal.decreases-spaces
decreases-spaces l = length l.rest
