use Rattle.std.proofs.Common.{◌≡◌, chars, length}
use denote.Shadow.{shadow}
use denote.Text.{Utf8}
use Rattle.csv_records.specs.Number.{is_space, to_other}
use Rattle.csv_records.proofs.number.without_trailing_spaces.Given as goal

abbrev pub invariant-spaces : goal.invariant-spaces
invariant-spaces l = shadow (Utf8 l.rest) × (to_other is_space (chars l.text) ≡ to_other is_space (chars l.rest))

abbrev pub decreases-spaces : goal.decreases-spaces
decreases-spaces l = length l.rest
