use Rattle.std.proofs.Common.{◌≡◌, ◌≤◌, ◌-◌, ℕ, length, take}
use Rattle.csv.specs.declared.parser.State.TheVariants.{InQuoted}
use Rattle.csv_records.specs.QuoteWalk.{StaysQuoted}
use Rattle.csv_records.specs.Quotes.{state_after}
use Rattle.csv_records.proofs.quotes.closing_end.Given as goal

abbrev pub invariant-quotes : goal.invariant-quotes
invariant-quotes l = (l.from ≤ l.at) × (l.at ≤ length l.bytes) × ((delimiter : ℕ) → state_after delimiter (take l.from l.bytes) ≡ InQuoted → StaysQuoted delimiter l.bytes l.from l.at)

abbrev pub decreases-quotes : goal.decreases-quotes
decreases-quotes l = length l.bytes - l.at
