use Rattle.std.proofs.Common.{◌≤◌, ◌-◌, length}
use Rattle.csv_records.proofs.QuoteLemmas.{WalksOutside}
use Rattle.csv_records.proofs.quotes.unclosed_in.Given as goal

abbrev pub invariant-quotes : goal.invariant-quotes
invariant-quotes l = (l.at ≤ length l.bytes) × WalksOutside l.delimiter l.bytes l.at

abbrev pub decreases-quotes : goal.decreases-quotes
decreases-quotes l = length l.bytes - l.at
