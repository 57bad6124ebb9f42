use Rattle.std.proofs.Common.{◌≡◌, ◌+◌, ◌≤◌, length}
use Rattle.csv.specs.declared.parser.State.TheVariants as st
use Rattle.csv_records.specs.Counting.{count_from, state_at}
use Rattle.csv_records.specs.Input.{config_for}
use Rattle.csv_records.proofs.counting.first_count.Given as goal

abbrev pub invariant-bytes : goal.invariant-bytes
invariant-bytes l = (count_from (config_for l.delimiter l.has_quotes) (state_at l.state) l.count l.rest ≡ count_from (config_for l.delimiter l.has_quotes) st.StartRecord 1 l.fn.bytes)
    × (l.count + length l.rest ≤ length l.fn.bytes + 1)

abbrev pub decreases-bytes : goal.decreases-bytes
decreases-bytes l = length l.rest
