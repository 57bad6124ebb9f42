use Rattle.std.proofs.Common.{◌≡◌, [], ℕ, ◌+◌, ◌-◌, length}
use Rattle.std.specs.List.{slice_index_or}
use Rattle.csv_tables.specs.Summaries.{summary_of}
use Rattle.csv_tables.proofs.summary.widen.Given as goal

abbrev pub invariant-loop-summaries : goal.invariant-loop-summaries
invariant-loop-summaries l = (at : ℕ) → slice_index_or l.summaries.items at (summary_of []) ≡ slice_index_or l.initial.summaries.items at (summary_of [])

abbrev pub decreases-loop-summaries : goal.decreases-loop-summaries
decreases-loop-summaries l = (l.position + 1) - length l.summaries.items
