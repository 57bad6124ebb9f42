use Rattle.std.proofs.Common.{map}
use Rattle.csv_tables.specs.Columns.{seen}
use Rattle.csv_tables.proofs.SummaryLemmas.{AreSummariesUntil}
use Rattle.csv_tables.proofs.summary.summaries_of.Given as goal

abbrev pub invariant-loop-row : goal.invariant-loop-row
invariant-loop-row l = AreSummariesUntil (map (seen l.has_sequences) l.rows) (map (seen l.has_sequences) l.row-iterator) l.summaries.items
