use Rattle.std.proofs.Common.{◌≡◌, ◌≤◌, List, [], ◌∷◌, ◌++◌, drop, length, take}
use Rattle.comfy_parts.specs.Text.{Text}
use Rattle.csv_tables.specs.Columns.{seen}
use Rattle.csv_tables.specs.Summaries.{AreSummaries}
use Rattle.csv_tables.proofs.summary.add_record.Given as goal

abbrev pub invariant-loop-position : goal.invariant-loop-position
invariant-loop-position l = record {
  left : l.field-iterator ≡ drop l.position l.row;
  within : l.position ≤ length l.row;
  so : (rows : List (List Text)) → AreSummaries rows l.initial.summaries.items → AreSummaries (rows ++ take l.position (seen l.has_sequences l.row) ∷ []) l.summaries.items;
}
