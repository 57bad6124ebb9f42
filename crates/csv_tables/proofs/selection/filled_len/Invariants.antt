use Rattle.std.proofs.Common.{◌≡◌, ℕ, List, fold, max}
use Rattle.comfy_parts.specs.Text.{Text}
use Rattle.csv_records.specs.Longer.{filled_len}
use Rattle.csv_tables.proofs.selection.filled_len.Given as goal

abbrev pub invariant-loop-row : goal.invariant-loop-row
invariant-loop-row l = fold (λ (n : ℕ) (row : List Text). max n (filled_len row)) l.filled l.row-iterator ≡ fold (λ (n : ℕ) (row : List Text). max n (filled_len row)) l.initial.filled l.rows
