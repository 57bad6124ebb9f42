use Rattle.std.proofs.Common.{◌≡◌, ℕ, List, fold, length, max}
use Rattle.comfy_parts.specs.Text.{Text}
use Rattle.csv_tables.proofs.selection.count_of.Given as goal

abbrev pub invariant-loop-row : goal.invariant-loop-row
invariant-loop-row l = fold (λ (n : ℕ) (row : List Text). max n (length row)) l.count l.row-iterator ≡ fold (λ (n : ℕ) (row : List Text). max n (length row)) l.initial.count l.rows
