-- Settling columns one after another: the columns that are still to come.
use Rattle.std.proofs.Common.{◌≡◌, ◌≤◌, ℕ, List, [], length, map, drop, Option, filter, ap}
use Rattle.std.specs.List.{enumerate_from}
use Rattle.std.proofs.lemmas.List.{drop_all}
use Rattle.comfy_table.specs.Deciding.{is_undecided}
use Rattle.comfy_table.specs.Dynamic.{Positioned}
use Rattle.comfy_table.specs.Widths.{ColumnNeeds}

-- the undecided columns from a position on
abbrev pub undecided_past : {X : Type 0} → List (Option ℕ) → (X → ColumnNeeds) → List X → ℕ → List Positioned
undecided_past widths needs columns place = filter (λ (p : Positioned). is_undecided widths p.0) (enumerate_from place (map needs (drop place columns)))

-- after the last column there are none
pub undecided_past-none : {X : Type 0} (widths : List (Option ℕ)) (needs : X → ColumnNeeds) (columns : List X) (place : ℕ) → length columns ≤ place → undecided_past widths needs columns place ≡ []
undecided_past-none {X} widths needs columns place past =
    ap (λ (xs : List X). filter (λ (p : Positioned). is_undecided widths p.0) (enumerate_from place (map needs xs))) (drop_all place columns past)
