use Rattle.std.proofs.Common.{◌≡◌, ◌≤◌, ◌+◌, ◌-◌, ℕ, IfSome, Option, Some, None, length}
use Rattle.csv_tables.specs.Pieces.{rest_of}
use Rattle.csv_tables.specs.declared.drawn.Remaining.{Remaining}
use Rattle.csv_tables.proofs.drawn.piece_of.Given as goal

-- the number of records that are left, plus one if the drawing isn't at its end
abbrev pub left_of : Option Remaining → ℕ
left_of None = 0
left_of (Some left) = (length left.arranged.contents.rows.selected.rows - left.place) + 1

abbrev pub invariant-loop-left : goal.invariant-loop-left
invariant-loop-left l =
    (rest_of l.initial.left ≡ rest_of l.left)
    × IfSome l.left (λ left. left.place ≤ length left.arranged.contents.rows.selected.rows)

abbrev pub decreases-loop-left : goal.decreases-loop-left
decreases-loop-left l = left_of l.left
