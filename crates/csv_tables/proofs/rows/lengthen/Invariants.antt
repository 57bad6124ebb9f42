use Rattle.std.proofs.Common.{◌≡◌, ◌+◌, ◌-◌, ℕ, length, max}
use Rattle.std.specs.List.{slice_index_or}
use Rattle.csv_tables.proofs.rows.lengthen.Given as goal

abbrev pub invariant-loop-widths : goal.invariant-loop-widths
invariant-loop-widths l =
    ((i : ℕ) → slice_index_or l.widths.items i 0 ≡ slice_index_or l.initial.widths.items i 0)
    × (max (length l.widths.items) (l.position + 1) ≡ max (length l.initial.widths.items) (l.position + 1))

abbrev pub decreases-loop-widths : goal.decreases-loop-widths
decreases-loop-widths l = (l.position + 1) - length l.widths.items
