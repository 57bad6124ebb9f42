use Rattle.std.proofs.Common.{◌≡◌, ◌+◌, ◌-◌, ◌^◌, ℕ, length, map, min}
use Rattle.std.specs.List.{range_with_len, sum}
use Rattle.comfy_table.specs.Frame.{border_count}
use Rattle.csv_tables.specs.Limits.{limits_at, taken}
use Rattle.csv_tables.specs.NoWrap.{Wanted, by_columns, min_width, width_at_level}
use Rattle.csv_tables.proofs.nowrap.bounded_width.Given as goal

-- the borders, and the widths of the columns so far
abbrev pub invariant-loop-at : goal.invariant-loop-at
invariant-loop-at l =
    (wanted : Wanted) → l.fn.kept ≡ by_columns (min_width wanted l.contents.table) l.contents.table
    → l.width ≡ min (2 ^ 64 - 1) (border_count l.contents.table.style (length l.contents.table.columns) + sum (map (λ (i : ℕ). taken (limits_at l.limits i) (width_at_level l.level wanted l.contents.table i)) (range_with_len 0 l.at)))
