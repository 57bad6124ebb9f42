use Rattle.std.proofs.Common.{◌≡◌, ◌≤◌, ◌+◌, ◌-◌, ◌++◌, ◌∷◌, [], ℕ, arith, map}
use Rattle.std.proofs.lemmas.Grind.{common_steps}
use Rattle.std.proofs.lemmas.List.FromFn.{map-range_with_len_more}
use Rattle.std.specs.List.{range_with_len}
use Rattle.comfy_parts.specs.CellValue.{new_column}
use Rattle.comfy_table.proofs.table.grow_columns.Goals as goal

-- one more column, at the next position
next : (h i : ℕ) → h ≤ i → map new_column (range_with_len h (i + 1 - h)) ≡ map new_column (range_with_len h (i - h)) ++ new_column i ∷ []
next h i le =
    let one : i + 1 - h ≡ i - h + 1 = omega arith in
    rw one (map-range_with_len_more new_column h (i - h) i (omega arith))

pub loop-index-preserved : goal.loop-index-preserved
loop-index-preserved c = grind (arith, common_steps, next, common_steps)

pub returns-clause-ok : goal.returns-clause-ok
returns-clause-ok c = grind arith
