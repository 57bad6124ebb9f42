-- The search for a level: raising it, columns need no more than the room, and it is found when the average is no longer
-- above it.
use Rattle.std.proofs.Common.{◌≡◌, ◌<◌, ◌≤◌, ℕ, ◌+◌, ◌-◌, ◌*◌, ◌/◌, Bool, true, false, cond, ◌==◌, List, [], ◌∷◌, length, sum_by, Option, Some, None, option_map, is_none, unwrap_or, filter, refl, ap, ◌∙◌, arith, suc-mul, mul_comm, div-mul-le_self}
use Rattle.std.specs.List.{cons_option}
use Rattle.std.proofs.lemmas.List.Sums.{sum_by-cons}
use Rattle.std.proofs.lemmas.Nat.{le-div}
use Rattle.comfy_table.specs.Deciding.{is_undecided, undecided_among}
use Rattle.comfy_table.specs.Dynamic.{Positioned, Claim, IsLevel, average, places_of, settled_at, settled_claims, total, without_claims}
use Rattle.comfy_table.specs.Widths.{ColumnNeeds}
use Rattle.comfy_table.proofs.ClaimLemmas.{count_at, IsOneEach, length-without}
use Rattle.comfy_table.proofs.StepLemmas.{one_each-places, settled_claims-none}
use Rattle.comfy_table.proofs.TakingLemmas.{count_at-claims_of}

-- ---- one column

-- the width that a column takes if a level settles it, and otherwise `other`
abbrev pub need_at : ℕ → ℕ → ColumnNeeds → ℕ
need_at level other column = unwrap_or (settled_at (Some level) column) other

-- the need at a level is at most the level
need_within : (level : ℕ) (column : ColumnNeeds) → 1 ≤ level → need_at level level column ≤ level
need_within level column one = grind arith

-- the need at a level is at least 1
need_some : (level : ℕ) (column : ColumnNeeds) → 1 ≤ level → 1 ≤ need_at level level column
need_some level column one = grind arith

-- a column needs no more at a higher level than at the lower one, if it gets the higher level when it isn't settled
need_higher : (level higher : ℕ) (column : ColumnNeeds) → 1 ≤ higher → level ≤ higher → need_at higher higher column ≤ need_at level higher column
need_higher level higher column one above = grind arith

-- ---- all columns

-- the sum of the needs of columns
abbrev pub needed : ℕ → ℕ → List Positioned → ℕ
needed level other columns = sum_by (λ (p : Positioned). need_at level other p.1) columns

-- the number of columns that a level leaves
abbrev pub left_count : ℕ → List Positioned → ℕ
left_count level columns = length (filter (λ (p : Positioned). is_none (settled_at (Some level) p.1)) columns)

-- at a higher level the columns need no more
needed_higher : (level higher : ℕ) (columns : List Positioned) → 1 ≤ higher → level ≤ higher → needed higher higher columns ≤ needed level higher columns
needed_higher level higher [] one above = omega arith
needed_higher level higher (p ∷ more) one above =
    omega (arith, need_higher level higher p.1 one above, needed_higher level higher more one above, sum_by-cons (λ (q : Positioned). need_at higher higher q.1) p more, sum_by-cons (λ (q : Positioned). need_at level higher q.1) p more)

-- the columns need at most the level each
needed_within : (level : ℕ) (columns : List Positioned) → 1 ≤ level → needed level level columns ≤ length columns * level
needed_within level [] one = omega arith
needed_within level (p ∷ more) one =
    omega (arith, need_within level p.1 one, needed_within level more one, sum_by-cons (λ (q : Positioned). need_at level level q.1) p more, suc-mul (length more) level)

-- the columns need at least 1 each
needed_some : (level : ℕ) (columns : List Positioned) → 1 ≤ level → length columns ≤ needed level level columns
needed_some level [] one = omega arith
needed_some level (p ∷ more) one =
    omega (arith, need_some level p.1 one, needed_some level more one, sum_by-cons (λ (q : Positioned). need_at level level q.1) p more)

-- the sum is the total that the level settles, and `other` for each column that it leaves
needed-is : (level other : ℕ) (columns : List Positioned) → needed level other columns ≡ total (settled_claims (Some level) columns) + left_count level columns * other
needed-is level other [] = omega arith
needed-is level other (p ∷ more) = sum_by-cons (λ (q : Positioned). need_at level other q.1) p more ∙ by_settled (settled_at (Some level) p.1) (needed-is level other more)
  where
    by_settled : (o : Option ℕ) → needed level other more ≡ total (settled_claims (Some level) more) + left_count level more * other
        → unwrap_or o other + needed level other more
        ≡ total (cons_option (option_map (λ (width : ℕ). (p.0, width)) o) (settled_claims (Some level) more))
        + length (cond (is_none o) (p ∷ filter (λ (q : Positioned). is_none (settled_at (Some level) q.1)) more) (filter (λ (q : Positioned). is_none (settled_at (Some level) q.1)) more)) * other
    by_settled None rest = omega (arith, rest, suc-mul (left_count level more) other)
    by_settled (Some width) rest = omega (arith, rest, sum_by-cons (λ (t : Claim). t.1) (p.0, width) (settled_claims (Some level) more))

-- the columns that a level settles and leaves are all columns
settled_and_left : (level : ℕ) (columns : List Positioned) → length (settled_claims (Some level) columns) + left_count level columns ≡ length columns
settled_and_left level [] = refl
settled_and_left level (p ∷ more) = grind (arith, settled_and_left level more)

-- the columns without settled claims are the columns that it leaves
pub left_count-is : (level : ℕ) (columns : List Positioned) → IsOneEach columns → length (without_claims (settled_claims (Some level) columns) columns) ≡ left_count level columns
left_count-is level columns one =
    omega (arith, settled_and_left level columns, length-without (settled_claims (Some level) columns) columns one (λ i. count_at-claims_of (λ (p : Positioned). settled_at (Some level) p.1) i columns))

-- ---- the search

-- the average room of the columns that a level leaves
abbrev pub raised_from : ℕ → List Positioned → ℕ → ℕ
raised_from room columns level = average room columns (settled_claims (Some level) columns)

-- at the average of all columns, the room is enough for their needs
pub needed_at_first : (room level : ℕ) (columns : List Positioned) → 0 < level → level ≡ room / length columns → needed level level columns ≤ room
needed_at_first room level columns some is =
    omega (arith, needed_within level columns some, ap (λ (n : ℕ). n * length columns) is, div-mul-le_self room (length columns), mul_comm (length columns) level)

module _ (room : ℕ) (columns : List Positioned) (one : IsOneEach columns) where
  -- the columns that a level leaves have room for their average
  raised_room : (level raised : ℕ) → raised ≡ raised_from room columns level → left_count level columns * raised ≤ room - total (settled_claims (Some level) columns)
  raised_room level raised is = grind (arith, left_count-is)

  -- at that average the room is enough too, if it is higher
  pub needed_at_next : (level raised : ℕ) → level < raised → raised ≡ raised_from room columns level → needed level level columns ≤ room → needed raised raised columns ≤ room
  needed_at_next level raised above is enough =
      omega (arith, needed_higher level raised columns (omega arith) (omega arith), needed-is level raised columns, needed-is level level columns, raised_room level raised is, enough)

  -- if the average isn't higher, the level is found
  pub level_found : (level raised : ℕ) → 0 < level → raised ≤ level → raised ≡ raised_from room columns level → needed level level columns ≤ room → IsLevel room columns (Some level)
  level_found level raised some below is enough = grind (arith, needed_some, needed-is, left_count-is, le-div, mul_comm)

-- columns whose average room is 0 have a level that settles nothing
pub level_without_average : (room : ℕ) (columns : List Positioned) → room / length columns ≡ 0 → (level : Option ℕ) × IsLevel room columns level × (settled_claims level columns ≡ [])
level_without_average room [] none = (Some 1, (omega arith, omega arith, omega arith, λ some. absurd (omega arith)), refl)
level_without_average room (p ∷ more) none = grind (arith, settled_claims-none)

-- ---- the undecided columns

-- the columns that pass a test have at most one for each position, if all columns do
one_each-filter : (test : Positioned → Bool) (columns : List Positioned) → IsOneEach columns → IsOneEach (filter test columns)
one_each-filter test columns one i = omega (arith, fewer columns, one i)
  where
    by_test : (p : Positioned) (more : List Positioned) (b : Bool) → count_at i (filter test more) ≤ count_at i more
        → count_at i (cond b (p ∷ filter test more) (filter test more)) ≤ cond (p.0 == i) 1 0 + count_at i more
    by_test p more true rest = omega arith
    by_test p more false rest = omega arith

    fewer : (ps : List Positioned) → count_at i (filter test ps) ≤ count_at i ps
    fewer [] = omega arith
    fewer (p ∷ more) = by_test p more (test p) (fewer more)

-- each position has at most one undecided column
pub one_each-undecided : (needs : List ColumnNeeds) (widths : List (Option ℕ)) → IsOneEach (undecided_among needs widths)
one_each-undecided needs widths = one_each-filter (λ (p : Positioned). is_undecided widths p.0) (places_of needs) (one_each-places 0 needs)
