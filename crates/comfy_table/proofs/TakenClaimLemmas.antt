-- Columns that take widths one after another: each once, and the room after the columns that shrink.
use Rattle.std.proofs.Common.{◌≡◌, ◌<◌, ◌≤◌, ℕ, suc, ◌+◌, ◌-◌, ◌*◌, ◌/◌, Bool, true, false, cond, ◌==◌, List, [], ◌∷◌, ◌++◌, length, max, Option, Some, None, refl, sym, ap, subst, arith, append-nil, sub-le, div-le_self, le_trans, not, length-append}
use Rattle.std.specs.Prelude.{⊤}
use Rattle.std.specs.List.{AllByRecursion}
use Rattle.std.proofs.lemmas.List.{append_assoc}
use Rattle.std.proofs.lemmas.List.Sums.{sum_by_push}
use Rattle.std.proofs.lemmas.Nat.{div_below}
use Rattle.comfy_table.specs.Dynamic.{Positioned, Claim, without_claims, total, IsTakenAfter, average, shrunk_at, shrunk_offer}
use Rattle.comfy_table.specs.Widths.{ColumnNeeds}
use Rattle.comfy_table.proofs.ClaimLemmas.{count_at, has_claim, IsOneEach, IsAmong, count_at-append, count_at-without, length-without, without_claims-nil}
use Rattle.comfy_table.proofs.TakingLemmas.{next_taken-where, next_taken-none}
use Rattle.comfy_parts.proofs.CallerLemmas.{every-always, every-both, every-filter, every-weaker}

-- every column is at its position
pub each_is_counted : (columns : List Positioned) → AllByRecursion (λ (p : Positioned). 0 < count_at p.0 columns) columns
each_is_counted [] = tt
each_is_counted (p ∷ more) = grind (arith, every-weaker, each_is_counted more)

-- the columns that are left have at most one for each position, if all columns do
pub one_each-without : (taken : List Claim) (columns : List Positioned) → IsOneEach columns → IsOneEach (without_claims taken columns)
one_each-without taken columns one i = le_trans (fewer columns) (one i)
  where
    by_test : (p : Positioned) (more : List Positioned) (b : Bool) → count_at i (without_claims taken more) ≤ count_at i more
        → count_at i (cond b (p ∷ without_claims taken more) (without_claims taken more)) ≤ cond (p.0 == i) 1 0 + count_at i more
    by_test p more true rest = omega arith
    by_test p more false rest = omega arith

    fewer : (ps : List Positioned) → count_at i (without_claims taken ps) ≤ count_at i ps
    fewer [] = omega arith
    fewer (p ∷ more) = by_test p more (not (has_claim taken p.0)) (fewer more)

module _ (candidates : List Positioned) (one : IsOneEach candidates) where
  -- one more claim of a column that is left keeps at most one claim for each
  among-push : (taken : List Claim) (t : Claim) → IsAmong taken candidates → 0 < count_at t.0 (without_claims taken candidates) → IsAmong (taken ++ t ∷ []) candidates
  among-push taken t among left i = grind (arith, count_at-append, count_at-without)

  -- each column takes at most one width
  pub taken_among : (offer : List Claim → Positioned → Option ℕ) (from : ℕ) (taken order : List Claim) → IsAmong taken candidates → IsTakenAfter candidates offer from taken order → IsAmong (taken ++ order) candidates
  taken_among offer from taken [] among ends = subst (λ (ts : List Claim). IsAmong ts candidates) (sym (append-nil taken)) among
  taken_among offer from taken (t ∷ more) among goes =
      let next = next_taken-where candidates offer (λ (p : Positioned). 0 < count_at p.0 (without_claims taken candidates)) from taken t (each_is_counted (without_claims taken candidates)) goes.0 in
      subst (λ (ts : List Claim). IsAmong ts candidates) (append_assoc taken (t ∷ []) more)
      (taken_among offer t.0 (taken ++ t ∷ []) more (among-push taken t among next.left) goes.1)

  -- at the end no column that is left is offered a width
  pub taken_ends : (offer : List Claim → Positioned → Option ℕ) (from : ℕ) (taken order : List Claim) → IsTakenAfter candidates offer from taken order
      → AllByRecursion (λ (p : Positioned). offer (taken ++ order) p ≡ None) (without_claims (taken ++ order) candidates)
  taken_ends offer from taken [] ends =
      subst (λ (ts : List Claim). AllByRecursion (λ (p : Positioned). offer ts p ≡ None) (without_claims ts candidates)) (sym (append-nil taken)) (next_taken-none candidates offer from taken ends)
  taken_ends offer from taken (t ∷ more) goes =
      subst (λ (ts : List Claim). AllByRecursion (λ (p : Positioned). offer ts p ≡ None) (without_claims ts candidates)) (append_assoc taken (t ∷ []) more)
      (taken_ends offer t.0 (taken ++ t ∷ []) more goes.1)

  -- one more claim is one column fewer that is left
  length-push : (taken : List Claim) (t : Claim) → IsAmong taken candidates → IsAmong (taken ++ t ∷ []) candidates
      → length (without_claims taken candidates) ≡ suc (length (without_claims (taken ++ t ∷ []) candidates))
  length-push taken t among more =
      omega (arith, length-without taken candidates one among, length-without (taken ++ t ∷ []) candidates one more, length-append taken (t ∷ []))

-- the column has P, and shrinks at a width of at least the level
pub record HasShrunk (P : Positioned → Type 0) (room level : ℕ) (t : Claim) : Type 0 where
  pub column : ColumnNeeds
  pub left : P (t.0, column)
  pub at : ℕ
  pub at_least : level ≤ at
  pub within : at ≤ room
  pub free : column.longest at + 3 ≤ at
  pub takes : t.1 ≡ max 1 (column.longest at)

-- the claims, and the level for each column that is left, have room
abbrev pub HasRoom : ℕ → List Positioned → ℕ → List Claim → Type 0
HasRoom room candidates level taken = total taken + length (without_claims taken candidates) * level ≤ room

-- the width that a column shrinks to
shrinks : (b : ℕ) (column : ColumnNeeds) (width : ℕ) → shrunk_at b column ≡ Some width → (column.longest b + 3 ≤ b) × (width ≡ max 1 (column.longest b))
shrinks b column width same = grind arith

-- a column that shrinks takes at most its part
room_after : (room taken left level b width : ℕ) → taken + suc left * level ≤ room → b ≡ (room - taken) / suc left → width ≤ b → (level ≤ b) × (taken + width + left * level ≤ room)
room_after room taken left level b width room_enough average_is fits = grind arith

module _ (room : ℕ) (candidates : List Positioned) (one : IsOneEach candidates) (P : Positioned → Type 0) (each : AllByRecursion P candidates) (level : ℕ) where
  -- the columns that shrink, and the room that they leave
  pub shrunk_where : (from : ℕ) (taken order : List Claim) → IsAmong taken candidates → HasRoom room candidates level taken
      → IsTakenAfter candidates (shrunk_offer room candidates) from taken order → AllByRecursion (HasShrunk P room level) order × HasRoom room candidates level (taken ++ order)
  shrunk_where from taken [] among enough ends = (tt, subst (HasRoom room candidates level) (sym (append-nil taken)) enough)
  shrunk_where from taken (t ∷ more) among enough goes =
      let Q : Positioned → Type 0 = λ (p : Positioned). P p × (0 < count_at p.0 (without_claims taken candidates)) in
      let left = without_claims taken candidates in
      let next = next_taken-where candidates (shrunk_offer room candidates) Q from taken t (every-both P (λ (p : Positioned). 0 < count_at p.0 left) left (every-filter P (λ (p : Positioned). not (has_claim taken p.0)) candidates each) (each_is_counted left)) goes.0 in
      let among' = among-push candidates one taken t among next.left.1 in
      let fewer = length-push candidates one taken t among among' in
      let b = average room candidates taken in
      let within : b ≤ room = le_trans (div-le_self (room - total taken) (length left)) (sub-le room (total taken)) in
      let width = shrinks b next.column t.1 next.offered in
      let rest = room_after room (total taken) (length (without_claims (taken ++ t ∷ []) candidates)) level b t.1 (subst (λ (n : ℕ). total taken + n * level ≤ room) fewer enough)
      (ap (λ (n : ℕ). (room - total taken) / n) fewer) (omega (arith, width.0, width.1)) in
      let enough' : HasRoom room candidates level (taken ++ t ∷ []) = subst (λ (n : ℕ). n + length (without_claims (taken ++ t ∷ []) candidates) * level ≤ room) (sym (sum_by_push (λ (s : Claim). s.1) taken t)) rest.1 in
      let later = shrunk_where t.0 (taken ++ t ∷ []) more among' enough' goes.1 in (
        (record { column = next.column; left = next.left.0; at = b; at_least = rest.0; within = within; free = width.0; takes = width.1 }, later.0),
        subst (HasRoom room candidates level) (append_assoc taken (t ∷ []) more) later.1,
      )

-- with less room than one terminal column for each column, no column shrinks
pub none_shrinks : (room : ℕ) (candidates : List Positioned) (order : List Claim) → room < length candidates → IsTakenAfter candidates (shrunk_offer room candidates) 0 [] order → order ≡ []
none_shrinks room candidates [] short goes = refl
none_shrinks room candidates (t ∷ more) short goes =
    let next = next_taken-where candidates (shrunk_offer room candidates) (λ (p : Positioned). ⊤) 0 [] t (every-always (λ (p : Positioned). ⊤) (without_claims [] candidates) (λ p. tt)) goes.0 in
    let none : average room candidates [] < 1 = subst (λ (ps : List Positioned). (room - 0) / length ps < 1) (sym (without_claims-nil candidates)) (div_below (room - 0) (length candidates) 1 (omega arith) (omega arith)) in
    let width = shrinks (average room candidates []) next.column t.1 next.offered in
    absurd (omega (arith, none, width.0))
