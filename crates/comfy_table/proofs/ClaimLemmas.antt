-- Columns and claims at positions: their number at a position, and the columns that are left after some claims are
-- taken.
use Rattle.std.proofs.Common.{◌≡◌, ◌<◌, ◌≤◌, ℕ, ◌+◌, Bool, true, false, cond, not, ◌==◌, List, [], ◌∷◌, ◌++◌, length, Some, unwrap_or, option_map, find, sum_by, refl, sym, ap, ◌∙◌, arith, eq-zero-or-pos}
use Rattle.std.specs.Cmp.{nat_eq_equiv}
use Rattle.std.specs.List.{list_any, AllByRecursion}
use Rattle.std.proofs.lemmas.Bool.{eqb-true, eq-eqb, false_from_ne_true}
use Rattle.std.proofs.lemmas.List.Sums.{sum_by-cons}
use Rattle.comfy_table.specs.Dynamic.{Positioned, Claim, without_claims, total, claim_at}

-- the number of elements at position i
abbrev pub count_at : {X : Type 0} → ℕ → List (ℕ × X) → ℕ
count_at i [] = 0
count_at i (x ∷ xs) = cond (x.0 == i) 1 0 + count_at i xs

-- a claim is at position i
abbrev pub has_claim : List Claim → ℕ → Bool
has_claim taken i = list_any (λ (t : Claim). t.0 == i) taken

-- at most one element is at each position
abbrev pub IsOneEach : {X : Type 0} → List (ℕ × X) → Type 0
IsOneEach xs = (i : ℕ) → count_at i xs ≤ 1

-- each position has at most as many claims as columns
abbrev pub IsAmong : List Claim → List Positioned → Type 0
IsAmong taken columns = (i : ℕ) → count_at i taken ≤ count_at i columns

-- the number at a position in two joined lists is the sum of both numbers
pub count_at-append : {X : Type 0} (i : ℕ) (xs ys : List (ℕ × X)) → count_at i (xs ++ ys) ≡ count_at i xs + count_at i ys
count_at-append i [] ys = omega arith
count_at-append i (x ∷ xs) ys = omega (arith, count_at-append i xs ys)

-- no claim is found at a position without claims
pub has_claim-none : (i : ℕ) (taken : List Claim) → count_at i taken ≡ 0 → has_claim taken i ≡ false
has_claim-none i [] none = refl
has_claim-none i (t ∷ more) none = grind (arith, has_claim-none i more)

-- a claim is found at a position with claims
pub has_claim-some : (i : ℕ) (taken : List Claim) → 0 < count_at i taken → has_claim taken i ≡ true
has_claim-some i [] some = absurd (omega arith)
has_claim-some i (t ∷ more) some = grind (arith, has_claim-some i more)

-- 1 if a test passes, and otherwise 0
abbrev pub one_if : Bool → ℕ
one_if b = cond b 1 0

-- 0 if the test fails
none_here : (b : Bool) → b ≡ false → one_if b ≡ 0
none_here b fails = ap one_if fails

-- a position with a claim and one without are different
other_place : (taken : List Claim) (i j : ℕ) → has_claim taken i ≡ true → has_claim taken j ≡ false → (i == j) ≡ false
other_place taken i j has hasn't = false_from_ne_true (i == j) (λ same. let along : has_claim taken i ≡ has_claim taken j = ap (has_claim taken) (eqb-true i j same) in absurd (cc (has, hasn't, along)))

-- a position without a claim keeps its columns
pub count_at-without_none : (i : ℕ) (taken : List Claim) (columns : List Positioned) → count_at i taken ≡ 0 → count_at i (without_claims taken columns) ≡ count_at i columns
count_at-without_none i taken [] none = refl
count_at-without_none i taken (p ∷ more) none = by_test (has_claim taken p.0) refl (count_at-without_none i taken more none)
  where
    by_test : (h : Bool) → has_claim taken p.0 ≡ h → count_at i (without_claims taken more) ≡ count_at i more
        → count_at i (cond (not h) (p ∷ without_claims taken more) (without_claims taken more)) ≡ cond (p.0 == i) 1 0 + count_at i more
    by_test true has rest = omega (arith, rest, none_here (p.0 == i) (other_place taken p.0 i has (has_claim-none i taken none)))
    by_test false has rest = ap (λ (n : ℕ). cond (p.0 == i) 1 0 + n) rest

-- a position with a claim loses its columns
pub count_at-without_some : (i : ℕ) (taken : List Claim) (columns : List Positioned) → 0 < count_at i taken → count_at i (without_claims taken columns) ≡ 0
count_at-without_some i taken [] some = refl
count_at-without_some i taken (p ∷ more) some = by_test (has_claim taken p.0) refl (count_at-without_some i taken more some)
  where
    by_test : (h : Bool) → has_claim taken p.0 ≡ h → count_at i (without_claims taken more) ≡ 0
        → count_at i (cond (not h) (p ∷ without_claims taken more) (without_claims taken more)) ≡ 0
    by_test true has rest = rest
    by_test false has rest = omega (arith, rest, none_here (p.0 == i) (nat_eq_equiv.symm p.0 i ∙ other_place taken i p.0 (has_claim-some i taken some) has))

-- the claims that are taken and the columns that are left at a position are as many as its columns
pub count_at-without : (i : ℕ) (taken : List Claim) (columns : List Positioned) → IsOneEach columns → IsAmong taken columns
    → count_at i taken + count_at i (without_claims taken columns) ≡ count_at i columns
count_at-without i taken columns one among = grind (arith, count_at-without_none, count_at-without_some, eq-zero-or-pos)

-- if no claim is taken, all columns are left
pub without_claims-nil : (columns : List Positioned) → without_claims [] columns ≡ columns
without_claims-nil [] = refl
without_claims-nil (p ∷ more) = ap (λ (ps : List Positioned). p ∷ ps) (without_claims-nil more)

-- one more claim removes the columns at its position
length-without_more : (t : Claim) (taken : List Claim) (columns : List Positioned) → length (without_claims (t ∷ taken) columns) + count_at t.0 (without_claims taken columns) ≡ length (without_claims taken columns)
length-without_more t taken [] = refl
length-without_more t taken (p ∷ more) = grind (arith, length-without_more t taken more)

-- the claims that are taken and the columns that are left are as many as all columns
pub length-without : (taken : List Claim) (columns : List Positioned) → IsOneEach columns → IsAmong taken columns → length taken + length (without_claims taken columns) ≡ length columns
length-without [] columns one among = omega (arith, ap length (without_claims-nil columns))
length-without (t ∷ more) columns one among =
    let here : count_at t.0 (t ∷ more) ≡ 1 + count_at t.0 more = ap (λ (b : Bool). cond b 1 0 + count_at t.0 more) (eq-eqb t.0 t.0 refl) in
    let fewer : IsAmong more columns = λ i. omega (arith, among i) in
    let at = count_at-without t.0 more columns one fewer in
    omega (arith, here, among t.0, one t.0, at, length-without_more t more columns, length-without more columns one fewer)

-- the width at a position without claims is 0
pub claim_at-none : (i : ℕ) (claims : List Claim) → count_at i claims ≡ 0 → claim_at claims i ≡ 0
claim_at-none i [] none = refl
claim_at-none i (t ∷ more) none = grind (arith, claim_at-none i more)

-- a property of every claim holds of the claim at a position
pub claim_at-where : (Q : ℕ → ℕ → Type 0) (i : ℕ) (claims : List Claim) → AllByRecursion (λ (t : Claim). Q t.0 t.1) claims → 0 < count_at i claims → Q i (claim_at claims i)
claim_at-where Q i [] each some = absurd (omega arith)
claim_at-where Q i (t ∷ more) each some = grind (arith, claim_at-where Q i more each.1)

-- the sum of the claims at the positions of these columns
abbrev pub sum_of_claims : List Claim → List Positioned → ℕ
sum_of_claims claims columns = sum_by (λ (p : Positioned). claim_at claims p.0) columns

-- without claims the sum is 0
sum_of_claims-nil : (columns : List Positioned) → sum_of_claims [] columns ≡ 0
sum_of_claims-nil [] = refl
sum_of_claims-nil (p ∷ more) = omega (arith, sum_by-cons (λ (q : Positioned). claim_at [] q.0) p more, sum_of_claims-nil more)

-- a claim at another position adds nothing to the sum
sum_of_claims_other : (t : Claim) (claims : List Claim) (columns : List Positioned) → count_at t.0 columns ≡ 0 → sum_of_claims (t ∷ claims) columns ≡ sum_of_claims claims columns
sum_of_claims_other t claims [] none = refl
sum_of_claims_other t claims (p ∷ more) none =
    by_test (p.0 == t.0) (nat_eq_equiv.symm t.0 p.0) none (sum_of_claims_other t claims more)
  where
    by_test : (b : Bool) → (t.0 == p.0) ≡ b → cond b 1 0 + count_at t.0 more ≡ 0 → (count_at t.0 more ≡ 0 → sum_of_claims (t ∷ claims) more ≡ sum_of_claims claims more) → sum_of_claims (t ∷ claims) (p ∷ more) ≡ sum_of_claims claims (p ∷ more)
    by_test true same none rest = absurd (omega arith)
    by_test false same none rest =
        let here : claim_at (t ∷ claims) p.0 ≡ claim_at claims p.0 = ap (λ (b : Bool). unwrap_or (option_map (λ (s : Claim). s.1) (cond b (Some t) (find (λ (s : Claim). s.0 == p.0) claims))) 0) same in
        omega (arith, here, rest (omega arith), sum_by-cons (λ (q : Positioned). claim_at (t ∷ claims) q.0) p more, sum_by-cons (λ (q : Positioned). claim_at claims q.0) p more)

-- a claim at the position of one of the columns adds its width
sum_of_claims_more : (t : Claim) (claims : List Claim) (columns : List Positioned) → count_at t.0 columns ≡ 1 → count_at t.0 claims ≡ 0 → sum_of_claims (t ∷ claims) columns ≡ t.1 + sum_of_claims claims columns
sum_of_claims_more t claims [] one none = absurd (omega arith)
sum_of_claims_more t claims (p ∷ more) one none =
    by_test (p.0 == t.0) (nat_eq_equiv.symm t.0 p.0) one (λ here. sum_of_claims_more t claims more here none)
  where
    by_test : (b : Bool) → (t.0 == p.0) ≡ b → cond b 1 0 + count_at t.0 more ≡ 1 → (count_at t.0 more ≡ 1 → sum_of_claims (t ∷ claims) more ≡ t.1 + sum_of_claims claims more) → sum_of_claims (t ∷ claims) (p ∷ more) ≡ t.1 + sum_of_claims claims (p ∷ more)
    by_test true same one rest =
        let here : claim_at (t ∷ claims) p.0 ≡ t.1 = ap (λ (b : Bool). unwrap_or (option_map (λ (s : Claim). s.1) (cond b (Some t) (find (λ (s : Claim). s.0 == p.0) claims))) 0) same in
        let other : claim_at claims p.0 ≡ 0 = ap (claim_at claims) (sym (eqb-true t.0 p.0 same)) ∙ claim_at-none t.0 claims none in
        let others = sum_of_claims_other t claims more (omega arith) in
        omega (arith, here, other, others, sum_by-cons (λ (q : Positioned). claim_at (t ∷ claims) q.0) p more, sum_by-cons (λ (q : Positioned). claim_at claims q.0) p more)
    by_test false same one rest =
        let here : claim_at (t ∷ claims) p.0 ≡ claim_at claims p.0 = ap (λ (b : Bool). unwrap_or (option_map (λ (s : Claim). s.1) (cond b (Some t) (find (λ (s : Claim). s.0 == p.0) claims))) 0) same in
        omega (arith, here, rest (omega arith), sum_by-cons (λ (q : Positioned). claim_at (t ∷ claims) q.0) p more, sum_by-cons (λ (q : Positioned). claim_at claims q.0) p more)

-- the sum of the claims at the columns is the total of all claims
pub sum_of_claims_all : (claims : List Claim) (columns : List Positioned) → IsOneEach columns → IsAmong claims columns → sum_of_claims claims columns ≡ total claims
sum_of_claims_all [] columns one among = sum_of_claims-nil columns
sum_of_claims_all (t ∷ more) columns one among =
    let here : count_at t.0 (t ∷ more) ≡ 1 + count_at t.0 more = ap (λ (b : Bool). cond b 1 0 + count_at t.0 more) (eq-eqb t.0 t.0 refl) in
    let fewer : IsAmong more columns = λ i. omega (arith, among i) in
    let first = sum_of_claims_more t more columns (omega (arith, here, among t.0, one t.0)) (omega (arith, here, among t.0, one t.0)) in
    omega (arith, first, sum_of_claims_all more columns one fewer, sum_by-cons (λ (s : Claim). s.1) t more)
