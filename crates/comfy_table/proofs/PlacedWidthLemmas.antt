-- The widths that claims give to the columns at their positions, and how further claims change them.
use Rattle.std.proofs.Common.{◌≡◌, ◌≤◌, ℕ, ◌+◌, Bool, false, cond, not, ◌==◌, List, [], ◌∷◌, ◌++◌, length, map, Option, Some, None, option_map, find, filter, is_none, refl, sym, ap, ◌∙◌, subst, arith, append-nil, eq-zero-or-pos}
use Rattle.std.specs.Option.{option_or}
use Rattle.std.proofs.lemmas.Bool.{eq-eqb}
use Rattle.std.proofs.lemmas.List.{append_assoc}
use Rattle.std.proofs.lemmas.List.Folds.{list_any-append}
use Rattle.comfy_table.specs.Deciding.{is_undecided, undecided_among, undecided_count, with_claims}
use Rattle.comfy_table.specs.Dynamic.{Positioned, Claim, places_of, without_claims}
use Rattle.comfy_table.specs.Widths.{ColumnNeeds}
use Rattle.comfy_table.proofs.ClaimLemmas.{count_at, has_claim, IsOneEach, IsAmong, count_at-append, count_at-without_none, count_at-without_some}
use Rattle.comfy_parts.proofs.CallerLemmas.{filter-places, index-places, length-filter_places, map-places, set-places}

-- ---- the width at a position

-- the width that claims give to position i, if they have a claim for it
abbrev pub width_at : List Claim → ℕ → Option ℕ
width_at claims i = option_map (λ (t : Claim). t.1) (find (λ (t : Claim). t.0 == i) claims)

-- two joined lists of claims give the width of the first, or else that of the second
pub width_at-append : (i : ℕ) (xs ys : List Claim) → width_at (xs ++ ys) i ≡ option_or (width_at xs i) (width_at ys i)
width_at-append i [] ys = refl
width_at-append i (t ∷ xs) ys = grind (arith, width_at-append i xs ys)

-- a position without claims has no width
pub width_at-none : (i : ℕ) (claims : List Claim) → count_at i claims ≡ 0 → width_at claims i ≡ None
width_at-none i [] none = refl
width_at-none i (t ∷ more) none = grind (arith, width_at-none i more)

-- a position has no width if and only if it has no claim
pub is_none-width_at : (i : ℕ) (claims : List Claim) → is_none (width_at claims i) ≡ not (has_claim claims i)
is_none-width_at i [] = refl
is_none-width_at i (t ∷ more) = grind (arith, is_none-width_at i more)

-- the first claim gives the width at its position
pub width_at-here : (t : Claim) (more : List Claim) (i : ℕ) → t.0 ≡ i → width_at (t ∷ more) i ≡ Some t.1
width_at-here t more i same = ap (λ (b : Bool). option_map (λ (s : Claim). s.1) (cond b (Some t) (find (λ (s : Claim). s.0 == i) more))) (eq-eqb t.0 i same)

-- at another position the later claims give the width
pub width_at-other : (t : Claim) (more : List Claim) (i : ℕ) → (t.0 == i) ≡ false → width_at (t ∷ more) i ≡ width_at more i
width_at-other t more i other = ap (λ (b : Bool). option_map (λ (s : Claim). s.1) (cond b (Some t) (find (λ (s : Claim). s.0 == i) more))) other

-- one more claim, if each position has at most one
pub width_at-push : (t : Claim) (before : List Claim) (i : ℕ) → count_at i (before ++ t ∷ []) ≤ 1 → cond (t.0 == i) (Some t.1) (width_at before i) ≡ width_at (before ++ t ∷ []) i
width_at-push t before i one = grind (arith, width_at-append, width_at-none, count_at-append)

-- ---- the widths that claims give

-- the widths that claims give to the columns
abbrev pub widths_of : List ColumnNeeds → List Claim → List (Option ℕ)
widths_of needs claims = map (λ (p : Positioned). width_at claims p.0) (places_of needs)

-- further claims are taken, at most one for each position
pub with_claims-widths_of : (needs : List ColumnNeeds) (before order : List Claim) → IsOneEach (before ++ order) → with_claims order (widths_of needs before) ≡ widths_of needs (before ++ order)
with_claims-widths_of needs before [] one = ap (widths_of needs) (sym (append-nil before))
with_claims-widths_of needs before (t ∷ more) one =
    let grouped : (before ++ t ∷ []) ++ more ≡ before ++ t ∷ more = append_assoc before (t ∷ []) more in
    let one' : IsOneEach ((before ++ t ∷ []) ++ more) = subst IsOneEach (sym grouped) one in
    let place : 0 + t.0 ≡ t.0 = omega arith in
    let pushed = set-places (width_at before) t.0 (Some t.1) 0 needs
    ∙ map-places (λ j. cond (0 + t.0 == j) (Some t.1) (width_at before j)) (width_at (before ++ t ∷ [])) 0 needs
    (λ j from. ap (λ (m : ℕ). cond (m == j) (Some t.1) (width_at before j)) place ∙ width_at-push t before j (omega (arith, one' j, count_at-append j (before ++ t ∷ []) more))) in
    ap (with_claims more) pushed ∙ with_claims-widths_of needs (before ++ t ∷ []) more one' ∙ ap (widths_of needs) grouped

-- the columns without a width are those without a claim
pub undecided_among-widths_of : (needs : List ColumnNeeds) (claims : List Claim) → undecided_among needs (widths_of needs claims) ≡ without_claims claims (places_of needs)
undecided_among-widths_of needs claims =
    filter-places (is_undecided (widths_of needs claims)) (λ i. not (has_claim claims i)) 0 needs
    (λ i from below. let place : 0 + i ≡ i = omega arith in ap is_none (index-places (width_at claims) 0 needs i (Some 0) (omega arith) ∙ ap (width_at claims) place) ∙ is_none-width_at i claims)

-- the columns for which claims give no width are those without a claim
pub none-widths_of : (needs : List ColumnNeeds) (claims : List Claim) → filter (λ (p : Positioned). is_none (width_at claims p.0)) (places_of needs) ≡ without_claims claims (places_of needs)
none-widths_of needs claims = filter-places (λ i. is_none (width_at claims i)) (λ i. not (has_claim claims i)) 0 needs (λ i from below. is_none-width_at i claims)

-- the undecided columns are as many as the columns without a claim
pub undecided_count-widths_of : (needs : List ColumnNeeds) (claims : List Claim) → undecided_count (widths_of needs claims) ≡ length (without_claims claims (places_of needs))
undecided_count-widths_of needs claims = length-filter_places is_none (λ (p : Positioned). width_at claims p.0) (places_of needs) ∙ ap length (none-widths_of needs claims)

-- taking claims after other claims
pub without_claims-append : (before order : List Claim) (columns : List Positioned) → without_claims (before ++ order) columns ≡ without_claims order (without_claims before columns)
without_claims-append before order [] = refl
without_claims-append before order (p ∷ more) = grind (arith, list_any-append, without_claims-append before order more)

-- further claims of columns without claims keep at most one for each position
pub one_each-more : (before order : List Claim) (columns : List Positioned) → IsOneEach columns → IsOneEach before → IsAmong order (without_claims before columns) → IsOneEach (before ++ order)
one_each-more before order columns one each among i = grind (arith, count_at-without_none, count_at-append, count_at-without_some, eq-zero-or-pos)
