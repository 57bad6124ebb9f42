-- The widths while they are decided: the widths that claims give, and the columns that are left.
use Rattle.std.proofs.Common.{◌≡◌, ◌≤◌, ℕ, Bool, true, false, cond, ◌==◌, List, [], ◌∷◌, ◌++◌, length, Some, find, option_map, unwrap_or, sym, ap, ◌∙◌, subst, arith}
use Rattle.std.proofs.lemmas.List.Sums.{sum_by-cons}
use Rattle.comfy_table.specs.Deciding.{HasTaken, HasGoneRound, offer_by_rule, undecided_among, undecided_count, with_claims}
use Rattle.comfy_table.specs.Dynamic.{IsTakenInOrder, Positioned, Claim, places_of, claim_at, total, without_claims}
use Rattle.comfy_table.specs.Widths.{ColumnNeeds}
use Rattle.comfy_table.specs.declared.utils.arrangement.dynamic.budget.Budget.{Budget}
use Rattle.comfy_table.specs.declared.utils.arrangement.dynamic.round_robin.Rule.{Rule}
use Rattle.comfy_table.proofs.PlacedWidthLemmas.{one_each-more, undecided_among-widths_of, undecided_count-widths_of, widths_of, with_claims-widths_of, without_claims-append}
use Rattle.comfy_table.proofs.ClaimLemmas.{IsAmong, IsOneEach}
use Rattle.comfy_table.proofs.StepLemmas.{one_each-places}
use Rattle.comfy_table.proofs.TakenClaimLemmas.{one_each-without}

-- the widths are those that these claims give, and these columns are left
pub record IsGiven (needs : List ColumnNeeds) (claims : List Claim) (left : List Positioned) (budget : Budget) : Type 0 where
  pub widths : budget.widths.items ≡ widths_of needs claims
  pub one : IsOneEach claims
  pub left_is : without_claims claims (places_of needs) ≡ left

-- the columns that are left are those without a width
pub undecided_left : (needs : List ColumnNeeds) (claims : List Claim) (left : List Positioned) (budget : Budget) → IsGiven needs claims left budget → undecided_among needs budget.widths.items ≡ left
undecided_left needs claims left budget given = ap (undecided_among needs) given.widths ∙ undecided_among-widths_of needs claims ∙ given.left_is

-- the undecided columns are as many as the columns that are left
pub undecided_count_left : (needs : List ColumnNeeds) (claims : List Claim) (left : List Positioned) (budget : Budget) → IsGiven needs claims left budget → undecided_count budget.widths.items ≡ length left
undecided_count_left needs claims left budget given = ap undecided_count given.widths ∙ undecided_count-widths_of needs claims ∙ ap length given.left_is

-- at most one column is left at each position
pub one_left : (needs : List ColumnNeeds) (claims : List Claim) (left : List Positioned) (budget : Budget) → IsGiven needs claims left budget → IsOneEach left
one_left needs claims left budget given = subst IsOneEach given.left_is (one_each-without claims (places_of needs) (one_each-places 0 needs))

-- columns that are left get further claims
pub given_more : (needs : List ColumnNeeds) (claims order : List Claim) (left : List Positioned) (old new : Budget) → IsGiven needs claims left old → IsAmong order left → HasTaken order old new
    → IsGiven needs (claims ++ order) (without_claims order left) new
given_more needs claims order left old new given among taken =
    let one = one_each-more claims order (places_of needs) (one_each-places 0 needs) given.one (subst (IsAmong order) (sym given.left_is) among) in
    record {
      widths = taken.widths ∙ ap (with_claims order) given.widths ∙ with_claims-widths_of needs claims order one;
      one = one;
      left_is = without_claims-append claims order (places_of needs) ∙ ap (without_claims order) given.left_is;
    }

-- the claims that columns take by a rule, in turn
pub taken_by_rule : (rule : Rule) (room : ℕ) (needs : List ColumnNeeds) (claims : List Claim) (left : List Positioned) (old new : Budget) (given : IsGiven needs claims left old) → old.room ≡ room
    → (taken : HasGoneRound rule needs old new) → IsTakenInOrder left (offer_by_rule rule room left) taken.0
taken_by_rule rule room needs claims left old new given room_is taken =
    subst (λ (r : ℕ). IsTakenInOrder left (offer_by_rule rule r left) taken.0) room_is
    (subst (λ (ps : List Positioned). IsTakenInOrder ps (offer_by_rule rule old.room ps) taken.0) (undecided_left needs claims left old given) taken.1)

-- a width is at most the total of all claims
pub claim_at-le_total : (i : ℕ) (claims : List Claim) → claim_at claims i ≤ total claims
claim_at-le_total i [] = omega arith
claim_at-le_total i (t ∷ more) = by_test (t.0 == i) (claim_at-le_total i more)
  where
    by_test : (b : Bool) → claim_at more i ≤ total more → unwrap_or (option_map (λ (s : Claim). s.1) (cond b (Some t) (find (λ (s : Claim). s.0 == i) more))) 0 ≤ total (t ∷ more)
    by_test true rest = omega (arith, sum_by-cons (λ (s : Claim). s.1) t more)
    by_test false rest = omega (arith, rest, sum_by-cons (λ (s : Claim). s.1) t more)
