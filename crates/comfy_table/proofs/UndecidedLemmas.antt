-- The undecided columns: their number, and the effect of a width that is taken.
use Rattle.std.proofs.Common.{◌≡◌, ℕ, zero, suc, ◌+◌, Bool, true, false, cond, not, ◌==◌, List, [], ◌∷◌, ◌++◌, length, Option, Some, filter, is_none, refl, sym, ap, ◌∙◌, arith, length-append}
use Rattle.std.specs.Prelude.{◌&&◌, slice_set}
use Rattle.std.specs.List.{enumerate_from}
use Rattle.std.proofs.lemmas.Bool.Decides.{nat_tests}
use Rattle.std.proofs.lemmas.List.{append_assoc, get_or_at, length-set}
use Rattle.comfy_table.specs.Deciding.{is_undecided, undecided_among, undecided_count, with_claims}
use Rattle.comfy_table.specs.Dynamic.{Positioned, Claim, places_of, without_claims}
use Rattle.comfy_table.specs.Widths.{ColumnNeeds}
use Rattle.comfy_table.proofs.PlacedWidthLemmas.{without_claims-append}
use Rattle.comfy_table.proofs.ClaimLemmas.{without_claims-nil}

-- ---- a width is taken

-- with a test that passes, the other test decides
and_true : (b c : Bool) → c ≡ true → b ≡ (b && c)
and_true true c passes = sym passes
and_true false c passes = refl

-- with a test that fails, both together fail
and_false : (b c : Bool) → c ≡ false → false ≡ (b && c)
and_false true c fails = sym fails
and_false false c fails = refl

-- after the width at a position is set, the column there is decided, and no other column changes
pub is_undecided-set : (widths : List (Option ℕ)) (i j width : ℕ) → is_undecided (slice_set widths i (Some width)) j ≡ (is_undecided widths j && not (i == j))
is_undecided-set [] i j width = refl
is_undecided-set (w ∷ widths) zero zero width = and_false (is_none w) (not (zero == zero)) refl
is_undecided-set (w ∷ widths) zero (suc j) width = and_true (is_undecided widths j) (not (zero == suc j)) (grind (arith, nat_tests))
is_undecided-set (w ∷ widths) (suc i) zero width = and_true (is_none w) (not (suc i == zero)) (grind (arith, nat_tests))
is_undecided-set (w ∷ widths) (suc i) (suc j) width =
    let same : (i == j) ≡ (suc i == suc j) = grind (arith, nat_tests) in is_undecided-set widths i j width ∙ ap (λ (b : Bool). is_undecided widths j && not b) same

-- after a claim, the columns without a width are those from before, except for the claim's column
undecided_set : (widths : List (Option ℕ)) (t : Claim) (columns : List Positioned) → filter (λ (p : Positioned). is_undecided (slice_set widths t.0 (Some t.1)) p.0) columns ≡ without_claims (t ∷ []) (filter (λ (p : Positioned). is_undecided widths p.0) columns)
undecided_set widths t [] = refl
undecided_set widths t (p ∷ more) = grind (arith, is_undecided-set, undecided_set widths t more)

-- after a claim, the undecided columns are those without a claim
pub undecided_among-set : (needs : List ColumnNeeds) (widths : List (Option ℕ)) (t : Claim) → undecided_among needs (slice_set widths t.0 (Some t.1)) ≡ without_claims (t ∷ []) (undecided_among needs widths)
undecided_among-set needs widths t = undecided_set widths t (places_of needs)

-- after several claims, the undecided columns are those without a claim
pub undecided_among-with_claims : (needs : List ColumnNeeds) (order : List Claim) (widths : List (Option ℕ)) → undecided_among needs (with_claims order widths) ≡ without_claims order (undecided_among needs widths)
undecided_among-with_claims needs [] widths = sym (without_claims-nil (undecided_among needs widths))
undecided_among-with_claims needs (t ∷ more) widths =
    undecided_among-with_claims needs more (slice_set widths t.0 (Some t.1))
    ∙ ap (without_claims more) (undecided_among-set needs widths t)
    ∙ sym (without_claims-append (t ∷ []) more (undecided_among needs widths))

-- claims keep the number of widths
pub length-with_claims : (order : List Claim) (widths : List (Option ℕ)) → length (with_claims order widths) ≡ length widths
length-with_claims [] widths = refl
length-with_claims (t ∷ more) widths = length-with_claims more (slice_set widths t.0 (Some t.1)) ∙ length-set widths t.0 (Some t.1)

-- ---- their number

-- the undecided columns are as many as the missing widths, after other columns
length-undecided_from : (front widths : List (Option ℕ)) (n : ℕ) (needs : List ColumnNeeds) → length widths ≡ length needs → n ≡ length front
    → length (filter (λ (p : Positioned). is_undecided (front ++ widths) p.0) (enumerate_from n needs)) ≡ undecided_count widths
length-undecided_from front [] n [] same from = refl
length-undecided_from front [] n (column ∷ more) same from = absurd (omega arith)
length-undecided_from front (w ∷ widths) n [] same from = absurd (omega arith)
length-undecided_from front (w ∷ widths) n (column ∷ more) same from =
    let grouped : (front ++ w ∷ []) ++ widths ≡ front ++ w ∷ widths = append_assoc front (w ∷ []) widths in
    let here : is_undecided (front ++ w ∷ widths) n ≡ is_none w =
    ap (is_undecided (front ++ w ∷ widths)) from ∙ ap is_none (get_or_at front w widths (Some 0) (length front) refl) in
    ap (λ (b : Bool). length (cond b ((n, column) ∷ later (front ++ w ∷ widths)) (later (front ++ w ∷ widths)))) here
    ∙ by_test (is_none w) (ap (λ (ws : List (Option ℕ)). length (later ws)) (sym grouped) ∙ length-undecided_from (front ++ w ∷ []) widths (n + 1) more (omega arith) (omega (arith, length-append front (w ∷ []))))
  where
    later : List (Option ℕ) → List Positioned
    later ws = filter (λ (p : Positioned). is_undecided ws p.0) (enumerate_from (n + 1) more)

    by_test : (b : Bool) → length (later (front ++ w ∷ widths)) ≡ undecided_count widths
        → length (cond b ((n, column) ∷ later (front ++ w ∷ widths)) (later (front ++ w ∷ widths))) ≡ length (cond b (w ∷ filter is_none widths) (filter is_none widths))
    by_test true rest = omega arith
    by_test false rest = rest

-- the undecided columns are as many as the missing widths
pub length-undecided_among : (needs : List ColumnNeeds) (widths : List (Option ℕ)) → length widths ≡ length needs → length (undecided_among needs widths) ≡ undecided_count widths
length-undecided_among needs widths same = length-undecided_from [] widths 0 needs same refl
