-- Fixed widths as widths that claims give, and the widths after the undecided columns are filled.
use Rattle.std.proofs.Common.{◌≡◌, ◌<◌, ℕ, ◌+◌, cond, List, [], ◌∷◌, ◌++◌, map, zip, Option, Some, None, option_map, filter, is_none, unwrap_or, refl, sym, ap, ◌∙◌, arith}
use Rattle.std.specs.List.{enumerate_from, cons_option}
use Rattle.std.specs.Option.{option_or}
use Rattle.std.proofs.lemmas.Bool.{ne_eqb}
use Rattle.comfy_table.specs.Deciding.{undecided_count, decided, filled}
use Rattle.comfy_table.specs.Dynamic.{Positioned, Claim, places_of, without_claims, fixed_claims, claim_at, undecided}
use Rattle.comfy_table.specs.Widths.{ColumnNeeds}
use Rattle.comfy_table.proofs.PlacedWidthLemmas.{width_at, width_at-append, width_at-here, width_at-other, widths_of, none-widths_of}
use Rattle.comfy_parts.proofs.CallerLemmas.{map-places, zip-nil}

-- ---- fixed widths

-- no fixed claim is before the first position
fixed_before : (i n : ℕ) (needs : List ColumnNeeds) → i < n → width_at (fixed_claims (enumerate_from n needs)) i ≡ None
fixed_before i n [] before = refl
fixed_before i n (column ∷ more) before = grind (arith, fixed_before i (n + 1) more (omega arith))

-- the fixed widths are those that the fixed claims give, from a position on
fixed-places : (n : ℕ) (needs : List ColumnNeeds) → map (λ (c : ColumnNeeds). c.fixed) needs ≡ map (λ (p : Positioned). width_at (fixed_claims (enumerate_from n needs)) p.0) (enumerate_from n needs)
fixed-places n [] = refl
fixed-places n (column ∷ more) = by_fixed column.fixed (fixed-places (n + 1) more)
  where
    others : List Claim
    others = fixed_claims (enumerate_from (n + 1) more)

    by_fixed : (o : Option ℕ) → map (λ (c : ColumnNeeds). c.fixed) more ≡ map (λ (p : Positioned). width_at others p.0) (enumerate_from (n + 1) more)
        → o ∷ map (λ (c : ColumnNeeds). c.fixed) more ≡ map (λ (p : Positioned). width_at (cons_option (option_map (λ (width : ℕ). (n, width)) o) others) p.0) (enumerate_from n (column ∷ more))
    by_fixed None rest = let first = sym (fixed_before n (n + 1) more (omega arith)) in λ k. first k ∷ rest k
    by_fixed (Some w) rest =
        let first = sym (width_at-here (n, w) others n refl) in
        let later = rest ∙ map-places (width_at others) (width_at ((n, w) ∷ others)) (n + 1) more (λ i from. sym (width_at-other (n, w) others i (ne_eqb n i (λ same. omega arith)))) in
        λ k. first k ∷ later k

-- the fixed widths of all columns are those that their claims give
pub fixed-widths_of : (needs : List ColumnNeeds) → map (λ (c : ColumnNeeds). c.fixed) needs ≡ widths_of needs (fixed_claims (places_of needs))
fixed-widths_of needs = fixed-places 0 needs

-- the columns without a fixed width are at the positions without a width
late-places : (f : ℕ → Option ℕ) (n : ℕ) (needs : List ColumnNeeds) → map (λ (c : ColumnNeeds). c.fixed) needs ≡ map (λ (p : Positioned). f p.0) (enumerate_from n needs)
    → filter (λ (p : Positioned). is_none p.1.fixed) (enumerate_from n needs) ≡ filter (λ (p : Positioned). is_none (f p.0)) (enumerate_from n needs)
late-places f n [] same = refl
late-places f n (column ∷ more) same =
    let both : column.fixed ∷ map (λ (c : ColumnNeeds). c.fixed) more ≡ f n ∷ map (λ (p : Positioned). f p.0) (enumerate_from (n + 1) more) = same in
    let first : column.fixed ≡ f n = cc both in
    let rest = late-places f (n + 1) more (cc both) in λ k. cond (is_none (first k)) ((n, column) ∷ rest k) (rest k)

-- the columns without a fixed width are the columns without a fixed claim
pub undecided-fixed : (room : ℕ) (needs : List ColumnNeeds) → without_claims (fixed_claims (places_of needs)) (places_of needs) ≡ undecided room needs
undecided-fixed room needs =
    let fixed = fixed_claims (places_of needs) in sym (none-widths_of needs fixed) ∙ sym (late-places (width_at fixed) 0 needs (fixed-places 0 needs))

-- ---- the final widths

-- the undecided columns get these widths in list order, from a position on
filled-places : (f : ℕ → Option ℕ) (n : ℕ) (needs : List ColumnNeeds) (parts : List ℕ)
    → filled (map (λ (p : Positioned). f p.0) (enumerate_from n needs)) parts
    ≡ map (λ (p : Positioned). unwrap_or (option_or (f p.0) (width_at (zip (map (λ (q : Positioned). q.0) (filter (λ (q : Positioned). is_none (f q.0)) (enumerate_from n needs))) parts) p.0)) 0) (enumerate_from n needs)
filled-places f n [] parts = refl
filled-places f n (column ∷ more) parts = by_width (f n) parts (filled-places f (n + 1) more)
  where
    late : List Positioned
    late = filter (λ (q : Positioned). is_none (f q.0)) (enumerate_from (n + 1) more)

    places : List Positioned → List ℕ
    places columns = map (λ (q : Positioned). q.0) columns

    given : List Claim → ℕ → ℕ
    given claims i = unwrap_or (option_or (f i) (width_at claims i)) 0

    rest_is : Type 0
    rest_is = (ws : List ℕ) → filled (map (λ (p : Positioned). f p.0) (enumerate_from (n + 1) more)) ws ≡ map (λ (p : Positioned). given (zip (places late) ws) p.0) (enumerate_from (n + 1) more)

    by_width : (o : Option ℕ) (ws : List ℕ) → rest_is
        → filled (o ∷ map (λ (p : Positioned). f p.0) (enumerate_from (n + 1) more)) ws
        ≡ unwrap_or (option_or o (width_at (zip (places (cond (is_none o) ((n, column) ∷ late) late)) ws) n)) 0
        ∷ map (λ (p : Positioned). given (zip (places (cond (is_none o) ((n, column) ∷ late) late)) ws) p.0) (enumerate_from (n + 1) more)
    by_width (Some w) ws rest = λ k. w ∷ rest ws k
    by_width None [] rest =
        let later = rest [] ∙ ap (λ (claims : List Claim). map (λ (p : Positioned). given claims p.0) (enumerate_from (n + 1) more)) (zip-nil (places late)) in λ k. 0 ∷ later k
    by_width None (w ∷ ws) rest =
        let claims = zip (places late) ws in
        let first = sym (ap (λ (o : Option ℕ). unwrap_or (option_or None o) 0) (width_at-here (n, w) claims n refl)) in
        let later = rest ws ∙ map-places (given claims) (given ((n, w) ∷ claims)) (n + 1) more (λ i from. sym (ap (λ (o : Option ℕ). unwrap_or (option_or (f i) o) 0) (width_at-other (n, w) claims i (ne_eqb n i (λ same. omega arith))))) in
        λ k. first k ∷ later k

-- the undecided columns get these widths in list order
pub filled-widths_of : (needs : List ColumnNeeds) (claims : List Claim) (left : List Positioned) (parts : List ℕ) → without_claims claims (places_of needs) ≡ left
    → filled (widths_of needs claims) parts ≡ map (λ (p : Positioned). claim_at (claims ++ zip (map (λ (q : Positioned). q.0) left) parts) p.0) (places_of needs)
filled-widths_of needs claims left parts left_is =
    filled-places (width_at claims) 0 needs parts
    ∙ ap (λ (ps : List Positioned). map (λ (p : Positioned). unwrap_or (option_or (width_at claims p.0) (width_at (zip (map (λ (q : Positioned). q.0) ps) parts) p.0)) 0) (places_of needs)) (none-widths_of needs claims ∙ left_is)
    ∙ map-places (λ i. unwrap_or (option_or (width_at claims i) (width_at (zip (map (λ (q : Positioned). q.0) left) parts) i)) 0) (claim_at (claims ++ zip (map (λ (q : Positioned). q.0) left) parts)) 0 needs
    (λ i from. ap (λ (o : Option ℕ). unwrap_or o 0) (sym (width_at-append i claims (zip (map (λ (q : Positioned). q.0) left) parts))))

-- if no column is undecided, no width is taken
pub filled-decided : (widths : List (Option ℕ)) (parts : List ℕ) → undecided_count widths ≡ 0 → filled widths parts ≡ decided widths
filled-decided [] parts none = refl
filled-decided (Some w ∷ widths) parts none = ap (λ (ws : List ℕ). w ∷ ws) (filled-decided widths parts none)
filled-decided (None ∷ widths) parts none = absurd (omega arith)
