-- The column that takes a width next, going round the list.
use Rattle.std.proofs.Common.{◌≡◌, ◌<◌, ◌≤◌, ℕ, zero, suc, ◌+◌, Bool, true, false, cond, List, [], ◌∷◌, ◌++◌, Option, Some, None, option_map, filter, slice_get, nat_le, nat_lt, refl, ap, ap₂, ◌∙◌, arith, inl, inr}
use Rattle.std.specs.Prelude.{◌⊎◌}
use Rattle.std.specs.List.{cons_option, enumerate_from}
use Rattle.std.proofs.lemmas.Bool.{leb-true, leb-false, lt-ltb}
use Rattle.std.proofs.lemmas.List.Elements.{filter_map-append}
use Rattle.comfy_table.specs.Deciding.{is_undecided, undecided_among}
use Rattle.comfy_table.specs.Dynamic.{Positioned, Claim, going_round, places_of}
use Rattle.comfy_table.specs.Widths.{ColumnNeeds}
use Rattle.comfy_table.proofs.TakingLemmas.{claims_of}

-- the positions from one up to another, going round
abbrev pub IsBetween : ℕ → ℕ → ℕ → Type 0
IsBetween from p i = ((from ≤ i) × (i < p)) ⊎ ((p < from) × ((from ≤ i) ⊎ (i < p)))

-- the first element of two joined lists is that of the first list, if it has one
first_of_both : (ts us : List Claim) (t : Claim) → slice_get ts 0 ≡ Some t → slice_get (ts ++ us) 0 ≡ Some t
first_of_both [] us t is = absurd (cc is)
first_of_both (s ∷ ts) us t is = is

module _ (offer : Positioned → Option ℕ) (test left : ℕ → Bool) where
  -- the columns at positions that pass both tests
  abbrev passing : List Positioned → List Positioned
  passing columns = filter (λ (p : Positioned). test p.0) (filter (λ (p : Positioned). left p.0) columns)

  -- a column in front of them that is offered no width
  passing_over : (k : ℕ) (x : ColumnNeeds) (more : List Positioned) (claims : List Claim) → (test k ≡ true → left k ≡ true → offer (k, x) ≡ None) → claims_of offer (passing more) ≡ claims → claims_of offer (passing ((k, x) ∷ more)) ≡ claims
  passing_over k x more claims none rest = grind arith

  -- if no column is offered a width, there is no claim
  none_among : (k : ℕ) (columns : List ColumnNeeds) → ((j q : ℕ) (d : ColumnNeeds) → slice_get columns j ≡ Some d → k + j ≡ q → test q ≡ true → left q ≡ true → offer (q, d) ≡ None)
      → claims_of offer (passing (enumerate_from k columns)) ≡ []
  none_among k [] none = refl
  none_among k (x ∷ columns) none =
      passing_over k x (enumerate_from (k + 1) columns) [] (none 0 k x refl (omega arith))
      (none_among (k + 1) columns (λ j q d found at. none (suc j) q d found (omega (arith, at))))

  -- the first column that is offered a width has the first claim
  first_among : (k i p : ℕ) (c : ColumnNeeds) (width : ℕ) (columns : List ColumnNeeds) → slice_get columns i ≡ Some c → k + i ≡ p → test p ≡ true → left p ≡ true → offer (p, c) ≡ Some width
      → ((j q : ℕ) (d : ColumnNeeds) → slice_get columns j ≡ Some d → k + j ≡ q → q < p → test q ≡ true → left q ≡ true → offer (q, d) ≡ None)
      → slice_get (claims_of offer (passing (enumerate_from k columns))) 0 ≡ Some (p, width)
  first_among k i p c width [] found at tests is offered none = absurd (cc found)
  first_among k zero p c width (x ∷ columns) found at tests is offered none =
      let here : k ≡ p = omega (arith, at) in
      let same : x ≡ c = cc found in
      let more = enumerate_from (k + 1) columns in
      let kept = filter (λ (q : Positioned). left q.0) more in
      ap (λ (l : Bool). slice_get (claims_of offer (filter (λ (q : Positioned). test q.0) (cond l ((k, x) ∷ kept) kept))) 0) (ap left here ∙ is)
      ∙ ap (λ (t : Bool). slice_get (claims_of offer (cond t ((k, x) ∷ passing more) (passing more))) 0) (ap test here ∙ tests)
      ∙ ap (λ (o : Option ℕ). slice_get (cons_option (option_map (λ (w : ℕ). (k, w)) o) (claims_of offer (passing more))) 0) (ap₂ (λ (n : ℕ) (d : ColumnNeeds). offer (n, d)) here same ∙ offered)
      ∙ ap (λ (n : ℕ). Some (n, width)) here
  first_among k (suc i) p c width (x ∷ columns) found at tests is offered none =
      ap (λ (ts : List Claim). slice_get ts 0)
      (passing_over k x (enumerate_from (k + 1) columns) (claims_of offer (passing (enumerate_from (k + 1) columns))) (none 0 k x refl (omega arith) (omega (arith, at))) refl)
      ∙ first_among (k + 1) i p c width columns found (omega (arith, at)) tests is offered (λ j q d found at. none (suc j) q d found (omega (arith, at)))

module _ (needs : List ColumnNeeds) (widths : List (Option ℕ)) (offer : Positioned → Option ℕ) where
  -- the claims going round the undecided columns: from a position on, and then before it
  claims_round : (from : ℕ) → claims_of offer (going_round from (undecided_among needs widths))
      ≡ claims_of offer (passing offer (λ n. nat_le from n) (is_undecided widths) (places_of needs)) ++ claims_of offer (passing offer (λ n. nat_lt n from) (is_undecided widths) (places_of needs))
  claims_round from = filter_map-append (λ (p : Positioned). option_map (λ (width : ℕ). (p.0, width)) (offer p)) _ _

  -- if no column is offered a width, there is no next claim
  pub none_next : (from : ℕ) → ((i : ℕ) (d : ColumnNeeds) → slice_get needs i ≡ Some d → is_undecided widths i ≡ true → offer (i, d) ≡ None)
      → slice_get (claims_of offer (going_round from (undecided_among needs widths))) 0 ≡ None
  none_next from none = grind (arith, claims_round, none_among)

  -- the first column that is offered a width has the next claim
  pub some_next : (from p : ℕ) (c : ColumnNeeds) (width : ℕ) → slice_get needs p ≡ Some c → is_undecided widths p ≡ true → offer (p, c) ≡ Some width
      → ((i : ℕ) (d : ColumnNeeds) → slice_get needs i ≡ Some d → IsBetween from p i → is_undecided widths i ≡ true → offer (i, d) ≡ None)
      → slice_get (claims_of offer (going_round from (undecided_among needs widths))) 0 ≡ Some (p, width)
  some_next from p c width found left offered none = by_test (nat_le from p) refl
    where
      place_is : (j q : ℕ) (d : ColumnNeeds) → slice_get needs j ≡ Some d → 0 + j ≡ q → slice_get needs q ≡ Some d
      place_is j q d at same = let is : q ≡ j = omega (arith, same) in ap (slice_get needs) is ∙ at

      by_test : (b : Bool) → nat_le from p ≡ b → slice_get (claims_of offer (going_round from (undecided_among needs widths))) 0 ≡ Some (p, width)
      by_test true later =
          ap (λ (ts : List Claim). slice_get ts 0) (claims_round from)
          ∙ first_of_both _ _ (p, width)
          (first_among offer (λ n. nat_le from n) (is_undecided widths) 0 p p c width needs found (omega arith) later left offered
          (λ j q d at same before tests free. none q d (place_is j q d at same) (inl (leb-true from q tests, before)) free))
      by_test false earlier =
          let before : p < from = leb-false from p earlier in
          let first : claims_of offer (passing offer (λ n. nat_le from n) (is_undecided widths) (places_of needs)) ≡ [] =
          none_among offer (λ n. nat_le from n) (is_undecided widths) 0 needs (λ j q d at same tests free. none q d (place_is j q d at same) (inr (before, inl (leb-true from q tests))) free) in
          ap (λ (ts : List Claim). slice_get ts 0)
          (claims_round from ∙ ap (λ (ts : List Claim). ts ++ claims_of offer (passing offer (λ n. nat_lt n from) (is_undecided widths) (places_of needs))) first)
          ∙ first_among offer (λ n. nat_lt n from) (is_undecided widths) 0 p p c width needs found (omega arith) (lt-ltb p from before) left offered
          (λ j q d at same within tests free. none q d (place_is j q d at same) (inr (before, inr within)) free)
