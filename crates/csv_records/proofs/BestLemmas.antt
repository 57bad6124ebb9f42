-- The delimiter with which most records agree.
use Rattle.std.proofs.Common.{◌≡◌, ◌<◌, ◌≤◌, ◌==◌, ◌&&◌, ℕ, zero, suc, Bool, true, false, List, [], ◌∷◌, ◌++◌, Option, Some, None, ◌+◌, add-one, ap, drop, drop-cons, get_or, length, map, max, nat_lt, refl, arith, ◌∙◌, sym}
use Rattle.std.proofs.lemmas.Bool.Decides.{nat_tests}
use Rattle.std.proofs.lemmas.List.Folds.{find-append}
use Rattle.std.proofs.lemmas.List.Recursion.{max_push}
use Rattle.std.specs.List.{filter, find}
use Rattle.std.specs.Option.{is_some, option_or, unwrap_or}
use Rattle.std.specs.Prelude.{if◌then◌else◌}
use Rattle.comfy_parts.specs.Text.{greatest}
use Rattle.csv_records.specs.Delimiter.{best_delimiter}

-- the greatest value of h at the numbers above 1
abbrev pub greatest_above : (ℕ → ℕ) → List ℕ → ℕ
greatest_above h ns = greatest (map h (filter (λ (n : ℕ). nat_lt 1 n) ns))

module _ (h : ℕ → ℕ) (ns : List ℕ) (i most all : ℕ) (inside : i < length ns) (had : max most (greatest_above h (drop i ns)) ≡ all) where
  -- the next number is above 1, and its value counts
  pub one_above : (now : ℕ) → 1 < get_or ns i 0 → now ≡ max most (h (get_or ns i 0)) → max now (greatest_above h (drop (i + 1) ns)) ≡ all
  one_above now above is =
      let test : nat_lt 1 (get_or ns i 0) ≡ true = grind (arith, above, nat_tests) in
      let left : greatest_above h (drop i ns) ≡ max (h (get_or ns i 0)) (greatest_above h (drop (i + 1) ns)) = rw (drop-cons ns i 0 inside, test, add-one i) refl in
      omega (arith, left)

  -- the next number isn't above 1
  pub none_above_one : (now : ℕ) → get_or ns i 0 ≤ 1 → now ≡ most → max now (greatest_above h (drop (i + 1) ns)) ≡ all
  none_above_one now below is =
      let test : nat_lt 1 (get_or ns i 0) ≡ false = grind (arith, below, nat_tests) in
      let left : greatest_above h (drop i ns) ≡ greatest_above h (drop (i + 1) ns) = rw (drop-cons ns i 0 inside, test, add-one i) refl in
      omega (arith, left)

module _ (agree : ℕ → ℕ) where
  abbrev most_of : List ℕ → ℕ
  most_of ds = greatest (map agree ds)

  abbrev is_best : ℕ → ℕ → Bool
  is_best most d = nat_lt 0 (agree d) && (agree d == most)

  pub one_more : (ds : List ℕ) (d : ℕ) → most_of (ds ++ d ∷ []) ≡ max (most_of ds) (agree d)
  one_more ds d = max_push most_of agree refl (λ x xs. refl) ds d

  other : (m n : ℕ) → n < m → (nat_lt 0 n && (n == m)) ≡ false
  other m n less = grind (arith, less, nat_tests)

  no_zero : (n : ℕ) → (nat_lt 0 n && (n == 0)) ≡ false
  no_zero n = grind (arith, nat_tests)

  itself : (n : ℕ) → 0 < n → (nat_lt 0 n && (n == n)) ≡ true
  itself n some = grind (arith, some, nat_tests)

  -- no delimiter is the best if all agree less
  none_above : (m : ℕ) (ds : List ℕ) → most_of ds < m → find (is_best m) ds ≡ None
  none_above m [] less = refl
  none_above m (d ∷ ds) less = rw (other m (agree d) (omega arith)) (none_above m ds (omega arith))

  none_of_none : (ds : List ℕ) → find (is_best 0) ds ≡ None
  none_of_none [] = refl
  none_of_none (d ∷ ds) = rw (no_zero (agree d)) (none_of_none ds)

  -- there is a best delimiter if the greatest agreement is above 0
  some_best : (m : ℕ) (ds : List ℕ) → most_of ds ≡ m → 0 < m → is_some (find (is_best m) ds) ≡ true
  some_best m [] is some = absurd (omega arith)
  some_best m (d ∷ ds) is some = by_first (is_best m d) refl (λ others. some_best m ds others some)
    where
      others_most : (n o : ℕ) → max n o ≡ m → (nat_lt 0 n && (n == m)) ≡ false → o ≡ m
      others_most n o all first = grind (arith, all, some, first, nat_tests)

      by_first : (v : Bool) → is_best m d ≡ v → (most_of ds ≡ m → is_some (find (is_best m) ds) ≡ true) → is_some (if v then Some d else find (is_best m) ds) ≡ true
      by_first true first after = refl
      by_first false first after = after (others_most (agree d) (most_of ds) is first)

  -- one more delimiter is the best if it agrees more than all before it
  pub better : (ds : List ℕ) (d : ℕ) → most_of ds < agree d → best_delimiter agree (ds ++ d ∷ []) ≡ d
  better ds d more =
      let most : most_of (ds ++ d ∷ []) ≡ agree d = omega (arith, one_more ds d) in
      ap (λ (m : ℕ). unwrap_or (find (is_best m) (ds ++ d ∷ [])) 0x2C) most
      ∙ ap (λ (o : Option ℕ). unwrap_or o 0x2C) (find-append (is_best (agree d)) ds (d ∷ []))
      ∙ ap (λ (o : Option ℕ). unwrap_or (option_or o (find (is_best (agree d)) (d ∷ []))) 0x2C) (none_above (agree d) ds more)
      ∙ ap (λ (v : Bool). unwrap_or (if v then Some d else None) 0x2C) (itself (agree d) (omega arith))

  -- one more delimiter that agrees no more changes nothing
  pub no_better : (ds : List ℕ) (d : ℕ) → agree d ≤ most_of ds → best_delimiter agree (ds ++ d ∷ []) ≡ best_delimiter agree ds
  no_better ds d less =
      let most : most_of (ds ++ d ∷ []) ≡ most_of ds = omega (arith, one_more ds d) in
      ap (λ (m : ℕ). unwrap_or (find (is_best m) (ds ++ d ∷ [])) 0x2C) most
      ∙ ap (λ (o : Option ℕ). unwrap_or o 0x2C) (find-append (is_best (most_of ds)) ds (d ∷ []))
      ∙ by_found (find (is_best (most_of ds)) ds) refl
    where
      by_most : (m : ℕ) → most_of ds ≡ m → find (is_best m) ds ≡ None → find (is_best m) (d ∷ []) ≡ None
      by_most zero is none = none_of_none (d ∷ [])
      by_most (suc m) is none = absurd (cc (some_best (suc m) ds is (omega arith), ap is_some none))

      by_found : (o : Option ℕ) → find (is_best (most_of ds)) ds ≡ o → unwrap_or (option_or o (find (is_best (most_of ds)) (d ∷ []))) 0x2C ≡ unwrap_or o 0x2C
      by_found (Some x) is = refl
      by_found None is = ap (λ (o : Option ℕ). unwrap_or o 0x2C) (by_most (most_of ds) refl is)

  -- the state of the search after one more delimiter
  module _ (ds : List ℕ) (d n most : ℕ) (xs : List ℕ) (added : xs ≡ ds ++ d ∷ []) (is : n ≡ agree d) (had : most ≡ most_of ds) where
    pub after_better : most < n → (n ≡ most_of xs) × (d ≡ best_delimiter agree xs)
    after_better more = (
      (let grown = one_more ds d in rw added (omega arith)),
      rw added (sym (better ds d (omega arith))),
    )

    pub after_worse : (found : ℕ) → found ≡ best_delimiter agree ds → n ≤ most → (most ≡ most_of xs) × (found ≡ best_delimiter agree xs)
    after_worse found best less = (
      (let grown = one_more ds d in rw added (omega arith)),
      rw added (best ∙ sym (no_better ds d (omega arith))),
    )
