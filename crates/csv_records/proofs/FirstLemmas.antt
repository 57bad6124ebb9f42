-- The first elements of a list that grows.
use Rattle.std.proofs.Common.{◌≡◌, ◌<◌, ◌≤◌, ℕ, zero, suc, List, [], ◌∷◌, ◌++◌, ap, length, take, refl, sym, ◌∙◌, arith}
use Rattle.std.proofs.lemmas.List.{length-append, take-append-le}

-- the first n elements of a shorter list are the whole list
pub all_of_few : {A : Type 0} (n : ℕ) (xs : List A) → length xs ≤ n → take n xs ≡ xs
all_of_few zero [] few = refl
all_of_few zero (x ∷ xs) few = absurd (omega (arith, few))
all_of_few (suc n) [] few = refl
all_of_few (suc n) (x ∷ xs) few = ap (λ (rest : List _). x ∷ rest) (all_of_few n xs (omega (arith, few)))

module _ {A : Type 0} (most : ℕ) (all : List A) (more : A) where
  -- one more element is among the first
  pub one_kept : (first now : List A) → length all < most → first ≡ take most all → now ≡ first ++ more ∷ [] → now ≡ take most (all ++ more ∷ [])
  one_kept first now few is added =
      let grown : length (all ++ more ∷ []) ≤ most = omega (arith, length-append all (more ∷ []), few) in
      added ∙ ap (λ (xs : List A). xs ++ more ∷ []) (is ∙ all_of_few most all (omega (arith, few))) ∙ sym (all_of_few most (all ++ more ∷ []) grown)

  -- one more element isn't among the first ones, if there are enough elements before it
  pub none_kept : (first now : List A) → most ≤ length all → first ≡ take most all → now ≡ first → now ≡ take most (all ++ more ∷ [])
  none_kept first now many is same = same ∙ is ∙ sym (take-append-le most all (more ∷ []) many)
