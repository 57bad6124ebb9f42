-- Private: the laws of the lists and iterators that implement `Items`.
-- Source: this library's own.
use Rattle.std.specs.Prelude.{◌≡◌, ⊤, ℕ, zero, suc, List, [], ◌∷◌, Option, Some, None, length}
use Rattle.std.specs.Array.Iter.{array_into_iter_items, array_steps}
use Rattle.std.specs.Iterator.{AlwaysYields}
use Rattle.std.specs.Vec.Iter.{into_iter_items, into_iter_steps}
use Rattle.std.specs.declared.array.IntoIter.{IntoIter as ArrayIter}
use Rattle.std.specs.declared.vec.IntoIter.{IntoIter}
use Rattle.std.proofs.Common.{◌∙◌, ap, sym, subst}

abbrev IsZero : ℕ → Type 0
IsZero zero = ⊤
IsZero (suc n) = ⊥

abbrev first : {A : Type 0} → A → List A → A
first x [] = x
first _ (x ∷ xs) = x

abbrev others : {A : Type 0} → List A → List A
others [] = []
others (x ∷ xs) = xs

-- an iterator that has a list of the items to come returns the items of this list
pub gives_rest :
    {S A : Type 0} (steps : S → Option A → S → Type 0) (rest : S → List A)
    (none : (s t : S) → steps s None t → length (rest s) ≡ 0)
    (some : (s t : S) (x : A) → steps s (Some x) t → rest s ≡ x ∷ rest t) (xs : List A) (s : S)
    → rest s ≡ xs
    → AlwaysYields steps (λ x. x) s xs
gives_rest steps rest none some [] s e =
    λ x t st. subst IsZero (ap length (sym e ∙ some s t x st)) tt
gives_rest steps rest none some (y ∷ ys) s e = (
  λ t st. subst IsZero (sym (ap length (sym e) ∙ none s t st)) tt,
  λ x t st. (
    ap (first y) (sym (some s t x st) ∙ e),
    gives_rest steps rest none some ys t (ap others (sym (some s t x st) ∙ e)),
  ),
)

-- the iterator of a `Vec` returns the items that are left in it
pub vec_gives : {A Z : Type 0} (from : IntoIter A Z) (values : List A)
    → into_iter_items from ≡ values
    → AlwaysYields into_iter_steps (λ x. x) from values
vec_gives from values items =
    gives_rest into_iter_steps into_iter_items (λ s t st. sym s.rest.ok.0 ∙ st.0)
    (λ s t x st. st.0) values from items

-- the iterator of an array returns the items that are left in it
pub array_gives : {A : Type 0} {n : ℕ} (from : ArrayIter A n) (values : List A)
    → array_into_iter_items from ≡ values
    → AlwaysYields (array_steps {A = A} {n = n}) (λ x. x) from values
array_gives from values items =
    gives_rest array_steps array_into_iter_items (λ s t st. st.0) (λ s t x st. st) values from items
