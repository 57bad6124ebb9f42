-- Items that were taken from an iterator.
use Rattle.std.specs.Prelude.{◌≡◌, ◌<◌, ◌++◌, ◌∷◌, [], ℕ, List, Option, Some, length, take}
use Rattle.std.specs.Iterator.{AlwaysYields, Count, Drains, Yields}
use Rattle.std.specs.Vec.Iter.{into_iter_items, into_iter_steps}
use Rattle.std.specs.declared.vec.IntoIter.{IntoIter}
use Rattle.std.proofs.Common.{◌∙◌, ap, sym, refl, arith}
use Rattle.std.proofs.Math.Seq.{take-append_seam}
use Rattle.std.proofs.iter.Yields.{gives_Drains, gives_left}
use Rattle.std.proofs.lemmas.List.{length-append, map-id}
use Rattle.comfy_parts.specs.Items.{GivesAll}
use Rattle.comfy_parts.specs.ItemsGiven.{vec_gives}

module _ {S A : Type 0} (steps : S → Option A → S → Type 0) where
  -- if an item came, the items that were left before it aren't empty
  beginning : (at after : S) (items taken more : List A) (x : A) → items ≡ taken ++ more → AlwaysYields steps (λ y. y) at more → steps at (Some x) after → (n : ℕ) × (n < length items) × (taken ≡ take n items)
  beginning at after items taken [] x e always step = absurd (always x after step)
  beginning at after items taken (y ∷ more) x e always step =
      let counted = ap length e ∙ length-append taken (y ∷ more) in
      (length taken, omega (arith, counted), sym (ap (take (length taken)) e ∙ take-append_seam taken (y ∷ more)))

module _ {S A : Type 0} {can_next : S → Type 0} {steps : S → Option A → S → Type 0} {remaining : S → Count} where
  -- if the iterator ended, all items were taken
  pub all_given : (from : S) (items taken : List A) → GivesAll can_next steps remaining from items → Drains steps from taken → taken ≡ items
  all_given from items taken gives drains = sym (map-id taken) ∙ gives_Drains steps (λ x. x) taken items from gives.in_order drains

  -- if one more item came, not all items were taken
  pub not_all_given : (from at after : S) (items taken : List A) (x : A) → GivesAll can_next steps remaining from items → Yields steps from taken at → steps at (Some x) after → (n : ℕ) × (n < length items) × (taken ≡ take n items)
  not_all_given from at after items taken x gives yields step =
      let left = gives_left steps (λ y. y) taken items from at gives.in_order yields in
      beginning steps at after items taken left.0 x (left.1 ∙ ap (λ xs. xs ++ left.0) (map-id taken)) left.2 step

-- the items taken from the iterator of a `Vec` come before the items that are left
pub taken_from_vec : {A Z : Type 0} (xs : List A) (s t : IntoIter A Z) → Yields into_iter_steps s xs t → into_iter_items s ≡ xs ++ into_iter_items t
taken_from_vec [] s t is = ap into_iter_items is
taken_from_vec (x ∷ xs) s t (j, step, more) = step.0 ∙ ap (λ items. x ∷ items) (taken_from_vec xs j t more)

-- if the iterator of a `Vec` ended, all its items were taken
pub drained_from_vec : {A Z : Type 0} (xs : List A) (s : IntoIter A Z) → Drains into_iter_steps s xs → xs ≡ into_iter_items s
drained_from_vec xs s drains =
    sym (map-id xs) ∙ gives_Drains into_iter_steps (λ x. x) xs (into_iter_items s) s (vec_gives s (into_iter_items s) refl) drains
