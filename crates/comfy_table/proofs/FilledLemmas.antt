-- Filling widths, and adding room to them, from an index on.
use Rattle.std.proofs.Common.{◌≡◌, ◌<◌, ℕ, zero, suc, ◌+◌, List, [], ◌∷◌, ◌++◌, length, Option, Some, None, drop, refl, sym, ap, ◌∙◌, arith, slice_get, slice_index_or, unwrap_or}
use Rattle.std.specs.List.{All}
use Rattle.std.proofs.lemmas.List.{append_assoc, drop_more}
use Rattle.std.proofs.lemmas.List.FromFn.{get_or-map-range_with_len}
use Rattle.comfy_table.specs.Deciding.{decided, filled, undecided_count}
use Rattle.comfy_table.specs.Dynamic.{added}
use Rattle.comfy_table.specs.Widths.{even_spread, part_of}
use Rattle.comfy_parts.proofs.CallerLemmas.{All-at}
use Rattle.comfy_table.proofs.SpreadLemmas.{length-even_spread}

-- an even spread from an index on is the part there and then the rest
pub spread_from_part : (x k i : ℕ) → i < k → drop i (even_spread x k) ≡ part_of x k i ∷ drop (i + 1) (even_spread x k)
spread_from_part x k i below =
    drop_more (even_spread x k) i 0 (omega (arith, below, length-even_spread x k))
    ∙ ap (λ (p : ℕ). p ∷ drop (i + 1) (even_spread x k)) (get_or-map-range_with_len (part_of x k) 0 k i i 0 below (omega arith))

module _ (widths : List (Option ℕ)) (i : ℕ) (below : i < length widths) where
  -- widths from an index on, if the width there is decided
  from_some : (w : ℕ) → Some w ≡ slice_index_or widths i None → drop i widths ≡ Some w ∷ drop (i + 1) widths
  from_some w is = drop_more widths i None below ∙ ap (λ (o : Option ℕ). o ∷ drop (i + 1) widths) (sym is)

  -- widths from an index on, if the width there is undecided
  from_none : None ≡ slice_index_or widths i None → drop i widths ≡ None ∷ drop (i + 1) widths
  from_none is = drop_more widths i None below ∙ ap (λ (o : Option ℕ). o ∷ drop (i + 1) widths) (sym is)

  -- filling keeps a decided width
  pub filled_some : (w : ℕ) → Some w ≡ slice_index_or widths i None → (done parts whole : List ℕ) → done ++ filled (drop i widths) parts ≡ whole → (done ++ w ∷ []) ++ filled (drop (i + 1) widths) parts ≡ whole
  filled_some w is done parts whole so_far =
      append_assoc done (w ∷ []) (filled (drop (i + 1) widths) parts) ∙ sym (ap (λ (ws : List (Option ℕ)). done ++ filled ws parts) (from_some w is)) ∙ so_far

  -- filling replaces an undecided width by a part
  pub filled_none : None ≡ slice_index_or widths i None → (x k j : ℕ) → j < k → (done whole : List ℕ) → done ++ filled (drop i widths) (drop j (even_spread x k)) ≡ whole
      → (done ++ part_of x k j ∷ []) ++ filled (drop (i + 1) widths) (drop (j + 1) (even_spread x k)) ≡ whole
  filled_none is x k j among done whole so_far = grind (arith, append_assoc, spread_from_part, from_none)

  -- a decided width doesn't count as undecided
  pub count_some : (w : ℕ) → Some w ≡ slice_index_or widths i None → undecided_count (drop i widths) ≡ undecided_count (drop (i + 1) widths)
  count_some w is = ap undecided_count (from_some w is)

  -- an undecided width counts
  pub count_none : None ≡ slice_index_or widths i None → undecided_count (drop i widths) ≡ 1 + undecided_count (drop (i + 1) widths)
  count_none is = ap undecided_count (from_none is) ∙ omega arith

-- the decided width at an index, or 0
decided_at : (widths : List (Option ℕ)) (i : ℕ) → i < length widths → slice_get (decided widths) i ≡ Some (unwrap_or (slice_index_or widths i None) 0)
decided_at [] i below = absurd (omega arith)
decided_at (w ∷ widths) zero below = refl
decided_at (w ∷ widths) (suc i) below = decided_at widths i (omega arith)

-- a property of every decided width holds of the one at an index
pub decided_where : (P : ℕ → Type 0) (widths : List (Option ℕ)) (i : ℕ) → All P (decided widths) → i < length widths → P (unwrap_or (slice_index_or widths i None) 0)
decided_where P widths i each below = All-at P (decided widths) i (unwrap_or (slice_index_or widths i None) 0) each (decided_at widths i below)

-- spreading adds to each width its part
pub widened_more : (widths : List (Option ℕ)) (i x k : ℕ) → i < length widths → i < k → (done whole : List ℕ) → done ++ added (decided (drop i widths)) (drop i (even_spread x k)) ≡ whole
    → (done ++ (unwrap_or (slice_index_or widths i None) 0 + part_of x k i) ∷ []) ++ added (decided (drop (i + 1) widths)) (drop (i + 1) (even_spread x k)) ≡ whole
widened_more widths i x k below among done whole so_far = grind (arith, append_assoc, drop_more, spread_from_part)
