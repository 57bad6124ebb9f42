-- The steps that decide the widths lead to a dynamic arrangement, and their room and widths have at most sixteen bits.
use Rattle.std.proofs.Common.{◌≡◌, ◌<◌, ◌≤◌, ℕ, ◌+◌, ◌-◌, Bool, List, [], ◌++◌, length, map, max, Option, sum_by, unwrap_or, sym, ap, ◌∙◌, subst, arith}
use Rattle.std.specs.List.{All}
use Rattle.std.proofs.lemmas.Bool.{eqb-true}
use Rattle.std.proofs.lemmas.List.{append_assoc, length-map}
use Rattle.std.proofs.lemmas.List.Elements.{All-map}
use Rattle.std.proofs.lemmas.List.FromFn.{length-enumerate_from}
use Rattle.std.proofs.lemmas.List.Sums.{sum_by-append}
use Rattle.comfy_table.specs.Deciding.{HasRoomToSpread, HasSettled, HasTaken, HasGoneRound, decided, filled, final_widths, offer_by_rule, shared_evenly, undecided_count, with_room_spread}
use Rattle.comfy_table.specs.Dynamic.{IsDynamicLayout, IsLevel, IsTakenInOrder, Positioned, Claim, Steps, added, all_claims, content_room, contents_after, even_columns, even_shares, fixed_claims, others, places_of, room_left, room_of_others, room_of_unsettled, settled_at, settled_claims, claim_at, total, undecided, unsettled, widened}
use Rattle.comfy_table.specs.Widths.{ColumnNeeds, even_spread}
use Rattle.comfy_table.specs.declared.utils.arrangement.dynamic.budget.Budget.{Budget}
use Rattle.comfy_table.specs.declared.utils.arrangement.dynamic.round_robin.Rule.TheVariants.{Lower, Shrunk}
use Rattle.comfy_parts.proofs.CallerLemmas.{All-every}
use Rattle.comfy_table.proofs.FilledWidthLemmas.{filled-decided, filled-widths_of, fixed-widths_of, undecided-fixed}
use Rattle.comfy_table.proofs.PlacedWidthLemmas.{width_at, widths_of}
use Rattle.comfy_table.proofs.StepLemmas.{one_each-places, total-fixed}
use Rattle.comfy_table.proofs.TakenClaimLemmas.{taken_among}
use Rattle.comfy_table.proofs.TakingLemmas.{count_at-claims_of}
use Rattle.comfy_table.proofs.GivenLemmas.{IsGiven, undecided_left, undecided_count_left, one_left, given_more, taken_by_rule, claim_at-le_total}

module _ (room : ℕ) (needs : List ColumnNeeds) (start lower settled shrunk : Budget) (widths_are : start.widths.items ≡ map (λ (c : ColumnNeeds). c.fixed) needs) (room_is : start.room ≡ content_room room needs)
    (by_lower : HasGoneRound Lower needs start lower) (by_level : HasSettled needs lower settled) (by_lines : HasGoneRound Shrunk needs settled shrunk) where
  -- the steps of the arrangement
  abbrev steps : Steps
  steps = record { lower = by_lower.0; level = by_level.0; shrunk = by_lines.0 }

  -- the fixed claims
  abbrev fixed_ones : List Claim
  fixed_ones = fixed_claims (places_of needs)

  -- the claims that the level settles
  abbrev settled_ones : List Claim
  settled_ones = settled_claims steps.level (others room needs steps.lower)

  -- all claims except the even shares
  abbrev decided_ones : List Claim
  decided_ones = ((fixed_ones ++ steps.lower) ++ settled_ones) ++ steps.shrunk

  -- ---- the fixed widths

  -- at first the fixed widths are given
  given_at_first : IsGiven needs fixed_ones (undecided room needs) start
  given_at_first = record {
    widths = widths_are ∙ fixed-widths_of needs;
    one = λ i. omega (arith, count_at-claims_of (λ (p : Positioned). p.1.fixed) i (places_of needs), one_each-places 0 needs i);
    left_is = undecided-fixed room needs;
  }

  -- ---- the lower boundaries

  -- lower boundaries are taken as an arrangement requires
  lower_taken : IsTakenInOrder (undecided room needs) (offer_by_rule Lower (content_room room needs) (undecided room needs)) steps.lower
  lower_taken = taken_by_rule Lower (content_room room needs) needs fixed_ones (undecided room needs) start lower given_at_first room_is by_lower

  -- after this step the claims of lower boundaries are given too
  given_by_lower : IsGiven needs (fixed_ones ++ steps.lower) (others room needs steps.lower) lower
  given_by_lower =
      given_more needs fixed_ones steps.lower (undecided room needs) start lower given_at_first
      (taken_among (undecided room needs) (one_left needs fixed_ones (undecided room needs) start given_at_first) (offer_by_rule Lower (content_room room needs) (undecided room needs)) 0 [] steps.lower (λ i. omega arith) lower_taken) by_lower.2

  -- the room that is left after lower boundaries
  room_by_lower : lower.room ≡ room_of_others room needs steps.lower
  room_by_lower = by_lower.2.room ∙ ap (λ (r : ℕ). r - total steps.lower) room_is

  -- ---- the level

  -- the level is as an arrangement requires
  level_found : IsLevel (room_of_others room needs steps.lower) (others room needs steps.lower) steps.level
  level_found = grind (arith, undecided_left, given_by_lower)

  -- the claims that the level settles are taken
  settled_taken : HasTaken settled_ones lower settled
  settled_taken =
      subst (λ (ps : List Positioned). HasTaken (settled_claims steps.level ps) lower settled) (undecided_left needs (fixed_ones ++ steps.lower) (others room needs steps.lower) lower given_by_lower) by_level.2

  -- after this step the claims of the level are given too
  given_by_level : IsGiven needs ((fixed_ones ++ steps.lower) ++ settled_ones) (unsettled room needs steps) settled
  given_by_level =
      given_more needs (fixed_ones ++ steps.lower) settled_ones (others room needs steps.lower) lower settled given_by_lower (λ i. count_at-claims_of (λ (p : Positioned). settled_at steps.level p.1) i (others room needs steps.lower)) settled_taken

  -- the room that is left after the level
  room_by_level : settled.room ≡ room_of_unsettled room needs steps
  room_by_level = settled_taken.room ∙ ap (λ (r : ℕ). r - total settled_ones) room_by_lower

  -- ---- the longest lines

  -- columns shrink as an arrangement requires
  shrunk_taken : IsTakenInOrder (unsettled room needs steps) (offer_by_rule Shrunk (room_of_unsettled room needs steps) (unsettled room needs steps)) steps.shrunk
  shrunk_taken = taken_by_rule Shrunk (room_of_unsettled room needs steps) needs ((fixed_ones ++ steps.lower) ++ settled_ones) (unsettled room needs steps) settled shrunk given_by_level room_by_level by_lines

  -- after this step the claims of columns that shrank are given too
  given_by_lines : IsGiven needs decided_ones (even_columns room needs steps) shrunk
  given_by_lines =
      given_more needs ((fixed_ones ++ steps.lower) ++ settled_ones) steps.shrunk (unsettled room needs steps) settled shrunk given_by_level
      (taken_among (unsettled room needs steps) (one_left needs ((fixed_ones ++ steps.lower) ++ settled_ones) (unsettled room needs steps) settled given_by_level)
      (offer_by_rule Shrunk (room_of_unsettled room needs steps) (unsettled room needs steps)) 0 [] steps.shrunk (λ i. omega arith) shrunk_taken) by_lines.2

  -- the room that is left after shrinking
  room_by_lines : shrunk.room ≡ room_left room needs steps
  room_by_lines = by_lines.2.room ∙ ap (λ (r : ℕ). r - total steps.shrunk) room_by_level

  -- ---- the final widths

  -- the undecided columns are as many as the columns that share evenly
  count_left : undecided_count shrunk.widths.items ≡ length (even_columns room needs steps)
  count_left = undecided_count_left needs decided_ones (even_columns room needs steps) shrunk given_by_lines

  -- the claims of all columns, joined in another order
  regrouped : decided_ones ++ even_shares room needs steps ≡ all_claims room needs steps
  regrouped = grind (arith, append_assoc)

  -- sharing the room evenly gives the contents after all claims
  shared_is : shared_evenly shrunk ≡ contents_after room needs steps
  shared_is =
      let spread : even_spread (max shrunk.room (undecided_count shrunk.widths.items)) (undecided_count shrunk.widths.items)
      ≡ even_spread (max (room_left room needs steps) (length (even_columns room needs steps))) (length (even_columns room needs steps)) = λ k. even_spread (max (room_by_lines k) (count_left k)) (count_left k) in
      (λ k. filled (given_by_lines.widths k) (spread k))
      ∙ filled-widths_of needs decided_ones (even_columns room needs steps)
      (even_spread (max (room_left room needs steps) (length (even_columns room needs steps))) (length (even_columns room needs steps))) given_by_lines.left_is
      ∙ ap (λ (claims : List Claim). map (λ (p : Positioned). claim_at claims p.0) (places_of needs)) regrouped

  -- there is one width for each column
  length_widths : length shrunk.widths.items ≡ length needs
  length_widths = ap length given_by_lines.widths ∙ length-map (places_of needs) (λ (p : Positioned). width_at decided_ones p.0) ∙ length-enumerate_from 0 needs

  -- spreading the room over all widths gives the wider contents, if no column is undecided
  widened_is : undecided_count shrunk.widths.items ≡ 0 → with_room_spread shrunk ≡ added (contents_after room needs steps) (even_spread (room_left room needs steps) (length needs))
  widened_is none = grind (arith, filled-decided, shared_is, room_by_lines, length_widths)

  -- the final widths are those of the steps
  final_is : (full : Bool) → final_widths full shrunk ≡ widened room needs full steps
  final_is full = grind (arith, count_left, widened_is, eqb-true, shared_is)

  -- the steps lead to a dynamic arrangement
  pub decided_is_dynamic : (full : Bool) → IsDynamicLayout room needs full (final_widths full shrunk)
  decided_is_dynamic full = (steps, record { lower_taken = lower_taken; level_found = level_found; shrunk_taken = shrunk_taken; widths_are = final_is full })

  -- ---- sizes

  -- if room is left, claims, paddings and this room add up to the whole room
  pub room_adds_up : 0 < shrunk.room → total decided_ones + sum_by (λ (column : ColumnNeeds). column.padding) needs + shrunk.room ≡ room
  room_adds_up some = grind (arith, sum_by-append, room_by_lines, total-fixed)

  -- then each width and the room that is left are together at most the whole room
  pub widths_within : All (λ (w : ℕ). 0 < shrunk.room → w + shrunk.room ≤ room) (decided shrunk.widths.items)
  widths_within =
      let IsWithin : ℕ → Type 0 = λ w. 0 < shrunk.room → w + shrunk.room ≤ room in
      subst (λ (ws : List (Option ℕ)). All IsWithin (decided ws)) (sym given_by_lines.widths)
      (All-map IsWithin (λ (w : Option ℕ). unwrap_or w 0) (widths_of needs decided_ones)
      (All-map (λ (w : Option ℕ). IsWithin (unwrap_or w 0)) (λ (p : Positioned). width_at decided_ones p.0) (places_of needs)
      (All-every (λ (p : Positioned). IsWithin (claim_at decided_ones p.0)) (places_of needs) (λ p some. omega (arith, some, room_adds_up some, claim_at-le_total p.0 decided_ones)))))

  -- in a room of sixteen bits, these sums have at most sixteen bits
  pub has_room_to_spread : room ≤ 65535 → HasRoomToSpread shrunk
  has_room_to_spread small = grind (arith, widths_within)
