-- The loop in which columns take a width in turn: its invariant, and its result.
use Rattle.std.proofs.Common.{◌≡◌, ◌<◌, ◌≤◌, ℕ, zero, suc, ◌+◌, ◌-◌, ◌*◌, ◌/◌, true, List, [], ◌∷◌, ◌++◌, length, Option, Some, None, slice_get, not, ◌&&◌, ◌==◌, refl, sym, ap, ap₂, ◌∙◌, subst, arith, inl, inr, ⊎_elim}
use Rattle.std.specs.Prelude.{◌⊎◌, slice_set}
use Rattle.std.proofs.lemmas.Bool.{cases_lt, eq-eqb, and_parts}
use Rattle.std.proofs.lemmas.Option.{slice_get_within}
use Rattle.std.proofs.lemmas.List.Sums.{sum_by_push}
use Rattle.comfy_table.specs.Deciding.{HasTaken, HasGoneRound, average_room, is_undecided, offer_by_rule, position_after, undecided_among, undecided_count, width_at, width_by_rule, with_claims}
use Rattle.comfy_table.specs.Dynamic.{Positioned, Claim, going_round, next_taken, total, without_claims}
use Rattle.comfy_table.specs.Widths.{ColumnNeeds}
use Rattle.comfy_table.specs.declared.utils.arrangement.dynamic.budget.Budget.{Budget}
use Rattle.comfy_table.specs.declared.utils.arrangement.dynamic.round_robin.Rule.{Rule}
use Rattle.comfy_table.proofs.TakenLemmas.{IsTakenSoFar, place_after, so_far-ends, so_far-push}
use Rattle.comfy_table.proofs.TakingLemmas.{claims_of}
use Rattle.comfy_table.proofs.TurnLemmas.{IsBetween, none_next, some_next}
use Rattle.comfy_table.proofs.UndecidedLemmas.{is_undecided-set, length-undecided_among, length-with_claims, undecided_among-with_claims}

-- position i is one of the last `passed` positions before `place`, going round n positions
abbrev pub IsBeyond : ℕ → ℕ → ℕ → ℕ → Type 0
IsBeyond n place passed i = (i < n) × (((i < place) × (place ≤ i + passed)) ⊎ ((place ≤ i) × (n + place ≤ i + passed)))

-- after one step, a passed position is the one of this step, or was passed before
after_one_more : (n place passed i : ℕ) → place < n → IsBeyond n (position_after n place) (passed + 1) i → (place ≡ i) ⊎ IsBeyond n place passed i
after_one_more n place passed i within = grind arith

-- at first no position is passed
none_after : (n i : ℕ) → IsBeyond n 0 0 i → ⊥
none_after n i after = grind arith

-- the passed positions and the current one are passed at the next position
after_next : (n place passed i : ℕ) → place < n → passed < n → IsBeyond n place passed i ⊎ (place ≡ i) → IsBeyond n (position_after n place) (passed + 1) i
after_next n place passed i within fewer after = grind arith

-- after n steps without a claim, all positions are passed
all_after : (n place passed i : ℕ) → place < n → n ≤ passed → i < n → IsBeyond n place passed i
all_after n place passed i within all below = grind (arith, cases_lt)

-- the positions between a passed position and the current one are passed
between_after : (n place passed from i : ℕ) → place < n → i < n → IsBeyond n place passed from ⊎ (place ≡ from) → IsBetween from place i → IsBeyond n place passed i
between_after n place passed from i within below since between = grind arith

-- the position of the last claim is the one from which the next claim is looked for
place_after-push : (candidates : List Positioned) (offer : List Claim → Positioned → Option ℕ) (from : ℕ) (order : List Claim) (t : Claim) → place_after candidates offer from (order ++ t ∷ []) ≡ t.0
place_after-push candidates offer from [] t = refl
place_after-push candidates offer from (s ∷ order) t = place_after-push candidates offer s.0 order t

-- one more claim
with_claims-push : (order : List Claim) (t : Claim) (widths : List (Option ℕ)) → with_claims (order ++ t ∷ []) widths ≡ slice_set (with_claims order widths) t.0 (Some t.1)
with_claims-push [] t widths = refl
with_claims-push (s ∷ order) t widths = with_claims-push order t (slice_set widths s.0 (Some s.1))

-- setting a width leaves one undecided column fewer
pub count-set : (widths : List (Option ℕ)) (i width : ℕ) → is_undecided widths i ≡ true → undecided_count (slice_set widths i (Some width)) + 1 ≡ undecided_count widths
count-set [] i width left = absurd (cc left)
count-set (None ∷ widths) zero width left = omega arith
count-set (Some w ∷ widths) zero width left = absurd (cc left)
count-set (None ∷ widths) (suc i) width left = omega (arith, count-set widths i width left)
count-set (Some w ∷ widths) (suc i) width left = count-set widths i width left

-- one undecided column fewer outweighs the passed positions
pub fewer_undecided : (count count' n passed passed' : ℕ) → count' + 1 ≡ count → passed < n → count' * (n + 1) + (n - passed') < count * (n + 1) + (n - passed)
fewer_undecided count count' n passed passed' fewer below = grind arith

-- a column that takes a width is undecided, and the rule gives it this width
pub record Takes (rule : Rule) (average : ℕ) (needs : List ColumnNeeds) (widths : List (Option ℕ)) (place width : ℕ) : Type 0 where
  pub column : ColumnNeeds
  pub found : slice_get needs place ≡ Some column
  pub left : is_undecided widths place ≡ true
  pub takes : width_by_rule rule average column ≡ Some width

module _ (rule : Rule) (average : ℕ) (needs : List ColumnNeeds) (widths : List (Option ℕ)) (place : ℕ) where
  -- the column at a position that takes a width
  pub width_at-some : (width : ℕ) → width_at rule average needs widths place ≡ Some width → Takes rule average needs widths place width
  width_at-some width is = grind arith

  -- after it there is one undecided column fewer
  pub count-taken : (width : ℕ) → width_at rule average needs widths place ≡ Some width → undecided_count (slice_set widths place (Some width)) + 1 ≡ undecided_count widths
  count-taken width is = count-set widths place width (width_at-some width is).left

  -- an undecided column at a position without a width takes none by the rule
  pub width_at-none : width_at rule average needs widths place ≡ None → (d : ColumnNeeds) → slice_get needs place ≡ Some d → is_undecided widths place ≡ true → width_by_rule rule average d ≡ None
  width_at-none is d found left = grind arith

module _ (rule : Rule) (needs : List ColumnNeeds) (old : Budget) where
  -- the columns that may take a width
  abbrev candidates : List Positioned
  candidates = undecided_among needs old.widths.items

  -- the widths that the columns are offered
  abbrev offer : List Claim → Positioned → Option ℕ
  offer = offer_by_rule rule old.room candidates

  -- the invariant of the loop: the claims so far, and the columns at the last passed positions take nothing
  pub record IsTurn (now : Budget) (place passed average : ℕ) : Type 0 where
    pub order : List Claim
    pub so_far : IsTakenSoFar candidates offer 0 [] order
    pub taken : HasTaken order old now
    pub within : 0 < length needs → place < length needs
    pub average_is : average ≡ average_room now
    pub nothing : (i : ℕ) (d : ColumnNeeds) → slice_get needs i ≡ Some d → IsBeyond (length needs) place passed i → is_undecided now.widths.items i ≡ true → width_by_rule rule average d ≡ None
    pub since : IsBeyond (length needs) place passed (place_after candidates offer 0 order) ⊎ (place ≡ place_after candidates offer 0 order)

  -- at first no claim is taken, and no position is passed
  pub turn_begins : (average : ℕ) → average ≡ average_room old → IsTurn old 0 0 average
  turn_begins average is = record {
    order = [];
    so_far = tt;
    taken = record { widths = refl; room = omega arith };
    within = λ some. some;
    average_is = is;
    nothing = λ i d found after left. absurd (none_after (length needs) i after);
    since = inr refl;
  }

  module _ (same_length : length old.widths.items ≡ length needs) (now : Budget) (place passed average : ℕ) (turn : IsTurn now place passed average) where
    -- the columns that are left
    left_is : without_claims turn.order candidates ≡ undecided_among needs now.widths.items
    left_is = grind (arith, undecided_among-with_claims)

    -- there are as many widths as columns
    length_now : length now.widths.items ≡ length needs
    length_now = ap length turn.taken.widths ∙ length-with_claims turn.order old.widths.items ∙ same_length

    -- the average room of the columns that are left
    average_now : (old.room - total turn.order) / length (without_claims turn.order candidates) ≡ average
    average_now =
        ap₂ (λ (room n : ℕ). room / n) (sym turn.taken.room) (ap length left_is ∙ length-undecided_among needs now.widths.items length_now) ∙ sym turn.average_is

    -- the next claim is looked for among the undecided columns, at the average
    next_is : (from : ℕ) → next_taken candidates offer from turn.order ≡ slice_get (claims_of (λ (p : Positioned). width_by_rule rule average p.1) (going_round from (undecided_among needs now.widths.items))) 0
    next_is from =
        ap₂ (λ (a : ℕ) (ps : List Positioned). slice_get (claims_of (λ (p : Positioned). width_by_rule rule a p.1) (going_round from ps)) 0) average_now left_is

    -- a step in which the column at a position takes nothing
    pub turn_passes : passed < length needs → width_at rule average needs now.widths.items place ≡ None → IsTurn now (position_after (length needs) place) (passed + 1) average
    turn_passes fewer none =
        let place_within : place < length needs → position_after (length needs) place < length needs = λ within. grind arith in
        let within : place < length needs = turn.within (omega (arith, fewer)) in
        record {
          order = turn.order;
          so_far = turn.so_far;
          taken = turn.taken;
          within = λ some. place_within within;
          average_is = turn.average_is;
          nothing = λ i d found after left.
              ⊎_elim (λ here. width_at-none rule average needs now.widths.items place none d (ap (slice_get needs) here ∙ found) (ap (is_undecided now.widths.items) here ∙ left))
              (λ before. turn.nothing i d found before left) (after_one_more (length needs) place passed i within after);
          since = inl (after_next (length needs) place passed (place_after candidates offer 0 turn.order) within fewer turn.since);
        }

    -- after as many steps without a claim as there are columns, no column takes a width any more
    pub turn_ends : length needs ≤ passed → HasGoneRound rule needs old now
    turn_ends all = (
      turn.order,
      so_far-ends candidates offer 0 [] turn.order turn.so_far
          (next_is (place_after candidates offer 0 turn.order)
          ∙ none_next needs now.widths.items (λ (p : Positioned). width_by_rule rule average p.1) (place_after candidates offer 0 turn.order)
          (λ i d found left. let below : i < length needs = slice_get_within needs i d found in
          turn.nothing i d found (all_after (length needs) place passed i (turn.within (omega (arith, below))) all below) left)),
      turn.taken,
    )

    -- a step in which the column at a position takes a width, and the average may change
    pub turn_takes : (width : ℕ) → passed < length needs → width_at rule average needs now.widths.items place ≡ Some width → (new : Budget) (passed' average' : ℕ)
        → new.widths.items ≡ slice_set now.widths.items place (Some width) → new.room ≡ now.room - width → average' ≡ average_room new → (passed' ≡ 1) ⊎ ((average' ≡ average) × (passed' ≡ passed + 1))
        → IsTurn new (position_after (length needs) place) passed' average'
    turn_takes width fewer some new passed' average' widths_are room_is average_is by =
        let place_within : place < length needs → position_after (length needs) place < length needs = λ below. grind arith in
        let takes = width_at-some rule average needs now.widths.items place width some in
        let below : place < length needs = slice_get_within needs place takes.column takes.found in
        let from = place_after candidates offer 0 turn.order in
        let t : Claim = (place, width) in
        let next : next_taken candidates offer from ([] ++ turn.order) ≡ Some t =
        next_is from
        ∙ some_next needs now.widths.items (λ (p : Positioned). width_by_rule rule average p.1) from place takes.column width takes.found takes.left takes.takes
        (λ i d found between left. turn.nothing i d found (between_after (length needs) place passed from i below (slice_get_within needs i d found) turn.since between) left) in
        let last : place_after candidates offer 0 (turn.order ++ t ∷ []) ≡ place = place_after-push candidates offer 0 turn.order t in
        record {
          order = turn.order ++ t ∷ [];
          so_far = so_far-push candidates offer 0 [] turn.order t turn.so_far next;
          taken = record {
            widths = widths_are ∙ ap (λ (ws : List (Option ℕ)). slice_set ws place (Some width)) turn.taken.widths ∙ sym (with_claims-push turn.order t old.widths.items);
            room = omega (arith, room_is, turn.taken.room, sum_by_push (λ (s : Claim). s.1) turn.order t);
          };
          within = λ _. place_within below;
          average_is = average_is;
          nothing = nothing_new (is_undecided-set now.widths.items place);
          since = inl (subst (IsBeyond (length needs) (position_after (length needs) place) passed') (sym last) (here_after below));
        }
      where
        here_after : place < length needs → IsBeyond (length needs) (position_after (length needs) place) passed' place
        here_after below =
            ⊎_elim (λ one. subst (λ (n : ℕ). IsBeyond (length needs) (position_after (length needs) place) n place) (sym one) (after_next (length needs) place 0 place below (omega (arith, below)) (inr refl)))
            (λ more. subst (λ (n : ℕ). IsBeyond (length needs) (position_after (length needs) place) n place) (sym more.1) (after_next (length needs) place passed place below fewer (inr refl))) by

        -- the columns that are left after the next position were left before it
        nothing_new : ((j w : ℕ) → is_undecided (slice_set now.widths.items place (Some w)) j ≡ (is_undecided now.widths.items j && not (place == j)))
            → (i : ℕ) (d : ColumnNeeds) → slice_get needs i ≡ Some d → IsBeyond (length needs) (position_after (length needs) place) passed' i → is_undecided new.widths.items i ≡ true → width_by_rule rule average' d ≡ None
        nothing_new set i d found after left =
            let place_now : slice_get needs i ≡ Some d → place < length needs = λ found. turn.within (omega (arith, slice_get_within needs i d found)) in
            let both : (is_undecided now.widths.items i && not (place == i)) ≡ true = sym (set i width) ∙ ap (λ (ws : List (Option ℕ)). is_undecided ws i) (sym widths_are) ∙ left in
            let parts = and_parts (is_undecided now.widths.items i) (not (place == i)) both in
            let other : place ≡ i → width_by_rule rule average' d ≡ None = λ same. let is : (place == i) ≡ true = eq-eqb place i same in absurd (cc (parts.1, is)) in
            ⊎_elim
            (λ one.
            ⊎_elim other (λ before. absurd (⊎_elim (λ near. omega (arith, near.0, near.1)) (λ far. omega (arith, far.1, before.0)) before.1))
            (after_one_more (length needs) place 0 i (place_now found) (subst (λ (n : ℕ). IsBeyond (length needs) (position_after (length needs) place) n i) one after)))
            (λ more.
            ⊎_elim other (λ before. ap (λ (a : ℕ). width_by_rule rule a d) more.0 ∙ turn.nothing i d found before parts.0)
            (after_one_more (length needs) place passed i (place_now found) (subst (λ (n : ℕ). IsBeyond (length needs) (position_after (length needs) place) n i) more.1 after)))
            by
