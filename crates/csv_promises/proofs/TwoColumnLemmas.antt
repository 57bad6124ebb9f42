-- If there is enough room, each column gets two terminal columns, or its content, or the width of its longest line at
-- some width.
use Rattle.std.proofs.Common.{◌≡◌, ◌<◌, ◌≤◌, ◌==◌, ◌&&◌, ◌||◌, ℕ, zero, suc, ◌+◌, ◌-◌, ◌*◌, ◌/◌, Bool, true, false, cond, not, List, [], ◌∷◌, ◌++◌, Option, Some, None, append-nil, filter, is_none, length, max, min, nat_le, option_map, sum_by, unwrap_or, refl, sym, ap, ◌∙◌, subst, arith, eq-zero-or-pos, ⊎_elim, inl, inr}
use Rattle.std.specs.List.{AllByRecursion, AllZip, cons_option, enumerate_from, list_any}
use Rattle.std.specs.Prelude.{◌⊎◌, ⊤, if◌then◌else◌}
use Rattle.std.proofs.lemmas.Bool.{cond_both, eq-eqb, leb-false, leb-true}
use Rattle.std.proofs.lemmas.List.{append_assoc}
use Rattle.std.proofs.lemmas.List.Sums.{sum_by-cons}
use Rattle.std.proofs.lemmas.Nat.{le-div, mul-le}
use Rattle.comfy_parts.proofs.CallerLemmas.{every-always, every-append, every-both, every-filter, every-places, every-weaker, every_shows_one}
use Rattle.comfy_table.proofs.ClaimLemmas.{count_at, has_claim, length-without, without_claims-nil}
use Rattle.comfy_table.proofs.ContentLemmas.{IsClaimFor, all_zip-contents}
use Rattle.comfy_table.proofs.PlacedWidthLemmas.{without_claims-append}
use Rattle.comfy_table.proofs.SpreadLemmas.{IsPartOf, every-claims_beside, every-even_spread, length-even_spread}
use Rattle.comfy_table.proofs.StepLemmas.{among_settled, among_shrunk, count_at-all_claims, level_has_room, left_by, one_others, one_unsettled, room_by, total-fixed}
use Rattle.comfy_table.proofs.TakenClaimLemmas.{each_is_counted, shrunk_where}
use Rattle.comfy_table.proofs.TakingLemmas.{every-claims_of, next_taken-where}
use Rattle.comfy_table.proofs.UnconstrainedLemmas.{IsColumnAt, every_column_at}
use Rattle.comfy_table.specs.Dynamic.{Claim, IsArrangedBy, IsDynamicLayout, IsLevel, IsTakenAfter, Positioned, Steps, added, all_claims, average, content_room, contents_after, even_columns, even_shares, fit_at, fixed_claims, lower_of_boundary, lower_offer, others, places_of, room_left, room_of_others, room_of_unsettled, settled_at, settled_claims, shrunk_at, shrunk_offer, total, undecided, unsettled, upper_at, without_claims}
use Rattle.comfy_table.specs.Widths.{ColumnNeeds, even_spread}
use Rattle.csv_tables.proofs.LeastLemmas.{lower_or_one}

-- ---- what is promised

-- two terminal columns, or the content if it is narrower
abbrev pub two_of : ColumnNeeds → ℕ
two_of column = min 2 column.content

-- a width has as many; or it has room for the longest line at some width, which leaves three terminal columns free
abbrev pub HasTwo : ColumnNeeds → ℕ → Type 0
HasTwo column width = (two_of column ≤ width) ⊎ ((b : ℕ) × (column.longest b + 3 ≤ b) × (max 1 (column.longest b) ≤ width))

-- the need of a column without a fixed width: its lower boundary without padding, two terminal columns, or its content
abbrev pub needed_of : ColumnNeeds → ℕ
needed_of column = max (lower_or_one column.padding column.lower) (two_of column)

-- a fixed width, or else that need
abbrev pub needed_in_all : ColumnNeeds → ℕ
needed_in_all column = unwrap_or column.fixed (needed_of column)

-- fixed widths and lower boundaries are at least that wide, and there is no upper boundary
pub record KeepsTwo (column : ColumnNeeds) : Type 0 where
  pub fixed : (width : ℕ) → column.fixed ≡ Some width → two_of column ≤ width
  pub lower : (b width : ℕ) → lower_of_boundary b column.padding column.lower ≡ Some width → two_of column ≤ width
  pub no_upper : column.upper ≡ None

abbrev needed_at : Positioned → ℕ
needed_at p = needed_of p.1

-- ---- what is taken of a room

some_lower : (padding : ℕ) (o : Option ℕ) → 1 ≤ lower_or_one padding o
some_lower padding None = omega arith
some_lower padding (Some l) = omega arith

takes : (b padding : ℕ) (o : Option ℕ) (width : ℕ) → lower_of_boundary b padding o ≡ Some width → width ≤ lower_or_one padding o
takes b padding None width is = absurd (cc is)
takes b padding (Some l) width is = grind arith

-- some columns need at most as much as all columns
fewer : (taken : List Claim) (columns : List Positioned) → sum_by needed_at (without_claims taken columns) ≤ sum_by needed_at columns
fewer taken [] = omega arith
fewer taken (c ∷ columns) = by_test (not (list_any (λ (t : Claim). t.0 == c.0) taken)) (fewer taken columns)
  where
    rest : List Positioned
    rest = without_claims taken columns

    by_test : (b : Bool) → sum_by needed_at rest ≤ sum_by needed_at columns → sum_by needed_at (cond b (c ∷ rest) rest) ≤ sum_by needed_at (c ∷ columns)
    by_test true own = omega (arith, own, sum_by-cons needed_at c rest, sum_by-cons needed_at c columns)
    by_test false own = omega (arith, own, sum_by-cons needed_at c columns)

-- one of the columns takes its part of this sum
abbrev HasPart : List Positioned → Positioned → Type 0
HasPart columns p = (width : ℕ) → needed_at p + sum_by needed_at (without_claims ((p.0, width) ∷ []) columns) ≤ sum_by needed_at columns

each_part : (columns : List Positioned) → AllByRecursion (HasPart columns) columns
each_part [] = tt
each_part (c ∷ columns) = (
  λ width. first width (c.0 == c.0) (eq-eqb c.0 c.0 refl) (fewer ((c.0, width) ∷ []) columns),
  every-weaker (HasPart columns) (HasPart (c ∷ columns)) columns (λ p own width. by_test p width (not (p.0 == c.0 || false)) (own width)) (each_part columns),
)
  where
    rest : ℕ → ℕ → List Positioned
    rest i width = without_claims ((i, width) ∷ []) columns

    first : (width : ℕ) (b : Bool) → b ≡ true → sum_by needed_at (rest c.0 width) ≤ sum_by needed_at columns → needed_at c + sum_by needed_at (cond (not (b || false)) (c ∷ rest c.0 width) (rest c.0 width)) ≤ sum_by needed_at (c ∷ columns)
    first width true same own = omega (arith, own, sum_by-cons needed_at c columns)
    first width false same own = absurd (cc same)

    by_test : (p : Positioned) (width : ℕ) (b : Bool) → needed_at p + sum_by needed_at (rest p.0 width) ≤ sum_by needed_at columns → needed_at p + sum_by needed_at (cond b (c ∷ rest p.0 width) (rest p.0 width)) ≤ sum_by needed_at (c ∷ columns)
    by_test p width true own = omega (arith, own, sum_by-cons needed_at c (rest p.0 width), sum_by-cons needed_at c columns)
    by_test p width false own = omega (arith, own, sum_by-cons needed_at c columns)

-- so do all columns that are taken one after another
module _ (candidates : List Positioned) (offer : List Claim → Positioned → Option ℕ) (takes : (taken : List Claim) (p : Positioned) (width : ℕ) → offer taken p ≡ Some width → width ≤ needed_at p) where
  taken_within : (from : ℕ) (taken order : List Claim) → IsTakenAfter candidates offer from taken order → total order + sum_by needed_at (without_claims (taken ++ order) candidates) ≤ sum_by needed_at (without_claims taken candidates)
  taken_within from taken [] ends = omega (arith, ap (λ (ts : List Claim). sum_by needed_at (without_claims ts candidates)) (append-nil taken))
  taken_within from taken (t ∷ more) goes =
      let left = without_claims taken candidates in
      let next = next_taken-where candidates offer (HasPart left) from taken t (each_part left) goes.0 in
      let part : needed_at (t.0, next.column) + sum_by needed_at (without_claims (t ∷ []) left) ≤ sum_by needed_at left = next.left t.1 in
      let later = taken_within t.0 (taken ++ t ∷ []) more goes.1 in
      let pushed = ap (sum_by needed_at) (without_claims-append taken (t ∷ []) candidates) in
      let order = ap (λ (ts : List Claim). sum_by needed_at (without_claims ts candidates)) (append_assoc taken (t ∷ []) more) in
      omega (arith, part, takes taken (t.0, next.column) t.1 next.offered, later, pushed, order, sum_by-cons (λ (s : Claim). s.1) t more)

-- each column needs at least one terminal column
some_each : (columns : List Positioned) → length columns ≤ sum_by needed_at columns
some_each [] = omega arith
some_each (p ∷ more) = omega (arith, some_lower p.1.padding p.1.lower, some_each more, sum_by-cons needed_at p more)

-- the fixed widths, and the needs of the other columns
fixed_and_needed : (n : ℕ) (columns : List ColumnNeeds)
    → total (fixed_claims (enumerate_from n columns)) + sum_by needed_at (filter (λ (p : Positioned). is_none p.1.fixed) (enumerate_from n columns)) ≡ sum_by needed_in_all columns
fixed_and_needed n [] = refl
fixed_and_needed n (column ∷ more) = by_fixed column.fixed (fixed_and_needed (n + 1) more) ∙ sym (sum_by-cons needed_in_all column more)
  where
    claims : List Claim
    claims = fixed_claims (enumerate_from (n + 1) more)

    free : List Positioned
    free = filter (λ (p : Positioned). is_none p.1.fixed) (enumerate_from (n + 1) more)

    by_fixed : (o : Option ℕ) → total claims + sum_by needed_at free ≡ sum_by needed_in_all more
        → total (cons_option (option_map (λ (width : ℕ). (n, width)) o) claims) + sum_by needed_at (cond (is_none o) ((n, column) ∷ free) free) ≡ unwrap_or o (needed_of column) + sum_by needed_in_all more
    by_fixed None own = omega (arith, own, sum_by-cons needed_at (n, column) free)
    by_fixed (Some width) own = omega (arith, own, sum_by-cons (λ (t : Claim). t.1) (n, width) claims)

-- ---- a level of one

-- without an upper boundary, a level settles a content that fits it
settles : (level : ℕ) (column : ColumnNeeds) → column.upper ≡ None → settled_at (Some level) column ≡ (if nat_le column.content level then Some (max 1 column.content) else None)
settles level column none = ap (λ (o : Option ℕ). fit_at level column (upper_at level column o)) none

-- a level of 1 settles the columns that need 1, and leaves those that need 2
settled_needs : (columns : List Positioned) → AllByRecursion (λ (p : Positioned). p.1.upper ≡ None) columns
    → total (settled_claims (Some 1) columns) + 2 * length columns ≤ sum_by needed_at columns + 2 * length (settled_claims (Some 1) columns)
settled_needs [] each = omega arith
settled_needs (p ∷ more) each =
    subst (λ (o : Option ℕ). total (with_offer o) + 2 * length (p ∷ more) ≤ sum_by needed_at (p ∷ more) + 2 * length (with_offer o)) (sym (settles 1 p.1 each.0))
    (by_test (nat_le p.1.content 1) refl (settled_needs more each.1))
  where
    claims : List Claim
    claims = settled_claims (Some 1) more

    with_offer : Option ℕ → List Claim
    with_offer o = cons_option (option_map (λ (width : ℕ). (p.0, width)) o) claims

    by_test : (b : Bool) → nat_le p.1.content 1 ≡ b → total claims + 2 * length more ≤ sum_by needed_at more + 2 * length claims
        → total (with_offer (if b then Some (max 1 p.1.content) else None)) + 2 * length (p ∷ more) ≤ sum_by needed_at (p ∷ more) + 2 * length (with_offer (if b then Some (max 1 p.1.content) else None))
    by_test true fits own =
        omega (arith, own, leb-true p.1.content 1 fits, some_lower p.1.padding p.1.lower, sum_by-cons needed_at p more, sum_by-cons (λ (t : Claim). t.1) (p.0, max 1 p.1.content) claims)
    by_test false passes own = omega (arith, own, leb-false p.1.content 1 passes, sum_by-cons needed_at p more)

-- ---- claims

-- a claim of a column at its position has property R for this column
claim_for : (R : ColumnNeeds → ℕ → Type 0) (columns : List ColumnNeeds) (p : Positioned) (width : ℕ) → IsColumnAt columns p → R p.1 width → IsClaimFor R columns (p.0, width)
claim_for R columns p width at holds column same = let one : p.1 ≡ column = cc (at, same) in subst (λ (c : ColumnNeeds). R c width) one holds

-- the width that a column shrinks to
shrinks : (b : ℕ) (column : ColumnNeeds) (width : ℕ) → shrunk_at b column ≡ Some width → (column.longest b + 3 ≤ b) × (width ≡ max 1 (column.longest b))
shrinks b column width same = grind arith

-- a width that a level settles has two terminal columns, or the content
settled-two : (level : Option ℕ) (column : ColumnNeeds) (width : ℕ) → column.upper ≡ None → settled_at level column ≡ Some width → two_of column ≤ width
settled-two None column width none is = absurd (cc is)
settled-two (Some level) column width none is = by_test (nat_le column.content level) (sym (settles level column none) ∙ is)
  where
    by_test : (b : Bool) → (if b then Some (max 1 column.content) else None) ≡ Some width → two_of column ≤ width
    by_test true same = let own : max 1 column.content ≡ width = cc same in omega (arith, own)
    by_test false same = absurd (cc same)

-- claims that are taken one after another
module _ (columns : List ColumnNeeds) (candidates : List Positioned) (offer : List Claim → Positioned → Option ℕ) (P : Positioned → Type 0) (each : AllByRecursion P candidates)
    (gives : (taken : List Claim) (p : Positioned) (width : ℕ) → P p → offer taken p ≡ Some width → IsClaimFor HasTwo columns (p.0, width)) where
  every_taken : (from : ℕ) (taken order : List Claim) → IsTakenAfter candidates offer from taken order → AllByRecursion (IsClaimFor HasTwo columns) order
  every_taken from taken [] goes = tt
  every_taken from taken (t ∷ more) goes =
      let next = next_taken-where candidates offer P from taken t (every-filter P (λ (p : Positioned). not (has_claim taken p.0)) candidates each) goes.0 in
      (gives taken (t.0, next.column) t.1 next.left next.offered, every_taken t.0 (taken ++ t ∷ []) more goes.1)

-- ---- the layout

module _ (room : ℕ) (columns : List ColumnNeeds) (keeps : AllByRecursion KeepsTwo columns)
    (enough : sum_by (λ (column : ColumnNeeds). column.padding) columns + sum_by needed_in_all columns ≤ room)
    (full : Bool) (steps : Steps) (widths : List ℕ) (arranged : IsArrangedBy room columns full steps widths) where
  -- a column at its position that keeps two terminal columns
  abbrev IsKept : Positioned → Type 0
  IsKept p = IsColumnAt columns p × KeepsTwo p.1

  abbrev free : List Positioned
  free = undecided room columns

  abbrev rest : List Positioned
  rest = others room columns steps.lower

  abbrev rest_room : ℕ
  rest_room = room_of_others room columns steps.lower

  abbrev left : List Positioned
  left = unsettled room columns steps

  abbrev left_room : ℕ
  left_room = room_of_unsettled room columns steps

  abbrev even_count : ℕ
  even_count = length (even_columns room columns steps)

  all_kept : AllByRecursion IsKept (places_of columns)
  all_kept = every-both (IsColumnAt columns) (λ (p : Positioned). KeepsTwo p.1) (places_of columns) (every_column_at columns) (every-places KeepsTwo 0 columns keeps)

  free_kept : AllByRecursion IsKept free
  free_kept = every-filter IsKept (λ (p : Positioned). is_none p.1.fixed) (places_of columns) all_kept

  rest_kept : AllByRecursion IsKept rest
  rest_kept = every-filter IsKept (λ (p : Positioned). not (has_claim steps.lower p.0)) free free_kept

  left_kept : AllByRecursion IsKept left
  left_kept = every-filter IsKept (λ (p : Positioned). not (has_claim (settled_claims steps.level rest) p.0)) rest rest_kept

  even_kept : AllByRecursion IsKept (even_columns room columns steps)
  even_kept = every-filter IsKept (λ (p : Positioned). not (has_claim steps.shrunk p.0)) left left_kept

  -- lower boundaries leave room for the needs of the other columns
  rest_fits : sum_by needed_at rest ≤ rest_room
  rest_fits =
      let within = taken_within free (lower_offer (content_room room columns) free) (λ taken p width is. omega (arith, takes (average (content_room room columns) free taken) p.1.padding p.1.lower width is)) 0 [] steps.lower arranged.lower_taken in
      let all = ap (sum_by needed_at) (without_claims-nil free) in
      omega (arith, within, all, enough, fixed_and_needed 0 columns, total-fixed 0 columns)

  -- at a level of 1 no column is left
  none_left : steps.level ≡ Some 1 → length left ≡ 0
  none_left one = ⊎_elim (λ none. none) (λ some. absurd (contradicts some)) (eq-zero-or-pos (length left))
    where
      settled : List Claim
      settled = settled_claims (Some 1) rest

      own : left ≡ left_by (Some 1) rest
      own = ap (λ (l : Option ℕ). left_by l rest) one

      found : IsLevel rest_room rest (Some 1)
      found = subst (IsLevel rest_room rest) one arranged.level_found

      counts : length settled + length left ≡ length rest
      counts = ap (λ (l : Option ℕ). length (settled_claims l rest) + length left) (sym one) ∙ length-without (settled_claims steps.level rest) rest (one_others room columns full steps widths arranged) (among_settled room columns full steps widths arranged)

      needs : total settled + 2 * length rest ≤ sum_by needed_at rest + 2 * length settled
      needs = settled_needs rest (every-weaker IsKept (λ (p : Positioned). p.1.upper ≡ None) rest (λ p kept. kept.1.no_upper) rest_kept)

      contradicts : 0 < length left → ⊥
      contradicts some =
          let same = ap length own in
          let is : 1 ≡ (rest_room - total settled) / length (left_by (Some 1) rest) = found.3 (omega (arith, same, some)) in
          let two : 2 ≤ (rest_room - total settled) / length (left_by (Some 1) rest) = le-div 2 (rest_room - total settled) (length (left_by (Some 1) rest)) (omega (arith, same, some)) (omega (arith, same, counts, needs, rest_fits)) in
          omega (arith, is, two)

  -- the even columns have room for two terminal columns each
  even_twice : 2 * even_count ≤ room_left room columns steps
  even_twice = by_level steps.level refl
    where
      by_level : (level : Option ℕ) → steps.level ≡ level → 2 * even_count ≤ room_left room columns steps
      by_level None is =
          let short : rest_room < length rest = subst (IsLevel rest_room rest) is arranged.level_found in
          absurd (omega (arith, short, rest_fits, some_each rest))
      by_level (Some zero) is = let found : IsLevel rest_room rest (Some zero) = subst (IsLevel rest_room rest) is arranged.level_found in absurd (omega (arith, found.1))
      by_level (Some (suc zero)) is =
          let none = none_left is in
          let fewer = length-without steps.shrunk left (one_unsettled room columns full steps widths arranged) (among_shrunk room columns full steps widths arranged) in
          omega (arith, none, fewer)
      by_level (Some (suc (suc n))) is =
          let level : ℕ = suc (suc n) in
          let found : IsLevel rest_room rest (Some level) = subst (IsLevel rest_room rest) is arranged.level_found in
          let has : total [] + length (without_claims [] left) * level ≤ left_room = subst (λ (l : Option ℕ). total [] + length (without_claims [] (left_by l rest)) * level ≤ room_by rest_room l rest) (sym is) (level_has_room rest_room level rest found) in
          let taken = shrunk_where left_room left (one_unsettled room columns full steps widths arranged) (λ (p : Positioned). ⊤) (every-always (λ (p : Positioned). ⊤) left (λ p. tt)) level 0 [] steps.shrunk (λ i. omega arith) has arranged.shrunk_taken in
          let each : even_count * 2 ≤ even_count * level = mul-le even_count 2 even_count level (omega arith) (omega arith) in
          omega (arith, taken.1, each)

  -- ---- all claims

  fixed_for : AllByRecursion (IsClaimFor HasTwo columns) (fixed_claims (places_of columns))
  fixed_for = every-claims_of (λ (p : Positioned). p.1.fixed) IsKept (IsClaimFor HasTwo columns) (places_of columns) (λ p width kept is. claim_for HasTwo columns p width kept.0 (inl (kept.1.fixed width is))) all_kept

  lower_for : AllByRecursion (IsClaimFor HasTwo columns) steps.lower
  lower_for =
      every_taken columns free (lower_offer (content_room room columns) free) IsKept free_kept
      (λ taken p width kept is. claim_for HasTwo columns p width kept.0 (inl (kept.1.lower (average (content_room room columns) free taken) width is))) 0 [] steps.lower arranged.lower_taken

  settled_for : AllByRecursion (IsClaimFor HasTwo columns) (settled_claims steps.level rest)
  settled_for =
      every-claims_of (λ (p : Positioned). settled_at steps.level p.1) IsKept (IsClaimFor HasTwo columns) rest
      (λ p width kept is. claim_for HasTwo columns p width kept.0 (inl (settled-two steps.level p.1 width kept.1.no_upper is))) rest_kept

  shrunk_for : AllByRecursion (IsClaimFor HasTwo columns) steps.shrunk
  shrunk_for =
      every_taken columns left (shrunk_offer left_room left) IsKept left_kept
      (λ taken p width kept is.
      let own = shrinks (average left_room left taken) p.1 width is in
      claim_for HasTwo columns p width kept.0 (inr (average left_room left taken, own.0, omega (arith, own.1)))) 0 [] steps.shrunk arranged.shrunk_taken

  even_for : AllByRecursion (IsClaimFor HasTwo columns) (even_shares room columns steps)
  even_for =
      every-claims_beside (λ (p : Positioned). IsKept p × (0 < even_count)) (IsPartOf spread even_count) (IsClaimFor HasTwo columns) (even_columns room columns steps) (even_spread spread even_count)
      (λ p width kept part.
      let two : 2 ≤ spread / even_count = le-div 2 spread even_count kept.1 (omega (arith, even_twice)) in
      claim_for HasTwo columns p width kept.0.0 (inl (omega (arith, two, part.0))))
      (every-both IsKept (λ (p : Positioned). 0 < even_count) (even_columns room columns steps) even_kept (every_shows_one (even_columns room columns steps)))
      (every-even_spread spread even_count)
    where
      spread : ℕ
      spread = max (room_left room columns steps) even_count

  -- each content width has two terminal columns
  contents_two : AllZip HasTwo columns (contents_after room columns steps)
  contents_two =
      all_zip-contents HasTwo columns (all_claims room columns steps) 0 columns
      (every-both (IsColumnAt columns) (λ (p : Positioned). 0 < count_at p.0 (all_claims room columns steps)) (places_of columns) (every_column_at columns)
      (every-weaker (λ (p : Positioned). 0 < count_at p.0 (places_of columns)) (λ (p : Positioned). 0 < count_at p.0 (all_claims room columns steps)) (places_of columns)
      (λ p is_at. subst (λ (n : ℕ). 0 < n) (sym (count_at-all_claims room columns full steps widths arranged p.0)) is_at) (each_is_counted (places_of columns))))
      (every-append (IsClaimFor HasTwo columns) (fixed_claims (places_of columns)) (steps.lower ++ (settled_claims steps.level rest ++ (steps.shrunk ++ even_shares room columns steps))) fixed_for
      (every-append (IsClaimFor HasTwo columns) steps.lower (settled_claims steps.level rest ++ (steps.shrunk ++ even_shares room columns steps)) lower_for
      (every-append (IsClaimFor HasTwo columns) (settled_claims steps.level rest) (steps.shrunk ++ even_shares room columns steps) settled_for
      (every-append (IsClaimFor HasTwo columns) steps.shrunk (even_shares room columns steps) shrunk_for even_for))))

-- a greater width has them as well
wider : (column : ColumnNeeds) (width more : ℕ) → HasTwo column width → HasTwo column (width + more)
wider column width more has = ⊎_elim (λ two. inl (omega (arith, two))) (λ (b, free, long). inr (b, free, omega (arith, long))) has

-- added widths leave them
added_two : (columns : List ColumnNeeds) (xs ys : List ℕ) → length ys ≡ length columns → AllZip HasTwo columns xs → AllZip HasTwo columns (added xs ys)
added_two [] [] ys same each = tt
added_two [] (x ∷ xs) ys same each = absurd each
added_two (column ∷ more) [] ys same each = absurd each
added_two (column ∷ more) (x ∷ xs) [] same each = absurd (omega arith)
added_two (column ∷ more) (x ∷ xs) (y ∷ ys) same each = (wider column x y each.0, added_two more xs ys (omega arith) each.1)

-- if there is enough room for the needs of all columns, each column has two terminal columns
pub dynamic_has_two : (room : ℕ) (columns : List ColumnNeeds) (full : Bool) (widths : List ℕ) → AllByRecursion KeepsTwo columns → sum_by (λ (column : ColumnNeeds). column.padding) columns + sum_by needed_in_all columns ≤ room
    → IsDynamicLayout room columns full widths → AllZip HasTwo columns widths
dynamic_has_two room columns full widths keeps enough (steps, arranged) =
    let contents = contents_two room columns keeps enough full steps widths arranged in
    subst (AllZip HasTwo columns) (sym arranged.widths_are)
    (cond_both (full && (length (even_columns room columns steps) == 0)) _ _ (AllZip HasTwo columns)
    (λ _. added_two columns (contents_after room columns steps) (even_spread (room_left room columns steps) (length columns)) (length-even_spread (room_left room columns steps) (length columns)) contents) (λ _. contents))
