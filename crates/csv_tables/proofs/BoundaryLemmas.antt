-- A column with a lower boundary is drawn at least as wide as a text that fits the boundary.
use Rattle.std.proofs.Common.{◌≡◌, ◌<◌, ◌≤◌, ◌==◌, ◌&&◌, ℕ, ◌+◌, ◌-◌, ◌*◌, ◌/◌, Bool, not, List, [], ◌∷◌, ◌++◌, Option, Some, None, filter, is_none, length, max, nat_le, nat_lt, option_map, refl, sym, ap, ◌∙◌, subst, arith}
use Rattle.std.specs.List.{AllByRecursion, AllZip, cons_option}
use Rattle.std.specs.Prelude.{if◌then◌else◌}
use Rattle.std.proofs.lemmas.Bool.{cond_both}
use Rattle.std.proofs.lemmas.List.Sums.{sum_by-cons}
use Rattle.std.proofs.lemmas.Nat.{div_below, le-div}
use Rattle.comfy_parts.proofs.CallerLemmas.{every-append, every-both, every-filter, every-weaker, every_shows_one}
use Rattle.comfy_table.proofs.ClaimLemmas.{count_at, has_claim, length-without}
use Rattle.comfy_table.proofs.ContentLemmas.{IsClaimFor, all_zip-contents}
use Rattle.comfy_table.proofs.LevelLemmas.{average_at_least}
use Rattle.comfy_table.proofs.SpreadLemmas.{IsPartOf, every-claims_beside, every-even_spread, length-even_spread}
use Rattle.comfy_table.proofs.StepLemmas.{among_settled, count_at-all_claims, left_by, level_has_room, one_others, one_undecided, one_unsettled, room_by}
use Rattle.comfy_table.proofs.TakenClaimLemmas.{HasRoom, HasShrunk, each_is_counted, shrunk_where, taken_ends}
use Rattle.comfy_table.proofs.TakingLemmas.{every-claims_of, next_taken-where}
use Rattle.comfy_table.proofs.UnconstrainedLemmas.{IsColumnAt, every_column_at}
use Rattle.comfy_table.specs.Dynamic.{Claim, IsArrangedBy, IsDynamicLayout, IsLevel, IsTakenAfter, Positioned, Steps, added, all_claims, average, content_room, contents_after, even_columns, even_shares, fit_at, fixed_claims, lower_of_boundary, lower_offer, others, places_of, room_left, room_of_others, room_of_unsettled, settled_at, settled_claims, total, undecided, unsettled, upper_at}
use Rattle.comfy_table.specs.Widths.{ColumnNeeds, even_spread}

-- ---- what is kept

-- a width has room for a text that fits the lower boundary and the content, if wrapping in a wider column leaves the
-- text whole
abbrev pub KeepsBoundary : ColumnNeeds → ℕ → Type 0
KeepsBoundary column width =
    (m l : ℕ) → column.lower ≡ Some l → column.upper ≡ None → ((x : ℕ) → column.fixed ≡ Some x → m ≤ x) → m + column.padding ≤ l → m ≤ column.content → ((n : ℕ) → m ≤ n → m ≤ max 1 (column.longest n)) → m ≤ width

-- a boundary that is taken as a width has this room
taken-keeps : (b : ℕ) (column : ColumnNeeds) (width : ℕ) → lower_of_boundary b column.padding column.lower ≡ Some width → KeepsBoundary column width
taken-keeps b column width is m l lower upper fixed enough content longest =
    let own : (if nat_lt b l then Some (max 1 (l - column.padding)) else None) ≡ Some width = ap (lower_of_boundary b column.padding) (sym lower) ∙ is in
    grind (arith, own, enough)

-- a boundary that isn't taken is at most the average
passed : (b padding l : ℕ) → lower_of_boundary b padding (Some l) ≡ None → l ≤ b
passed b padding l is = grind arith

-- a content width that a level settles has this room too
settled-keeps : (level : Option ℕ) (column : ColumnNeeds) (width : ℕ) → settled_at level column ≡ Some width → KeepsBoundary column width
settled-keeps None column width is m l lower upper fixed enough content longest = absurd (cc is)
settled-keeps (Some level) column width is m l lower upper fixed enough content longest =
    let own : (if nat_le column.content level then Some (max 1 column.content) else None) ≡ Some width = ap (λ (o : Option ℕ). fit_at level column (upper_at level column o)) (sym upper) ∙ is in
    grind (arith, own, content)

-- ---- a level

-- a content width that a level settles is at most the level
settled-most : (level width : ℕ) (column : ColumnNeeds) → 1 ≤ level → settled_at (Some level) column ≡ Some width → width ≤ level
settled-most level width column one is = by_upper column.upper is
  where
    by_upper : (o : Option ℕ) → fit_at level column (upper_at level column o) ≡ Some width → width ≤ level
    by_upper None is = grind (arith, one)
    by_upper (Some u) is = grind (arith, one)

settled-within : (level n : ℕ) (columns : List Positioned) → 1 ≤ level → total (settled_claims (Some level) columns) + n * level ≤ (length (settled_claims (Some level) columns) + n) * level
settled-within level n [] one = omega arith
settled-within level n (p ∷ more) one = by_offer (settled_at (Some level) p.1) (λ width is. settled-most level width p.1 one is) (settled-within level n more one)
  where
    claims : List Claim
    claims = settled_claims (Some level) more

    by_offer : (o : Option ℕ) → ((width : ℕ) → o ≡ Some width → width ≤ level) → total claims + n * level ≤ (length claims + n) * level
        → total (cons_option (option_map (λ (width : ℕ). (p.0, width)) o) claims) + n * level ≤ (length (cons_option (option_map (λ (width : ℕ). (p.0, width)) o) claims) + n) * level
    by_offer None most own = own
    by_offer (Some width) most own = let one_more = most width refl in omega (arith, own, one_more, sum_by-cons (λ (t : Claim). t.1) (p.0, width) claims)

-- a claim of a column at its position keeps the boundary of that column
claim_for : (columns : List ColumnNeeds) (p : Positioned) (width : ℕ) → IsColumnAt columns p → KeepsBoundary p.1 width → IsClaimFor KeepsBoundary columns (p.0, width)
claim_for columns p width at holds column same = let one : p.1 ≡ column = cc (at, same) in subst (λ (c : ColumnNeeds). KeepsBoundary c width) one holds

-- claims that are taken one after another keep the boundaries
module _ (columns : List ColumnNeeds) (candidates : List Positioned) (offer : List Claim → Positioned → Option ℕ) (each : AllByRecursion (IsColumnAt columns) candidates)
    (gives : (taken : List Claim) (p : Positioned) (width : ℕ) → offer taken p ≡ Some width → KeepsBoundary p.1 width) where
  every_taken : (from : ℕ) (taken order : List Claim) → IsTakenAfter candidates offer from taken order → AllByRecursion (IsClaimFor KeepsBoundary columns) order
  every_taken from taken [] goes = tt
  every_taken from taken (t ∷ more) goes =
      let next = next_taken-where candidates offer (IsColumnAt columns) from taken t (every-filter (IsColumnAt columns) (λ (p : Positioned). not (has_claim taken p.0)) candidates each) goes.0 in
      (claim_for columns (t.0, next.column) t.1 next.left (gives taken (t.0, next.column) t.1 next.offered), every_taken t.0 (taken ++ t ∷ []) more goes.1)

-- a filtered list is at most as long as the list
length-filtered : {X : Type 0} (passes : X → Bool) (xs : List X) → length (filter passes xs) ≤ length xs
length-filtered passes [] = omega arith
length-filtered passes (x ∷ xs) = grind (arith, length-filtered passes xs)

-- the level, or 0 without a level
abbrev floor : Option ℕ → ℕ
floor None = 0
floor (Some level) = level

-- ---- the layout

module _ (room : ℕ) (columns : List ColumnNeeds) (full : Bool) (steps : Steps) (widths : List ℕ) (arranged : IsArrangedBy room columns full steps widths) where
  abbrev free : List Positioned
  free = undecided room columns

  abbrev rest : List Positioned
  rest = others room columns steps.lower

  abbrev rest_room : ℕ
  rest_room = room_of_others room columns steps.lower

  abbrev left : List Positioned
  left = unsettled room columns steps

  abbrev left_room : ℕ
  left_room = room_of_unsettled room columns steps

  abbrev even_count : ℕ
  even_count = length (even_columns room columns steps)

  -- the average room of the columns after lower boundaries have taken theirs
  abbrev share : ℕ
  share = rest_room / length rest

  -- a column at its position, whose boundary is at most this average
  abbrev IsPassed : Positioned → Type 0
  IsPassed p = IsColumnAt columns p × ((l : ℕ) → p.1.lower ≡ Some l → l ≤ share)

  free_at : AllByRecursion (IsColumnAt columns) free
  free_at = every-filter (IsColumnAt columns) (λ (p : Positioned). is_none p.1.fixed) (places_of columns) (every_column_at columns)

  rest_passed : AllByRecursion IsPassed rest
  rest_passed =
      every-weaker (λ (p : Positioned). IsColumnAt columns p × (lower_offer (content_room room columns) free steps.lower p ≡ None)) IsPassed rest
      (λ p own. (own.0, λ l lower. passed share p.1.padding l (ap (lower_of_boundary share p.1.padding) (sym lower) ∙ own.1)))
      (every-both (IsColumnAt columns) (λ (p : Positioned). lower_offer (content_room room columns) free steps.lower p ≡ None) rest
      (every-filter (IsColumnAt columns) (λ (p : Positioned). not (has_claim steps.lower p.0)) free free_at)
      (taken_ends free (one_undecided room columns full steps widths arranged) (lower_offer (content_room room columns) free) 0 [] steps.lower arranged.lower_taken))

  left_passed : AllByRecursion IsPassed left
  left_passed = every-filter IsPassed (λ (p : Positioned). not (has_claim (settled_claims steps.level rest) p.0)) rest rest_passed

  even_passed : AllByRecursion IsPassed (even_columns room columns steps)
  even_passed = every-filter IsPassed (λ (p : Positioned). not (has_claim steps.shrunk p.0)) left left_passed

  counts : length (settled_claims steps.level rest) + length left ≡ length rest
  counts = length-without (settled_claims steps.level rest) rest (one_others room columns full steps widths arranged) (among_settled room columns full steps widths arranged)

  -- the level has room, and is at least the average if it leaves columns undecided
  level_is : HasRoom left_room left (floor steps.level) [] × (0 < length left → share ≤ floor steps.level)
  level_is = by_level steps.level refl
    where
      by_level : (o : Option ℕ) → steps.level ≡ o → HasRoom left_room left (floor o) [] × (0 < length left → share ≤ floor o)
      by_level None is =
          let short : rest_room < length rest = subst (IsLevel rest_room rest) is arranged.level_found in
          let below : share < 1 = div_below rest_room (length rest) 1 (omega (arith, short)) (omega (arith, short)) in
          (omega arith, λ some. omega (arith, below))
      by_level (Some level) is =
          let found : IsLevel rest_room rest (Some level) = subst (IsLevel rest_room rest) is arranged.level_found in
          let has : HasRoom left_room left level [] = subst (λ (l : Option ℕ). HasRoom (room_by rest_room l rest) (left_by l rest) level []) (sym is) (level_has_room rest_room level rest found) in
          let own : left ≡ left_by (Some level) rest = ap (λ (l : Option ℕ). left_by l rest) is in
          let all : length (settled_claims (Some level) rest) + length (left_by (Some level) rest) ≡ length rest = ap (λ (l : Option ℕ). length (settled_claims l rest) + length (left_by l rest)) (sym is) ∙ counts in
          let within = settled-within level (length (left_by (Some level) rest)) rest found.1 in
          let bound : total (settled_claims (Some level) rest) + length (left_by (Some level) rest) * level ≤ length rest * level = subst (λ (n : ℕ). total (settled_claims (Some level) rest) + length (left_by (Some level) rest) * level ≤ n * level) all within in (
            has,
            λ some.
                let more : 0 < length (left_by (Some level) rest) = subst (λ (ps : List Positioned). 0 < length ps) own some in
                average_at_least rest_room (total (settled_claims (Some level) rest)) (length (left_by (Some level) rest)) level (length rest) more (omega (arith, all)) (found.3 more) bound,
          )

  taken : AllByRecursion (HasShrunk (λ (p : Positioned). IsPassed p × (0 < length left)) left_room (floor steps.level)) steps.shrunk × HasRoom left_room left (floor steps.level) steps.shrunk
  taken =
      shrunk_where left_room left (one_unsettled room columns full steps widths arranged) (λ (p : Positioned). IsPassed p × (0 < length left))
      (every-both IsPassed (λ (p : Positioned). 0 < length left) left left_passed (every_shows_one left)) (floor steps.level) 0 [] steps.shrunk (λ i. omega arith) level_is.0 arranged.shrunk_taken

  -- ---- all claims

  fixed_for : AllByRecursion (IsClaimFor KeepsBoundary columns) (fixed_claims (places_of columns))
  fixed_for =
      every-claims_of (λ (p : Positioned). p.1.fixed) (IsColumnAt columns) (IsClaimFor KeepsBoundary columns) (places_of columns)
      (λ p width at is. claim_for columns p width at (λ m l lower upper fixed enough content longest. fixed width is)) (every_column_at columns)

  lower_for : AllByRecursion (IsClaimFor KeepsBoundary columns) steps.lower
  lower_for =
      every_taken columns free (lower_offer (content_room room columns) free) free_at (λ taken p width is. taken-keeps (average (content_room room columns) free taken) p.1 width is) 0 [] steps.lower arranged.lower_taken

  settled_for : AllByRecursion (IsClaimFor KeepsBoundary columns) (settled_claims steps.level rest)
  settled_for =
      every-claims_of (λ (p : Positioned). settled_at steps.level p.1) IsPassed (IsClaimFor KeepsBoundary columns) rest (λ p width own is. claim_for columns p width own.0 (settled-keeps steps.level p.1 width is)) rest_passed

  shrunk_for : AllByRecursion (IsClaimFor KeepsBoundary columns) steps.shrunk
  shrunk_for =
      every-weaker (HasShrunk (λ (p : Positioned). IsPassed p × (0 < length left)) left_room (floor steps.level)) (IsClaimFor KeepsBoundary columns) steps.shrunk
      (λ t s. claim_for columns (t.0, s.column) t.1 s.left.0.0 (λ m l lower upper fixed enough content longest.
      let low = s.left.0.1 l lower in
      let level = level_is.1 s.left.1 in
      let long = longest s.at (omega (arith, low, level, enough, s.at_least)) in omega (arith, long, s.takes))) taken.0

  even_for : AllByRecursion (IsClaimFor KeepsBoundary columns) (even_shares room columns steps)
  even_for =
      every-claims_beside (λ (p : Positioned). IsPassed p × (0 < even_count)) (IsPartOf spread even_count) (IsClaimFor KeepsBoundary columns) (even_columns room columns steps) (even_spread spread even_count)
      (λ p width own part. claim_for columns p width own.0.0 (λ m l lower upper fixed enough content longest.
      let low = own.0.1 l lower in
      let level = level_is.1 (omega (arith, own.1, fewer)) in
      let part_level : floor steps.level ≤ spread / even_count = le-div (floor steps.level) spread even_count own.1 (omega (arith, enough_left)) in
      omega (arith, low, level, part_level, part.0, enough)))
      (every-both IsPassed (λ (p : Positioned). 0 < even_count) (even_columns room columns steps) even_passed (every_shows_one (even_columns room columns steps)))
      (every-even_spread spread even_count)
    where
      spread : ℕ
      spread = max (room_left room columns steps) even_count

      fewer : even_count ≤ length left
      fewer = length-filtered (λ (p : Positioned). not (has_claim steps.shrunk p.0)) left

      enough_left : floor steps.level * even_count ≤ spread
      enough_left = let has = taken.1 in omega (arith, has)

  -- each content width keeps its boundary
  contents_keep : AllZip KeepsBoundary columns (contents_after room columns steps)
  contents_keep =
      all_zip-contents KeepsBoundary columns (all_claims room columns steps) 0 columns
      (every-both (IsColumnAt columns) (λ (p : Positioned). 0 < count_at p.0 (all_claims room columns steps)) (places_of columns) (every_column_at columns)
      (every-weaker (λ (p : Positioned). 0 < count_at p.0 (places_of columns)) (λ (p : Positioned). 0 < count_at p.0 (all_claims room columns steps)) (places_of columns)
      (λ p is_at. subst (λ (n : ℕ). 0 < n) (sym (count_at-all_claims room columns full steps widths arranged p.0)) is_at) (each_is_counted (places_of columns))))
      (every-append (IsClaimFor KeepsBoundary columns) (fixed_claims (places_of columns)) (steps.lower ++ (settled_claims steps.level rest ++ (steps.shrunk ++ even_shares room columns steps))) fixed_for
      (every-append (IsClaimFor KeepsBoundary columns) steps.lower (settled_claims steps.level rest ++ (steps.shrunk ++ even_shares room columns steps)) lower_for
      (every-append (IsClaimFor KeepsBoundary columns) (settled_claims steps.level rest) (steps.shrunk ++ even_shares room columns steps) settled_for
      (every-append (IsClaimFor KeepsBoundary columns) steps.shrunk (even_shares room columns steps) shrunk_for even_for))))

-- added widths keep the boundaries too
added_keeps : (columns : List ColumnNeeds) (xs ys : List ℕ) → length ys ≡ length columns → AllZip KeepsBoundary columns xs → AllZip KeepsBoundary columns (added xs ys)
added_keeps [] [] ys same each = tt
added_keeps [] (x ∷ xs) ys same each = absurd each
added_keeps (column ∷ more) [] ys same each = absurd each
added_keeps (column ∷ more) (x ∷ xs) [] same each = absurd (omega (arith, same))
added_keeps (column ∷ more) (x ∷ xs) (y ∷ ys) same each = (
  λ m l lower upper fixed enough content longest. let own = each.0 m l lower upper fixed enough content longest in omega (arith, own),
  added_keeps more xs ys (omega (arith, same)) each.1,
)

-- each width of a dynamic layout keeps the boundary of its column
pub dynamic_keeps_boundaries : (room : ℕ) (columns : List ColumnNeeds) (full : Bool) (widths : List ℕ) → IsDynamicLayout room columns full widths → AllZip KeepsBoundary columns widths
dynamic_keeps_boundaries room columns full widths (steps, arranged) =
    let contents = contents_keep room columns full steps widths arranged in
    subst (AllZip KeepsBoundary columns) (sym arranged.widths_are)
    (cond_both (full && (length (even_columns room columns steps) == 0)) _ _ (AllZip KeepsBoundary columns)
    (λ _. added_keeps columns (contents_after room columns steps) (even_spread (room_left room columns steps) (length columns)) (length-even_spread (room_left room columns steps) (length columns)) contents) (λ _. contents))
