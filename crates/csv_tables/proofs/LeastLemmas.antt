-- The least widths of columns: the widths that constraints fix, the lower boundaries, and one terminal column for each
-- other column.
use Rattle.std.proofs.Common.{◌≡◌, ◌≤◌, ◌==◌, ◌||◌, ℕ, ◌+◌, Bool, true, false, cond, not, List, [], ◌∷◌, ◌++◌, Option, Some, None, append-nil, filter, is_none, length, option_map, sum_by, unwrap_or, refl, sym, ap, ◌∙◌, arith}
use Rattle.std.specs.List.{AllByRecursion, cons_option, enumerate_from, list_any}
use Rattle.std.proofs.lemmas.Bool.{eq-eqb}
use Rattle.std.proofs.lemmas.List.{append_assoc}
use Rattle.std.proofs.lemmas.List.Sums.{sum_by-cons}
use Rattle.comfy_parts.proofs.CallerLemmas.{every-weaker}
use Rattle.comfy_table.proofs.PlacedWidthLemmas.{without_claims-append}
use Rattle.comfy_table.proofs.ClaimLemmas.{without_claims-nil}
use Rattle.comfy_table.proofs.StepLemmas.{length-others}
use Rattle.comfy_table.proofs.TakingLemmas.{next_taken-where}
use Rattle.comfy_table.specs.Dynamic.{Claim, IsArrangedBy, IsTakenAfter, Positioned, Steps, average, content_room, fixed_claims, lower_of_boundary, lower_offer, others, total, undecided, without_claims}
use Rattle.comfy_table.specs.Laws.{least_with_steps}
use Rattle.comfy_table.specs.Widths.{ColumnNeeds, without_padding}

-- a lower boundary without padding, or one terminal column
abbrev pub lower_or_one : ℕ → Option ℕ → ℕ
lower_or_one padding None = 1
lower_or_one padding (Some l) = without_padding padding l

-- a fixed width, or else that
abbrev pub least_of : ColumnNeeds → ℕ
least_of column = unwrap_or column.fixed (lower_or_one column.padding column.lower)

abbrev lower_at : Positioned → ℕ
lower_at p = lower_or_one p.1.padding p.1.lower

some_lower : (padding : ℕ) (o : Option ℕ) → 1 ≤ lower_or_one padding o
some_lower padding None = omega arith
some_lower padding (Some l) = omega arith

takes : (b padding : ℕ) (o : Option ℕ) (width : ℕ) → lower_of_boundary b padding o ≡ Some width → width ≤ lower_or_one padding o
takes b padding None width is = absurd (cc is)
takes b padding (Some l) width is = grind arith

-- ---- columns that are taken

-- the least widths of some columns sum up to at most those of all
fewer : (taken : List Claim) (columns : List Positioned) → sum_by lower_at (without_claims taken columns) ≤ sum_by lower_at columns
fewer taken [] = omega arith
fewer taken (c ∷ columns) = by_test (not (list_any (λ (t : Claim). t.0 == c.0) taken)) (fewer taken columns)
  where
    rest : List Positioned
    rest = without_claims taken columns

    by_test : (b : Bool) → sum_by lower_at rest ≤ sum_by lower_at columns → sum_by lower_at (cond b (c ∷ rest) rest) ≤ sum_by lower_at (c ∷ columns)
    by_test true own = omega (arith, own, sum_by-cons lower_at c rest, sum_by-cons lower_at c columns)
    by_test false own = omega (arith, own, sum_by-cons lower_at c columns)

-- one of the columns takes its part of this sum
abbrev HasPart : List Positioned → Positioned → Type 0
HasPart columns p = (width : ℕ) → lower_at p + sum_by lower_at (without_claims ((p.0, width) ∷ []) columns) ≤ sum_by lower_at columns

each_part : (columns : List Positioned) → AllByRecursion (HasPart columns) columns
each_part [] = tt
each_part (c ∷ columns) = (
  λ width. first width (c.0 == c.0) (eq-eqb c.0 c.0 refl) (fewer ((c.0, width) ∷ []) columns),
  every-weaker (HasPart columns) (HasPart (c ∷ columns)) columns (λ p own width. by_test p width (not (p.0 == c.0 || false)) (own width)) (each_part columns),
)
  where
    rest : ℕ → ℕ → List Positioned
    rest i width = without_claims ((i, width) ∷ []) columns

    first : (width : ℕ) (b : Bool) → b ≡ true → sum_by lower_at (rest c.0 width) ≤ sum_by lower_at columns → lower_at c + sum_by lower_at (cond (not (b || false)) (c ∷ rest c.0 width) (rest c.0 width)) ≤ sum_by lower_at (c ∷ columns)
    first width true same own = omega (arith, own, sum_by-cons lower_at c columns)
    first width false same own = absurd (cc same)

    by_test : (p : Positioned) (width : ℕ) (b : Bool) → lower_at p + sum_by lower_at (rest p.0 width) ≤ sum_by lower_at columns → lower_at p + sum_by lower_at (cond b (c ∷ rest p.0 width) (rest p.0 width)) ≤ sum_by lower_at (c ∷ columns)
    by_test p width true own = omega (arith, own, sum_by-cons lower_at c (rest p.0 width), sum_by-cons lower_at c columns)
    by_test p width false own = omega (arith, own, sum_by-cons lower_at c columns)

-- so do all columns that are taken one after another
module _ (candidates : List Positioned) (offer : List Claim → Positioned → Option ℕ) (takes : (taken : List Claim) (p : Positioned) (width : ℕ) → offer taken p ≡ Some width → width ≤ lower_at p) where
  taken_within : (from : ℕ) (taken order : List Claim) → IsTakenAfter candidates offer from taken order → total order + sum_by lower_at (without_claims (taken ++ order) candidates) ≤ sum_by lower_at (without_claims taken candidates)
  taken_within from taken [] ends = omega (arith, ap (λ (ts : List Claim). sum_by lower_at (without_claims ts candidates)) (append-nil taken))
  taken_within from taken (t ∷ more) goes =
      let left = without_claims taken candidates in
      let next = next_taken-where candidates offer (HasPart left) from taken t (each_part left) goes.0 in
      let part : lower_at (t.0, next.column) + sum_by lower_at (without_claims (t ∷ []) left) ≤ sum_by lower_at left = next.left t.1 in
      let later = taken_within t.0 (taken ++ t ∷ []) more goes.1 in
      let pushed = ap (sum_by lower_at) (without_claims-append taken (t ∷ []) candidates) in
      let order = ap (λ (ts : List Claim). sum_by lower_at (without_claims ts candidates)) (append_assoc taken (t ∷ []) more) in
      omega (arith, part, takes taken (t.0, next.column) t.1 next.offered, later, pushed, order, sum_by-cons (λ (s : Claim). s.1) t more)

-- ---- all columns

-- each column takes at least one terminal column
some_each : (columns : List Positioned) → length columns ≤ sum_by lower_at columns
some_each [] = omega arith
some_each (p ∷ more) = omega (arith, some_lower p.1.padding p.1.lower, some_each more, sum_by-cons lower_at p more)

-- the fixed widths, and the least widths of the other columns
fixed_and_others : (n : ℕ) (columns : List ColumnNeeds)
    → total (fixed_claims (enumerate_from n columns)) + sum_by lower_at (filter (λ (p : Positioned). is_none p.1.fixed) (enumerate_from n columns)) ≡ sum_by least_of columns
fixed_and_others n [] = refl
fixed_and_others n (column ∷ more) = by_fixed column.fixed (fixed_and_others (n + 1) more) ∙ sym (sum_by-cons least_of column more)
  where
    claims : List Claim
    claims = fixed_claims (enumerate_from (n + 1) more)

    free : List Positioned
    free = filter (λ (p : Positioned). is_none p.1.fixed) (enumerate_from (n + 1) more)

    by_fixed : (o : Option ℕ) → total claims + sum_by lower_at free ≡ sum_by least_of more
        → total (cons_option (option_map (λ (width : ℕ). (n, width)) o) claims) + sum_by lower_at (cond (is_none o) ((n, column) ∷ free) free) ≡ unwrap_or o (lower_or_one column.padding column.lower) + sum_by least_of more
    by_fixed None own = omega (arith, own, sum_by-cons lower_at (n, column) free)
    by_fixed (Some width) own = omega (arith, own, sum_by-cons (λ (t : Claim). t.1) (n, width) claims)

-- the steps need at most the least widths of all columns
pub steps_within : (room : ℕ) (columns : List ColumnNeeds) (full : Bool) (steps : Steps) (widths : List ℕ) → IsArrangedBy room columns full steps widths
    → least_with_steps columns steps ≤ sum_by (λ (column : ColumnNeeds). column.padding) columns + sum_by least_of columns
steps_within room columns full steps widths arranged =
    let free = undecided room columns in
    let within = taken_within free (lower_offer (content_room room columns) free) (λ taken p width is. takes (average (content_room room columns) free taken) p.1.padding p.1.lower width is) 0 [] steps.lower arranged.lower_taken in
    let all = ap (sum_by lower_at) (without_claims-nil free) in
    omega (arith, within, all, some_each (others room columns steps.lower), fixed_and_others 0 columns, length-others room columns full steps widths arranged)
