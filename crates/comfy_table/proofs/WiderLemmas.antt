-- With any constraints each dynamic width is at least 1, so the lines of a table keep to the wider bound.
use Rattle.std.proofs.Common.{◌≡◌, ◌<◌, ◌≤◌, ℕ, ◌+◌, ◌-◌, ◌/◌, Bool, true, false, List, [], ◌∷◌, ◌++◌, length, map, max, sum, Option, Some, None, option_map, refl, arith}
use Rattle.std.specs.Prelude.{sum_by, ⊤}
use Rattle.std.specs.List.{AllByRecursion, enumerate_from}
use Rattle.std.proofs.lemmas.Nat.{le-div}
use Rattle.comfy_parts.specs.CellValue.{ColumnValue, column_padding}
use Rattle.comfy_parts.specs.declared.style.column.ColumnConstraint.{ColumnConstraint}
use Rattle.comfy_parts.specs.declared.style.column.ColumnConstraint.TheVariants.{Hidden, ContentWidth, Absolute, LowerBoundary, UpperBoundary, Boundaries}
use Rattle.comfy_parts.specs.declared.style.table.ContentArrangement.TheVariants.{Dynamic, DynamicFullWidth}
use Rattle.comfy_table.proofs.BudgetLemmas.{keeps_to_wider_bound, fills_wider_bound}
use Rattle.comfy_table.proofs.DrawnWidthLemmas.{sum-outer_widths, paddings_of_needs, dynamic_widths, every_added}
use Rattle.comfy_parts.proofs.CallerLemmas.{every-always, every-append, every-map, every-places, every-weaker}
use Rattle.comfy_table.proofs.ClaimLemmas.{count_at, claim_at-where}
use Rattle.comfy_table.proofs.SpreadLemmas.{IsPartOf, every-even_spread, claims_beside, every-claims_beside}
use Rattle.comfy_table.proofs.StepLemmas.{count_at-all_claims}
use Rattle.comfy_table.proofs.TakenClaimLemmas.{each_is_counted}
use Rattle.comfy_table.proofs.TakingLemmas.{next_taken-where, every-claims_of}
use Rattle.std.proofs.lemmas.List.{length-map}
use Rattle.comfy_table.specs.Arrangement.{IsArranged, room_beside_borders}
use Rattle.comfy_table.specs.Dynamic.{Positioned, Claim, Steps, IsArrangedBy, IsTakenAfter, lower_of_boundary, shrunk_at, settled_at, settled_claims, fixed_claims, places_of, without_claims, claim_at, undecided, others, unsettled, even_columns, even_shares, all_claims, contents_after, room_left, content_room, room_of_unsettled, average}
use Rattle.comfy_table.specs.Frame.{border_count}
use Rattle.comfy_table.specs.Laws.{line_total, least_with_steps}
use Rattle.comfy_table.specs.TableLaws.{KeepsToWiderTotal, KeepsToWiderTotalInFull, FillsWiderTotal, shown_contents}
use Rattle.comfy_table.specs.TableValue.{TableValue, shown_columns, column_content_width}
use Rattle.comfy_table.specs.Widths.{ColumnNeeds, needs_of, shown_needs, shown_count, without_padding, even_spread, fixed_by_boundary, fixed_by_constraint, resolved_width}

-- the claim is at least one terminal column wide
abbrev HasPlace : Claim → Type 0
HasPlace t = 1 ≤ t.1

-- a fixed width is at least 1, if there is one
abbrev HasEarlyPlace : ColumnNeeds → Type 0
HasEarlyPlace column = (width : ℕ) → column.fixed ≡ Some width → 1 ≤ width

-- ---- offered widths are at least 1

-- the width of a lower boundary
lower-some : (b padding : ℕ) (o : Option ℕ) (width : ℕ) → lower_of_boundary b padding o ≡ Some width → 1 ≤ width
lower-some b padding None width is = absurd (cc is)
lower-some b padding (Some l) width is = grind arith

-- the width that a column shrinks to
shrunk-some : (b : ℕ) (column : ColumnNeeds) (width : ℕ) → shrunk_at b column ≡ Some width → 1 ≤ width
shrunk-some b column width is = grind arith

-- the width that a level settles
settled-some : (level : Option ℕ) (column : ColumnNeeds) (width : ℕ) → settled_at level column ≡ Some width → 1 ≤ width
settled-some None column width is = absurd (cc is)
settled-some (Some level) column width is = grind arith

-- the fixed width of a boundary that the content doesn't pass
boundary-some : (content padding : ℕ) (o : Option ℕ) (width : ℕ) → fixed_by_boundary content padding o ≡ Some width → 1 ≤ width
boundary-some content padding None width is = absurd (cc is)
boundary-some content padding (Some l) width is = grind arith

-- the fixed width of an absolute width
absolute-some : (padding : ℕ) (o : Option ℕ) (width : ℕ) → option_map (without_padding padding) o ≡ Some width → 1 ≤ width
absolute-some padding None width is = absurd (cc is)
absolute-some padding (Some x) width is = let same : max 1 (x - padding) ≡ width = cc is in omega (arith, same)

-- the fixed width of any constraint
fixed-some : (table : TableValue) (n content padding : ℕ) (c : Option ColumnConstraint) (width : ℕ) → fixed_by_constraint table n content padding c ≡ Some width → 1 ≤ width
fixed-some table n content padding None width is = absurd (cc is)
fixed-some table n content padding (Some Hidden) width is = absurd (cc is)
fixed-some table n content padding (Some ContentWidth) width is = let same : max 1 content ≡ width = cc is in omega (arith, same)
fixed-some table n content padding (Some (Absolute x)) width is = absolute-some padding (resolved_width table n x) width is
fixed-some table n content padding (Some (LowerBoundary lower)) width is = boundary-some content padding (resolved_width table n lower) width is
fixed-some table n content padding (Some (UpperBoundary upper)) width is = absurd (cc is)
fixed-some table n content padding (Some (Boundaries lower upper)) width is = boundary-some content padding (resolved_width table n lower) width is

-- the fixed widths of a table's columns
every_early : (table : TableValue) (columns : List (ℕ × ColumnValue)) → AllByRecursion HasEarlyPlace (map (needs_of table) columns)
every_early table [] = tt
every_early table (p ∷ more) =
    (fixed-some table (shown_count table) (column_content_width table p.0) (column_padding p.1) p.1.constraint, every_early table more)

-- ---- all claims are at least 1

-- claims that are taken one after another
every_taken : (candidates : List Positioned) (offer : List Claim → Positioned → Option ℕ) → ((ts : List Claim) (p : Positioned) (width : ℕ) → offer ts p ≡ Some width → 1 ≤ width)
    → (from : ℕ) (taken order : List Claim) → IsTakenAfter candidates offer from taken order → AllByRecursion HasPlace order
every_taken candidates offer some from taken [] goes = tt
every_taken candidates offer some from taken (t ∷ more) goes =
    let next = next_taken-where candidates offer (λ (p : Positioned). ⊤) from taken t (every-always (λ (p : Positioned). ⊤) (without_claims taken candidates) (λ p. tt)) goes.0 in
    (some taken (t.0, next.column) t.1 next.offered, every_taken candidates offer some t.0 (taken ++ t ∷ []) more goes.1)

-- the even shares
every_even : (columns : List Positioned) (x : ℕ) → AllByRecursion HasPlace (claims_beside columns (even_spread (max x (length columns)) (length columns)))
every_even [] x = tt
every_even (p ∷ more) x =
    let n : ℕ = length (p ∷ more) in
    let one : 1 ≤ max x n / n = le-div 1 (max x n) n (omega arith) (omega arith) in
    every-claims_beside (λ (q : Positioned). ⊤) (λ (w : ℕ). 1 ≤ w) HasPlace (p ∷ more) (even_spread (max x n) n) (λ q w any some. some) (every-always (λ (q : Positioned). ⊤) (p ∷ more) (λ q. tt))
    (every-weaker (IsPartOf (max x n) n) (λ (w : ℕ). 1 ≤ w) (even_spread (max x n) n) (λ w part. omega (arith, part.0, one)) (every-even_spread (max x n) n))

-- the claims of fixed widths
every_early_claim : (n : ℕ) (columns : List ColumnNeeds) → AllByRecursion HasEarlyPlace columns → AllByRecursion HasPlace (fixed_claims (enumerate_from n columns))
every_early_claim n columns each =
    every-claims_of (λ (p : Positioned). p.1.fixed) (λ (p : Positioned). HasEarlyPlace p.1) HasPlace (enumerate_from n columns) (λ p width fair is. fair width is) (every-places HasEarlyPlace n columns each)

module _ (room : ℕ) (columns : List ColumnNeeds) (fair : AllByRecursion HasEarlyPlace columns) (full : Bool) (steps : Steps) (widths : List ℕ) (arranged : IsArrangedBy room columns full steps widths) where
  -- the claims of all kinds
  every_claim : AllByRecursion HasPlace (all_claims room columns steps)
  every_claim =
      every-append HasPlace (fixed_claims (places_of columns)) _ (every_early_claim 0 columns fair)
      (every-append HasPlace steps.lower _ (every_taken (undecided room columns) _ (λ ts p width is. lower-some (average (content_room room columns) (undecided room columns) ts) p.1.padding p.1.lower width is) 0 [] steps.lower arranged.lower_taken)
      (every-append HasPlace (settled_claims steps.level (others room columns steps.lower)) _
      (every-claims_of (λ (p : Positioned). settled_at steps.level p.1) (λ (p : Positioned). ⊤) HasPlace (others room columns steps.lower) (λ p width any is. settled-some steps.level p.1 width is) (every-always (λ (p : Positioned). ⊤) (others room columns steps.lower) (λ p. tt)))
      (every-append HasPlace steps.shrunk (even_shares room columns steps)
      (every_taken (unsettled room columns steps) _ (λ ts p width is. shrunk-some (average (room_of_unsettled room columns steps) (unsettled room columns steps) ts) p.1 width is) 0 [] steps.shrunk arranged.shrunk_taken)
      (every_even (even_columns room columns steps) (room_left room columns steps)))))

  -- so the contents are at least 1
  every_content : AllByRecursion (λ (w : ℕ). 1 ≤ w) (contents_after room columns steps)
  every_content =
      every-map (λ (w : ℕ). 1 ≤ w) (λ (p : Positioned). claim_at (all_claims room columns steps) p.0) (places_of columns)
      (every-weaker (λ (p : Positioned). 0 < count_at p.0 (places_of columns)) (λ (p : Positioned). 1 ≤ claim_at (all_claims room columns steps) p.0) (places_of columns)
      (λ p is_at. claim_at-where (λ i w. 1 ≤ w) p.0 (all_claims room columns steps) every_claim (omega (arith, is_at, count_at-all_claims room columns full steps widths arranged p.0)))
      (each_is_counted (places_of columns)))

  -- each width is at least 1, with any constraints
  every_width_has_place : AllByRecursion (λ (w : ℕ). 1 ≤ w) widths
  every_width_has_place = grind (arith, every_added, every_content)

-- ---- the wider bound

-- with full width the widths keep to the wider bound too, even if no column is shown
abbrev pub KeepsToWiderBoundInFull : ℕ → List ColumnNeeds → Steps → List ℕ → Type 0
KeepsToWiderBoundInFull room columns steps widths =
    IsArrangedBy room columns true steps widths
    → sum_by (λ (column : ColumnNeeds). column.padding) columns + sum widths ≤ max room (least_with_steps columns steps)

-- with full width the widths keep to it too
pub keeps_to_wider_bound_in_full : (room : ℕ) (columns : List ColumnNeeds) (steps : Steps) (widths : List ℕ) → KeepsToWiderBoundInFull room columns steps widths
keeps_to_wider_bound_in_full room [] steps widths arranged = grind arith
keeps_to_wider_bound_in_full room (column ∷ more) steps widths arranged =
    omega (arith, fills_wider_bound room (column ∷ more) steps widths (omega arith) arranged)

-- a line's total is the border characters, the paddings and the widths
line_total-parts : (table : TableValue) (w : ℕ) (widths : List ℕ) (full : Bool) (steps : Steps) → IsArranged table widths → IsArrangedBy (room_beside_borders table w) (shown_needs table) full steps (shown_contents table widths)
    → line_total table widths ≡ border_count table.style (shown_count table) + (sum_by (λ (column : ColumnNeeds). column.padding) (shown_needs table) + sum (shown_contents table widths))
line_total-parts table w widths full steps arranged by =
    let drawn = sum-outer_widths table widths arranged.one_for_each (every_width_has_place (room_beside_borders table w) (shown_needs table) (every_early table (shown_columns table)) full steps (shown_contents table widths) by) in
    omega (arith, drawn, paddings_of_needs table (shown_columns table))

-- under `Dynamic` a line is at most as wide as the table's width, or the wider total if that is more
pub keeps_to_wider_total : (table : TableValue) (w : ℕ) (widths : List ℕ) → KeepsToWiderTotal table w widths
keeps_to_wider_total table w widths dynamic known arranged =
    let found = dynamic_widths table Dynamic w widths refl dynamic known arranged in
    let bound = keeps_to_wider_bound (room_beside_borders table w) (shown_needs table) found.0 (shown_contents table widths) found.1 in
    (found.0, found.1, omega (arith, bound, line_total-parts table w widths false found.0 arranged found.1))

-- under `DynamicFullWidth` a line is at most as wide as the table's width, or the wider total if that is more
pub keeps_to_wider_total_in_full : (table : TableValue) (w : ℕ) (widths : List ℕ) → KeepsToWiderTotalInFull table w widths
keeps_to_wider_total_in_full table w widths full known arranged =
    let found = dynamic_widths table DynamicFullWidth w widths refl full known arranged in
    let bound = keeps_to_wider_bound_in_full (room_beside_borders table w) (shown_needs table) found.0 (shown_contents table widths) found.1 in
    (found.0, found.1, omega (arith, bound, line_total-parts table w widths true found.0 arranged found.1))

-- under `DynamicFullWidth` it is exactly that wide, if a column is shown
pub fills_wider_total : (table : TableValue) (w : ℕ) (widths : List ℕ) → FillsWiderTotal table w widths
fills_wider_total table w widths full known some arranged =
    let found = dynamic_widths table DynamicFullWidth w widths refl full known arranged in
    let exact = fills_wider_bound (room_beside_borders table w) (shown_needs table) found.0 (shown_contents table widths) (omega (arith, some, length-map (shown_columns table) (needs_of table))) found.1 in
    (found.0, found.1, omega (arith, exact, line_total-parts table w widths true found.0 arranged found.1))
