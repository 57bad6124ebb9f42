-- Columns with limits: their paddings, and their part of the width.
use Rattle.std.proofs.Common.{◌≡◌, ◌<◌, ◌≤◌, ◌+◌, ◌&&◌, ℕ, zero, suc, Bool, true, false, ◌==◌, List, [], ◌∷◌, Some, None, arith, get_or, nat_le, length, map, set, take, refl, ap, ap₂, ◌∙◌}
use Rattle.std.specs.List.{All, list_all, range_with_len, sum}
use Rattle.std.specs.Prelude.{sum_by, if◌then◌else◌}
use Rattle.std.proofs.lemmas.Bool.{leb-true}
use Rattle.std.proofs.lemmas.List.FromFn.{length-map-range_with_len}
use Rattle.std.proofs.lemmas.List.Sums.{sum_by-cons}
use Rattle.comfy_parts.specs.CellValue.{ColumnValue}
use Rattle.comfy_table.specs.Frame.{border_count}
use Rattle.comfy_table.specs.TableValue.{TableValue, max_content_widths}
use Rattle.csv_tables.proofs.NoWrapLemmas.{given_is_shared, kept-test, kept_within, most_fit}
use Rattle.csv_tables.specs.Limits.{bounded_width, given_with, has_room_within, most_within, limits_at, padded, padded_at, taken, with_limits, with_own_limits, with_widths}
use Rattle.csv_tables.specs.NoWrap.{Wanted, by_columns, least_width, reserved_width, width_at_level}
use Rattle.csv_tables.specs.declared.limits.ColumnLimits.{ColumnLimits}

-- ---- paddings

pub padded-length : (limits : List ColumnLimits) (columns : List ColumnValue) → length (padded limits columns) ≡ length columns
padded-length [] columns = refl
padded-length (own ∷ limits) [] = refl
padded-length (own ∷ limits) (column ∷ columns) = ap suc (padded-length limits columns)

-- the column at a place gets its padding
pub padded_set : (i : ℕ) (padding : ℕ × ℕ) (columns : List ColumnValue) (default : ColumnValue) → i < length columns → set columns i (record (get_or columns i default) { padding = padding }) ≡ padded_at i padding columns
padded_set i padding [] default below = absurd (omega (arith, below))
padded_set zero padding (column ∷ columns) default below = refl
padded_set (suc i) padding (column ∷ columns) default below = ap (λ (cs : List ColumnValue). column ∷ cs) (padded_set i padding columns default (omega (arith, below)))

-- there is no column at this place
pub padded_past : (i : ℕ) (padding : ℕ × ℕ) (columns : List ColumnValue) → length columns ≤ i → padded_at i padding columns ≡ columns
padded_past i padding [] past = refl
padded_past zero padding (column ∷ columns) past = absurd (omega (arith, past))
padded_past (suc i) padding (column ∷ columns) past = ap (λ (cs : List ColumnValue). column ∷ cs) (padded_past i padding columns (omega (arith, past)))

-- one column more
pub padded_more : (limits : List ColumnLimits) (i : ℕ) (default : ColumnLimits) (columns : List ColumnValue) → i < length limits
    → padded_at i (get_or limits i default).padding (padded (take i limits) columns) ≡ padded (take (suc i) limits) columns
padded_more [] i default columns below = absurd (omega (arith, below))
padded_more (own ∷ limits) zero default [] below = refl
padded_more (own ∷ limits) zero default (column ∷ columns) below = refl
padded_more (own ∷ limits) (suc i) default [] below = refl
padded_more (own ∷ limits) (suc i) default (column ∷ columns) below =
    ap (λ (cs : List ColumnValue). record column { padding = own.padding } ∷ cs) (padded_more limits i default columns (omega (arith, below)))

-- ---- widths

-- a column without limits takes its content width and one terminal column on each side
sum_taken : (f : ℕ → ℕ) (n count : ℕ) → sum_by (λ content. 2 + content) (map f (range_with_len n count)) ≡ sum (map (λ (i : ℕ). taken (limits_at [] i) (f i)) (range_with_len n count))
sum_taken f n zero = refl
sum_taken f n (suc count) =
    let one = sum_by-cons (λ (content : ℕ). 2 + content) (f n) (map f (range_with_len (n + 1) count)) in
    let other = sum_by-cons (λ (width : ℕ). width) (taken (limits_at [] n) (f n)) (map (λ (i : ℕ). taken (limits_at [] i) (f i)) (range_with_len (n + 1) count)) in
    let more = sum_taken f (n + 1) count in
    omega (arith, one, other, more)

-- the width of a table is the same sum with limits and without
pub bounded-width : (limits : List ColumnLimits) (level : ℕ) (wanted : Wanted) (table : TableValue)
    → bounded_width limits level wanted table ≡ border_count table.style (length table.columns) + sum (by_columns (λ (i : ℕ). taken (limits_at limits i) (width_at_level level wanted table i)) table)
bounded-width [] level wanted table =
    ap₂ (λ (n s : ℕ). border_count table.style n + s) (length-map-range_with_len (width_at_level level wanted table) 0 (length table.columns)) (sum_taken (width_at_level level wanted table) 0 (length table.columns))
bounded-width (own ∷ limits) level wanted table = refl

-- ---- tests

and_assoc : (a b c : Bool) → (a && (b && c)) ≡ ((a && b) && c)
and_assoc true b c = refl
and_assoc false b c = refl

and_true : (a : Bool) → (a && true) ≡ a
and_true true = refl
and_true false = refl

-- one place more
pub all_more : (f : ℕ → Bool) (a n j : ℕ) → a + n ≡ j → list_all f (range_with_len a (suc n)) ≡ (list_all f (range_with_len a n) && f j)
all_more f a zero j is = let same : a ≡ j = omega (arith, is) in and_true (f a) ∙ ap f same
all_more f a (suc n) j is = ap (λ (b : Bool). f a && b) (all_more f (a + 1) n j (omega (arith, is))) ∙ and_assoc (f a) (list_all f (range_with_len (a + 1) n)) (f j)

-- ---- tables

module _ (limits : List ColumnLimits) (width : ℕ) (wanted : Wanted) (table : TableValue) where
  pub room-is : nat_le (bounded_width limits 8 wanted table) width ≡ has_room_within limits (Some width) wanted table
  room-is = by_limits limits
    where
      by_limits : (l : List ColumnLimits) → nat_le (bounded_width l 8 wanted table) width ≡ has_room_within l (Some width) wanted table
      by_limits [] = refl
      by_limits (own ∷ more) = refl

  abbrev given : List ColumnLimits → List ℕ
  given l = given_with l width (most_within l width wanted table) table

  -- the words that are kept whole have room too
  pub most-room : has_room_within limits (Some width) wanted table ≡ true → bounded_width limits 8 (most_within limits width wanted table) table ≤ width
  most-room room = leb-true _ width (most_fit (λ (level : ℕ) (own : Wanted). nat_le (bounded_width limits level own table) width) width wanted (room-is ∙ room))

  -- with room, columns get the widths beforehand that they need to stay whole
  pub widths_with_room : has_room_within limits (Some width) wanted table ≡ true → with_widths limits (Some width) wanted table ≡ with_limits limits (given limits) table
  widths_with_room room = by_limits limits room
    where
      by_limits : (l : List ColumnLimits) → has_room_within l (Some width) wanted table ≡ true → with_widths l (Some width) wanted table ≡ with_limits l (given l) table
      by_limits [] is = kept-test width wanted table true is
      by_limits (own ∷ more) is = ap (λ (b : Bool). with_limits (own ∷ more) (if b then given (own ∷ more) else []) table) is

  -- without room, columns have only their own limits
  pub widths_without_room : has_room_within limits (Some width) wanted table ≡ false → with_widths limits (Some width) wanted table ≡ with_own_limits limits table
  widths_without_room none = by_limits limits none
    where
      by_limits : (l : List ColumnLimits) → has_room_within l (Some width) wanted table ≡ false → with_widths l (Some width) wanted table ≡ with_own_limits l table
      by_limits [] is = kept-test width wanted table false is
      by_limits (own ∷ more) is = ap (λ (b : Bool). with_limits (own ∷ more) (if b then given (own ∷ more) else []) table) is

-- the widths that columns get beforehand are at most 65533
pub given_within_room : (level : ℕ) (wanted : Wanted) (table : TableValue) → least_width wanted table ≤ 65535 → All (λ content. content ≤ 65533) (by_columns (reserved_width level wanted table) table)
given_within_room level wanted table fits =
    let framed : least_width wanted table ≡ border_count table.style (length (by_columns (width_at_level 8 wanted table) table)) + sum_by (λ content. 2 + content) (by_columns (width_at_level 8 wanted table) table) = refl in
    kept_within (reserved_width level wanted table) (width_at_level 8 wanted table) (λ i. let less = given_is_shared level 8 wanted table i in omega (arith, less)) 0 (length table.columns) (omega (arith, fits, framed))

-- ---- constraints

-- without a width, columns with limits get their content widths within these
pub limited-contents : (limits : List ColumnLimits) (wanted : Wanted) (table : TableValue) → (length limits == 0) ≡ false → with_limits limits (max_content_widths table) table ≡ with_widths limits None wanted table
limited-contents [] wanted table some = absurd (cc some)
limited-contents (own ∷ limits) wanted table some = refl
