-- Tables that keep numbers and dates whole.
use Rattle.std.proofs.Common.{◌≡◌, ◌<◌, ◌≤◌, ◌+◌, ℕ, zero, suc, Bool, List, [], ◌∷◌, Some, ◌-◌, ◌^◌, cond, filter, get_or, length, map, min, nat_le, set, max, nat_lt, slice_get, sum_by, unwrap_or, true, false, ◌||◌, refl, sym, ap, ◌∙◌, arith, inl, inr}
use Rattle.std.specs.List.{All, range_with_len}
use Rattle.std.proofs.lemmas.Bool.{lt-ltb, ltb-true}
use Rattle.std.proofs.lemmas.Bool.Decides.{nat_tests}
use Rattle.std.proofs.lemmas.List.{map-id}
use Rattle.std.proofs.lemmas.List.Elements.{All-cons, All-nil}
use Rattle.std.proofs.lemmas.List.FromFn.{filter_of_map_range_with_len_more}
use Rattle.std.proofs.lemmas.List.Sums.{sum_by-cons}
use Rattle.std.specs.Prelude.{◌⊎◌, if◌then◌else◌}
use Rattle.comfy_parts.specs.CellValue.{ColumnValue}
use Rattle.comfy_parts.specs.Text.{greatest}
use Rattle.comfy_parts.specs.declared.style.table_style.TableStyle.{TableStyle}
use Rattle.comfy_table.proofs.ColumnCellLemmas.{greatest-append}
use Rattle.comfy_table.specs.Frame.{border_count}
use Rattle.comfy_table.specs.TableValue.{TableValue}
use Rattle.csv_tables.specs.declared.needs.Words.{Words}
use Rattle.csv_tables.specs.declared.needs.Words.TheVariants.{Broken, OfFields, OfNames}
use Rattle.csv_tables.specs.NoWrap.{Wanted, boundary_for, framed_width, reserved_width, given_in, greatest_level, has_room, kept_of_name, kept_of_word, min_width, with_min_widths, with_most_words, with_words, width_at_level, with_content, with_lower_bounds, with_second}

-- kept widths leave room for paddings if the needed widths do
pub kept_within : (kept needed : ℕ → ℕ) → ((i : ℕ) → kept i ≤ needed i) → (n count : ℕ) → sum_by (λ content. 2 + content) (map needed (range_with_len n count)) ≤ 65535 → All (λ content. content ≤ 65533) (map kept (range_with_len n count))
kept_within kept needed less n zero within = All-nil (λ (content : ℕ). content ≤ 65533)
kept_within kept needed less n (suc count) within =
    let own = less n in
    let sums = sum_by-cons (λ (content : ℕ). 2 + content) (needed n) (map needed (range_with_len (n + 1) count)) in
    All-cons (λ (content : ℕ). content ≤ 65533) (kept n) (map kept (range_with_len (n + 1) count)) (omega (arith, own, sums, within)) (kept_within kept needed less (n + 1) count (omega (arith, sums, within)))

pub given_is_shared : (level level2 : ℕ) (wanted : Wanted) (table : TableValue) (i : ℕ) → max 1 (reserved_width level wanted table i) ≤ width_at_level level2 wanted table i
given_is_shared level level2 wanted table i = by_test (unwrap_or (slice_get wanted.nowrap i) false || nat_lt level (min_width wanted table i))
  where
    by_test : (b : Bool) → max 1 (if b then min_width wanted table i else 0) ≤ width_at_level level2 wanted table i
    by_test true = omega arith
    by_test false = omega arith

-- a lower boundary is the content width with its paddings, if there is content
pub boundary-some : (content : ℕ) → 0 < content → boundary_for content ≡ content + 2
boundary-some content some = ap (λ (b : Bool). if b then content + 2 else 0) (lt-ltb 0 content some)

-- a lower boundary is at most the content width with its paddings
pub boundary-within : (content : ℕ) → boundary_for content ≤ content + 2
boundary-within zero = omega arith
boundary-within (suc n) = omega (arith, boundary-some (suc n) (omega arith))

-- a sum that stopped at the greatest number is greater than each width
pub stopped : (n w : ℕ) → w ≤ 65535 → nat_le (min (2 ^ 64 - 1) n) w ≡ nat_le n w
stopped n w below = grind (arith, nat_tests)

-- ---- levels

-- one level more
level_more : (passes : ℕ → Bool) (n level : ℕ) → n + 1 ≡ level → greatest_level passes level ≡ max (greatest_level passes n) (greatest (cond (passes level) (level ∷ []) []))
level_more passes n level next =
    ap (greatest_level passes) (sym next)
    ∙ ap (λ ls. greatest (filter passes ls)) (sym (map-id (range_with_len 1 (n + 1))))
    ∙ ap greatest (filter_of_map_range_with_len_more passes (λ l. l) 1 n level (omega (arith, next)))
    ∙ greatest-append (filter passes (map (λ l. l) (range_with_len 1 n))) (cond (passes level) (level ∷ []) [])
    ∙ ap (λ ls. max (greatest (filter passes ls)) (greatest (cond (passes level) (level ∷ []) []))) (map-id (range_with_len 1 n))

-- the greatest passing level is at most the last one
levels_within : (passes : ℕ → Bool) (a n : ℕ) → greatest (filter passes (range_with_len (a + 1) n)) ≤ a + n
levels_within passes a zero = omega arith
levels_within passes a (suc n) = grind (arith, levels_within passes (a + 1) n)

-- a level that doesn't pass isn't the greatest one that passes
pub failed_level : (passes : ℕ → Bool) (level : ℕ) → 0 < level → passes level ≡ false → greatest_level passes (level - 1) ≡ greatest_level passes level
failed_level passes level some is = grind (arith, level_more passes (level - 1) level (omega (arith, some)))

-- a level that passes is the greatest one up to itself
pub passed_level : (passes : ℕ → Bool) (level : ℕ) → 0 < level → passes level ≡ true → level ≡ greatest_level passes level
passed_level passes level some is = grind (arith, level_more passes (level - 1) level (omega (arith, some)), levels_within passes 0 (level - 1))

-- ---- words

-- the words that are kept whole have room if the wanted ones do
pub most_fit : (fits : ℕ → Wanted → Bool) (width : ℕ) (wanted : Wanted) → fits 8 wanted ≡ true → fits 8 (with_most_words fits width wanted) ≡ true
most_fit fits width wanted room = by_tests (fits width wanted) (fits 8 (with_words OfFields wanted)) (fits 8 (with_words OfNames wanted)) refl refl
  where
    by_tests : (a b c : Bool) → fits 8 (with_words OfFields wanted) ≡ b → fits 8 (with_words OfNames wanted) ≡ c
        → fits 8 (if a then wanted else if b then with_words OfFields wanted else if c then with_words OfNames wanted else wanted) ≡ true
    by_tests true b c fields names = room
    by_tests false true c fields names = fields
    by_tests false false true fields names = names
    by_tests false false false fields names = room

-- other words don't change the columns of numbers and dates
pub most_nowrap : (fits : ℕ → Wanted → Bool) (width : ℕ) (wanted : Wanted) → (with_most_words fits width wanted).nowrap ≡ wanted.nowrap
most_nowrap fits width wanted = by_tests (fits width wanted) (fits 8 (with_words OfFields wanted)) (fits 8 (with_words OfNames wanted))
  where
    by_tests : (a b c : Bool) → (if a then wanted else if b then with_words OfFields wanted else if c then with_words OfNames wanted else wanted).nowrap ≡ wanted.nowrap
    by_tests true b c = refl
    by_tests false true c = refl
    by_tests false false true = refl
    by_tests false false false = refl

-- ---- two terminal columns

-- the width kept for a name is 0, or at least 2 for a wide word
pub name-two : (words : Words) (width : ℕ) → (width ≡ 0) ⊎ (2 ≤ width) → (kept_of_name words width ≡ 0) ⊎ (2 ≤ kept_of_name words width)
name-two Broken width two = inl refl
name-two OfNames width two = two
name-two OfFields width two = two

-- so is the width kept for a word of fields
pub word-two : (words : Words) (width : ℕ) → (kept_of_word words width ≡ 0) ⊎ (2 ≤ kept_of_word words width)
word-two Broken width = inl refl
word-two OfNames width = inl refl
word-two OfFields width = by_tests (nat_lt 8 width) (nat_lt 40 width) refl
  where
    by_tests : (a b : Bool) → nat_lt 8 width ≡ a → ((if a then (if b then 20 else width) else 0) ≡ 0) ⊎ (2 ≤ (if a then (if b then 20 else width) else 0))
    by_tests true true above = inr (omega arith)
    by_tests true false above = let more = ltb-true 8 width above in inr (omega (arith, more))
    by_tests false b above = inl refl

-- ---- tables

-- the table by the test for room
pub kept-test : (width : ℕ) (wanted : Wanted) (table : TableValue) (b : Bool) → has_room (Some width) wanted table ≡ b
    → with_min_widths (Some width) wanted table ≡ (if b then with_lower_bounds (given_in width wanted table) table else table)
kept-test width wanted table b is = ap (λ b. if b then with_lower_bounds (given_in width wanted table) table else table) is

-- ---- fields of expanded records

-- the width of a line over two contents
pub framed_pair : (style : TableStyle) (names field : ℕ) → framed_width style (names ∷ field ∷ []) ≡ border_count style 2 + ((2 + names) + (2 + field))
framed_pair style names field =
    let first = sum_by-cons (λ (content : ℕ). 2 + content) names (field ∷ []) in
    let other = sum_by-cons (λ (content : ℕ). 2 + content) field [] in
    omega (arith, first, other)

-- the constraint of the second column is replaced
pub with_second-set : (columns : List ColumnValue) (content : ℕ) (default : ColumnValue) → 1 < length columns → set columns 1 (with_content content (get_or columns 1 default)) ≡ with_second content columns
with_second-set [] content default below = absurd (omega (arith, below))
with_second-set (a ∷ []) content default below = absurd (omega (arith, below))
with_second-set (a ∷ b ∷ more) content default below = refl

-- there is no second column
pub with_second-none : (columns : List ColumnValue) (content : ℕ) → length columns ≤ 1 → with_second content columns ≡ columns
with_second-none [] content few = refl
with_second-none (a ∷ []) content few = refl
with_second-none (a ∷ b ∷ more) content few = absurd (omega (arith, few))
