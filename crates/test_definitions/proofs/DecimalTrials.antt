-- Trials of the decimal marks of columns.
use Rattle.std.proofs.Common.{◌≡◌, ◌⊎◌, ◌+◌, ℕ, List, [], ◌∷◌, Option, Some, None, arith, codes, inl, inr, map, refl, true}
use Prim.Native.String.{String}
use Rattle.std.specs.Option.{option_map_or}
use Rattle.std.specs.Str.{chars}
use Rattle.ucd_category.proofs.Computing.{ucd_category}
use Rattle.csv_records.specs.Number.{has_indian_groups, halves, is_neutral, is_number}
use Rattle.csv_records.specs.Decimals.{digits_in, fraction_len, points_of, trailing_spaces}
use Rattle.csv_records.specs.declared.decimals.DecimalMark.TheVariants.{Point}
use Rattle.csv_tables.specs.Laws.{HasTrailingSpaces}

-- the spaces after each field of a column, or `None` without a mark
abbrev spaces_in : List String → Option (List ℕ)
spaces_in words = let fields = map (λ (word : String). codes word) words in option_map_or (λ points. Some (map (trailing_spaces points) fields)) (points_of fields) None

pub below_each_other : map spaces_in (("1.5" ∷ "22.25" ∷ "-3" ∷ "1000" ∷ []) ∷ ("1.234,56" ∷ "12,5" ∷ "7" ∷ []) ∷ ("0.125" ∷ "$ 1,234" ∷ "n/a" ∷ "USD -2.5" ∷ []) ∷ [])
    ≡ Some (1 ∷ 0 ∷ 3 ∷ 3 ∷ []) ∷ Some (0 ∷ 1 ∷ 3 ∷ []) ∷ Some (0 ∷ 4 ∷ 0 ∷ 2 ∷ []) ∷ []
unfolding chars lib.Utf8.encode ucd_category is_neutral is_number has_indian_groups
below_each_other = refl

-- no mark is decided; both are; one field isn't read with it; or a unit, a parenthesis, an exponent or a point is last
pub as_they_are : map spaces_in (("1,234" ∷ "12" ∷ []) ∷ ("1,5" ∷ "1.5" ∷ []) ∷ ("1.234.567" ∷ "1.5" ∷ []) ∷ ("1.5" ∷ "7%" ∷ []) ∷ ("1.5" ∷ "(2)" ∷ []) ∷ ("1.5" ∷ "1e5" ∷ []) ∷ ("1.5" ∷ "2." ∷ []) ∷ ("1.5" ∷ "2 " ∷ []) ∷ ("1.5" ∷ "x" ∷ []) ∷ [])
    ≡ None ∷ None ∷ None ∷ None ∷ None ∷ None ∷ None ∷ None ∷ None ∷ []
unfolding chars lib.Utf8.encode ucd_category is_neutral is_number has_indian_groups
as_they_are = refl

-- ---- the law

-- a space at the front isn't one at the end
-- false: csv_tables::laws::decimal_marks_are_lined_up
space_in_front : ¬ (HasTrailingSpaces (codes "7") (codes " 7"))
space_in_front (n, same) = let is : ◌≡◌ {A = ℕ} 0x20 0x37 = cc same in omega (arith, is)

-- no spaces align a fraction that is longer than the longest one
-- false: csv_tables::laws::decimal_marks_are_lined_up
longer_fraction : ¬ ((is_neutral (codes "1.234") ≡ true) ⊎ (fraction_len (halves 0x2E (digits_in (codes "1.234"))) + trailing_spaces (record { mark = Point; longest = 2 }) (codes "1.234") ≡ 2))
unfolding chars lib.Utf8.encode ucd_category is_neutral is_number has_indian_groups
longer_fraction (inl neutral) = absurd (cc neutral)
longer_fraction (inr long) = absurd (omega (arith, long))
