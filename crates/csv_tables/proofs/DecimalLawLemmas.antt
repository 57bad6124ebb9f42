-- Decimal marks are aligned, and only spaces are added for that.
use Rattle.std.proofs.Common.{◌≡◌, ◌≤◌, ◌+◌, ◌-◌, ◌&&◌, ◌⊎◌, inl, inr, ℕ, Bool, true, false, List, [], ◌∷◌, Option, Some, None, append-nil, fold, map, max, refl, sym, subst, arith}
use Rattle.std.specs.List.{All}
use Rattle.std.specs.Prelude.{if◌then◌else◌}
use Rattle.std.proofs.lemmas.List.Elements.{All-cons, All-nil, All-weaker}
use Rattle.comfy_parts.proofs.CallerLemmas.{All-of_map}
use Rattle.comfy_parts.specs.Text.{Text}
use Rattle.csv_records.specs.Cleaning.{visible_of}
use Rattle.csv_records.specs.Decimals.{byte_of, digits_in, fraction_len, has_mark, marks_of, points_of, trailing_spaces, use_of}
use Rattle.csv_records.specs.Number.{halves, is_neutral}
use Rattle.csv_records.specs.declared.decimals.ColumnMarks.{ColumnMarks}
use Rattle.csv_records.specs.declared.decimals.DecimalMark.{DecimalMark}
use Rattle.csv_records.specs.declared.decimals.DecimalMark.TheVariants.{Comma, Point}
use Rattle.csv_records.specs.declared.decimals.Points.{Points}
use Rattle.csv_tables.specs.Decimals.{spaced}
use Rattle.csv_tables.specs.Fields.{field_or_blank}
use Rattle.csv_tables.specs.declared.options.ColumnPlan.{ColumnPlan}
use Rattle.csv_tables.specs.Laws.{HasTrailingSpaces, MarksAreLinedUp, SpacesAloneAreAdded}
use Rattle.csv_tables.specs.declared.options.Look.{Look}

-- ---- fractions

least : (xs : List ℕ) (start : ℕ) → start ≤ fold max start xs
least [] start = omega arith
least (x ∷ xs) start = let more = least xs (max start x) in omega (arith, more)

-- each number is at most the greatest one
each_at_most : (xs : List ℕ) (start : ℕ) → All (λ x. x ≤ fold max start xs) xs
each_at_most [] start = All-nil (λ x. x ≤ start)
each_at_most (x ∷ xs) start =
    let more = least xs (max start x) in
    All-cons (λ y. y ≤ fold max (max start x) xs) x xs (omega (arith, more)) (each_at_most xs (max start x))

abbrev length_after : DecimalMark → Text → ℕ
length_after mark field = fraction_len (halves (byte_of mark) (digits_in field))

-- each fraction is at most as long as the longest one
fractions : (mark : DecimalMark) (fields : List Text) → All (λ field. length_after mark field ≤ (use_of mark fields).longest) fields
fractions mark fields = All-of_map (λ n. n ≤ (use_of mark fields).longest) (length_after mark) fields (each_at_most (map (length_after mark) fields) 0)

fits : (fields : List Text) (points : Points) → points_of fields ≡ Some points → All (λ field. length_after points.mark field ≤ points.longest) fields
fits fields points is = by_tests (marks.are_plain && has_mark marks.point marks.comma) (marks.are_plain && has_mark marks.comma marks.point) is
  where
    marks : ColumnMarks
    marks = marks_of fields

    Fit : Points → Type 0
    Fit p = All (λ field. length_after p.mark field ≤ p.longest) fields

    by_tests : (a b : Bool) → (if a then Some (record { mark = Point; longest = marks.point.longest }) else if b then Some (record { mark = Comma; longest = marks.comma.longest }) else None) ≡ Some points → Fit points
    by_tests true b is = let same : record { mark = Point; longest = marks.point.longest } ≡ points = cc is in subst Fit same (fractions Point fields)
    by_tests false true is = let same : record { mark = Comma; longest = marks.comma.longest } ≡ points = cc is in subst Fit same (fractions Comma fields)
    by_tests false false is = absurd (cc is)

pub marks_line_up : (fields : List Text) → MarksAreLinedUp fields
marks_line_up fields points is =
    All-weaker (λ field. length_after points.mark field ≤ points.longest) (λ field. (is_neutral field ≡ true) ⊎ (length_after points.mark field + trailing_spaces points field ≡ points.longest)) equal fields (fits fields points is)
  where
    equal : (field : Text) → length_after points.mark field ≤ points.longest → (is_neutral field ≡ true) ⊎ (length_after points.mark field + trailing_spaces points field ≡ points.longest)
    equal field fit = by_neutral (is_neutral field)
      where
        by_neutral : (b : Bool) → (b ≡ true) ⊎ (length_after points.mark field + (if b then 0 else points.longest - length_after points.mark field) ≡ points.longest)
        by_neutral true = inl refl
        by_neutral false = inr (omega (arith, fit))

-- ---- spaces

with_spaces : (keeps : Bool) (mark : Option Points) (field : Text) → HasTrailingSpaces field (spaced keeps mark field)
with_spaces keeps None field = (0, sym (append-nil field))
with_spaces keeps (Some points) field = (trailing_spaces points (visible_of keeps field), refl)

pub spaces_alone : (look : Look) (is_aligned : Bool) (column : ColumnPlan) (fields : List Text) → SpacesAloneAreAdded look is_aligned column fields
spaces_alone look is_aligned column fields = with_spaces look.has_sequences (if is_aligned then column.points else None) (field_or_blank fields column.position)
