-- Decimal marks of a column of numbers, and the spaces that align them.
-- Source: this library's own.
use Rattle.std.specs.Prelude.{ℕ, Bool, true, ◌+◌, ◌-◌, ◌==◌, ◌&&◌, ◌||◌, not, List, length, map, max, fold, Option, Some, None, chars, if◌then◌else◌}
use Rattle.std.specs.Char.{is_ascii_digit}
use Rattle.std.specs.List.{list_all, list_any}
use Rattle.comfy_parts.specs.Text.{Text}
use Rattle.csv_records.specs.Number.{begins, ends, figure_of, halves, has_groups, is_decimal, is_fraction, is_neutral, is_number, is_written, trimmed}
use Rattle.csv_records.specs.declared.decimals.ColumnMarks.{ColumnMarks}
use Rattle.csv_records.specs.declared.decimals.DecimalMark.{DecimalMark}
use Rattle.csv_records.specs.declared.decimals.DecimalMark.TheVariants.{Comma, Point}
use Rattle.csv_records.specs.declared.decimals.MarkSummary.{MarkSummary}
use Rattle.csv_records.specs.declared.decimals.Points.{Points}
use Rattle.csv_records.specs.declared.field_number.FieldNumber.{FieldNumber}
use Rattle.csv_records.specs.declared.field_number.Fraction.{Fraction}

-- ---- one field

abbrev pub byte_of : DecimalMark → ℕ
byte_of Point = 0x2E
byte_of Comma = 0x2C

-- the digits of a field, with the marks between them
abbrev pub digits_in : Text → Text
digits_in field = figure_of (trimmed field)

-- a number that ends with a digit and has no exponent, or a neutral field
abbrev pub is_plain : Text → Bool
is_plain field =
    is_neutral field
    || ((is_number field && ends is_ascii_digit (chars field)) && is_decimal (digits_in field))

-- true if digits may be a whole number in groups, as `1,234`, but not `0.125`
abbrev pub may_be_whole : Text → Bool
may_be_whole digits = has_groups digits && not (begins (λ b. b == 0x30) digits)

-- true if digits can only be read with a fraction after this mark, as `1,5` and `1.234,56`
abbrev pub decides : DecimalMark → Text → Bool
decides mark digits = is_fraction (halves (byte_of mark) digits) && not (may_be_whole digits)

-- true if digits lack the mark, or have a fraction after it. With a point, `1,234` and `1.5` are
-- read, and `1.234.567` isn't.
abbrev pub is_readable : Option (Text × Text) → Bool
is_readable None = true
is_readable (Some parts) = is_fraction (Some parts)

-- the length of a mark and the digits of the fraction after it, or 0 without a mark
abbrev pub fraction_len : Option (Text × Text) → ℕ
fraction_len None = 0
fraction_len (Some (whole, rest)) = 1 + length rest

-- the length of a fraction, and true if its digits are read with the mark
abbrev pub fraction_of : Option (Text × Text) → Fraction
fraction_of parts = record { len = fraction_len parts; is_readable = is_readable parts }

-- the result of reading a field as a number; `digits` are its digits with the marks between them
abbrev pub number_with : Bool → Bool → Text → FieldNumber
number_with is_number is_bare digits =
    record {
      is_number = is_number;
      is_decimal = is_number && is_decimal digits;
      is_bare = is_bare;
      point = fraction_of (halves 0x2E digits);
      comma = fraction_of (halves 0x2C digits);
    }

abbrev pub number_of : Text → FieldNumber
number_of field = number_with (is_number field) (list_all is_written field) (digits_in field)

-- ---- a column

-- a summary of the fields of a column for one mark
abbrev pub use_of : DecimalMark → List Text → MarkSummary
use_of mark fields =
    record {
      is_needed = list_any (λ field. decides mark (digits_in field)) fields;
      is_readable =
          list_all (λ field. is_readable (halves (byte_of mark) (digits_in field))) fields;
      longest =
          fold max 0
          (map (λ field. fraction_len (halves (byte_of mark) (digits_in field))) fields);
    }

-- the summary for a mark after the digits of one more field
abbrev pub use_with : DecimalMark → MarkSummary → Text → MarkSummary
use_with mark this digits =
    record {
      is_needed = this.is_needed || decides mark digits;
      is_readable = this.is_readable && is_readable (halves (byte_of mark) digits);
      longest = max this.longest (fraction_len (halves (byte_of mark) digits));
    }

abbrev pub marks_of : List Text → ColumnMarks
marks_of fields =
    record {
      are_plain = list_all is_plain fields;
      point = use_of Point fields;
      comma = use_of Comma fields;
    }

-- true if some field decides for this mark, all fields are read with it, and no field decides for
-- the other mark
abbrev pub has_mark : MarkSummary → MarkSummary → Bool
has_mark this other = (this.is_needed && this.is_readable) && not other.is_needed

abbrev pub points_for : ColumnMarks → Option Points
points_for marks =
    if marks.are_plain && has_mark marks.point marks.comma
    then Some (record { mark = Point; longest = marks.point.longest })
    else if marks.are_plain && has_mark marks.comma marks.point
    then Some (record { mark = Comma; longest = marks.comma.longest })
    else None

abbrev pub points_of : List Text → Option Points
points_of fields = points_for (marks_of fields)

-- the number of spaces after a field that put its mark below those of the other fields of its
-- column
abbrev pub trailing_spaces : Points → Text → ℕ
trailing_spaces points field =
    if is_neutral field
    then 0
    else points.longest - fraction_len (halves (byte_of points.mark) (digits_in field))
