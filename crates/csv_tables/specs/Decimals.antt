-- Aligned decimal points: the spaces after the fields of a column.
-- Source: this library's own.
use Rattle.std.specs.Prelude.{ℕ, Bool, ◌&&◌, List, ◌++◌, Option, Some, None, is_some, length, nat_le, if◌then◌else◌}
use Rattle.std.specs.List.{list_all, list_any}
use Rattle.comfy_parts.specs.Text.{Text, is_printable_ascii, spaces}
use Rattle.csv_records.specs.Cleaning.{visible_of}
use Rattle.csv_records.specs.Decimals.{is_plain, marks_of, points_for, trailing_spaces}
use Rattle.csv_records.specs.declared.decimals.ColumnMarks.{ColumnMarks}
use Rattle.csv_records.specs.declared.decimals.Points.{Points}
use Rattle.csv_tables.specs.declared.options.ColumnPlan.{ColumnPlan}

-- ---- the decimal mark of a column

-- the greatest number of characters of a field whose mark is aligned, or that isn't broken over
-- lines
abbrev pub longest_kept : ℕ
longest_kept = 25

-- true for at most `longest_kept` characters of printable ASCII
abbrev pub is_narrow : Text → Bool
is_narrow field = nat_le (length field) longest_kept && is_printable_ascii field

-- the marks of fields that are all narrow, and plain numbers or neutral
abbrev pub narrow_marks : List Text → Option ColumnMarks
narrow_marks fields =
    if list_all is_narrow fields && list_all is_plain fields then Some (marks_of fields) else None

abbrev pub points_in : Option ColumnMarks → Option Points
points_in None = None
points_in (Some marks) = points_for marks

-- true if one of these columns has a decimal mark
abbrev pub has_points : List ColumnPlan → Bool
has_points columns = list_any (λ (column : ColumnPlan). is_some column.points) columns

-- ---- fields with spaces after them

-- a field, with the spaces that align the mark of its column
abbrev pub spaced : Bool → Option Points → Text → Text
spaced keeps_sequences None field = field
spaced keeps_sequences (Some points) field =
    field ++ spaces (trailing_spaces points (visible_of keeps_sequences field))
