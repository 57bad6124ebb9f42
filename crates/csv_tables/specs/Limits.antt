-- Columns with their own paddings, least widths and greatest widths. Widths are counted in terminal
-- columns.
-- Source: this library's own.
use Rattle.std.specs.Prelude.{ℕ, zero, suc, ◌+◌, ◌==◌, Bool, ◌||◌, ◌&&◌, true, false, not, List, [], ◌∷◌, Option, Some, None, length, map, max, min, nat_le, nat_lt, option_map, slice_index, unwrap_or, if◌then◌else◌}
use Rattle.std.specs.List.{list_all, range_with_len, slice_index_or, sum}
use Rattle.comfy_parts.specs.CellValue.{ColumnValue}
use Rattle.comfy_parts.specs.declared.style.column.ColumnConstraint.{ColumnConstraint}
use Rattle.comfy_parts.specs.declared.style.column.ColumnConstraint.TheVariants.{Absolute, Boundaries, LowerBoundary}
use Rattle.comfy_parts.specs.declared.style.column.Width.TheVariants.{Fixed}
use Rattle.comfy_table.specs.Frame.{border_count}
use Rattle.comfy_table.specs.Lines.{longest_line_at}
use Rattle.comfy_table.specs.TableValue.{TableValue, column_content_width, constrained, max_content_widths}
use Rattle.csv_tables.specs.NoWrap.{Wanted, by_columns, greatest_level, has_room, lower_bound, reserved_width, shared_width, width_at_level, with_min_widths, with_most_words}
use Rattle.csv_tables.specs.declared.limits.ColumnLimits.{ColumnLimits}
use Rattle.csv_tables.specs.declared.settings.ColumnSettings.{ColumnSettings}

-- a column without settings
abbrev pub unset : ColumnSettings
unset = record { padding = (1, 1); least = None; greatest = None; is_centered = false }

-- the settings of the column at a position
abbrev pub settings_at : List ColumnSettings → ℕ → ColumnSettings
settings_at settings position = slice_index_or settings position unset

-- the lower bound of a column's greatest width: its least width, but at least 1
abbrev pub least_greatest : ColumnSettings → ℕ
least_greatest settings = max 1 (unwrap_or settings.least 0)

-- the limits of a column's content width
abbrev pub limits_of : ColumnSettings → Bool → ColumnLimits
limits_of settings has_points =
    record {
      padding = settings.padding;
      least = unwrap_or settings.least 0;
      greatest = option_map (max (least_greatest settings)) settings.greatest;
      has_points = has_points;
    }

-- the limits of a column without settings
abbrev pub no_limits : ColumnLimits
no_limits = limits_of unset false

-- the limits of the column at a place
abbrev pub limits_at : List ColumnLimits → ℕ → ColumnLimits
limits_at limits i = slice_index_or limits i no_limits

-- ---- paddings

-- columns with their paddings
abbrev pub padded : List ColumnLimits → List ColumnValue → List ColumnValue
padded [] columns = columns
padded (own ∷ limits) [] = []
padded (own ∷ limits) (column ∷ columns) =
    record column { padding = own.padding } ∷ padded limits columns

-- the columns, with this padding for the column at a place
abbrev pub padded_at : ℕ → ℕ × ℕ → List ColumnValue → List ColumnValue
padded_at i padding [] = []
padded_at zero padding (column ∷ columns) = record column { padding = padding } ∷ columns
padded_at (suc i) padding (column ∷ columns) = column ∷ padded_at i padding columns

abbrev pub with_paddings : List ColumnLimits → TableValue → TableValue
with_paddings limits table = record table { columns = padded limits table.columns }

-- ---- widths

-- a content width, at most the greatest width and at least the least width
abbrev pub bounded : ColumnLimits → ℕ → ℕ
bounded limits content =
    max limits.least (unwrap_or (option_map (min content) limits.greatest) content)

-- the sum of both paddings
abbrev pub both_paddings : ColumnLimits → ℕ
both_paddings limits = limits.padding.0 + limits.padding.1

-- the width that a column takes for a content, with its paddings
abbrev pub taken : ColumnLimits → ℕ → ℕ
taken limits content = both_paddings limits + bounded limits content

-- the width of a table of rows, whose columns get content widths up to a level
abbrev pub bounded_width : List ColumnLimits → ℕ → Wanted → TableValue → ℕ
bounded_width [] level wanted table = shared_width level wanted table
bounded_width (own ∷ limits) level wanted table =
    border_count table.style (length table.columns)
    + sum (by_columns (λ (i : ℕ).
    taken (limits_at (own ∷ limits) i) (width_at_level level wanted table i)) table)

-- true if the width has room for the least width of the table
abbrev pub has_room_within : List ColumnLimits → Option ℕ → Wanted → TableValue → Bool
has_room_within [] width wanted table = has_room width wanted table
has_room_within (own ∷ limits) None wanted table = true
has_room_within (own ∷ limits) (Some width) wanted table =
    nat_le (bounded_width (own ∷ limits) 8 wanted table) width

-- the greatest level for which the width has room
abbrev pub level_within : List ColumnLimits → ℕ → Wanted → TableValue → ℕ
level_within limits width wanted table =
    greatest_level (λ level. nat_le (bounded_width limits level wanted table) width) width

-- the words that are kept whole in a width
abbrev pub most_within : List ColumnLimits → ℕ → Wanted → TableValue → Wanted
most_within limits width wanted table =
    with_most_words (λ (level : ℕ) (own : Wanted).
    nat_le (bounded_width limits level own table) width) width wanted

-- the content widths that columns get beforehand to stay whole, if the width has room
abbrev pub given_with : List ColumnLimits → ℕ → Wanted → TableValue → List ℕ
given_with limits width wanted table =
    by_columns (reserved_width (level_within limits width wanted table) wanted table) table

-- The content widths that columns get beforehand, if as many words as possible stay whole. None if
-- the width has no room. Without a width, these are the content widths of the columns.
abbrev pub given_within : List ColumnLimits → Option ℕ → Wanted → TableValue → List ℕ
given_within limits None wanted table = max_content_widths table
given_within limits (Some width) wanted table =
    if has_room_within limits (Some width) wanted table
    then given_with limits width (most_within limits width wanted table) table
    else []

-- the width of a column with this content width and its paddings, at most 65535
abbrev pub with_both_paddings : ColumnLimits → ℕ → ℕ
with_both_paddings limits width = min 65535 (width + both_paddings limits)

-- the lower boundary of the width of a column that is given this content width, or 0 for none
abbrev pub lower_limit : ColumnLimits → ℕ → ℕ
lower_limit limits given =
    if nat_lt 0 (bounded limits given) then with_both_paddings limits (bounded limits given) else 0

-- the constraint for one width, or for a range of widths
abbrev pub between : ℕ → ℕ → ColumnConstraint
between lower upper =
    if lower == upper then Absolute (Fixed upper) else Boundaries (Fixed lower) (Fixed upper)

-- the constraint of a column that is given this content width
abbrev pub limit_for : ColumnLimits → ℕ → ColumnConstraint
limit_for limits given =
    unwrap_or
    (option_map (λ (greatest : ℕ).
    between (lower_limit limits given) (with_both_paddings limits greatest)) limits.greatest)
    (LowerBoundary (Fixed (lower_limit limits given)))

-- the constraints of columns
abbrev pub limits_for : List ColumnLimits → List ℕ → List ColumnConstraint
limits_for [] given = map lower_bound given
limits_for (own ∷ limits) given =
    map (λ (i : ℕ). limit_for (limits_at (own ∷ limits) i) (slice_index given i))
    (range_with_len 0 (length (own ∷ limits)))

-- a table with the constraints of its columns
abbrev pub with_limits : List ColumnLimits → List ℕ → TableValue → TableValue
with_limits limits given table =
    record table { columns = constrained (limits_for limits given) table.columns }

-- a table with the constraints of columns that are given no content width; without limits no column
-- is constrained
abbrev pub with_own_limits : List ColumnLimits → TableValue → TableValue
with_own_limits [] table = table
with_own_limits (own ∷ limits) table = with_limits (own ∷ limits) [] table

-- a table with the range of widths of each column
abbrev pub with_widths : List ColumnLimits → Option ℕ → Wanted → TableValue → TableValue
with_widths [] width wanted table = with_min_widths width wanted table
with_widths (own ∷ limits) width wanted table =
    with_limits (own ∷ limits) (given_within (own ∷ limits) width wanted table) table

-- ---- decimal points

-- true if texts of this width are at most as wide as a greatest width
abbrev pub is_within : Option ℕ → ℕ → Bool
is_within None content = true
is_within (Some greatest) content = nat_le content greatest

-- true unless the column has decimal points to align and its texts would be wrapped
abbrev pub holds_points : List ColumnLimits → TableValue → ℕ → Bool
holds_points limits table i =
    not (limits_at limits i).has_points
    || is_within (limits_at limits i).greatest (column_content_width table i)

-- true if `holds_points` is true for each column
abbrev pub hold_points : List ColumnLimits → TableValue → Bool
hold_points limits table = list_all (holds_points limits table) (range_with_len 0 (length limits))

-- ---- tables

-- the greatest width of the column at a place, at most the width of its longest line
abbrev pub reached_greatest : TableValue → ℕ → ColumnLimits → ℕ → ℕ
reached_greatest table i limits greatest =
    max (max 1 limits.least) (min 65535 (longest_line_at table i greatest))

-- the limits with such a greatest width: a column isn't wider than its longest line
abbrev pub reached : TableValue → ℕ → ColumnLimits → ColumnLimits
reached table i limits =
    record limits { greatest = option_map (reached_greatest table i limits) limits.greatest }

-- the limits of all columns, each with such a greatest width
abbrev pub reached_limits : TableValue → List ColumnLimits → List ColumnLimits
reached_limits table limits =
    map (λ (i : ℕ). reached table i (limits_at limits i)) (range_with_len 0 (length limits))

-- a table of rows with the paddings and the constraints of its columns
abbrev pub limited_by : List ColumnLimits → Option ℕ → Wanted → TableValue → TableValue
limited_by limits width wanted table =
    with_widths (reached_limits (with_paddings limits table) limits) width wanted
    (with_paddings limits table)

-- true if there is room for a table of rows with these limits: for the spaces that align decimal
-- points, and for its width
abbrev pub has_room_in : List ColumnLimits → Option ℕ → Bool → Wanted → TableValue → Bool
has_room_in limits width is_aligned wanted table =
    (hold_points limits (with_paddings limits table) || not is_aligned)
    && has_room_within (reached_limits (with_paddings limits table) limits) width wanted
    (with_paddings limits table)
