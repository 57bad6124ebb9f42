-- The columns that are drawn, and the alignment of their cells.
-- Source: this library's own.
use Rattle.std.specs.Prelude.{ℕ, Bool, ◌+◌, ◌==◌, List, Option, Some, None, decimal, fold, length, map, max, min, unwrap_or, if◌then◌else◌}
use Rattle.std.specs.List.{list_any}
use Rattle.comfy_parts.specs.Text.{Text}
use Rattle.comfy_parts.specs.declared.style.cell.CellAlignment.{CellAlignment}
use Rattle.comfy_parts.specs.declared.style.cell.CellAlignment.TheVariants.{Left, Right}
use Rattle.csv.specs.Records.{field_at}
use Rattle.csv_records.specs.declared.decimals.ColumnMarks.{ColumnMarks}
use Rattle.csv_records.specs.declared.decimals.Points.{Points}
use Rattle.csv_tables.specs.Decimals.{points_in}
use Rattle.csv_tables.specs.Kinds.{is_number_kind}
use Rattle.csv_tables.specs.Markdown.{is_right}
use Rattle.csv_tables.specs.Summaries.{column_fields, summary_of}
use Rattle.csv_tables.specs.declared.summary.ColumnSummary.{ColumnSummary}
use Rattle.csv_records.specs.Cleaning.{visible_of}
use Rattle.csv_records.specs.Longer.{filled_len}
use Rattle.csv_tables.specs.declared.options.ColumnPlan.{ColumnPlan}

-- positions of columns, counted from 0: the columns that are drawn, in their order, the
-- right-aligned columns, and the left-aligned ones
pub record ColumnsValue : Type 0 where
  pub drawn : List ℕ
  pub right : List ℕ
  pub left : List ℕ

-- the greatest number of fields among the names and the rows
abbrev pub count_of : List Text → List (List Text) → ℕ
count_of names rows =
    fold (λ (n : ℕ) (fields : List Text). max n (length fields)) (length names) rows

-- the number of columns up to the last that has a name or a field that isn't empty, but at least
-- one, if there are columns
abbrev pub filled_count : List Text → List (List Text) → ℕ
filled_count names rows =
    min (count_of names rows)
    (max 1
    (fold (λ (n : ℕ) (fields : List Text). max n (filled_len fields)) (filled_len names) rows))

-- the visible text of each field of a record: without its SGR sequences, if these are kept
abbrev pub seen : Bool → List Text → List Text
seen keeps_sequences fields = map (visible_of keeps_sequences) fields

-- the alignment of a column: the one that was chosen for it, or else right if its fields are
-- numbers
abbrev pub alignment_for : List ℕ → List ℕ → Bool → ℕ → Option CellAlignment
alignment_for right left has_numbers position =
    if list_any (λ p. p == position) right then Some Right
    else if list_any (λ p. p == position) left then Some Left
    else if has_numbers then Some Right
    else None

-- the decimal mark of a column, if the column is right-aligned and its fields have one
abbrev pub points_at : Option CellAlignment → Option ColumnMarks → Option Points
points_at alignment marks = if is_right alignment then points_in marks else None

-- the plan of the column at a position, whose fields have this summary
abbrev pub column_at : ColumnsValue → ColumnSummary → ℕ → ColumnPlan
column_at columns summary position =
    record {
      position = position;
      alignment =
          alignment_for columns.right columns.left (is_number_kind summary.kind) position;
      points =
          points_at
          (alignment_for columns.right columns.left (is_number_kind summary.kind) position)
          summary.marks;
      is_nowrap = summary.are_nowrap;
    }

-- the plans of the columns that are drawn; the rows have their visible text
abbrev pub drawn_columns : ColumnsValue → List (List Text) → List ColumnPlan
drawn_columns columns rows =
    map (λ (p : ℕ). column_at columns (summary_of (column_fields rows p)) p) columns.drawn

-- the name of the column at a position, or the column's number, counted from 1, if it has no name
abbrev pub name_or_number : Option Text → ℕ → Text
name_or_number name position = unwrap_or name (decimal (position + 1))

-- the name of the column at a position, or its number
abbrev pub name_at : List Text → ℕ → Text
name_at names position = name_or_number (field_at names position) position
