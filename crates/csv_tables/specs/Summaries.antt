-- The fields of columns, and a summary of each column.
-- Source: this library's own.
use Rattle.std.specs.Prelude.{ℕ, List, [], ◌≡◌}
use Rattle.std.specs.List.{filter_map, list_all, slice_index_or}
use Rattle.comfy_parts.specs.Text.{Text}
use Rattle.csv.specs.Records.{field_at}
use Rattle.csv_tables.specs.Decimals.{narrow_marks}
use Rattle.csv_tables.specs.Kinds.{column_kind}
use Rattle.csv_tables.specs.NoWrap.{is_nowrap}
use Rattle.csv_tables.specs.declared.summary.ColumnSummary.{ColumnSummary}

-- the fields of a column, of the records that have it
abbrev pub column_fields : List (List Text) → ℕ → List Text
column_fields rows position = filter_map (λ fields. field_at fields position) rows

-- the summary of the fields of a column
abbrev pub summary_of : List Text → ColumnSummary
summary_of fields =
    record {
      kind = column_kind fields;
      marks = narrow_marks fields;
      are_nowrap = list_all is_nowrap fields;
    }

-- the summaries of columns, by their positions; a column past the list has no fields
abbrev pub AreSummaries : List (List Text) → List ColumnSummary → Type 0
AreSummaries rows summaries =
    (position : ℕ) → slice_index_or summaries position (summary_of [])
    ≡ summary_of (column_fields rows position)
