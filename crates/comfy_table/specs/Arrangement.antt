-- The content widths of all columns of a table.
-- Source: arrange_content of comfy-table 8.0.1.
use Rattle.std.specs.Prelude.{Bool, List, None, Option, false, filter, length, map, max, slice_index, true, ℕ, ◌-◌, ◌≡◌}
use Rattle.std.specs.List.{enumerate_from}
use Rattle.std.specs.Prelude.{MatchOption}
use Rattle.comfy_parts.specs.CellValue.{ColumnInfo, ColumnValue, is_hidden_column}
use Rattle.comfy_parts.specs.Text.{Text}
use Rattle.comfy_parts.specs.declared.style.table.ContentArrangement.{ContentArrangement}
use Rattle.comfy_parts.specs.declared.style.table.ContentArrangement.TheVariants.{Disabled, DynamicFullWidth}
use Rattle.comfy_table.specs.Drawing.{drawing, infos_of}
use Rattle.comfy_table.specs.Dynamic.{IsDynamicLayout}
use Rattle.comfy_table.specs.Frame.{border_count}
use Rattle.comfy_table.specs.TableValue.{TableValue, table_width, shown_columns, column_content_width}
use Rattle.comfy_table.specs.Widths.{disabled_width, shown_needs, shown_count}

-- the width that a dynamic arrangement keeps to; `None` under `Disabled`, or if no width is known
abbrev pub width_kept : ContentArrangement → Option ℕ → Option ℕ
width_kept Disabled width = None
width_kept _ width = width

-- room that no column needs is spread over all columns
abbrev pub is_full_width : ContentArrangement → Bool
is_full_width DynamicFullWidth = true
is_full_width _ = false

-- the table's width less the border characters of a line
abbrev pub room_beside_borders : TableValue → ℕ → ℕ
room_beside_borders table w = w - border_count table.style (shown_count table)

-- the hidden columns, each with its position
abbrev pub hidden_columns : TableValue → List (ℕ × ColumnValue)
hidden_columns table =
    filter (λ (p : ℕ × ColumnValue). is_hidden_column p.1) (enumerate_from 0 table.columns)

-- the widths at the positions of these columns
abbrev pub widths_at : List ℕ → List (ℕ × ColumnValue) → List ℕ
widths_at widths columns = map (λ (p : ℕ × ColumnValue). slice_index widths p.0) columns

-- the content widths of the shown columns: each from its own content and constraint if the table
-- keeps to no width, and otherwise dynamic widths
abbrev pub AreShownWidths : TableValue → List ℕ → Type 0
AreShownWidths table widths =
    MatchOption (width_kept table.arrangement (table_width table))
    (widths ≡ map (disabled_width table) (shown_columns table))
    (λ w. IsDynamicLayout (room_beside_borders table w) (shown_needs table)
    (is_full_width table.arrangement) widths)

-- one content width for each column, in list order; a hidden column has its content's width
pub record IsArranged (table : TableValue) (widths : List ℕ) : Type 0 where
  pub one_for_each : length widths ≡ length table.columns
  pub hidden_widths : widths_at widths (hidden_columns table)
      ≡ map (λ (p : ℕ × ColumnValue). max 1 (column_content_width table p.0)) (hidden_columns table)
  pub shown_widths : AreShownWidths table (widths_at widths (shown_columns table))

-- these are the columns with their widths and settings, in list order
abbrev pub AreInfosOf : TableValue → List ColumnInfo → Type 0
AreInfosOf table infos =
    (widths : List ℕ) × IsArranged table widths × (infos ≡ infos_of table widths)

-- the lines are the drawing of the table over its own widths
abbrev pub IsDrawingOf : TableValue → List Text → Type 0
IsDrawingOf table lines =
    (widths : List ℕ) × IsArranged table widths × (lines ≡ drawing table widths)
