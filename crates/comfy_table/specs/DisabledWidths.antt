-- Private: the widths if no table width is kept, column by column.
-- Source: arrangement::disabled of comfy-table 8.0.1.
use Rattle.std.specs.Prelude.{ℕ, List, map, max, if◌then◌else◌}
use Rattle.std.specs.List.{enumerate_from}
use Rattle.comfy_parts.specs.CellValue.{ColumnValue, is_hidden_column}
use Rattle.comfy_table.specs.TableValue.{TableValue, column_content_width}
use Rattle.comfy_table.specs.Widths.{disabled_width}

-- the width of the column at a position; a hidden column gets its content's width
abbrev pub width_by_content : TableValue → ℕ × ColumnValue → ℕ
width_by_content table p =
    if is_hidden_column p.1 then max 1 (column_content_width table p.0) else disabled_width table p

-- the widths of all columns, in the order of the table's columns
abbrev pub widths_by_content : TableValue → List ℕ
widths_by_content table = map (width_by_content table) (enumerate_from 0 table.columns)
