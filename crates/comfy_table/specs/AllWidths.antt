-- Private: the widths of all columns, made from the widths of the shown columns.
-- Source: this library's own.
use Rattle.std.specs.Prelude.{ℕ, List, [], ◌∷◌, drop, max, slice_index_or, if◌then◌else◌}
use Rattle.std.specs.List.{enumerate_from}
use Rattle.comfy_parts.specs.CellValue.{ColumnValue, is_hidden_column}
use Rattle.comfy_table.specs.TableValue.{TableValue, column_content_width}

-- the shown columns get these widths in list order, and 1 if there are no more widths; a hidden
-- column gets its content's width
abbrev pub given_in_order : TableValue → List ℕ → List (ℕ × ColumnValue) → List ℕ
given_in_order table widths [] = []
given_in_order table widths (p ∷ columns) =
    if is_hidden_column p.1
    then max 1 (column_content_width table p.0) ∷ given_in_order table widths columns
    else slice_index_or widths 0 1 ∷ given_in_order table (drop 1 widths) columns

-- the widths of all columns of a table, in list order
abbrev pub all_widths : TableValue → List ℕ → List ℕ
all_widths table widths = given_in_order table widths (enumerate_from 0 table.columns)
