-- Tables with widths for their columns, and their parts: some of the rows, drawn at the widths of
-- the whole table.
-- Source: this library's own.
use Rattle.std.specs.Prelude.{◌≡◌, ◌≤◌, ℕ, List, All, Contains, drop, length, take}
use Rattle.comfy_parts.specs.CellValue.{ColumnInfo}
use Rattle.comfy_parts.specs.Text.{Text}
use Rattle.comfy_table.specs.Drawing.{drawing_of_infos, infos_of, terminated_text_of}
use Rattle.comfy_table.specs.Headline.{IsTableDrawing}
use Rattle.comfy_table.specs.Laws.{unstyled}
use Rattle.comfy_table.specs.TableValue.{TableValue, with_other_rows}

-- a table, with the widths and settings of its columns
pub record ArrangedValue : Type 0 where
  pub table : TableValue
  pub infos : List ColumnInfo

-- the widths are those of the table, and its drawing over them keeps the promises of every drawing
pub record IsArrangedTable (table : TableValue) (arranged : ArrangedValue) : Type 0 where
  pub of_table : arranged.table ≡ table
  pub headline : IsTableDrawing table (drawing_of_infos table arranged.infos)
  pub infos : arranged.infos ≡ infos_of table headline.widths

-- the table with only `count` of its rows, starting at position `first`; rows after the last one
-- are left out
abbrev pub with_rows_alone : ℕ → ℕ → TableValue → TableValue
with_rows_alone first count table = with_other_rows (take count (drop first table.rows)) table

-- a part: the lines of some rows, with header and borders, at the widths of the whole table
abbrev pub part_lines : ArrangedValue → ℕ → ℕ → List Text
part_lines arranged first count =
    drawing_of_infos (with_rows_alone first count arranged.table) arranged.infos

-- a part as it is printed: each line followed by a line feed
abbrev pub part_text : ArrangedValue → ℕ → ℕ → Text
part_text arranged first count = terminated_text_of (part_lines arranged first count)

-- each line of a part is a line of the table
abbrev pub PartHasLinesOfTable : TableValue → List ColumnInfo → ℕ → ℕ → Type 0
PartHasLinesOfTable table infos first count =
    All (Contains (drawing_of_infos table infos))
    (drawing_of_infos (with_rows_alone first count table) infos)

-- a part of the table without styling is the part without styling
abbrev pub PartIsUnstyled : TableValue → ℕ → ℕ → Type 0
PartIsUnstyled table first count =
    unstyled (with_rows_alone first count table) ≡ with_rows_alone first count (unstyled table)

-- the part with all rows is the whole table
abbrev pub AllRowsAreTheTable : TableValue → ℕ → Type 0
AllRowsAreTheTable table count = length table.rows ≤ count → with_rows_alone 0 count table ≡ table
