-- Tables with widths for their columns, whose rows may be kept outside of the table.
-- Source: this library's own.
use Rattle.std.specs.Prelude.{List}
use Rattle.comfy_parts.specs.CellValue.{ColumnInfo}

-- the source of a table, with the widths and settings of its columns
pub record ArrangedContents (C : Type 0) : Type 0 where
  pub contents : C
  pub infos : List ColumnInfo
