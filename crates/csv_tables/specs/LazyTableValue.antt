-- Private: a table of records whose rows are made only when they are drawn.
-- Source: this library's own.
use Rattle.comfy_table.specs.TableValue.{TableValue}
use Rattle.csv_tables.specs.declared.rows.RecordRows.{RecordRows}

-- a table of records, and the source of its rows
pub record LazyTableValue : Type 0 where
  pub table : TableValue
  pub rows : RecordRows
