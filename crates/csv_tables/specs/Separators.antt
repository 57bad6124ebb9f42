-- Private: a table, with lines between its rows or without them.
-- Source: this library's own.
use Rattle.std.specs.Prelude.{◌≡◌, Bool, false}
use Rattle.comfy_table.specs.TableValue.{TableValue}
use Rattle.csv_tables.specs.Drawn.{HasSeparators, HasTallRow, separated_table}
use Rattle.csv_tables.specs.declared.options.RowSeparators.{RowSeparators}

pub record AreRowsSeparated (wanted : RowSeparators) (before after : TableValue) : Type 0 where
  pub has_separators : Bool
  pub separators : HasSeparators wanted (separated_table false before) has_separators
  pub table : after ≡ separated_table has_separators before

pub record AreTallRowsSeparated (before after : TableValue) : Type 0 where
  pub has_tall : Bool
  pub tall : HasTallRow (separated_table false before) has_tall
  pub table : after ≡ separated_table has_tall before
