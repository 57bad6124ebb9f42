-- The final value of a table after a call that returns a mutable reference to the table or to a
-- part of it.
-- Source: this library's own.
use Rattle.std.specs.Prelude.{ℕ, List, Option, Result, length, slice_set}
use Rattle.std.specs.Borrow.{Fml, MutBor, Array, Lends, LendsIf, LendsIfOk, RestsIfErr, follows}
use Rattle.std.specs.List.{refill}
use Rattle.std.specs.Slice.Iter.{iter_mut_name}
use Rattle.std.specs.declared.slice.IterMut.{IterMut}
use Rattle.comfy_parts.specs.CellValue.{ColumnValue, RowValue}
use Rattle.comfy_parts.specs.contracts.column.Column as column
use Rattle.comfy_parts.specs.contracts.row.Row as row
use Rattle.comfy_parts.specs.contracts.style.table_style.TableStyle as style
use Rattle.comfy_parts.specs.declared.style.table_style.TableStyle.{TableStyle}
use Rattle.comfy_table.specs.TableValue.{TableValue, IsWithRowsBeforeOne}
use Rattle.comfy_table.specs.contracts.table.Table as table

-- if the call fails, the table is unchanged
abbrev pub TableStaysIfErr : {E : Type 0} → MutBor TableValue → Result (MutBor TableValue) E → Fml
TableStaysIfErr t r = LendsIfOk table.the_row table.the_row t r (λ x. x) t.now

-- if the call fails, the table has the first of these rows, but not all
abbrev pub TableHasFirstRowsIfErr : {E : Type 0} → List RowValue → MutBor TableValue
    → Result (MutBor TableValue) E
    → Fml
TableHasFirstRowsIfErr rows t r =
    RestsIfErr table.the_row t (λ x. x.ghost_name) r (IsWithRowsBeforeOne rows t.now)

-- the column at i has the last value that was written through the reference, and nothing else of
-- the table changes
abbrev pub LendsColumn : MutBor TableValue → ℕ → Option (MutBor ColumnValue) → Fml
LendsColumn t i r =
    LendsIf table.the_row column.the_row t r
    (λ c. record t.now { columns = slice_set t.now.columns i c }) t.now

-- the style has the last value that was written through the reference, and nothing else of the
-- table changes
abbrev pub LendsStyle : MutBor TableValue → MutBor TableStyle → Fml
LendsStyle t r = Lends table.the_row style.the_row t r (λ s. record t.now { style = s })

-- the columns have the last values that were written through the references, and nothing else of
-- the table changes
abbrev pub LendsColumns : MutBor TableValue → IterMut ColumnValue → Fml
LendsColumns t it =
    follows table.the_row (Array column.the_row 0) t.ghost_name (iter_mut_name it)
    (λ (cs : List ColumnValue). record t.now {
      columns = refill (length t.now.columns) t.now.columns cs;
    })

-- the row at i has the last value that was written through the reference, and nothing else of the
-- table changes
abbrev pub LendsRow : MutBor TableValue → ℕ → Option (MutBor RowValue) → Fml
LendsRow t i r =
    LendsIf table.the_row row.the_row t r
    (λ c. record t.now { rows = slice_set t.now.rows i c }) t.now

-- the rows have the last values that were written through the references, and nothing else of the
-- table changes
abbrev pub LendsRows : MutBor TableValue → IterMut RowValue → Fml
LendsRows t it =
    follows table.the_row (Array row.the_row 0) t.ghost_name (iter_mut_name it)
    (λ (rs : List RowValue). record t.now { rows = refill (length t.now.rows) t.now.rows rs })
