use Rattle.std.proofs.Common.{◌≡◌, ap, arith, length, max, sym, ◌∙◌, rules}
use Rattle.comfy_parts.specs.CellValue.{columns_grown_to}
use Rattle.comfy_parts.proofs.ValueLemmas.{no_fewer_columns}
use Rattle.comfy_table.specs.TableValue.{TableValue, column_content_width, with_other_rows}
use Rattle.csv_tables.proofs.ContentLemmas.{no_rows, table_is}
use Rattle.csv_tables.specs.Contents.{headed_by, most_cells, rows_from}
use Rattle.csv_tables.proofs.lazy_table.LazyTable.new.Goals as goal

pub returns-clause-table : goal.returns-clause-table
returns-clause-table c =
    let rows = c.args.rows in
    let all = rows_from rows 0 rows.selected.rows in
    let headed : c.in_ok-table.table ≡ headed_by rows = c.in_ok-table.ensures in
    let count : c.len.result ≡ max (length c.in_ok-table.table.columns) (most_cells all) = search rules in
    ap (with_other_rows all) c.in_ok-grow_columns.ensures.ok
    ∙ ap (λ n. with_other_rows all (record c.in_ok-table.table { columns = columns_grown_to n c.in_ok-table.table.columns })) count
    ∙ ap (λ (t : TableValue). with_other_rows all (record t { columns = columns_grown_to (max (length t.columns) (most_cells all)) t.columns })) headed
    ∙ table_is rows

pub invariant_of-result : goal.invariant_of-result
invariant_of-result c =
    let rows = c.args.rows in
    let all = rows_from rows 0 rows.selected.rows in
    let headed : c.in_ok-table.table ≡ headed_by rows = c.in_ok-table.ensures in
    let is = c.in_ok-grow_columns.ensures.ok in
    let count : c.len.result ≡ length c.in_ok-widths.widths.items = search rules in
    let most = c.in_ok-widths.ensures.count in
    let grown = ap (λ (t : TableValue). length t.columns) is in
    let columns = no_fewer_columns c.len.result c.in_ok-table.table.columns in (
      ap (λ (t : TableValue). t.rows) (is) ∙ ap (λ (t : TableValue). t.rows) headed ∙ no_rows rows,
      omega (arith, count, most, grown, columns),
      λ i. c.in_ok-widths.ensures.each i ∙ sym (ap (λ (t : TableValue). column_content_width (with_other_rows all t) i) is),
      c.in_ok-widths.ensures.flat,
    )
