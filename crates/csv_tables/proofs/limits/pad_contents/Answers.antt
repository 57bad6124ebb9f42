use Rattle.std.proofs.Common.{ap, length, sym, ◌∙◌}
use Rattle.comfy_table.specs.TableValue.{TableValue, column_content_width, with_other_rows}
use Rattle.csv_tables.proofs.LimitLemmas.{padded-length}
use Rattle.csv_tables.specs.Contents.{rows_from}
use Rattle.csv_tables.proofs.limits.pad_contents.Goals as goal

pub invariant_of-contents : goal.invariant_of-contents
invariant_of-contents c =
    let rows = c.contents.inside.rows in
    let is = c.pad_columns.ensures in
    let had = c.contents.invariant in (
      ap (λ (t : TableValue). t.rows) is ∙ had.0,
      had.1 ∙ sym (padded-length c.args.limits.now c.contents.inside.table.columns) ∙ sym (ap (λ (t : TableValue). length t.columns) is),
      λ i. had.2 i ∙ sym (ap (λ (t : TableValue). column_content_width (with_other_rows (rows_from rows 0 rows.selected.rows) t) i) is),
      had.3,
    )
