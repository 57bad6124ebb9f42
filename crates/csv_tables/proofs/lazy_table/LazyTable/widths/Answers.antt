use Rattle.std.proofs.Common.{ap, ◌∙◌}
use Rattle.comfy_table.specs.TableValue.{max_content_widths, with_other_rows}
use Rattle.csv_tables.proofs.ContentLemmas.{widths_are}
use Rattle.csv_tables.specs.Contents.{rows_from}
use Rattle.csv_tables.proofs.lazy_table.LazyTable.widths.Goals as goal

pub returns : goal.returns
returns c =
    let rows = c.self.inside.rows in
    c.as_slice.ensures.value
    ∙ widths_are (with_other_rows (rows_from rows 0 rows.selected.rows) c.self.inside.table) c.self.inside.widths.items c.self.invariant.1 c.self.invariant.2
    ∙ ap (λ v. max_content_widths v.table) c.self.view_is
