use Rattle.std.proofs.Common.{◌≡◌, [], drop, max}
use Rattle.std.specs.Prelude.{unwrap_or}
use Rattle.comfy_table.specs.TableValue.{cell_content_width}
use Rattle.csv_tables.specs.Contents.{greatest_at}
use Rattle.csv_tables.specs.Drawn.{pairs_of}
use Rattle.csv_tables.proofs.rows.RecordRows.field_width.Given as goal

-- the widest field so far, and of the columns that are left
abbrev pub invariant-loop-column : goal.invariant-loop-column
invariant-loop-column l =
    max l.widest (greatest_at l.table cell_content_width (pairs_of l.self.look (drop l.column-index l.column-items) (unwrap_or l.self.selected.names []) l.fields) 1)
    ≡ greatest_at l.table cell_content_width (pairs_of l.self.look l.column-items (unwrap_or l.self.selected.names []) l.fields) 1
