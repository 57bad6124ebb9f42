use Rattle.std.proofs.Common.{◌≡◌, map, max}
use Rattle.comfy_parts.specs.Text.{greatest}
use Rattle.comfy_table.proofs.ColumnCellLemmas.{of_measured}
use Rattle.comfy_table.specs.TableValue.{cell_content_width, column_content_width}
use Rattle.comfy_table.proofs.table.content.column_content_width.Given as goal

abbrev pub invariant-loop-cell : goal.invariant-loop-cell
invariant-loop-cell l = max l.widest (greatest (map (of_measured l.table cell_content_width) l.cell-iterator)) ≡ column_content_width l.table l.position
