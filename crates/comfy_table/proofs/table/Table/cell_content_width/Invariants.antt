use Rattle.std.proofs.Common.{◌≡◌, max, min, drop}
use Rattle.comfy_parts.specs.Text.{greatest}
use Rattle.comfy_table.specs.TableValue.{cell_content_width, measured_cell}
use Rattle.comfy_table.proofs.table.Table.cell_content_width.Given as goal

abbrev pub invariant-loop-width : goal.invariant-loop-width
invariant-loop-width l = min 65535 (max l.widest (greatest (drop l.width-index l.widths))) ≡ cell_content_width (measured_cell l.self l.cell)
