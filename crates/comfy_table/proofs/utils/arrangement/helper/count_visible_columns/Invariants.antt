use Rattle.std.proofs.Common.{◌≡◌, ◌≤◌, ◌+◌, drop}
use Rattle.comfy_parts.specs.CellValue.{shown_among}
use Rattle.comfy_table.proofs.utils.arrangement.helper.count_visible_columns.Given as goal

-- the visible columns so far, and those that are left
abbrev pub invariant-loop-column : goal.invariant-loop-column
invariant-loop-column l = record {
  count : l.visible + shown_among (drop l.column-index l.columns) ≡ shown_among l.columns;
  few : l.visible ≤ l.column-index;
}
