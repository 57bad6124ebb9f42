use Rattle.std.proofs.Common.{◌≡◌, ◌≤◌, ◌+◌, ◌-◌, ◌++◌, map, vec_len, vec_capacity}
use Rattle.std.specs.List.{range_with_len}
use Rattle.comfy_parts.specs.CellValue.{new_column}
use Rattle.comfy_table.proofs.table.grow_columns.Given as goal

abbrev pub invariant-loop-index : goal.invariant-loop-index
invariant-loop-index l =
    record {
      reach : l.index ≤ l.have + l.missing;
      room : l.have + l.missing ≤ vec_capacity l.columns;
      items : l.columns.items ≡ l.initial.columns.items ++ map new_column (range_with_len l.have (l.index - l.have));
      len : vec_len l.columns ≡ l.index;
    }
