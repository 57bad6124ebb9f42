use Rattle.std.proofs.Common.{◌≡◌, ℕ, not, map, take}
use Rattle.std.specs.List.{enumerate_from, filter}
use Rattle.comfy_parts.specs.CellValue.{ColumnInfo}
use Rattle.comfy_table.proofs.utils.formatting.shown_column.shown_infos.Given as goal

abbrev pub invariant-loop-position : goal.invariant-loop-position
invariant-loop-position l =
    l.columns.items ≡ map (λ (p : ℕ × ColumnInfo). p) (filter (λ (p : ℕ × ColumnInfo). not p.1.is_hidden) (take l.position (enumerate_from 0 l.infos)))
