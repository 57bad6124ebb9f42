use Rattle.std.proofs.Common.{◌≡◌, ℕ, not, map, take}
use Rattle.std.specs.List.{enumerate_from, filter}
use Rattle.comfy_parts.specs.CellValue.{ColumnValue, is_hidden_column}
use Rattle.comfy_table.specs.Deciding.{all_needs}
use Rattle.comfy_table.specs.Widths.{needs_of}
use Rattle.comfy_table.proofs.utils.arrangement.dynamic.needs.shown_needs.Given as goal

abbrev pub invariant-loop-position : goal.invariant-loop-position
invariant-loop-position g l =
    all_needs (g.C.TableSource.whole l.contents) l.visible.items ≡ map (needs_of (g.C.TableSource.whole l.contents)) (filter (λ (p : ℕ × ColumnValue). not (is_hidden_column p.1)) (take l.position (enumerate_from 0 l.columns)))
