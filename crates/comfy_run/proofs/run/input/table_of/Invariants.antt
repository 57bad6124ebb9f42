use Rattle.std.proofs.Common.{◌≡◌, map, fold}
use Rattle.comfy_parts.specs.Text.{Text}
use Rattle.comfy_run.specs.Rows.{row_of_line}
use Rattle.comfy_table.specs.TableValue.{TableValue, with_row}
use Rattle.comfy_run.proofs.run.input.table_of.Given as goal

abbrev pub invariant-loop-line : goal.invariant-loop-line
invariant-loop-line l =
    l.table ≡ fold (λ (t : TableValue) (line : Text). with_row (row_of_line line) t) l.initial.table (map (λ p. p.now) l.yielded)
