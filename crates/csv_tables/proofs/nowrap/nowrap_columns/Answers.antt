use Rattle.std.proofs.Common.{◌≡◌, ◌∙◌, ◌&&◌, ◌==◌, Bool, List, ap, arith, get_or, length, not, rules, tests}
use Rattle.std.proofs.lemmas.Grind.{common_steps}
use Rattle.comfy_parts.specs.Text.{Text}
use Rattle.csv_tables.proofs.ReachedLemmas.{no_column}
use Rattle.csv_tables.proofs.nowrap.nowrap_columns.Goals as goal
use Rattle.csv_tables.proofs.nowrap.nowrap_columns.Goals.{else-has_rows, then-has_rows}

pub loop-column-preserved : goal.loop-column-preserved
loop-column-preserved c =
    let rows : List (List Text) = c.args.selected.now.rows in
    let column = get_or c.deref-column-items.result.now c.loop-column.column-index no_column in
    let some : not c.is_empty-has_rows.result ≡ not (length rows == 0) = ap not (c.is_empty-has_rows.ensures ∙ ap (λ (rs : List (List Text)). length rs == 0) c.rows.ensures) in
    let pushed : c.if-has_rows.push ≡ (not c.is_empty-has_rows.result && column.is_nowrap) =
    elim c.if-has_rows.branch [ then-has_rows w ↦ search (rules, tests) | else-has_rows w ↦ search (rules, tests) ] in
    let known : c.if-has_rows.push ≡ (not (length rows == 0) && column.is_nowrap) = pushed ∙ ap (λ (b : Bool). b && column.is_nowrap) some in
    grind (arith, common_steps, known)
