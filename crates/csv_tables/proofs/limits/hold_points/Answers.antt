use Rattle.std.proofs.Common.{◌≡◌, ◌&&◌, ◌||◌, ◌∙◌, ◌+◌, suc, ℕ, Bool, ap, ap₂, arith, not, sym}
use Rattle.std.specs.List.{list_all, range_with_len}
use Rattle.comfy_table.specs.TableValue.{TableValue, column_content_width}
use Rattle.csv_tables.proofs.LimitLemmas.{all_more}
use Rattle.csv_tables.specs.Limits.{holds_points, is_within}
use Rattle.csv_tables.specs.declared.limits.ColumnLimits.{ColumnLimits}
use Rattle.csv_tables.proofs.limits.hold_points.Goals as goal

pub loop-at-preserved : goal.loop-at-preserved
loop-at-preserved c =
    let limits = c.args.limits.now in
    let table : TableValue = c.args.contents.now.table in
    let at : ℕ = c.loop-at.at in
    let one : suc at ≡ at + 1 = omega arith in
    let content : c.in_ok-content_width.field-0 ≡ column_content_width table at = c.in_ok-content_width.ensures in
    let own : c.holds_points.result ≡ holds_points limits table at =
    c.holds_points.ensures ∙ ap₂ (λ (l : ColumnLimits) (n : ℕ). not l.has_points || is_within l.greatest n) c.limits_at.ensures content in
    ap₂ (λ (a b : Bool). a && b) c.loop-at.invariant own
    ∙ sym (all_more (holds_points limits table) 0 at at (omega arith))
    ∙ ap (λ n. list_all (holds_points limits table) (range_with_len 0 n)) one
