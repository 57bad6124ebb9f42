use Rattle.std.proofs.Common.{◌≡◌, ◌++◌, ◌∷◌, [], ◌∙◌, ℕ, List, Option, ap, ap₂, arith, sym}
use Rattle.std.proofs.lemmas.List.FromFn.{map-range_with_len_more}
use Rattle.comfy_table.specs.TableValue.{TableValue}
use Rattle.csv_tables.specs.Limits.{limits_at, reached}
use Rattle.csv_tables.specs.declared.limits.ColumnLimits.{ColumnLimits}
use Rattle.csv_tables.proofs.limits.reached_limits.Goals as goal

pub loop-at-preserved : goal.loop-at-preserved
loop-at-preserved c =
    let limits = c.args.limits.now in
    let table : TableValue = c.args.contents.now.table in
    let at : ℕ = c.loop-at.at in
    let own : ColumnLimits = c.limits_at-own.result in
    let gives : ℕ → ColumnLimits = λ i. reached table i (limits_at limits i) in
    let made : ColumnLimits = record own { greatest = c.in_ok-greatest.greatest } in
    let is : made ≡ gives at = ap (λ (g : Option ℕ). record own { greatest = g }) c.in_ok-greatest.ensures ∙ ap (reached table at) c.limits_at-own.ensures in
    c.in_ok-push.ensures.items ∙ ap₂ (λ (xs : List ColumnLimits) (x : ColumnLimits). xs ++ x ∷ []) c.loop-at.invariant is ∙ sym (map-range_with_len_more gives 0 at at (omega arith))
