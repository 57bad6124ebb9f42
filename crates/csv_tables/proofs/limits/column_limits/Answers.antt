use Rattle.std.proofs.Common.{◌≡◌, ◌++◌, ◌∷◌, [], ◌∙◌, ℕ, List, ap, ap₂, arith, get_or, length, map, rules, slice_index, sym}
use Rattle.std.specs.List.{range_with_len}
use Rattle.std.proofs.lemmas.List.FromFn.{map-range_with_len_more}
use Rattle.comfy_parts.specs.declared.style.column.ColumnConstraint.{ColumnConstraint}
use Rattle.csv_tables.specs.Limits.{limit_for, limits_at}
use Rattle.csv_tables.proofs.limits.column_limits.Goals as goal

pub loop-at-preserved : goal.loop-at-preserved
loop-at-preserved c =
    let at : ℕ = c.loop-at.at in
    let gives : ℕ → ColumnConstraint = λ i. limit_for (limits_at c.args.limits.now i) (slice_index c.args.given.now i) in
    let got : c.unwrap_or-content.result ≡ get_or c.args.given.now at 0 = search rules in
    let is : c.limit_for.result ≡ gives at = c.limit_for.ensures ∙ ap₂ limit_for c.limits_at.ensures got in
    c.in_ok-push.ensures.items ∙ ap₂ (λ (xs : List ColumnConstraint) (x : ColumnConstraint). xs ++ x ∷ []) c.loop-at.invariant is ∙ sym (map-range_with_len_more gives 0 at at (omega arith))

pub returns : goal.returns
returns c =
    let gives : ℕ → ColumnConstraint = λ i. limit_for (limits_at c.args.limits.now i) (slice_index c.args.given.now i) in
    let same : c.loop-at.at ≡ length c.args.limits.now = omega (arith, c.loop-at-test.false, c.loop-at.auto.at-end) in
    c.loop-at.invariant ∙ ap (λ (n : ℕ). map gives (range_with_len 0 n)) same
