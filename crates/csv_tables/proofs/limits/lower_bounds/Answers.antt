use Rattle.std.proofs.Common.{◌≡◌, ◌++◌, ◌∷◌, [], ◌∙◌, ℕ, List, ap, ap₂, arith, get_or, map, sym, take}
use Rattle.std.proofs.lemmas.List.{map-append, take_more}
use Rattle.comfy_parts.specs.declared.style.column.ColumnConstraint.{ColumnConstraint}
use Rattle.comfy_parts.specs.declared.style.column.ColumnConstraint.TheVariants.{LowerBoundary}
use Rattle.comfy_parts.specs.declared.style.column.Width.TheVariants.{Fixed}
use Rattle.csv_tables.specs.NoWrap.{boundary_for, lower_bound}
use Rattle.csv_tables.proofs.NoWrapLemmas.{boundary-some}
use Rattle.csv_tables.proofs.limits.lower_bounds.Goals as goal
use Rattle.csv_tables.proofs.limits.lower_bounds.Goals.{then-content-gt0, else-content-gt0}

pub loop-content-preserved : goal.loop-content-preserved
loop-content-preserved c =
    let given = c.args.given.now in
    let at : ℕ = c.loop-content.content-index in
    let content = get_or given at 0 in
    let bounded : c.if-content-gt0.boundary ≡ boundary_for content =
    elim c.if-content-gt0.branch [
      | then-content-gt0 w ↦ w.boundary-is ∙ sym (boundary-some content w.if-content-gt0.true)
      | else-content-gt0 w ↦ let none : content ≡ 0 = omega (arith, w.if-content-gt0.false) in w.boundary-is ∙ ap boundary_for (sym none)
    ] in
    c.in_ok-push.ensures.items
    ∙ ap₂ (λ (xs : List ColumnConstraint) (l : ℕ). xs ++ LowerBoundary (Fixed l) ∷ []) c.loop-content.invariant bounded
    ∙ sym (ap (map lower_bound) (take_more given at 0 (omega (arith, c.loop-content-test.true))) ∙ map-append lower_bound (take at given) (content ∷ []))
