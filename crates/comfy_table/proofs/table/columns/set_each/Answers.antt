use Rattle.std.proofs.Common.{◌≡◌, ◌++◌, ◌∷◌, [], ℕ, List, Some, length, slice_index_or, slice_set, arith, ap, sym, ◌∙◌}
use Rattle.std.proofs.lemmas.List.{length-append}
use Rattle.comfy_parts.specs.CellValue.{ColumnValue, new_column}
use Rattle.comfy_table.proofs.ColumnLemmas.{constrained-more, constrained-past, length-constrained}
use Rattle.comfy_table.proofs.ItemsLemmas.{all_given}
use Rattle.comfy_table.specs.TableValue.{constrained}
use Rattle.comfy_table.proofs.table.columns.set_each.Goals as goal

pub loop-constraint-preserved-then-position-columns : goal.loop-constraint-preserved-then-position-columns
loop-constraint-preserved-then-position-columns g c =
    let taken = c.loop-constraint.yielded in
    let columns = c.args.columns.now in
    let as_many = ap length c.loop-constraint.invariant.set ∙ length-constrained taken columns in
    let within = c.if-position-columns.true in
    let at : c.loop-constraint.position ≡ length taken = omega (arith, within, c.loop-constraint.invariant.position) in
    let more = constrained-more taken c.in-Some.constraint columns (new_column 0) (omega (arith, within, as_many, at)) in
    let all = length-constrained (taken ++ c.in-Some.constraint ∷ []) columns in
    let counted = length-append taken (c.in-Some.constraint ∷ []) in
    let put = λ (list : List ColumnValue) (n : ℕ). slice_set list n (record (slice_index_or list n (new_column 0)) { constraint = Some c.in-Some.constraint }) in
    let set : c.set_at.new.columns ≡ constrained (taken ++ c.in-Some.constraint ∷ []) columns =
    c.set_at.ensures (new_column 0) ∙ ap (λ list. put list c.loop-constraint.position) c.loop-constraint.invariant.set ∙ ap (put (constrained taken columns)) at ∙ sym more in
    record { set = set; position = omega (arith, within, as_many, at, counted, all, ap length set) }

pub loop-constraint-preserved : goal.loop-constraint-preserved
loop-constraint-preserved g c = grind (arith, constrained-past, length-append)

pub returns : goal.returns
returns g c =
    let gives = g.met.I.Items.gives_items c.args.constraints _ c.into_iter-constraint-iterator.ensures.into_iter_gives in
    let all = all_given _ _ c.loop-constraint.yielded gives (_, (_, c.loop-constraint.yielded_by, c.in-None.ensures.steps)) in
    c.loop-constraint.invariant.set ∙ ap (λ items. constrained items c.args.columns.now) all
