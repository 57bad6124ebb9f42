use Rattle.std.proofs.Common.{◌≡◌, Bool, None, ap, sym, ◌∙◌}
use Rattle.std.proofs.lemmas.Result.{IfOk-weaker}
use Rattle.std.specs.Prelude.{if◌then◌else◌}
use Rattle.csv_tables.specs.Decimals.{spaced}
use Rattle.csv_tables.proofs.cells.spaces_of.Goals as goal
use Rattle.csv_tables.proofs.cells.spaces_of.Goals.{then-is_aligned, else-is_aligned}

pub returns : goal.returns
returns c =
    let column = c.args.column.now in
    let points = λ (is_aligned : Bool). if is_aligned then column.points else None in
    let chosen : c.if-is_aligned.points ≡ points c.args.is_aligned =
    elim c.if-is_aligned.branch [
      | then-is_aligned w ↦ w.points-is ∙ sym (ap points w.if-is_aligned.true)
      | else-is_aligned w ↦ w.points-is ∙ sym (ap points w.if-is_aligned.false)
    ] in
    IfOk-weaker c.spaces_after.result _ _
    (λ count is. is ∙ ap (λ given. spaced c.args.look.now.has_sequences given c.args.field.now) chosen)
    c.spaces_after.ensures
