use Rattle.std.proofs.Common.{◌≡◌, ◌∷◌, ◌∙◌, ap, sym}
use Rattle.csv_records.proofs.LineLemmas.{line_goes_on}
use Rattle.csv_records.specs.Lines.{below_line}
use Rattle.csv_records.proofs.encoding.Units.below_line.Goals as goal

pub loop-unit-preserved : goal.loop-unit-preserved
loop-unit-preserved c =
    let steps : c.loop-unit.rest ≡ c.in-Some.unit ∷ c.next.new.self = rw c.in-Some.is at c.next.ensures.steps in
    let line = ap below_line steps ∙ line_goes_on c.in-Some.unit c.next.new.self c.if-unit-eq10.false c.if-unit-eq13.false in
    ((tt, tt), sym line ∙ c.loop-unit.invariant.1)
