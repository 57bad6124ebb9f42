use Rattle.std.proofs.Common.{◌-◌, sym, ◌∙◌}
use Rattle.csv_records.proofs.LineLemmas.{no_lines_left, one_line_less}
use Rattle.csv_records.proofs.encoding.units_below.Goals as goal

pub loop-preserved : goal.loop-preserved
loop-preserved c =
    let left = one_line_less c.args.count c.loop.counter c.loop.rest c.loop-test.true in
    rw c.below_line-rest.ensures (sym left ∙ c.loop.invariant)

pub returns-then-is_empty : goal.returns-then-is_empty
returns-then-is_empty c = sym (no_lines_left (c.args.count - c.loop.counter) c.loop.rest (sym c.is_empty.ensures ∙ c.if-is_empty.true)) ∙ c.loop.invariant
