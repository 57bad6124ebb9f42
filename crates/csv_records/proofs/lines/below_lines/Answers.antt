use Rattle.std.proofs.Common.{◌-◌, sym, ◌∙◌}
use Rattle.csv_records.proofs.LineLemmas.{EndsIn-trans, line-EndsIn, no_lines_left, one_line_less}
use Rattle.csv_records.specs.Lines.{below_line}
use Rattle.csv_records.proofs.lines.below_lines.Goals as goal

pub loop-preserved : goal.loop-preserved
loop-preserved c =
    let inv = c.loop.invariant in
    let rest = c.loop.rest.now in
    let end = EndsIn-trans c.args.bytes.now rest (below_line rest) inv.0 (line-EndsIn rest) in
    let left = one_line_less c.args.count c.loop.counter rest c.loop-test.true in
    (rw c.below_line-rest.ensures end, rw c.below_line-rest.ensures (sym left ∙ inv.1))

pub returns-then-is_empty-clause-below : goal.returns-then-is_empty-clause-below
returns-then-is_empty-clause-below c =
    let inv = c.loop.invariant in
    sym (no_lines_left (c.args.count - c.loop.counter) c.loop.rest.now (sym c.is_empty.ensures ∙ c.if-is_empty.true)) ∙ inv.1
