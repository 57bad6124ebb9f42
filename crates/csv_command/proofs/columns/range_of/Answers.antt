use Rattle.std.proofs.Common.{length}
use Rattle.csv_command.specs.Columns.{range_at}
use Rattle.csv_command.proofs.ColumnLemmas.{next_answer}
use Rattle.csv_command.proofs.columns.range_of.Goals as goal

pub returns-in-Some-clause-value : goal.returns-in-Some-clause-value
returns-in-Some-clause-value c =
    let next = next_answer (range_at c.args.names.now c.args.count c.args.word.now) c.loop-at.at (length c.args.word.now) c.loop-at-test.true in
    rw (next, ← c.range_at.ensures.value, c.in-Some.is) at c.loop-at.invariant

pub loop-at-preserved : goal.loop-at-preserved
loop-at-preserved c =
    let next = next_answer (range_at c.args.names.now c.args.count c.args.word.now) c.loop-at.at (length c.args.word.now) c.loop-at-test.true in
    rw (next, ← c.range_at.ensures.value, c.in_default.is) at c.loop-at.invariant
