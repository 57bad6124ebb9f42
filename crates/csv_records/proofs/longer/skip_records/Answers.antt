use Rattle.std.proofs.Common.{◌≡◌, ◌+◌, ◌-◌, arith, suc}
use Rattle.csv_records.proofs.longer.skip_records.Goals as goal

pub loop-preserved : goal.loop-preserved
loop-preserved c =
    let left : c.args.before - c.loop.counter ≡ suc (c.args.before - (c.loop.counter + 1)) = omega (arith, c.loop-test.true) in
    rw c.skip_record-rest.ensures (rw left at c.loop.invariant)
