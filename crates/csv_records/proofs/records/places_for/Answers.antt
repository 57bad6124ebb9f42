use Rattle.std.proofs.Common.{arith, rules}
use Rattle.csv_records.proofs.CutLemmas.{place_taken}
use Rattle.csv_records.proofs.records.places_for.Goals as goal

pub loop-count-preserved : goal.loop-count-preserved
loop-count-preserved c =
    let inv = c.loop-count.invariant in
    let step = place_taken c.args.counts.now c.loop-count.count-index 0 (search rules) in
    (search (step, rules), search (step, rules), grind (arith, c.if-field_count-start.false, inv.2))
