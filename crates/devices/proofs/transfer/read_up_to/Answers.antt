use Rattle.std.proofs.Common.{◌≡◌, ◌++◌, ◌≤◌, length, take, rules, arith, ◌∙◌}
use Rattle.devices.proofs.DeviceLemmas.{from_front, moves_more, moves_none, not-ended}
use Rattle.devices.proofs.transfer.read_up_to.Goals as goal

pub loop-count-preserved : goal.loop-count-preserved
loop-count-preserved g c =
    let fits : c.in-Ok.count ≤ length c.read.new.buffer = omega (arith, c.in-Ok.ensures.bound, c.read.auto.buffer) in
    let added = from_front c.in-Ok.count _ c.read.new.buffer _ _ fits c.in_ok-extend_from_slice.ensures.items in
    record {
      moved = moves_more _ _ _ _ _ c.loop-count.invariant.moved c.in-Ok.count c.read.new.buffer _ c.in-Ok.ensures.bytes added;
      ended = c.in-Ok.ensures.end_read ∙ not-ended _ c.in-Ok.count _ c.if-count-eq0.false ∙ c.loop-count.invariant.ended;
      fewer = search rules;
    }

pub returns-then-count-eq0-clause-moved : goal.returns-then-count-eq0-clause-moved
returns-then-count-eq0-clause-moved g c = moves_none _ _ _ _ _ c.loop-count.invariant.moved c.in-Ok.count c.read.new.buffer c.in-Ok.ensures.bytes c.if-count-eq0.true

pub returns-then-len-clause-moved : goal.returns-then-len-clause-moved
returns-then-len-clause-moved g c =
    let fits : c.in-Ok.count ≤ length c.read.new.buffer = omega (arith, c.in-Ok.ensures.bound, c.read.auto.buffer) in
    let added = from_front c.in-Ok.count _ c.read.new.buffer _ _ fits c.in_ok-extend_from_slice.ensures.items in
    moves_more _ _ _ _ _ c.loop-count.invariant.moved c.in-Ok.count c.read.new.buffer _ c.in-Ok.ensures.bytes added
