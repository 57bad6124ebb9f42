use Rattle.std.proofs.Common.{◌≡◌, ◌+◌, ap, length, sym, ◌∙◌, arith}
use Rattle.std.proofs.lemmas.List.{length-map}
use Rattle.comfy_table.specs.Deciding.{all_needs, needs_in, undecided_count}
use Rattle.comfy_table.proofs.RoundRobinLemmas.{count-set, count-taken, fewer_undecided, turn_begins, turn_ends, turn_passes, turn_takes, width_at-some}
use Rattle.comfy_table.proofs.utils.arrangement.dynamic.round_robin.Candidates.go_round.Goals.{in-Some+then-average_now-average, in-Some+else-average_now-average, in_default}
use Rattle.comfy_table.proofs.utils.arrangement.dynamic.round_robin.Candidates.go_round.Given.{Over}
use Rattle.comfy_table.proofs.utils.arrangement.dynamic.round_robin.Candidates.go_round.Goals as goal

pub loop-passed-init : goal.loop-passed-init
loop-passed-init g c =
    let needs = all_needs (g.C.TableSource.whole c.args.self.now.contents.now) c.args.self.now.columns.now in
    record {
      turn = turn_begins c.args.self.now.rule needs c.args.budget.now c.average-average.result c.average-average.ensures;
      counted = c.undecided-undecided.ensures;
    }

pub loop-passed-smaller : goal.loop-passed-smaller
loop-passed-smaller g c = grind (arith, fewer_undecided, count-set, width_at-some)

one_fewer : (g : Over) (c : goal.After-claim g) → undecided_count c.claim.new.self.widths.items + 1 ≡ c.loop-passed.undecided
one_fewer g c =
    let needs = all_needs (g.C.TableSource.whole c.args.self.now.contents.now) c.args.self.now.columns.now in
    ap (λ widths. undecided_count widths + 1) c.claim.ensures.widths
    ∙ count-taken c.args.self.now.rule c.loop-passed.average needs c.loop-passed.budget.widths.items c.loop-passed.position c.in-Some.width (sym c.in_ok-width.ensures ∙ c.in-Some.is)
    ∙ sym c.loop-passed.invariant.counted

pub overflow_sub-undecided : goal.overflow_sub-undecided
overflow_sub-undecided g c = omega (arith, one_fewer g c)

pub average-average_now-requires : goal.average-average_now-requires
average-average_now-requires g c = omega (arith, one_fewer g c)

pub loop-passed-preserved : goal.loop-passed-preserved
loop-passed-preserved g c = grind (arith, length-map, turn_takes, turn_passes, count-set, width_at-some)

pub returns : goal.returns
returns g c =
    let needs = all_needs (g.C.TableSource.whole c.args.self.now.contents.now) c.args.self.now.columns.now in
    let count : length needs ≡ length c.args.self.now.columns.now = length-map c.args.self.now.columns.now (needs_in (g.C.TableSource.whole c.args.self.now.contents.now)) in
    turn_ends c.args.self.now.rule needs c.args.budget.now (c.requires.widths ∙ sym count) c.loop-passed.budget c.loop-passed.position c.loop-passed.passed c.loop-passed.average c.loop-passed.invariant.turn
    (omega (arith, c.loop-passed-test.false, count))
