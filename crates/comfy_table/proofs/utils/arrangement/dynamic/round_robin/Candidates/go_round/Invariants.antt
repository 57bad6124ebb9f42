use Rattle.std.proofs.Common.{◌≡◌, ◌+◌, ◌-◌, ◌*◌, length}
use Rattle.comfy_table.specs.Deciding.{all_needs, undecided_count}
use Rattle.comfy_table.proofs.RoundRobinLemmas.{IsTurn}
use Rattle.comfy_table.proofs.utils.arrangement.dynamic.round_robin.Candidates.go_round.Given as goal

abbrev pub invariant-loop-passed : goal.invariant-loop-passed
invariant-loop-passed g l =
    record {
      turn : IsTurn l.self.rule (all_needs (g.C.TableSource.whole l.self.contents.now) l.self.columns.now) l.initial.budget l.budget l.position l.passed l.average;
      counted : l.undecided ≡ undecided_count l.budget.widths.items;
    }

abbrev pub decreases-loop-passed : goal.decreases-loop-passed
decreases-loop-passed g l = undecided_count l.budget.widths.items * (length l.self.columns.now + 1) + (length l.self.columns.now - l.passed)
