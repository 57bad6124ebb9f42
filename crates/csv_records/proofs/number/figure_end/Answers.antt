use Rattle.std.proofs.Common.{rules, tests}
use Rattle.csv_records.proofs.FigureLemmas.{boundary_after}
use Rattle.csv_records.proofs.number.figure_end.Goals as goal

pub returns-else-not-is_inner-clause-boundary : goal.returns-else-not-is_inner-clause-boundary
returns-else-not-is_inner-clause-boundary c =
    boundary_after c.args.text.now c.loop-end.end c.utf8.text c.loop-end.invariant.0 (λ some. search (rules, tests))

pub returns-after-loop-end-clause-boundary : goal.returns-after-loop-end-clause-boundary
returns-after-loop-end-clause-boundary c =
    boundary_after c.args.text.now c.loop-end.end c.utf8.text c.loop-end.invariant.0 (λ some. search (rules, tests))
