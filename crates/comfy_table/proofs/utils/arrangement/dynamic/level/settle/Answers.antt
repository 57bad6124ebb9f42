use Rattle.std.proofs.Common.{◌/◌, ℕ, List, Some, sym, ap, ◌∙◌, arith}
use Rattle.std.proofs.lemmas.List.{length-map}
use Rattle.comfy_table.specs.Deciding.{all_needs, needs_in, undecided_among, with_claims}
use Rattle.comfy_table.specs.Dynamic.{Claim, total}
use Rattle.comfy_table.proofs.LevelSearchLemmas.{level_without_average}
use Rattle.comfy_table.proofs.UndecidedLemmas.{length-undecided_among}
use Rattle.comfy_table.proofs.utils.arrangement.dynamic.level.settle.Goals as goal

pub returns-then-average-gt0 : goal.returns-then-average-gt0
returns-then-average-gt0 c table = (Some c.level_from-level.result, c.level_from-level.ensures table, c.settle_at.ensures table)

pub returns-else-average-gt0 : goal.returns-else-average-gt0
returns-else-average-gt0 c table =
    let budget = c.args.budget.now in
    let needs = all_needs table c.args.columns.now in
    let count = length-undecided_among needs budget.widths.items (c.requires ∙ sym (length-map c.args.columns.now (needs_in table))) in
    let none = ap (λ (n : ℕ). budget.room / n) count ∙ sym c.average-average.ensures ∙ omega (arith, c.if-average-gt0.false) in
    let found = level_without_average budget.room (undecided_among needs budget.widths.items) none in (
      found.0,
      found.1,
      record {
        widths = ap (λ (ts : List Claim). with_claims ts budget.widths.items) (sym found.2);
        room = omega (arith, ap total found.2);
      },
    )
