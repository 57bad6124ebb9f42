use Rattle.std.proofs.Common.{◌<◌, ◌≤◌, ℕ, ◌+◌, List, subst, sym, arith, Option, ⊎_elim, eq-zero-or-pos}
use Rattle.std.specs.List.{All}
use Rattle.comfy_table.specs.Deciding.{decided}
use Rattle.comfy_table.proofs.FilledLemmas.{decided_where, widened_more}
use Rattle.comfy_table.proofs.utils.arrangement.dynamic.spread.widened.Goals as goal

pub overflow_add-unwrap_or : goal.overflow_add-unwrap_or
overflow_add-unwrap_or c =
    let room = c.args.budget.now.room in
    let items = c.deref-width-items.result.now in
    let each : All (λ w. 0 < room → w + room ≤ 65535) (decided items) = subst (λ (ws : List (Option ℕ)). All (λ w. 0 < room → w + room ≤ 65535) (decided ws)) (sym c.deref-width-items.ensures.value) c.requires.each in
    let fits = decided_where (λ w. 0 < room → w + room ≤ 65535) items c.loop-position.position each c.loop-position-test.true in
    ⊎_elim (λ none. omega (arith, none, c.even_part.ensures.at_most, c.unwrap_or.type_inv))
    (λ some. omega (arith, fits some, c.even_part.ensures.at_most, c.unwrap_or.ensures)) (eq-zero-or-pos room)

pub loop-position-preserved : goal.loop-position-preserved
loop-position-preserved c = grind (arith, widened_more)
