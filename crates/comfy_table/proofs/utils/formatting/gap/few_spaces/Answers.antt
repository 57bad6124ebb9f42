use Rattle.std.proofs.Common.{◌≤◌, length, ◌∙◌, arith}
use Rattle.comfy_table.proofs.SpaceLemmas.{space-at, spaces-front}
use Rattle.comfy_table.proofs.utils.formatting.gap.few_spaces.Goals as goal

pub split_at-requires : goal.split_at-requires
split_at-requires c =
    let within : c.args.count ≤ length c.run_of_spaces-run.result.now = omega (arith, c.if-count-run.false) in
    (within, λ below high. absurd (omega (arith, high, space-at c.run_of_spaces-run.result.now 64 c.args.count 0 c.run_of_spaces-run.ensures below)))

pub returns : goal.returns
returns c =
    let within : c.args.count ≤ length c.run_of_spaces-run.result.now = omega (arith, c.if-count-run.false) in
    c.split_at.ensures.front ∙ spaces-front c.run_of_spaces-run.result.now 64 c.args.count c.run_of_spaces-run.ensures within
