use Rattle.std.proofs.Common.{◌<◌, ◌-◌, ◌++◌, length, ap, ◌∙◌, arith, string_bytes}
use Rattle.comfy_parts.specs.Text.{Text, spaces}
use Rattle.comfy_table.proofs.SpaceLemmas.{space-at, spaces-front, spaces-taken}
use Rattle.comfy_table.proofs.utils.formatting.gap.push_spaces.Goals as goal

pub loop-left-preserved : goal.loop-left-preserved
loop-left-preserved c =
    let run = c.run_of_spaces-run.result.now in
    let more : 64 < c.loop-left.left = omega (arith, c.loop-left-test.true, ap length c.run_of_spaces-run.ensures) in
    ap (λ (t : Text). t ++ spaces (c.loop-left.left - length run)) c.in_ok-push_str.ensures.bytes
    ∙ spaces-taken (string_bytes c.loop-left.text) run 64 c.loop-left.left c.run_of_spaces-run.ensures more
    ∙ c.loop-left.invariant

pub split_at-requires : goal.split_at-requires
split_at-requires c =
    (c.loop-left-test.false, λ below high. absurd (omega (arith, high, space-at c.run_of_spaces-run.result.now 64 c.loop-left.left 0 c.run_of_spaces-run.ensures below)))

pub returns : goal.returns
returns c =
    c.in_ok-push_str-2.ensures.bytes
    ∙ ap (λ (t : Text). string_bytes c.loop-left.text ++ t) (c.split_at.ensures.front ∙ spaces-front c.run_of_spaces-run.result.now 64 c.loop-left.left c.run_of_spaces-run.ensures c.loop-left-test.false)
    ∙ c.loop-left.invariant
