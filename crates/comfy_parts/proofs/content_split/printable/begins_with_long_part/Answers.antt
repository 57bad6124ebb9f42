use Rattle.std.proofs.Common.{◌≡◌, ◌≤◌, ◌==◌, length, nat_lt, arith, ap}
use Rattle.std.proofs.lemmas.Bool.Decides.{nat_tests}
use Rattle.comfy_parts.proofs.PrintableEndLemmas.{first-long, first-short, spans}
use Rattle.comfy_parts.proofs.content_split.printable.begins_with_long_part.Goals as goal
use Rattle.comfy_parts.proofs.content_split.printable.begins_with_long_part.Goals.{then-loop-run-test+then-run-width+else-from, then-loop-run-test+else-run-width, else-loop-run-test}

pub returns : goal.returns
returns c part parts are =
    let w = c.args.width in
    let run = c.loop-run.run in
    let inv = c.loop-run.invariant in
    let long : run ≤ length part = first-long w c.args.delimiter run c.args.text.now part parts inv.1 inv.2 are in
    elim c.loop-run-test.branch [
      | then-loop-run-test+then-run-width+else-from t ↦ (let short : length part ≤ run = first-short w c.args.delimiter run c.args.text.now part parts t.loop-run-test.true (let at = t.if-from.false in grind (arith, nat_tests, at, t.from.ensures, t.from-then-run-width.ensures)) are in grind (arith, nat_tests, short, t.if-run-width.true))
      | then-loop-run-test+else-run-width t ↦ grind (arith, nat_tests, long, t.if-run-width.false)
      | else-loop-run-test t ↦ (let all = spans (λ b. b == c.args.delimiter) parts c.args.text.now part are in ap (nat_lt w) (let same : run ≡ length part = omega (arith, long, all, t.loop-run-test.false) in same))
    ]
