use Rattle.std.proofs.Common.{◌≡◌, map, max, sym, ap, ◌∙◌, arith}
use Rattle.comfy_parts.specs.Text.{greatest, measure}
use Rattle.comfy_parts.proofs.StartLemmas.{wrapped-empty}
use Rattle.comfy_parts.proofs.content_split.printable.printable_longest_line.Goals as goal

pub returns : goal.returns
returns c =
    let none = wrapped-empty c.args.width c.args.delimiter c.loop-rest.rest.now c.is_empty.result c.is_empty.ensures c.loop-rest-test.false in
    let done : c.loop-rest.longest ≡ max c.loop-rest.longest 0 = omega arith in
    done ∙ ap (λ ls. max c.loop-rest.longest (greatest (map measure ls))) (sym none) ∙ c.loop-rest.invariant.longest
