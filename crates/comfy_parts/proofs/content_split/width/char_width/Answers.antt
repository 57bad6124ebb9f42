use Rattle.std.proofs.Common.{arith, sym}
use Rattle.comfy_parts.proofs.OwnWidthLemmas.{at_most_two, of_character}
use Rattle.comfy_parts.proofs.content_split.width.char_width.Goals as goal

pub returns-in-Some-clause-value : goal.returns-in-Some-clause-value
returns-in-Some-clause-value c = of_character c.args.character c.in-Some.columns c.ranges.character.0 (sym c.in-Some.ensures)

pub returns-in-Some-clause-bound : goal.returns-in-Some-clause-bound
returns-in-Some-clause-bound c =
    let most = at_most_two c.args.character c.in-Some.columns (sym c.in-Some.ensures) in
    omega (arith, most)
