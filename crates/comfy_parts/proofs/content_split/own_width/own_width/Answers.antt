use Rattle.std.proofs.Common.{arith}
use Rattle.std.proofs.lemmas.Bool.Decides.{nat_tests}
use Rattle.comfy_parts.proofs.OwnWidthLemmas.{ascii-one}
use Rattle.comfy_parts.proofs.content_split.own_width.own_width.Goals as goal

pub returns-else-character-lt32 : goal.returns-else-character-lt32
returns-else-character-lt32 c = ascii-one c.args.character (grind (arith, nat_tests, c.if-character-le126.true, c.if-character-lt32.false))
