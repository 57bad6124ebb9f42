use Rattle.std.proofs.Common.{arith}
use Rattle.std.proofs.lemmas.Bool.Decides.{nat_tests}
use Rattle.comfy_parts.proofs.PrintableLongestLemmas.{begins-other, past-delimiter, past-line}
use Rattle.comfy_parts.proofs.content_split.printable.part_at_front.Goals as goal

pub returns-then-from-clause-longest : goal.returns-then-from-clause-longest
returns-then-from-clause-longest c =
    past-delimiter c.args.width c.args.delimiter c.args.text.now c.requires.printable c.ranges.delimiter.0 c.requires.some (let is = c.if-from.true in grind (arith, is, c.from.ensures, c.from-2.ensures))

pub printable_line_end-end-requires-clause-begins : goal.printable_line_end-end-requires-clause-begins
printable_line_end-end-requires-clause-begins c =
    begins-other c.args.delimiter c.args.text.now c.requires.printable.printable c.requires.some (let other = c.if-from.false in grind (arith, nat_tests, other, c.from.ensures, c.from-2.ensures))

pub returns-clause-some : goal.returns-clause-some
returns-clause-some c =
    (past-line c.args.width c.args.delimiter c.args.text.now c.requires.printable c.requires.some (begins-other c.args.delimiter c.args.text.now c.requires.printable.printable c.requires.some (let other = c.if-from.false in grind (arith, nat_tests, other, c.from.ensures, c.from-2.ensures))) c.printable_line_end-end.result c.printable_line_end-end.ensures).some

pub returns-clause-bound : goal.returns-clause-bound
returns-clause-bound c =
    (past-line c.args.width c.args.delimiter c.args.text.now c.requires.printable c.requires.some (begins-other c.args.delimiter c.args.text.now c.requires.printable.printable c.requires.some (let other = c.if-from.false in grind (arith, nat_tests, other, c.from.ensures, c.from-2.ensures))) c.printable_line_end-end.result c.printable_line_end-end.ensures).bound

pub returns-clause-longest : goal.returns-clause-longest
returns-clause-longest c =
    (past-line c.args.width c.args.delimiter c.args.text.now c.requires.printable c.requires.some (begins-other c.args.delimiter c.args.text.now c.requires.printable.printable c.requires.some (let other = c.if-from.false in grind (arith, nat_tests, other, c.from.ensures, c.from-2.ensures))) c.printable_line_end-end.result c.printable_line_end-end.ensures).longest
