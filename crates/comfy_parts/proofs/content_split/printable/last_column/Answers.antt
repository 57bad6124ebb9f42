use Rattle.std.proofs.Common.{sym, arith}
use Rattle.std.proofs.lemmas.Bool.Decides.{nat_tests}
use Rattle.comfy_parts.proofs.PrintableEndLemmas.{at-delimiter, at-width}
use Rattle.comfy_parts.proofs.content_split.printable.last_column.Goals as goal

pub returns-then-from : goal.returns-then-from
returns-then-from c =
    sym (at-delimiter c.args.width c.args.delimiter c.args.text.now c.requires.printable c.requires.begins c.requires.enough c.requires.found (let is = c.if-from.true in grind (arith, is, c.from.ensures, c.from-2.ensures)))

pub returns : goal.returns
returns c =
    sym (at-width c.args.width c.args.delimiter c.args.text.now c.requires.printable c.requires.begins c.requires.enough c.requires.found (let other = c.if-from.false in grind (arith, nat_tests, other, c.from.ensures, c.from-2.ensures)))
