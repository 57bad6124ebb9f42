use Rattle.std.proofs.Common.{ap, arith, nat_le}
use Rattle.std.proofs.lemmas.Bool.Decides.{nat_tests}
use Rattle.std.proofs.lemmas.Iterator.{YieldsList-from_chars}
use Rattle.std.proofs.lemmas.Iterator.Consumers.{count_from_yields_List}
use Rattle.csv_tables.proofs.NoWrapFieldLemmas.{few-chars}
use Rattle.csv_tables.proofs.nowrap.is_short.Goals as goal

pub returns-then-field-le-LONGEST_KEPT : goal.returns-then-field-le-LONGEST_KEPT
returns-then-field-le-LONGEST_KEPT c =
    let few = few-chars c.args.field.now in
    let short = c.if-field-le-LONGEST_KEPT.true in
    grind (arith, nat_tests, few, short)

pub returns-else-field-le-LONGEST_KEPT : goal.returns-else-field-le-LONGEST_KEPT
returns-else-field-le-LONGEST_KEPT c = ap (λ n. nat_le n 25) (count_from_yields_List _ c.count.result c.count.ensures.ran (YieldsList-from_chars c.args.field.now c.utf8.field c.chars.ensures.rest))
