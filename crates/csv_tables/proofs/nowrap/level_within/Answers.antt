use Rattle.std.proofs.Common.{◌≡◌, ◌∙◌, ℕ, Bool, true, false, ap, arith, nat_le, sym}
use Rattle.std.proofs.lemmas.Bool.Decides.{nat_tests}
use Rattle.csv_tables.proofs.NoWrapLemmas.{failed_level, passed_level, stopped}
use Rattle.csv_tables.specs.Limits.{bounded_width}
use Rattle.csv_tables.proofs.nowrap.level_within.Goals as goal

pub loop-level-preserved : goal.loop-level-preserved
loop-level-preserved c wanted is =
    let width = c.args.width in
    let limits = c.args.limits.now in
    let table = c.args.contents.now.table in
    let fits : ℕ → Bool = λ level. nat_le (bounded_width limits level wanted table) width in
    let no : nat_le c.bounded_width.result c.from.result ≡ false = grind (arith, nat_tests, c.if-bounded_width-from.true) in
    let none : fits c.loop-level.level ≡ false =
    sym (stopped (bounded_width limits c.loop-level.level wanted table) width (omega arith)) ∙ ap (λ n. nat_le n width) (sym (c.bounded_width.ensures wanted is)) ∙ ap (nat_le c.bounded_width.result) (sym c.from.ensures) ∙ no in
    failed_level fits c.loop-level.level (omega (arith, c.loop-level-test.true)) none ∙ c.loop-level.invariant wanted is

pub returns-else-bounded_width-from : goal.returns-else-bounded_width-from
returns-else-bounded_width-from c wanted is =
    let width = c.args.width in
    let limits = c.args.limits.now in
    let table = c.args.contents.now.table in
    let fits : ℕ → Bool = λ level. nat_le (bounded_width limits level wanted table) width in
    let yes : nat_le c.bounded_width.result c.from.result ≡ true = grind (arith, nat_tests, c.if-bounded_width-from.false) in
    let all : fits c.loop-level.level ≡ true =
    sym (stopped (bounded_width limits c.loop-level.level wanted table) width (omega arith)) ∙ ap (λ n. nat_le n width) (sym (c.bounded_width.ensures wanted is)) ∙ ap (nat_le c.bounded_width.result) (sym c.from.ensures) ∙ yes in
    passed_level fits c.loop-level.level (omega (arith, c.loop-level-test.true)) all ∙ c.loop-level.invariant wanted is
