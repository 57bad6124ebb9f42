use Rattle.std.proofs.Common.{◌≡◌, ◌∙◌, ap, map, refl}
use Rattle.csv_command.specs.Mistakes.{greatest_number, greatest_within}
use Rattle.csv_command.specs.Program.{csvtable_rules}
use Rattle.csv_command.specs.Rules.{rule_for}
use Rattle.csv_command.proofs.options.greatest_number.Goals as goal

pub returns : goal.returns
unfolding rule_for greatest_number
returns c =
    let own : map rule_for c.as_slice.result.now ≡ csvtable_rules = rw c.as_slice.ensures refl in
    c.greatest_within.ensures ∙ ap (λ rules. greatest_within rules c.args.word.now) own
