use Rattle.std.proofs.Common.{◌≡◌, drop, map}
use Rattle.csv_command.specs.Mistakes.{greatest_within}
use Rattle.csv_command.specs.Rules.{rule_for}
use Rattle.csv_command.proofs.options.greatest_within.Given as goal

abbrev pub invariant-loop-option : goal.invariant-loop-option
invariant-loop-option l = greatest_within (map rule_for (drop l.option-index l.options)) l.word ≡ greatest_within (map rule_for l.options) l.word
