use Rattle.std.proofs.Common.{◌≡◌, [], map, take}
use Rattle.clap.specs.Words.{app_of}
use Rattle.csv_command.specs.Program.{bare, with_rules, wordless}
use Rattle.csv_command.specs.Rules.{rule_for}
use Rattle.csv_command.proofs.options.command.Given as goal

abbrev pub invariant-loop-option : goal.invariant-loop-option
invariant-loop-option l =
    record {
      rules : map bare (app_of l.command).top.rules ≡ map rule_for (take l.option-index l.option-items);
      others : with_rules (app_of l.command) [] ≡ wordless;
    }
