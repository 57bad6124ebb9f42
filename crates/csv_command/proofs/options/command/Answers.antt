use Rattle.std.proofs.Common.{◌≡◌, ◌∙◌, [], ap, arith, map, refl, rules}
use Rattle.clap.specs.Words.{App, app_of}
use Rattle.csv_command.proofs.ProgramLemmas.{local, one_more}
use Rattle.csv_command.specs.Program.{bare, csvtable_rules, with_rules}
use Rattle.csv_command.specs.Rules.{rule_for}
use Rattle.csv_command.proofs.options.command.Goals as goal

pub loop-option-preserved : goal.loop-option-preserved
loop-option-preserved c =
    let shape = c.in_ok-command.ensures.shape (local c.in_ok-arg_of.field-0 _ c.in_ok-arg_of.ensures) in
    record {
      rules = ap (λ (app : App). map bare app.top.rules) shape ∙ one_more _ c.loop-option.option-index _ _ _ (search rules) c.loop-option.invariant.rules c.in_ok-arg_of.ensures;
      others = ap (λ (app : App). with_rules app []) shape ∙ c.loop-option.invariant.others;
    }

pub returns : goal.returns
unfolding rule_for
returns c =
    let last : c.loop-option.option-index ≡ 26 = omega (arith, c.loop-option-test.false, c.loop-option.auto.option-index-end) in
    let own : map bare (app_of c.loop-option.command).top.rules ≡ csvtable_rules = c.loop-option.invariant.rules ∙ rw last refl in
    record { is_wordless = c.loop-option.invariant.others; rules = own }
