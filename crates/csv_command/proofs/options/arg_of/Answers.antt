use Rattle.std.proofs.Common.{◌≡◌, ◌≢◌, ◌∙◌, Some, ap, refl, sym}
use Rattle.clap.specs.Words.{Rule, new_rule, rule_of}
use Rattle.clap.specs.declared.builder.action.ArgAction.TheVariants.{SetTrue}
use Rattle.comfy_parts.specs.Text.{Text}
use Rattle.csv_command.specs.Program.{bare}
use Rattle.csv_command.specs.Rules.{lettered, of_kind, rule_for, with_values}
use Rattle.csv_command.specs.declared.options.Kind.{Kind}
use Rattle.csv_command.specs.declared.options.Kind.TheVariants as kind
use Rattle.csv_command.proofs.options.arg_of.Goals as goal

valued : (k : Kind) (name : Text) (rule : Rule) → k ≢ kind.File → k ≢ kind.Flag → k ≢ kind.Letter
    → bare (record rule { long = Some name; value_names = 1 }) ≡ bare (of_kind k name rule)
valued kind.File name rule no_file no_flag no_letter = absurd (no_file refl)
valued kind.Flag name rule no_file no_flag no_letter = absurd (no_flag refl)
valued kind.Letter name rule no_file no_flag no_letter = absurd (no_letter refl)
valued k name rule no_file no_flag no_letter = refl

pub returns-in-File : goal.returns-in-File
unfolding rule_for
returns-in-File c =
    let option = c.args.option.now in
    let begun = c.with_letter-arg.ensures ∙ ap (λ a. lettered option.letter (rule_of a)) c.help_heading.ensures ∙ ap (λ a. lettered option.letter (rule_of a)) c.help.ensures ∙ ap (lettered option.letter) c.new.ensures.rule in
    ap (λ a. bare (rule_of a)) c.value_name.ensures ∙ ap (λ (rule : Rule). bare (record rule { value_names = 1 })) begun
    ∙ ap (λ k. with_values k (bare (of_kind k option.name.now (lettered option.letter (new_rule option.name.now))))) (sym c.in-File.is)

pub returns-in-Flag : goal.returns-in-Flag
unfolding rule_for
returns-in-Flag c =
    let option = c.args.option.now in
    let begun = c.with_letter-arg.ensures ∙ ap (λ a. lettered option.letter (rule_of a)) c.help_heading.ensures ∙ ap (λ a. lettered option.letter (rule_of a)) c.help.ensures ∙ ap (lettered option.letter) c.new.ensures.rule in
    ap (λ a. bare (rule_of a)) c.action.ensures ∙ ap (λ a. bare (record (rule_of a) { action = Some SetTrue })) c.long.ensures
    ∙ ap (λ (rule : Rule). bare (record rule { long = Some option.name.now; action = Some SetTrue })) begun
    ∙ ap (λ k. with_values k (bare (of_kind k option.name.now (lettered option.letter (new_rule option.name.now))))) (sym c.in-Flag.is)

pub returns-in-Letter : goal.returns-in-Letter
unfolding rule_for
returns-in-Letter c =
    let option = c.args.option.now in
    let begun = c.with_letter-arg.ensures ∙ ap (λ a. lettered option.letter (rule_of a)) c.help_heading.ensures ∙ ap (λ a. lettered option.letter (rule_of a)) c.help.ensures ∙ ap (lettered option.letter) c.new.ensures.rule in
    ap (λ a. bare (rule_of a)) c.action-in-Letter.ensures ∙ ap (λ (rule : Rule). bare (record rule { action = Some SetTrue })) begun
    ∙ ap (λ k. with_values k (bare (of_kind k option.name.now (lettered option.letter (new_rule option.name.now))))) (sym c.in-Letter.is)

pub returns-in_default : goal.returns-in_default
unfolding rule_for
returns-in_default c =
    let option = c.args.option.now in
    let begun = c.with_letter-arg.ensures ∙ ap (λ a. lettered option.letter (rule_of a)) c.help_heading.ensures ∙ ap (λ a. lettered option.letter (rule_of a)) c.help.ensures ∙ ap (lettered option.letter) c.new.ensures.rule in
    c.with_value.ensures
    ∙ ap (λ a. with_values option.kind (bare (rule_of a))) (c.value_name-in_default.ensures)
    ∙ ap (λ a. with_values option.kind (bare (record (rule_of a) { value_names = 1 }))) c.long-in_default.ensures
    ∙ ap (λ (rule : Rule). with_values option.kind (bare (record rule { long = Some option.name.now; value_names = 1 }))) begun
    ∙ ap (with_values option.kind) (valued option.kind option.name.now (lettered option.letter (new_rule option.name.now)) c.in_default.not-File c.in_default.not-Flag c.in_default.not-Letter)
