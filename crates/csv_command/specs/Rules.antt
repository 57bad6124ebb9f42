-- Private: the rule of clap for an option of the program's table.
-- Source: this library's own, in the words of the crate clap.
use Rattle.std.specs.Prelude.{ℕ, ◌-◌, ◌^◌, pos, true, List, [], Option, Some, None}
use Rattle.clap.specs.Words.{Rule, new_rule}
use Rattle.clap.specs.declared.builder.action.ArgAction.TheVariants.{SetTrue}
use Rattle.clap.specs.declared.builder.value_parser.ValueParser.TheVariants as vp
use Rattle.comfy_parts.specs.Text.{Text}
use Rattle.csv_command.specs.Program.{bare, encodings, whens}
use Rattle.csv_command.specs.Styles.{style_names}
use Rattle.csv_command.specs.declared.options.Kind.{Kind}
use Rattle.csv_command.specs.declared.options.Kind.TheVariants as kind
use Rattle.csv_command.specs.declared.options.OptionSpec.{OptionSpec}

abbrev pub lettered : Option ℕ → Rule → Rule
lettered None rule = rule
lettered (Some letter) rule = record rule { short = Some letter }

-- a rule and its names, with those that a kind adds
abbrev pub with_values : Kind → Rule × List Text → Rule × List Text
with_values kind.Width known =
    (record known.0 { parser = Some (vp.Signed (pos 0) (pos 65535)) }, [])
with_values kind.Count known = (record known.0 { parser = Some (vp.Unsigned 0 (2 ^ 64 - 1)) }, [])
with_values kind.Style known =
    (record known.0 { parser = Some vp.String; ignore_case = true }, style_names)
with_values kind.When known = (record known.0 { parser = Some vp.String }, whens)
with_values kind.Encoding known =
    (record known.0 { parser = Some vp.String; ignore_case = true }, encodings)
with_values _ known = known

-- an argument with a value or without one
abbrev pub of_kind : Kind → Text → Rule → Rule
of_kind kind.File name rule = record rule { value_names = 1 }
of_kind kind.Flag name rule = record rule { long = Some name; action = Some SetTrue }
of_kind kind.Letter name rule = record rule { action = Some SetTrue }
of_kind kind name rule = record rule { long = Some name; value_names = 1 }

unfoldable pub rule_for : OptionSpec → Rule × List Text
rule_for option =
    with_values option.kind
    (bare (of_kind option.kind option.name.now (lettered option.letter (new_rule option.name.now))))
