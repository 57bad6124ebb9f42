-- The rule of clap for an option of the program's table: its name, its letter and its greatest number.
use Rattle.std.proofs.Common.{◌≡◌, ◌-◌, ◌^◌, ℕ, Option, Some, None, refl}
use Rattle.clap.specs.Words.{Rule, new_rule}
use Rattle.comfy_parts.specs.Text.{Text}
use Rattle.csv_command.specs.Mistakes.{greatest_read}
use Rattle.csv_command.specs.Program.{bare}
use Rattle.csv_command.specs.Rules.{lettered, of_kind, rule_for, with_values}
use Rattle.csv_command.specs.declared.options.Kind.{Kind}
use Rattle.csv_command.specs.declared.options.Kind.TheVariants as kind
use Rattle.csv_command.specs.declared.options.OptionSpec.{OptionSpec}

-- the long name of an option of this kind
abbrev pub long_name : Kind → Text → Option Text
long_name kind.File name = None
long_name kind.Letter name = None
long_name _ name = Some name

-- the greatest number of an option of this kind
abbrev pub kind_greatest : Kind → Option ℕ
kind_greatest kind.Width = Some 65535
kind_greatest kind.Count = Some (2 ^ 64 - 1)
kind_greatest _ = None

-- the rule for a kind, a letter and a name
abbrev made : Kind → Option ℕ → Text → Rule
made k letter name = (with_values k (bare (of_kind k name (lettered letter (new_rule name))))).0

made_long : (k : Kind) (letter : Option ℕ) (name : Text) → (made k letter name).long ≡ long_name k name
made_long kind.File None name = refl
made_long kind.File (Some letter) name = refl
made_long kind.Flag letter name = refl
made_long kind.Letter None name = refl
made_long kind.Letter (Some letter) name = refl
made_long kind.Text letter name = refl
made_long kind.Width letter name = refl
made_long kind.Count letter name = refl
made_long kind.Style letter name = refl
made_long kind.When letter name = refl
made_long kind.Encoding letter name = refl

lettered_short : (letter : Option ℕ) (name : Text) → (lettered letter (new_rule name)).short ≡ letter
lettered_short None name = refl
lettered_short (Some letter) name = refl

made_short : (k : Kind) (letter : Option ℕ) (name : Text) → (made k letter name).short ≡ letter
made_short kind.File letter name = lettered_short letter name
made_short kind.Flag letter name = lettered_short letter name
made_short kind.Letter letter name = lettered_short letter name
made_short kind.Text letter name = lettered_short letter name
made_short kind.Width letter name = lettered_short letter name
made_short kind.Count letter name = lettered_short letter name
made_short kind.Style letter name = lettered_short letter name
made_short kind.When letter name = lettered_short letter name
made_short kind.Encoding letter name = lettered_short letter name

made_greatest : (k : Kind) (letter : Option ℕ) (name : Text) → greatest_read (made k letter name).parser ≡ kind_greatest k
made_greatest kind.File None name = refl
made_greatest kind.File (Some letter) name = refl
made_greatest kind.Flag None name = refl
made_greatest kind.Flag (Some letter) name = refl
made_greatest kind.Letter None name = refl
made_greatest kind.Letter (Some letter) name = refl
made_greatest kind.Text None name = refl
made_greatest kind.Text (Some letter) name = refl
made_greatest kind.Width letter name = refl
made_greatest kind.Count letter name = refl
made_greatest kind.Style letter name = refl
made_greatest kind.When letter name = refl
made_greatest kind.Encoding letter name = refl

pub long_is : (option : OptionSpec) → (rule_for option).0.long ≡ long_name option.kind option.name.now
unfolding rule_for
long_is option = made_long option.kind option.letter option.name.now

pub short_is : (option : OptionSpec) → (rule_for option).0.short ≡ option.letter
unfolding rule_for
short_is option = made_short option.kind option.letter option.name.now

pub greatest_is : (option : OptionSpec) → greatest_read (rule_for option).0.parser ≡ kind_greatest option.kind
unfolding rule_for
greatest_is option = made_greatest option.kind option.letter option.name.now
