-- The options of `csvtable`, as rules of clap.
-- Source: this library's own, in the words of the crate clap.
use Rattle.std.specs.Prelude.{◌≡◌, ℕ, ◌-◌, ◌^◌, pos, true, List, [], ◌∷◌, Option, Some, None, codes, map}
use Rattle.clap.specs.Words.{App, Rule, new_app, new_rule}
use Rattle.clap.specs.declared.builder.action.ArgAction.TheVariants.{SetTrue}
use Rattle.clap.specs.declared.builder.value_parser.ValueParser.{ValueParser}
use Rattle.clap.specs.declared.builder.value_parser.ValueParser.TheVariants as vp
use Rattle.csv_command.specs.Styles.{style_names}
use Rattle.comfy_parts.specs.Text.{Text}

-- an option with a value, by its name and its letter
abbrev pub option : Text → Option ℕ → Rule
option name letter = record (new_rule name) { long = Some name; short = letter; value_names = 1 }

-- an option without a value
abbrev pub flag : Text → Option ℕ → Rule
flag name letter =
    record (new_rule name) { long = Some name; short = letter; action = Some SetTrue }

-- an option without a value that has only a letter
abbrev pub letter : Text → ℕ → Rule
letter name short = record (new_rule name) { short = Some short; action = Some SetTrue }

-- an option whose value is a number
abbrev pub number : Text → Option ℕ → ValueParser → Rule
number name letter parser = record (option name letter) { parser = Some parser }

-- an option whose value is one of some names
abbrev pub choice : Text → Option ℕ → Rule
choice name letter = record (option name letter) { parser = Some vp.String }

-- a rule whose value has no names
abbrev pub nameless : Rule → Rule × List Text
nameless rule = (rule, [])

-- the values of an option that says when something is done
abbrev pub whens : List Text
whens = codes "auto" ∷ codes "always" ∷ codes "never" ∷ []

-- the names of encodings
abbrev pub encodings : List Text
encodings =
    codes "utf-8"
    ∷ codes "utf8"
    ∷ codes "cp1252"
    ∷ codes "windows-1252"
    ∷ codes "latin1"
    ∷ codes "latin-1"
    ∷ codes "iso-8859-1"
    ∷ codes "utf-16"
    ∷ codes "utf16"
    ∷ codes "utf-16le"
    ∷ []

-- the rules, each with the names that its value may be
abbrev pub csvtable_rules : List (Rule × List Text)
csvtable_rules =
    nameless (record (new_rule (codes "file")) { value_names = 1 })
    ∷ nameless (option (codes "delimiter") (Some 0x64))
    ∷ nameless (letter (codes "tabs") 0x74)
    ∷ (record (choice (codes "encoding") (Some 0x65)) { ignore_case = true }, encodings)
    ∷ nameless (flag (codes "no-quotes") None)
    ∷ nameless (number (codes "skip") None (vp.Unsigned 0 (2 ^ 64 - 1)))
    ∷ nameless (flag (codes "no-header") (Some 0x6E))
    ∷ nameless (number (codes "limit") None (vp.Unsigned 0 (2 ^ 64 - 1)))
    ∷ nameless (flag (codes "count") None)
    ∷ nameless (flag (codes "number") (Some 0x6C))
    ∷ nameless (option (codes "columns") (Some 0x63))
    ∷ nameless (option (codes "drop") None)
    ∷ nameless (option (codes "right") (Some 0x72))
    ∷ nameless (option (codes "left") None)
    ∷ nameless (flag (codes "no-decimal") None)
    ∷ nameless (number (codes "width") (Some 0x77) (vp.Signed (pos 0) (pos 65535)))
    ∷ nameless (flag (codes "full") None)
    ∷ nameless (letter (codes "all-expanded") 0x78)
    ∷ (choice (codes "expanded") None, whens)
    ∷ (record (choice (codes "style") (Some 0x73)) { ignore_case = true }, style_names)
    ∷ nameless (flag (codes "rows") None)
    ∷ nameless (flag (codes "no-rows") None)
    ∷ nameless (number (codes "max-height") (Some 0x6D) (vp.Unsigned 0 (2 ^ 64 - 1)))
    ∷ nameless (flag (codes "markdown") None)
    ∷ (choice (codes "color") None, whens)
    ∷ nameless (flag (codes "ansi") None)
    ∷ []

-- a value's parser, without the names that it allows
abbrev pub unnamed : Option ValueParser → Option ValueParser
unnamed (Some (vp.Names names)) = Some vp.String
unnamed parser = parser

-- the names that a value's parser allows, if any
abbrev pub value_names : Option ValueParser → List Text
value_names (Some (vp.Names names)) = map (λ name. name.now) names.now
value_names parser = []

-- a rule whose parser has no names, and the names that the parser allowed
abbrev pub bare : Rule → Rule × List Text
bare rule = (record rule { parser = unnamed rule.parser }, value_names rule.parser)

-- a command's own rules
abbrev pub with_rules : App → List Rule → App
with_rules app rules = record app { top = record app.top { rules = rules } }

-- the program's command without its rules; it has a version, and of two equal options the last one
-- counts
abbrev pub wordless : App
wordless =
    record (new_app (codes "csvtable")) {
      top = record (new_app (codes "csvtable")).top
          { has_version = true; args_override_self = true };
    }

-- a command that reads arguments as the program does
pub record IsCsvtable (app : App) : Type 0 where
  pub is_wordless : with_rules app [] ≡ wordless
  pub rules : map bare app.top.rules ≡ csvtable_rules
