-- Clap's faults for words, computed: help and the version if only they are requested.
use Rattle.std.proofs.Common.{◌≡◌, List, [], ◌∷◌, codes, map, inl, inr, refl}
use Prim.Native.String.{String}
use Rattle.clap.proofs.OnLiterals.{clap_on_literals}
use Rattle.clap.specs.Words.{App, IsAmong, Rule, fault_of}
use Rattle.clap.specs.declared.error.kind.ErrorKind.{ErrorKind}
use Rattle.clap.specs.declared.error.kind.ErrorKind.TheVariants as kind
use Rattle.comfy_parts.specs.Text.{Text}
use Rattle.csv_command.specs.Program.{csvtable_rules, with_rules, wordless}

-- the program's command, whose values may have any name
abbrev app : App
app = with_rules wordless (map (λ (known : Rule × List Text). known.0) csvtable_rules)

abbrev faults : List String → List ErrorKind
faults words = fault_of app (codes "csvtable" ∷ map (λ (word : String). codes word) words)

help : map faults (("-h" ∷ []) ∷ ("--help" ∷ []) ∷ ("a.csv" ∷ "-nh" ∷ []) ∷ []) ≡ (kind.DisplayHelp ∷ []) ∷ (kind.DisplayHelp ∷ []) ∷ (kind.DisplayHelp ∷ []) ∷ []
unfolding clap_on_literals
help = refl

version : map faults (("-V" ∷ []) ∷ ("--version" ∷ "--help" ∷ []) ∷ []) ≡ (kind.DisplayVersion ∷ []) ∷ (kind.DisplayVersion ∷ []) ∷ []
unfolding clap_on_literals
version = refl

-- an unknown word, a second file, a missing value, and a value that isn't a number; help after them isn't reached
mistakes : map faults (("--wide" ∷ []) ∷ ("a" ∷ "b" ∷ "-h" ∷ []) ∷ ("-w" ∷ []) ∷ ("-w" ∷ "wide" ∷ "-V" ∷ []) ∷ []) ≡ (kind.UnknownArgument ∷ []) ∷ (kind.UnknownArgument ∷ []) ∷ (kind.InvalidValue ∷ []) ∷ (kind.ValueValidation ∷ []) ∷ []
unfolding clap_on_literals
mistakes = refl

-- clap takes two options that contradict each other
taken : map faults (("--rows" ∷ "--no-rows" ∷ []) ∷ ("-t" ∷ "-d" ∷ "," ∷ []) ∷ ([]) ∷ []) ≡ [] ∷ [] ∷ [] ∷ []
unfolding clap_on_literals
taken = refl

-- so an unknown word isn't a request for help
no_call_for_help : ¬ (IsAmong kind.DisplayHelp (faults ("--wide" ∷ [])))
unfolding clap_on_literals
no_call_for_help (inl is) = cc is
no_call_for_help (inr among) = among
