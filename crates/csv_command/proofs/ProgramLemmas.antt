-- The program's command has the rules of its table.
use Rattle.std.proofs.Common.{◌≡◌, ◌≢◌, inl, inr, ℕ, ◌+◌, ◌<◌, Bool, true, false, List, [], ◌∷◌, ◌++◌, Option, Some, None, map, take, drop, get_or, length, slice_index_or, arith, rules, tests, refl, sym, subst, ap, ap₂, ◌∙◌}
use Rattle.std.proofs.lemmas.Grind.{common_steps}
use Rattle.clap.specs.Walk.{is_simple_arg}
use Rattle.clap.specs.Words.{App, HasKind, IsAmong, Rule, fault_of, is_simple, is_simple_and_free, kind_of, new_rule, rule_of, takes}
use Rattle.clap.specs.declared.builder.arg.Arg.{Arg}
use Rattle.clap.specs.declared.error.Error.{Error}
use Rattle.clap.specs.declared.error.kind.ErrorKind.TheVariants.{OutOfMemory}
use Rattle.comfy_parts.specs.Text.{Text}
use Rattle.csv_command.specs.Program.{IsCsvtable, bare, csvtable_rules, with_rules, wordless}
use Rattle.csv_command.specs.Rules.{lettered, of_kind, rule_for, with_values}
use Rattle.csv_command.specs.Arguments.{AreNotTaken}
use Rattle.csv_command.specs.declared.options.Kind.{Kind}
use Rattle.csv_command.specs.declared.options.Kind.TheVariants as kind
use Rattle.csv_command.specs.declared.options.OptionSpec.{OptionSpec}

lettered_simple : (letter : Option ℕ) (name : Text) → (lettered letter (new_rule name)).is_simple ≡ true
lettered_simple None name = refl
lettered_simple (Some letter) name = refl

stays_simple : (k : Kind) (name : Text) (rule : Rule) → rule.is_simple ≡ true → (with_values k (bare (of_kind k name rule))).0.is_simple ≡ true
stays_simple kind.File name rule h = h
stays_simple k name rule h = h

not_global : (arg : Arg) → is_simple_arg arg ≡ true → arg.global ≡ false
not_global arg h = search (rules, tests)

-- no argument is global
pub local : (arg : Arg) (option : OptionSpec) → bare (rule_of arg) ≡ rule_for option → arg.global ≡ false
unfolding rule_for
local arg option is =
    not_global arg (ap (λ (known : Rule × List Text). known.0.is_simple) is ∙ stays_simple option.kind option.name.now _ (lettered_simple option.letter option.name.now))

-- one more rule for one more argument
pub one_more : (arguments : List OptionSpec) (i : ℕ) (option : OptionSpec) (had : List Rule) (rule : Rule) → i < length arguments → map bare had ≡ map rule_for (take i arguments)
    → bare rule ≡ rule_for (slice_index_or arguments i option) → map bare (had ++ rule ∷ []) ≡ map rule_for (take (i + 1) arguments)
one_more arguments i option had rule inside same new = grind (arith, common_steps)

-- ---- such a command is simple

-- rules with the names that `bare` has taken from those of another list
restored : List (Rule × List Text) → List Rule → List Rule
restored [] from = []
restored (known ∷ more) from = record known.0 { parser = (get_or from 0 (new_rule [])).parser } ∷ restored more (drop 1 from)

are_restored : (rules : List Rule) (bared : List (Rule × List Text)) → map bare rules ≡ bared → rules ≡ restored bared rules
unfolding restored
are_restored [] [] h = refl
are_restored [] (c ∷ cs) h = absurd (cc h)
are_restored (r ∷ rs) [] h = absurd (cc h)
are_restored (r ∷ rs) (c ∷ cs) h =
    let head : bare r ≡ c = cc h in
    let rest : map bare rs ≡ cs = cc h in
    ap₂ (λ (x : Rule) (xs : List Rule). x ∷ xs) (ap (λ (x : Rule × List Text). record x.0 { parser = r.parser }) head) (are_restored rs cs rest)

-- P holds for a command with the program's rules, if it holds for these rules with any names of values
by_rules : (P : App → Type 0) → ((from : List Rule) → P (with_rules wordless (restored csvtable_rules from))) → (app : App) → IsCsvtable app → P app
by_rules P each app is =
    let rules = app.top.rules in
    let same : app ≡ with_rules wordless (restored csvtable_rules rules) =
    ap (λ (a : App). with_rules a rules) is.is_wordless ∙ ap (with_rules wordless) (are_restored rules csvtable_rules is.rules) in
    subst P (sym same) (each rules)

restored_is_simple : (from : List Rule) → is_simple (with_rules wordless (restored csvtable_rules from)) ≡ true
unfolding restored
restored_is_simple from = refl

pub csvtable_is_simple : (app : App) → IsCsvtable app → is_simple app ≡ true
csvtable_is_simple = by_rules (λ app. is_simple app ≡ true) restored_is_simple

-- no rule of the command refers to another rule
restored_is_free : (from : List Rule) → is_simple_and_free (with_rules wordless (restored csvtable_rules from)) ≡ true
unfolding restored
restored_is_free from = refl

pub csvtable_is_free : (app : App) → IsCsvtable app → is_simple_and_free app ≡ true
csvtable_is_free = by_rules (λ app. is_simple_and_free app ≡ true) restored_is_free

-- If the arguments would be taken, a lack of memory is the only error. Otherwise the kind is one of those for the
-- arguments.
pub not_taken : (app : App) (arguments : List Text) (e : Error) → IsCsvtable app → (takes app arguments ≡ true → kind_of e ≡ OutOfMemory) → HasKind (fault_of app arguments) e
    → kind_of e ≢ OutOfMemory → AreNotTaken arguments (kind_of e)
not_taken app arguments e is passes kinds other = by_test (takes app arguments) refl
  where
    known : HasKind (fault_of app arguments) e → IsAmong (kind_of e) (fault_of app arguments)
    known (inl none) = absurd (other none)
    known (inr among) = among

    by_test : (b : Bool) → takes app arguments ≡ b → AreNotTaken arguments (kind_of e)
    by_test true is_taken = absurd (other (passes is_taken))
    by_test false is_refused = record { app = app; is_csvtable = is; not_taken = is_refused; is_kind = known kinds }
