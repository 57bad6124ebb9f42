use Rattle.std.proofs.Common.{rules, ◌∙◌, ◌==◌, ◌≡◌, Bool, None, Option, Some, ap₂, arith, if◌then◌else◌, option_and_then, option_map, sym}
use Rattle.std.specs.List.{after_first, before_first}
use Rattle.std.proofs.lemmas.Str.Pattern.{split_parts, strip_prefix_char}
use Rattle.clap.proofs.CutLemmas.{list_any-Lacks}
use Rattle.clap.proofs.LexerLemmas.{strip_byte-from}
use Rattle.comfy_parts.specs.Text.{Text}
use Rattle.csv_command.specs.Mistakes.{split_letter}
use Rattle.csv_command.proofs.mistakes.in_one_word.Goals as goal

-- the value of the definition, by whether the word has `=`, and by the text after its hyphen
abbrev split : Text → Bool → Option Text → Option (Text × Text)
split word has_equals rest =
    if has_equals
    then Some (before_first (λ b. b == 0x3D) word, after_first (λ b. b == 0x3D) word)
    else option_and_then split_letter rest

pub returns-in-None : goal.returns-in-None
returns-in-None c =
    let word = c.args.word.now in
    let lacks = list_any-Lacks 0x3D word (split_parts 0x3D word None c.in-None.ensures.cases (omega arith)) in
    let rest = strip_byte-from 0x2D word c.strip_prefix.result (strip_prefix_char 0x2D word c.strip_prefix.result c.strip_prefix.ensures.cases (omega arith)) in
    let it : option_map (λ it. (it.0.now, it.1.now)) c.and_then.result ≡ option_and_then split_letter (option_map (λ s. s.now) c.strip_prefix.result) = search rules in
    it ∙ ap₂ (split word) (sym lacks) rest
