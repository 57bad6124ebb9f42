use Rattle.std.proofs.Common.{List, ℕ, ◌++◌, ap, encode_utf8, length, sym, ◌∙◌}
use Rattle.std.proofs.lemmas.Str.{chars_past_char}
use Rattle.csv_records.proofs.NumberLemmas.{after_first, chars-none}
use Rattle.csv_records.proofs.characters.split_first.Goals as goal

pub returns-clause-characters : goal.returns-clause-characters
returns-clause-characters c =
    chars_past_char c.args.text.now c.as_str.result.now c.in_ok-c.c c.utf8.text
    (sym c.chars-characters.ensures.rest ∙ c.in_ok-c.ensures.steps.0 ∙ ap (λ (rest : List ℕ). encode_utf8 c.in_ok-c.c ++ rest) (sym c.as_str.ensures))

pub returns-clause-rest : goal.returns-clause-rest
returns-clause-rest c =
    after_first c.args.text.now c.as_str.result.now c.in_ok-c.c c.utf8.text c.as_str.utf8
    (sym c.chars-characters.ensures.rest ∙ c.in_ok-c.ensures.steps.0 ∙ ap (λ (rest : List ℕ). encode_utf8 c.in_ok-c.c ++ rest) (sym c.as_str.ensures))

pub returns-in_err-c-clause-no_characters : goal.returns-in_err-c-clause-no_characters
returns-in_err-c-clause-no_characters c =
    rw c.from_residual.ensures
    (chars-none c.args.text.now (ap length (sym c.chars-characters.ensures.rest) ∙ c.in_err-c.ensures.steps.0.0))
