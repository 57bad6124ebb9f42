use Rattle.std.proofs.Common.{List, ℕ, ◌++◌, ap, encode_utf8, length, sym, ◌∙◌}
use Rattle.csv_records.proofs.NumberLemmas.{before_last, chars-last, chars-none, ends-text}
use Rattle.csv_records.proofs.number.split_last.Goals as goal

pub returns-clause-characters : goal.returns-clause-characters
returns-clause-characters c =
    chars-last c.args.text.now c.as_str.result.now c.in_ok-c.c c.utf8.text c.as_str.utf8
    (sym c.chars-characters.ensures.rest ∙ c.in_ok-c.ensures.steps ∙ ap (λ (rest : List ℕ). rest ++ encode_utf8 c.in_ok-c.c) (sym c.as_str.ensures))

pub returns-clause-last : goal.returns-clause-last
returns-clause-last c =
    ends-text c.args.text.now c.as_str.result.now c.in_ok-c.c c.utf8.text c.as_str.utf8
    (sym c.chars-characters.ensures.rest ∙ c.in_ok-c.ensures.steps ∙ ap (λ (rest : List ℕ). rest ++ encode_utf8 c.in_ok-c.c) (sym c.as_str.ensures))

pub returns-clause-rest : goal.returns-clause-rest
returns-clause-rest c =
    before_last c.args.text.now c.as_str.result.now c.in_ok-c.c c.utf8.text c.as_str.utf8
    (sym c.chars-characters.ensures.rest ∙ c.in_ok-c.ensures.steps ∙ ap (λ (rest : List ℕ). rest ++ encode_utf8 c.in_ok-c.c) (sym c.as_str.ensures))

pub returns-in_err-c-clause-none : goal.returns-in_err-c-clause-none
returns-in_err-c-clause-none c =
    rw c.from_residual.ensures
    (chars-none c.args.text.now (ap length (sym c.chars-characters.ensures.rest) ∙ c.in_err-c.ensures.steps.0))
