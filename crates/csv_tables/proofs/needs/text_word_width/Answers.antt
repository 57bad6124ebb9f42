use Rattle.std.proofs.Common.{◌≡◌, ◌++◌, ◌∷◌, [], ap, append-nil, sym, ◌∙◌}
use Rattle.comfy_parts.specs.Text.{Text, spaces}
use Rattle.csv_tables.proofs.NoWrapFieldLemmas.{words_of_one_line}
use Rattle.csv_tables.proofs.needs.text_word_width.Goals as goal

pub returns-then-after-eq0 : goal.returns-then-after-eq0
returns-then-after-eq0 c = λ table.
    let cell = c.args.cell.now in
    let text = c.line-after.result.0.now in
    let same : text ++ spaces c.line-after.result.1 ≡ text = ap (λ n. text ++ spaces n) c.if-after-eq0.true ∙ append-nil text in
    let one : cell.text_lines ≡ text ∷ [] = c.line-after.ensures.line ∙ ap (λ (t : Text). t ∷ []) same in
    c.word_width.ensures ∙ words_of_one_line table cell text one c.line-after.ensures.clear

pub returns : goal.returns
returns c = λ table.
    let one : c.args.cell.now.text_lines ≡ c.as_str.result.now ∷ [] = c.in_ok-spaced.ensures ∙ ap (λ (t : Text). t ∷ []) (sym c.as_str.ensures.value) in
    c.word_width-2.ensures ∙ words_of_one_line table c.args.cell.now c.as_str.result.now one c.line-after.ensures.clear
