use Rattle.std.proofs.Common.{◌≡◌, ◌++◌, ◌∷◌, [], ap, append-nil, sym, ◌∙◌}
use Rattle.comfy_parts.specs.Text.{Text, spaces}
use Rattle.csv_tables.proofs.NoWrapFieldLemmas.{of_one_line}
use Rattle.csv_tables.proofs.nowrap.text_nowrap_width.Goals as goal

pub returns-then-after-eq0-clause-value : goal.returns-then-after-eq0-clause-value
returns-then-after-eq0-clause-value c = λ table.
    let cell = c.args.cell.now in
    let text = c.line-after.result.0.now in
    let same : text ++ spaces c.line-after.result.1 ≡ text = ap (λ n. text ++ spaces n) c.if-after-eq0.true ∙ append-nil text in
    let one : cell.text_lines ≡ text ∷ [] = c.line-after.ensures.line ∙ ap (λ (t : Text). t ∷ []) same in
    c.nowrap_width.ensures.value ∙ of_one_line table c.args.room cell text one c.line-after.ensures.clear

pub returns-clause-value : goal.returns-clause-value
returns-clause-value c = λ table.
    let one : c.args.cell.now.text_lines ≡ c.as_str.result.now ∷ [] = c.in_ok-spaced.ensures ∙ ap (λ (t : Text). t ∷ []) (sym c.as_str.ensures.value) in
    c.nowrap_width-2.ensures.value ∙ of_one_line table c.args.room c.args.cell.now c.as_str.result.now one c.line-after.ensures.clear
