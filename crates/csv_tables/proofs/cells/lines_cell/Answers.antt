use Rattle.std.proofs.Common.{◌≡◌, ◌++◌, false, ap, append-nil, arith, sym, ◌∙◌}
use Rattle.std.specs.Prelude.{option_map}
use Rattle.comfy_parts.specs.Text.{spaces}
use Rattle.comfy_table.specs.TextStyles.{text_cell}
use Rattle.csv_tables.proofs.PlainRowLemmas.{harmless_stays}
use Rattle.csv_tables.specs.Cells.{field_text, is_blank}
use Rattle.csv_tables.proofs.cells.lines_cell.Goals as goal

pub returns : goal.returns
returns c =
    let look = c.args.look.now in
    let text = c.args.text.now in
    let none : c.args.after ≡ 0 = grind arith in
    let unmarked : look.is_markdown ≡ false = grind arith in
    let filled : is_blank text ≡ false = grind arith in
    let stays : field_text look text ≡ text = harmless_stays look text unmarked filled c.utf8.text (c.has_clean_lines.ensures (grind arith)) in
    let same : text ++ spaces c.args.after ≡ text = ap (λ n. text ++ spaces n) none ∙ append-nil text in
    c.in_ok-cell.ensures ∙ ap (text_cell c.args.alignment (option_map (λ style. style.now) c.args.style)) (sym stays ∙ ap (field_text look) (sym same))
