use Rattle.std.proofs.Common.{◌≡◌, ◌++◌, ap, arith, subst, sym, ◌∙◌, append-nil}
use Rattle.comfy_parts.specs.Text.{spaces}
use Rattle.std.specs.Prelude.{option_map}
use Rattle.comfy_table.specs.TextStyles.{text_cell}
use Rattle.csv_tables.proofs.PlainRowLemmas.{clean_stays, spaced_stays}
use Rattle.csv_tables.specs.Cells.{field_text}
use Rattle.csv_tables.specs.Contents.{IsKept}
use Rattle.csv_tables.proofs.cells.lent_cell.Goals as goal

pub returns-in-Some : goal.returns-in-Some
returns-in-Some c =
    let kept : IsKept c.args.look.now c.args.text.now c.args.after = c.is_changed.ensures c.if-is_changed.false in
    c.in-Some.ensures.cell ∙ ap (text_cell c.args.alignment (option_map (λ style. style.now) c.args.style)) (sym (spaced_stays c.args.look.now c.args.text.now c.args.after kept c.in-Some.ensures.printable))

pub returns : goal.returns
returns c =
    let look = c.args.look.now in
    let text = c.args.text.now in
    let none : c.args.after ≡ 0 = omega (arith, c.if-after-gt0.false) in
    let kept : IsKept look text c.args.after = c.is_changed.ensures c.if-is_changed.false in
    let stays : field_text look text ≡ text = clean_stays look text (subst (IsKept look text) none kept) c.utf8.text c.in_ok-cell.ensures.clean in
    let same : text ++ spaces c.args.after ≡ text = ap (λ n. text ++ spaces n) none ∙ append-nil text in
    c.in_ok-cell.ensures.cell ∙ ap (text_cell c.args.alignment (option_map (λ style. style.now) c.args.style)) (sym stays ∙ ap (field_text look) (sym same))
