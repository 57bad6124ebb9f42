use Rattle.std.proofs.Common.{◌≤◌, ◌==◌, [], ◌∷◌, ap, arith, length, string_bytes, refl, subst, sym, ◌∙◌, max}
use Rattle.std.specs.List.{All, slice_split}
use Rattle.std.proofs.lemmas.List.Elements.{All-append, All-cons, All-nil, All-weaker}
use Rattle.std.proofs.lemmas.Grind.{common_steps}
use Rattle.std.proofs.lemmas.Str.{chars-nil}
use Rattle.std.proofs.lemmas.Result.{IfOk-weaker}
use Rattle.comfy_table.specs.Headline.{IsTableDrawing, TerminatesLines}
use Rattle.comfy_table.specs.Laws.{count, least_total}
use Rattle.comfy_table.specs.TableValue.{TableValue}
use Rattle.test_callers.specs.Uses.{table_within}
use Rattle.test_callers.proofs.uses.drawing.printed_within.Goals as goal

pub returns : goal.returns
returns c =
    IfOk-weaker c.to_terminated_text.result _ _
    (λ text printed free plain enough.
    let w = c.args.width in
    let table : TableValue = table_within w c.args.header c.args.row in
    let ended : TerminatesLines table (string_bytes text) = subst (λ (t : TableValue). TerminatesLines t (string_bytes text)) (grind (arith, common_steps)) printed in
    let drawn : IsTableDrawing table ended.0 = ended.1 in
    let few : All (λ line. count line ≤ max w (least_total table)) ended.0 = subst (All (λ line. count line ≤ max w (least_total table))) (sym (drawn.edges.unstyled_lines refl refl)) ((drawn.known_width.keeps_to_width w free refl refl).printable_lines (plain drawn.widths)) in
    let found = c.lines_are_found_in_their_texts.ensures.terminated ended.0 (drawn.controls.without_breaks (record { indicator = refl; characters = refl })) in
    subst (All (λ line. count line ≤ w)) (sym (ap (slice_split (λ b. b == 0x0A)) ended.2 ∙ found))
    (All-append (λ line. count line ≤ w) ended.0 ([] ∷ [])
    (All-weaker (λ line. count line ≤ max w (least_total table)) (λ line. count line ≤ w) (λ line own. omega (arith, own, enough)) ended.0 few)
    (All-cons (λ line. count line ≤ w) [] [] (let none = ap length chars-nil in omega (arith, none)) (All-nil (λ line. count line ≤ w)))))
    c.to_terminated_text.ensures
