use Rattle.std.proofs.Common.{◌≤◌, List, [], ◌∷◌, ◌++◌, ap, arith, length, string_bytes, subst, sym, ◌∙◌, max}
use Rattle.std.specs.List.{All, Contains}
use Rattle.std.proofs.lemmas.List.Elements.{All-append, All-cons, All-contains, All-nil, All-weaker}
use Rattle.std.proofs.lemmas.Str.{chars-nil}
use Rattle.std.proofs.lemmas.Result.{on_ok_weaker}
use Rattle.comfy_parts.specs.Text.{Text}
use Rattle.comfy_table.specs.Drawing.{drawing_of_infos, terminated_text_of}
use Rattle.comfy_table.specs.Laws.{HasNoBreak, count, least_total}
use Rattle.comfy_table.specs.Parts.{IsArrangedTable, with_rows_alone}
use Rattle.comfy_table.specs.TableValue.{TableValue}
use Rattle.test_callers.proofs.uses.parts.push_page.Goals as goal

-- a property of each line of a table is one of each line that is one of them
carried : (P : Text → Type 0) (lines part : List Text) → All (Contains lines) part → All P lines → All P part
carried P lines part own each = All-weaker (Contains lines) P (λ line inside. All-contains P lines line each inside) part own

pub returns : goal.returns
returns c =
    let table = c.args.table.now in
    let arranged = c.in_ok-arranged.field-0 in
    let known : IsArrangedTable table (record { table = table; infos = arranged.infos }) = c.in_ok-arranged.ensures.infos in
    let lines = drawing_of_infos table arranged.infos in
    let part = drawing_of_infos (with_rows_alone c.args.first c.args.count table) arranged.infos in
    let own = c.parts_have_lines_of_the_table.ensures.lines table arranged.infos c.args.first c.args.count in
    on_ok_weaker c.push_rows-2.result
    (λ appended. (
      terminated_text_of part,
      appended ∙ ap (λ (t : TableValue). string_bytes c.args.text.now ++ terminated_text_of (drawing_of_infos (with_rows_alone c.args.first c.args.count t) arranged.infos)) c.in_ok-arranged.ensures.table,
      λ w dynamic width off plain_texts unbroken free plain enough.
          let few : All (λ line. count line ≤ max w (least_total table)) lines = subst (All (λ line. count line ≤ max w (least_total table))) (sym (known.headline.edges.unstyled_lines off plain_texts)) ((known.headline.known_width.keeps_to_width w free dynamic width).printable_lines (plain known.headline.widths)) in
          let found = c.lines_are_found_in_their_texts.ensures.terminated part (carried HasNoBreak lines part own (known.headline.controls.without_breaks unbroken)) in
          subst (All (λ line. count line ≤ w)) (sym found)
          (All-append (λ line. count line ≤ w) part ([] ∷ [])
          (carried (λ line. count line ≤ w) lines part own (All-weaker (λ line. count line ≤ max w (least_total table)) (λ line. count line ≤ w) (λ line narrow. omega (arith, narrow, enough)) lines few))
          (All-cons (λ line. count line ≤ w) [] [] (let none = ap length chars-nil in omega (arith, none)) (All-nil (λ line. count line ≤ w)))),
    ))
    c.push_rows-2.ensures.ok
