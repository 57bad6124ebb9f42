use Rattle.std.proofs.Common.{◌≤◌, ◌++◌, ap, arith, length, refl, string_bytes, ◌∙◌}
use Rattle.std.proofs.lemmas.Result.{on_ok_weaker}
use Rattle.comfy_table.specs.Drawing.{drawing_of_infos, terminated_text_of}
use Rattle.comfy_table.specs.Parts.{IsArrangedTable, with_rows_alone}
use Rattle.comfy_table.specs.TableValue.{TableValue}
use Rattle.test_callers.proofs.uses.parts.in_one_part.Goals as goal

pub returns : goal.returns
returns c =
    let table = c.args.table.now in
    let arranged = c.in_ok-arranged.field-0 in
    let known : IsArrangedTable table (record { table = table; infos = arranged.infos }) = c.in_ok-arranged.ensures.infos in
    let count = c.row_count.result in
    let all : length table.rows ≤ count = grind arith in
    let whole = ap (with_rows_alone 0 count) c.in_ok-arranged.ensures.table ∙ c.parts_have_lines_of_the_table.ensures.whole table count all in
    on_ok_weaker c.push_rows-2.result
    (λ appended. (
      terminated_text_of (drawing_of_infos table arranged.infos),
      (drawing_of_infos table arranged.infos, known.headline, refl),
      appended ∙ ap (λ (t : TableValue). string_bytes c.args.text.now ++ terminated_text_of (drawing_of_infos t arranged.infos)) whole,
    ))
    c.push_rows-2.ensures.ok
