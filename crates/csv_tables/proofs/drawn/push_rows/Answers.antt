use Rattle.std.proofs.Common.{rules, ◌≡◌, ◌+◌, ◌++◌, ◌∷◌, [], List, ap, false, append_assoc, arith, length, string_bytes, sym, ◌∙◌}
use Rattle.std.proofs.lemmas.Result.{on_ok_weaker}
use Rattle.comfy_parts.specs.CellValue.{ColumnInfo}
use Rattle.comfy_parts.specs.Text.{Text}
use Rattle.comfy_table.specs.Drawing.{part_of_drawing, terminated_text_of}
use Rattle.comfy_table.specs.Parts.{ArrangedValue}
use Rattle.comfy_table.specs.TableValue.{with_other_rows}
use Rattle.csv_tables.proofs.PieceLemmas.{part_as, row_more}
use Rattle.csv_tables.specs.Contents.{made_by, rows_from}
use Rattle.csv_tables.proofs.drawn.push_rows.Goals as goal

pub loop-fields-preserved : goal.loop-fields-preserved
loop-fields-preserved c =
    let rows = c.args.arranged.now.contents.rows in
    let table = c.args.arranged.now.contents.table in
    let infos = c.args.arranged.now.infos in
    let at = c.loop-fields.at in
    let had = c.loop-fields.invariant in
    let writer : ArrangedValue = c.loop-fields.writer in
    let before = string_bytes c.loop-fields.text in
    let x : List Text = c.in-Some.fields in
    let left : List (List Text) = c.next.new.self in
    let is : c.loop-fields.fields-iterator ≡ x ∷ left = search rules in
    let kept : c.push_row.new.writer ≡ writer = search rules in
    let made = made_by rows at x ∷ [] in
    let one = terminated_text_of (part_of_drawing table infos c.loop-fields.is_first false made) in
    let rest = terminated_text_of (part_of_drawing table infos false c.args.extent.is_last (rows_from rows (at + 1) left)) in
    let pushed : string_bytes c.push_row.new.text ≡ before ++ terminated_text_of (part_of_drawing writer.table writer.infos c.loop-fields.is_first false made) =
    search rules in
    let drawn : string_bytes c.push_row.new.text ≡ before ++ one =
    pushed
    ∙ ap (λ (is : List ColumnInfo). before ++ terminated_text_of (part_of_drawing writer.table is c.loop-fields.is_first false made)) had.3
    ∙ ap (λ (ls : List Text). before ++ terminated_text_of ls) (part_as writer.table table infos had.2 c.loop-fields.is_first false made) in
    let count = ap length is in (
      ap (λ (t : Text). t ++ rest) drawn
          ∙ append_assoc before one rest
          ∙ ap (λ (t : Text). before ++ t) (row_more rows table infos at c.loop-fields.is_first c.args.extent.is_last x left c.requires.rows)
          ∙ ap (λ (l : List (List Text)). before ++ terminated_text_of (part_of_drawing table infos c.loop-fields.is_first c.args.extent.is_last (rows_from rows at l))) (sym is)
          ∙ had.0,
      omega (arith, count, had.1),
      ap (λ (a : ArrangedValue). with_other_rows table.rows a.table) kept ∙ had.2,
      ap (λ (a : ArrangedValue). a.infos) kept ∙ had.3,
    )

pub returns : goal.returns
returns c =
    let rows = c.args.arranged.now.contents.rows in
    let table = c.args.arranged.now.contents.table in
    let infos = c.args.arranged.now.infos in
    let at = c.loop-fields.at in
    let had = c.loop-fields.invariant in
    let writer : ArrangedValue = c.loop-fields.writer in
    let before = string_bytes c.loop-fields.text in
    let none : c.loop-fields.fields-iterator ≡ [] = search rules in
    on_ok_weaker c.push_rows.result
    (λ (pushed : string_bytes c.push_rows.new.text ≡ _).
    pushed
    ∙ ap (λ (is : List ColumnInfo). before ++ terminated_text_of (part_of_drawing writer.table is c.loop-fields.is_first c.args.extent.is_last [])) had.3
    ∙ ap (λ (ls : List Text). before ++ terminated_text_of ls) (part_as writer.table table infos had.2 c.loop-fields.is_first c.args.extent.is_last [])
    ∙ ap (λ (l : List (List Text)). before ++ terminated_text_of (part_of_drawing table infos c.loop-fields.is_first c.args.extent.is_last (rows_from rows at l))) (sym none)
    ∙ had.0)
    c.push_rows.ensures.ok
