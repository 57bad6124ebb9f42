use Rattle.std.proofs.Common.{rules, ◌≡◌, ◌+◌, ◌++◌, ◌∷◌, List, ap, append_assoc, arith, length, map, string_bytes, subst, sym, ◌∙◌}
use Rattle.comfy_parts.specs.CellValue.{ColumnInfo}
use Rattle.comfy_parts.specs.Text.{Text}
use Rattle.comfy_table.specs.Parts.{ArrangedValue}
use Rattle.comfy_table.specs.TableValue.{with_other_rows}
use Rattle.csv_tables.proofs.PieceLemmas.{fields_as}
use Rattle.csv_tables.specs.Contents.{expanded_from, fields_text, pairs_by}
use Rattle.csv_tables.specs.Drawn.{record_line}
use Rattle.csv_tables.specs.LazyRows.{AreNamed}
use Rattle.csv_tables.specs.declared.rows.RecordRows.{RecordRows}
use Rattle.comfy_table.specs.RowCells.{cell_of}
use Rattle.csv_tables.proofs.drawn.push_expanded.Goals as goal

pub loop-fields-preserved : goal.loop-fields-preserved
loop-fields-preserved c =
    let rows = c.args.arranged.now.contents.rows in
    let table = c.args.arranged.now.contents.table in
    let infos = c.args.arranged.now.infos in
    let at = c.loop-fields.at in
    let had = c.loop-fields.invariant in
    let writer : ArrangedValue = c.loop-fields.writer in
    let before = string_bytes c.loop-fields.text in
    let x : List Text = c.in-Some.fields in
    let left : List (List Text) = c.next.new.self in
    let is : c.loop-fields.fields-iterator ≡ x ∷ left = search rules in
    let kept : c.push_fields.new.writer ≡ writer = search rules in
    let above = record_line rows.selected.noun (at + 1) rows.selected.count in
    let made = pairs_by rows x in
    let rest = expanded_from rows table infos (at + 1) left in
    let line : string_bytes c.push_record_line.new.text ≡ before ++ above = search rules in
    let pushed : string_bytes c.push_fields.new.text ≡ string_bytes c.push_record_line.new.text ++ fields_text writer.table writer.infos made =
    search rules in
    let drawn : string_bytes c.push_fields.new.text ≡ before ++ (above ++ fields_text table infos made) =
    pushed
    ∙ ap (λ (t : Text). t ++ fields_text writer.table writer.infos made) line
    ∙ append_assoc before above (fields_text writer.table writer.infos made)
    ∙ ap (λ (is : List ColumnInfo). before ++ (above ++ fields_text writer.table is made)) had.3
    ∙ ap (λ (t : Text). before ++ (above ++ t)) (fields_as writer.table table infos had.2 made) in
    let count = ap length is in (
      ap (λ (t : Text). t ++ rest) drawn
          ∙ append_assoc before (above ++ fields_text table infos made) rest
          ∙ ap (λ (l : List (List Text)). before ++ expanded_from rows table infos at l) (sym is)
          ∙ had.0,
      omega (arith, count, had.1),
      ap (λ (a : ArrangedValue). with_other_rows table.rows a.table) kept ∙ had.2,
      ap (λ (a : ArrangedValue). a.infos) kept ∙ had.3,
      subst (λ (rs : RecordRows). AreNamed rs (map cell_of c.push_fields.new.cells.items)) (ap (λ v. v.rows) (c.behind-arranged.view_is ∙ c.contents.ensures)) c.in_ok-push_fields.ensures.named,
    )
