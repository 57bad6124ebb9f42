use Rattle.std.proofs.Common.{rules, ◌≡◌, ◌<◌, ◌+◌, ◌-◌, ◌++◌, ℕ, ◌*◌, ◌∷◌, [], List, None, ap, ap₂, append-nil, arith, drop, false, length, map, string_bytes, subst, sym, take, ◌∙◌}
use Rattle.std.proofs.lemmas.List.{drop-map, length-map}
use Rattle.std.proofs.lemmas.Result.{on_ok_weaker}
use Rattle.std.specs.List.{slice_set}
use Rattle.comfy_parts.specs.CellValue.{CellValue}
use Rattle.comfy_table.specs.Drawing.{part_of_drawing, terminated_text_of}
use Rattle.comfy_table.specs.RowCells.{cell_of, row_with}
use Rattle.comfy_table.specs.declared.utils.formatting.row_cell.RowCell.{RowCell}
use Rattle.csv_tables.proofs.PairWidthLemmas.{map_set, map_taken, put_named, put_pair}
use Rattle.csv_tables.specs.Cells.{cell_for}
use Rattle.csv_tables.specs.LazyRows.{AreNamed, name_cell}
use Rattle.csv_tables.proofs.rows.RecordRows.push_pair.Goals as goal

pub returns-clause-text : goal.returns-clause-text
returns-clause-text c = λ column is.
    let own = c.args.self.now in
    let before : List RowCell = c.list_names.new.cells.items in
    let at = 2 * c.args.place + 1 in
    let there : at < length (map cell_of before) = omega (arith, c.in_ok-list_names.ensures.there, length-map before cell_of) in
    let items : List RowCell = slice_set before at c.in_ok-cells.field-0 in
    let same : map cell_of items ≡ slice_set (map cell_of before) at (cell_of c.in_ok-cells.field-0) = map_set cell_of before at c.in_ok-cells.field-0 in
    let pair : map cell_of (take 2 (drop (2 * c.args.place) items)) ≡ name_cell own column ∷ cell_of c.in_ok-cells.field-0 ∷ [] =
    map_taken cell_of 2 (drop (2 * c.args.place) items)
    ∙ ap (take 2) (sym (drop-map cell_of (2 * c.args.place) items))
    ∙ ap (λ (cells : List CellValue). take 2 (drop (2 * c.args.place) cells)) same
    ∙ put_pair own (map cell_of before) c.args.place (cell_of c.in_ok-cells.field-0) c.in_ok-list_names.ensures.named there column is in
    let field : cell_of c.in_ok-cells.field-0 ≡ cell_for own.look None c.args.field.now = c.in_ok-cells.ensures ∙ ap (cell_for own.look None) (append-nil c.args.field.now) in
    let two : (2 * c.args.place + 2) - (2 * c.args.place) ≡ 2 = omega arith in
    let whole : c.deref.result.now ≡ items = search rules in
    on_ok_weaker c.push_cells.result
    (λ (pushed : string_bytes c.push_cells.new.text ≡ _).
    pushed
    ∙ ap (λ (cells : List CellValue). string_bytes c.args.text.now ++ terminated_text_of (part_of_drawing c.args.writer.now.table c.args.writer.now.infos c.args.is_first false (row_with cells own.look.max_height ∷ [])))
    (ap₂ (λ (n : ℕ) (all : List RowCell). map cell_of (take n (drop (2 * c.args.place) all))) two whole ∙ pair ∙ ap (λ (cell : CellValue). name_cell own column ∷ cell ∷ []) field))
    c.push_cells.ensures.ok

pub returns-clause-named : goal.returns-clause-named
returns-clause-named c =
    let own = c.args.self.now in
    let before : List RowCell = c.list_names.new.cells.items in
    let at = 2 * c.args.place + 1 in
    let there : at < length (map cell_of before) = omega (arith, c.in_ok-list_names.ensures.there, length-map before cell_of) in
    let same : map cell_of (slice_set before at c.in_ok-cells.field-0) ≡ slice_set (map cell_of before) at (cell_of c.in_ok-cells.field-0) = map_set cell_of before at c.in_ok-cells.field-0 in
    on_ok_weaker c.push_cells.result (λ _. subst (AreNamed own) (sym same) (put_named own (map cell_of before) c.args.place (cell_of c.in_ok-cells.field-0) c.in_ok-list_names.ensures.named there)) c.push_cells.ensures.ok
