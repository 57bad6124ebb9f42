use Rattle.std.proofs.Common.{◌≡◌, ◌<◌, ◌+◌, ◌++◌, ◌∷◌, ◌∙◌, [], ℕ, Bool, List, Option, ap, ap₂, append_assoc, arith, drop, false, get_or, length, map, rules, slice_range, string_bytes, sym, take, true}
use Rattle.std.proofs.lemmas.List.{drop_all}
use Rattle.std.proofs.lemmas.Result.{on_ok_weaker}
use Rattle.comfy_parts.specs.CellValue.{CellValue, RowValue}
use Rattle.comfy_parts.specs.Text.{Text}
use Rattle.comfy_table.specs.Drawing.{part_of_drawing, terminated_text_of}
use Rattle.comfy_table.specs.Parts.{ArrangedValue}
use Rattle.comfy_table.specs.RowCells.{cell_of, row_with as listed_with}
use Rattle.comfy_table.specs.declared.utils.formatting.row_cell.RowCell.{RowCell}
use Rattle.comfy_c.proofs.CellLemmas.{counts_more, no_row}
use Rattle.comfy_c.proofs.LentLemmas.{cells_in, listed_row, next_row, row_drawn}
use Rattle.comfy_c.specs.CellCalls.{rows_with}
use Rattle.comfy_c.specs.Numbers.{height_of, row_with}
use Rattle.comfy_c.specs.declared.cells_rows.RowNumbers.{RowNumbers}
use Rattle.comfy_c.proofs.cells_lent.push_rows.Goals as goal

pub loop-row-preserved : goal.loop-row-preserved
loop-row-preserved c =
    let rows : List RowNumbers = c.args.rows.now in
    let cells : List RowCell = c.args.cells.now in
    let values : List CellValue = map cell_of cells in
    let i : ℕ = c.loop-row.row-index in
    let start : ℕ = c.loop-row.start in
    let below : i < length rows = search rules in
    let row : RowNumbers = get_or rows i no_row in
    let mine : List CellValue = take row.cells (drop start values) in
    let others : List RowValue = rows_with (drop (i + 1) rows) (drop (start + row.cells) values) in
    let step = next_row rows i below values start in
    let writer : ArrangedValue = c.args.writer.now in
    let had = c.loop-row.invariant in
    let before : Text = string_bytes c.loop-row.text in
    let lines : ArrangedValue → Bool → Bool → List RowValue → Text = λ w first last own. terminated_text_of (part_of_drawing w.table w.infos first last own) in
    let first : Bool = c.loop-row.is_first in
    let whole : RowValue = row_with row mine in
    let limit : c.height_of-limit.result ≡ height_of row.max_height = search rules in
    let part : List RowCell = slice_range cells start (start + row.cells) in
    let listed : listed_with (map cell_of part) c.height_of-limit.result ≡ whole =
    ap₂ (λ (own : List CellValue) (height : Option ℕ). listed_with own height) (cells_in cells start row.cells) limit ∙ listed_row row mine in
    let pushed : string_bytes c.push_cells.new.text ≡ before ++ lines c.loop-row.writer first false (listed_with (map cell_of part) c.height_of-limit.result ∷ []) = c.in_ok-push_cells.ensures.ok in
    let drawn : string_bytes c.push_cells.new.text ≡ before ++ lines writer first false (whole ∷ []) =
    pushed ∙ ap₂ (λ (w : ArrangedValue) (own : RowValue). before ++ lines w first false (own ∷ [])) had.kept listed in
    let kept : c.push_cells.new.self ≡ c.loop-row.writer = search rules in
    record {
      text =
          ap (λ (t : Text). t ++ lines writer false true others) drawn
          ∙ append_assoc before (lines writer first false (whole ∷ [])) (lines writer false true others)
          ∙ ap (λ (t : Text). before ++ t) (row_drawn writer.table writer.infos first true whole others)
          ∙ ap (λ (own : List RowValue). before ++ lines writer first true own) (sym step)
          ∙ had.text;
      counted = omega (arith, had.counted, counts_more rows i below);
      kept = kept ∙ had.kept;
    }

pub returns : goal.returns
returns c =
    let rows : List RowNumbers = c.args.rows.now in
    let writer : ArrangedValue = c.args.writer.now in
    let before : Text = string_bytes c.loop-row.text in
    let had = c.loop-row.invariant in
    let lines : ArrangedValue → List RowValue → Text = λ w own. before ++ terminated_text_of (part_of_drawing w.table w.infos c.loop-row.is_first true own) in
    let ended : drop c.loop-row.row-index rows ≡ [] = drop_all c.loop-row.row-index rows (omega (arith, c.loop-row-test.false)) in
    on_ok_weaker c.push_rows.result
    (λ (pushed : string_bytes c.push_rows.new.text ≡ _).
    pushed
    ∙ ap (λ (w : ArrangedValue). lines w []) had.kept
    ∙ ap (λ (own : List RowNumbers). lines writer (rows_with own (drop c.loop-row.start (map cell_of c.args.cells.now)))) (sym ended)
    ∙ had.text)
    c.push_rows.ensures.ok
