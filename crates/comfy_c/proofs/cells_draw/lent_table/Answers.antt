use Rattle.std.proofs.Common.{◌≡◌, ◌∙◌, ℕ, Bor, List, Option, ap, ap₂, arith, drop, length, map, subst, sym}
use Rattle.std.proofs.lemmas.List.{length-drop, length-map}
use Rattle.std.proofs.lemmas.List.Elements.{All-drop}
use Rattle.std.specs.List.{All}
use Rattle.std.specs.Str.{IsUtf8}
use Rattle.comfy_parts.specs.CellValue.{CellValue, IsCell, IsRow, RowValue}
use Rattle.comfy_parts.specs.Text.{Text}
use Rattle.comfy_table.specs.RowCells.{cell_of}
use Rattle.comfy_table.specs.TableValue.{TableValue, with_other_rows}
use Rattle.csv_records.specs.CutLists.{cut_by}
use Rattle.comfy_c.proofs.CellLemmas.{as_many, dropped, lent}
use Rattle.comfy_c.proofs.WholeCellLemmas.{cells_whole, rows_whole}
use Rattle.comfy_c.specs.CellCalls.{cells_by, lengths_of, rows_with, table_by, table_with}
use Rattle.comfy_c.specs.declared.cells_rows.CellNumbers.{CellNumbers}
use Rattle.comfy_c.specs.declared.cells_rows.RowNumbers.{RowNumbers}
use Rattle.comfy_c.proofs.cells_draw.lent_table.Goals as goal

pub new-requires-clause-counted : goal.new-requires-clause-counted
new-requires-clause-counted c =
    let cells : List CellNumbers = c.args.cells.now in
    let found : List (Bor Text) = c.as_slice-found.result.now in
    let n : ℕ = c.rows_below-skipped.result.0 in
    let below : List RowNumbers = c.rows_below-skipped.result.1.now in
    let all : List CellValue = cells_by cells (lent found) in
    let made : map cell_of c.in_ok-cells.cells.items ≡ cells_by (drop n cells) (lent (drop n found)) = c.in_ok-cells.ensures ∙ ap₂ (λ (own : List CellNumbers) (texts : List (Bor Text)). cells_by own (lent texts)) c.split_at.ensures.back c.split_at-2.ensures.back in
    let listed : map cell_of c.in_ok-cells.cells.items ≡ drop n all = made ∙ sym (dropped n cells found) in
    let pairs = ap length c.as_slice-found.ensures.value ∙ c.in_ok-found.ensures.count in
    let long : length all ≡ length cells = as_many cells (lent found) (length-map found (λ text. text.now) ∙ pairs) in
    let rest = length-drop n all in
    let items = length-map c.in_ok-cells.cells.items cell_of in
    let same = ap length listed in
    let count = c.rows_below-skipped.ensures.count in
    let counted = c.in_ok-found.ensures.counted in
    omega (arith, long, rest, items, same, count, counted)

pub returns-clause-table : goal.returns-clause-table
returns-clause-table c =
    let cells : List CellNumbers = c.args.cells.now in
    let found : List (Bor Text) = c.as_slice-found.result.now in
    let n : ℕ = c.rows_below-skipped.result.0 in
    let below : List RowNumbers = c.rows_below-skipped.result.1.now in
    let all : List CellValue = cells_by cells (lent found) in
    let made : map cell_of c.in_ok-cells.cells.items ≡ cells_by (drop n cells) (lent (drop n found)) = c.in_ok-cells.ensures ∙ ap₂ (λ (own : List CellNumbers) (texts : List (Bor Text)). cells_by own (lent texts)) c.split_at.ensures.back c.split_at-2.ensures.back in
    let listed : map cell_of c.in_ok-cells.cells.items ≡ drop n all = made ∙ sym (dropped n cells found) in
    let cut : lent found ≡ cut_by (lengths_of cells) c.args.texts.now = ap (λ (own : List (Bor Text)). lent own) c.as_slice-found.ensures.value ∙ c.in_ok-found.ensures.cut in
    let rows : List RowNumbers = c.args.rows.now in
    let style = c.in_ok-style.style in
    let arrangement = c.in_ok-style.arrangement in
    let columns = c.args.columns.now in
    let indicator = c.args.indicator.now in
    let settings = c.args.settings.now in
    record {
      add_up = c.in_ok-found.ensures.all;
      style = style;
      is_style = c.in_ok-style.ensures.style;
      arrangement = arrangement;
      is_arrangement = c.in_ok-style.ensures.arrangement;
      value =
          c.in_ok-new.ensures
          ∙ ap₂ (λ (own : List CellValue) (table : TableValue). with_other_rows (rows_with below own) table) listed c.in_ok-table.ensures.table
          ∙ ap₂ (λ (header : Option RowValue) (own : List RowValue). table_by header own columns indicator settings style arrangement) c.in_ok-header.ensures.header (sym (c.rows_below-skipped.ensures.rows all))
          ∙ ap (λ (texts : List Text). table_with (rows_with rows (cells_by cells texts)) columns indicator settings style arrangement) cut;
    }

pub returns-clause-rows : goal.returns-clause-rows
returns-clause-rows c =
    let cells : List CellNumbers = c.args.cells.now in
    let found : List (Bor Text) = c.as_slice-found.result.now in
    let n : ℕ = c.rows_below-skipped.result.0 in
    let below : List RowNumbers = c.rows_below-skipped.result.1.now in
    let all : List CellValue = cells_by cells (lent found) in
    let made : map cell_of c.in_ok-cells.cells.items ≡ cells_by (drop n cells) (lent (drop n found)) = c.in_ok-cells.ensures ∙ ap₂ (λ (own : List CellNumbers) (texts : List (Bor Text)). cells_by own (lent texts)) c.split_at.ensures.back c.split_at-2.ensures.back in
    let listed : map cell_of c.in_ok-cells.cells.items ≡ drop n all = made ∙ sym (dropped n cells found) in
    let cut : lent found ≡ cut_by (lengths_of cells) c.args.texts.now = ap (λ (own : List (Bor Text)). lent own) c.as_slice-found.ensures.value ∙ c.in_ok-found.ensures.cut in
    let rows : c.in_ok-new.field-0.rows ≡ rows_with below (drop n all) = ap (λ (table : TableValue). table.rows) c.in_ok-new.ensures ∙ ap (λ (own : List CellValue). rows_with below own) listed in
    let texts : All IsUtf8 (lent found) = subst (All IsUtf8) (sym cut) c.in_ok-found.ensures.texts in
    subst (All IsRow) (sym rows) (rows_whole below (drop n all) (All-drop IsCell n all (cells_whole cells (lent found) texts)))
