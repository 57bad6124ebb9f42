-- Adding a row keeps the lines of a drawing.
use Rattle.std.proofs.Common.{◌≡◌, ◌<◌, ◌≤◌, ℕ, zero, suc, Bool, false, List, [], ◌∷◌, Option, Some, None, length, map, sym, ap, ◌∙◌, subst, arith, slice_index_or}
use Rattle.std.specs.List.{cons_option, filter_map, slice_get}
use Rattle.std.specs.Prelude.{if◌then◌else◌}
use Rattle.comfy_parts.specs.CellValue.{CellValue, RowValue}
use Rattle.comfy_parts.specs.Text.{Text, greatest}
use Rattle.comfy_parts.specs.VisibleText.{visible_text}
use Rattle.comfy_parts.specs.declared.style.table.ContentArrangement.{ContentArrangement}
use Rattle.comfy_parts.specs.declared.style.table.ContentArrangement.TheVariants.{Disabled}
use Rattle.comfy_table.specs.AddedRows.{IsWithinContents, ShownLinesStay, added_lines, lines_above_bottom}
use Rattle.comfy_table.specs.Arrangement.{IsDrawingOf, width_kept}
use Rattle.comfy_table.specs.Drawing.{infos_of, outer_widths}
use Rattle.comfy_table.specs.TableValue.{TableValue, cell_content_width, column_content_width, header_and_rows, measured_cell, table_width, with_row}
use Rattle.promises.proofs.PlacedLemmas.{measured_plain}
use Rattle.promises.specs.Added.{HasRoomFor, Stay}

-- the content of a cell of one of these rows is at most the greatest content
module _ (i : ℕ) (above : RowValue) (other : CellValue) (found : slice_get above.cells i ≡ Some other) where
  abbrev contents : List RowValue → ℕ
  contents rows = greatest (map cell_content_width (filter_map (λ (row : RowValue). slice_get row.cells i) rows))

  below_widest : (rows : List RowValue) (k : ℕ) → k < length rows → slice_index_or rows k above ≡ above → cell_content_width other ≤ contents rows
  below_widest [] k within is = absurd (omega (arith, within))
  below_widest (row ∷ rows) zero within is =
      let own : slice_get row.cells i ≡ Some other = ap (λ (r : RowValue). slice_get r.cells i) is ∙ found in
      subst (λ (o : Option CellValue). cell_content_width other ≤ greatest (map cell_content_width (cons_option o (filter_map (λ (r : RowValue). slice_get r.cells i) rows)))) (sym own) (omega arith)
  below_widest (row ∷ rows) (suc k) within is = by_cell (slice_get row.cells i) (below_widest rows k (omega (arith, within)) is)
    where
      by_cell : (o : Option CellValue) → cell_content_width other ≤ contents rows → cell_content_width other ≤ greatest (map cell_content_width (cons_option o (filter_map (λ (r : RowValue). slice_get r.cells i) rows)))
      by_cell None rest = rest
      by_cell (Some cell) rest = omega (arith, rest)

-- so a row that has room is within the contents of the columns
within_contents : (table : TableValue) (row : RowValue) → table.custom_styling ≡ false → HasRoomFor table row → IsWithinContents table row
within_contents table row plain room i cell found =
    let wider = room.widths i cell found in
    let at = wider.2 in
    let most : cell_content_width wider.1 ≤ contents i wider.0 wider.1 wider.3 (header_and_rows table) = below_widest i wider.0 wider.1 wider.3 (header_and_rows table) at.0 at.1 at.2 in
    let measured : cell_content_width (measured_cell table cell) ≡ cell_content_width cell =
    ap (λ (custom : Bool). cell_content_width (record cell { text_lines = if custom then map visible_text cell.text_lines else cell.text_lines })) plain in
    let column : contents i wider.0 wider.1 wider.3 (header_and_rows table) ≡ column_content_width table i = ap (contents i wider.0 wider.1 wider.3) (sym (measured_plain table plain)) in
    omega (arith, most, measured, column, wider.4)

-- lines stay if the row has room
pub lines_stay : (table : TableValue) (row : RowValue) (lines others : List Text) → ShownLinesStay table row lines others → IsDrawingOf table lines → IsDrawingOf (with_row row table) others
    → table.arrangement ≡ Disabled → table.custom_styling ≡ false → HasRoomFor table row → Stay table lines others
lines_stay table row lines others law first second disabled plain room =
    let no_width = ap (λ (a : ContentArrangement). width_kept a (table_width table)) disabled in
    let made = law no_width room.columns (within_contents table row plain room) first second in
    let infos = infos_of table made.0 in
    (lines_above_bottom table infos, added_lines table infos row, outer_widths infos, made.1.0, made.1.1)
