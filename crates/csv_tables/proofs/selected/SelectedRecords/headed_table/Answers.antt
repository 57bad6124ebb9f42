use Rattle.std.proofs.Common.{◌≡◌, ◌∙◌, ◌||◌, Bool, List, Option, ap, ap₂, not, slice_get, sym}
use Rattle.comfy_parts.specs.CellValue.{RowValue, plain_row}
use Rattle.comfy_parts.specs.Text.{Text}
use Rattle.comfy_table.specs.TableValue.{TableValue, with_header}
use Rattle.csv_tables.proofs.DressedLemmas.{empty_dressed, headed_dressed, styled_empty}
use Rattle.csv_tables.specs.Cells.{header_for}
use Rattle.csv_tables.specs.Drawn.{empty_table, headed_table}
use Rattle.csv_tables.specs.Settings.{cell_settings, dressed_cells}
use Rattle.csv_tables.specs.Styled.{dressed_table, placed}
use Rattle.csv_tables.proofs.selected.SelectedRecords.headed_table.Goals as goal
use Rattle.csv_tables.proofs.selected.SelectedRecords.headed_table.Goals.{in-Some+in_ok-header+in_ok-try_set_header, in_default}

pub returns : goal.returns
returns c =
    let own = c.args.self.now in
    let look = c.args.look.now in
    let settings = c.args.settings.now in
    let table : Option (List Text) → TableValue = λ names. dressed_table own settings (headed_table look own.is_numbered own.columns names) in
    let begun : c.empty_table-table.result ≡ styled_empty look own settings =
    c.empty_table-table.ensures ∙ ap (λ (b : Bool). record (empty_table look) { enforce_styling = not b || look.has_bold_header }) c.is_empty.ensures in
    elim c.match-names.branch [
      | in-Some+in_ok-header+in_ok-try_set_header w ↦
          let names = w.in-Some.names in
          let cells : w.cell_settings-cells.result.now ≡ cell_settings (slice_get settings 0) = w.cell_settings-cells.ensures ∙ ap cell_settings w.first.ensures.value in
          let columns : w.as_slice-columns.result.now ≡ own.columns = w.as_slice-columns.ensures.value ∙ ap (λ v. v.columns) c.self.view_is in
          let numbered : c.self.inside.is_numbered ≡ own.is_numbered = ap (λ v. v.is_numbered) c.self.view_is in
          let header : w.in_ok-header.header ≡ plain_row (dressed_cells (placed own.is_numbered own.columns (cell_settings (slice_get settings 0))) (header_for look own.is_numbered own.columns names).cells) =
          w.in_ok-header.ensures ∙ (λ i. plain_row (dressed_cells (placed (numbered i) (columns i) (cells i)) (header_for look (numbered i) (columns i) names).cells)) in
          w.table-is ∙ w.in_ok-try_set_header.ensures.ok ∙ ap₂ (λ (row : RowValue) (t : TableValue). with_header row t) header begun
          ∙ headed_dressed look own settings names ∙ ap table (sym w.in-Some.is)
      | in_default w ↦ w.table-is ∙ begun ∙ empty_dressed look own settings ∙ ap table (sym w.in_default.is)
    ]
