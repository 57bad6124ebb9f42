use Rattle.std.proofs.Common.{◌≡◌, ◌+◌, ◌++◌, ◌∷◌, ◌∙◌, [], List, Option, ap, ap₂, decimal, false, map, sym}
use Rattle.std.proofs.lemmas.Result.{on_ok_weaker}
use Rattle.std.specs.Prelude.{option_map}
use Rattle.comfy_parts.specs.CellValue.{CellValue}
use Rattle.comfy_parts.specs.Text.{Text}
use Rattle.comfy_table.specs.RowCells.{cell_of}
use Rattle.csv_tables.proofs.DressedLemmas.{cells_made}
use Rattle.csv_tables.proofs.PlainRowLemmas.{pushed_cell}
use Rattle.csv_tables.specs.Cells.{columns_within, number_of, shown_cells, shown_number}
use Rattle.csv_tables.specs.Contents.{field_cells}
use Rattle.csv_tables.specs.Settings.{CellSettingsValue, cell_settings}
use Rattle.csv_tables.specs.declared.options.ColumnPlan.{ColumnPlan}
use Rattle.csv_tables.proofs.rows.RecordRows.list_cells.Goals as goal
use Rattle.csv_tables.proofs.rows.RecordRows.list_cells.Goals.{in-Some+in_ok-number_cell+in_ok-push, in_default}

pub returns : goal.returns
returns c =
    let own = c.args.self.now in
    let fields = c.args.fields.now in
    let heading : Option Text → List CellValue = λ number. shown_cells own.look false (shown_number number) in
    let none : map cell_of c.clear.new.self.items ≡ [] = ap (map cell_of) c.clear.ensures.items in
    let begun : map cell_of c.match-number_at.cells.items ≡ heading (option_map decimal c.number_at.result) =
    elim c.match-number_at.branch [
      | in-Some+in_ok-number_cell+in_ok-push w ↦
          ap (λ cells. map cell_of cells.items) w.cells-is
          ∙ pushed_cell cell_of _ _ _ w.in_ok-push.ensures.items
          ∙ ap₂ (λ (cells : List CellValue) (cell : CellValue). cells ++ cell ∷ []) none w.in_ok-number_cell.ensures
          ∙ sym (ap (λ number. heading (option_map decimal number)) w.in-Some.is)
      | in_default w ↦ ap (λ cells. map cell_of cells.items) w.cells-is ∙ none ∙ sym (ap (λ number. heading (option_map decimal number)) w.in_default.is)
    ] in
    let settings = c.cell_settings-settings.ensures ∙ ap cell_settings c.settings_at.ensures in
    on_ok_weaker c.push_fields.result
    (λ (pushed : map cell_of c.push_fields.new.cells.items ≡ _).
    pushed
    ∙ ap₂ (λ (cells : List CellValue) (columns : List ColumnPlan). cells ++ field_cells own.look false own.is_aligned c.cell_settings-settings.result.now columns fields) (begun ∙ ap heading c.number_at.ensures) c.columns_within.ensures
    ∙ ap (λ (settings : List CellSettingsValue). heading (number_of own.selected.is_numbered (c.args.at + 1)) ++ field_cells own.look false own.is_aligned settings (columns_within fields own.selected.columns) fields) settings
    ∙ sym (cells_made own c.args.at fields))
    c.push_fields.ensures
