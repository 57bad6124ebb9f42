use Rattle.std.proofs.Common.{◌≡◌, ◌++◌, ◌∷◌, [], Some, ap, map, ◌∙◌}
use Rattle.std.proofs.lemmas.Result.{on_ok_weaker}
use Rattle.comfy_parts.specs.CellValue.{CellValue}
use Rattle.comfy_parts.specs.Text.{Text}
use Rattle.comfy_table.specs.RowCells.{cell_of}
use Rattle.csv_tables.specs.Cells.{cell_for}
use Rattle.csv_tables.specs.Settings.{dressed}
use Rattle.csv_tables.proofs.cells.push_field.Goals as goal

pub returns-in-None : goal.returns-in-None
returns-in-None c =
    rw c.in-None.is
    (on_ok_weaker c.push_text.result
    (λ (pushed : map cell_of c.push_text.new.cells.items ≡ _).
    pushed ∙ ap (λ (cell : CellValue). map cell_of c.args.cells.now.items ++ cell ∷ []) (ap (cell_for c.args.look.now c.args.column.now.alignment) c.in_ok-after.ensures))
    c.push_text.ensures)

pub returns-in-Some : goal.returns-in-Some
returns-in-Some c =
    rw c.in-Some.is
    (on_ok_weaker c.push_dressed.result
    (λ (pushed : map cell_of c.push_dressed.new.cells.items ≡ _).
    pushed ∙ ap (λ (text : Text). map cell_of c.args.cells.now.items ++ dressed (Some c.in-Some.own.now) (cell_for c.args.look.now c.args.column.now.alignment text) ∷ []) c.in_ok-after.ensures)
    c.push_dressed.ensures)
