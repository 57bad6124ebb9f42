use Rattle.std.proofs.Common.{◌≡◌, ◌≤◌, ◌∷◌, ◌∙◌, [], Bool, Some, true, false, ap, arith, length, refl, sym}
use Rattle.std.proofs.lemmas.Option.{slice_get_past}
use Rattle.std.proofs.lemmas.Result.{IfOk-weaker}
use Rattle.std.specs.Prelude.{if◌then◌else◌}
use Rattle.comfy_parts.specs.CellValue.{CellValue, RowValue}
use Rattle.comfy_table.specs.RowCells.{cell_of}
use Rattle.comfy_table.specs.TableValue.{TableValue, measured_cell}
use Rattle.csv_tables.proofs.DressedLemmas.{cells_made-length, measured_made}
use Rattle.csv_tables.proofs.ShownLemmas.{as_many_cells}
use Rattle.csv_tables.specs.Contents.{greatest_at, made_by, measured_at, pairs_by}
use Rattle.csv_tables.specs.Settings.{CellSettingsValue, dressed}
use Rattle.csv_tables.specs.NoWrap.{cell_need}
use Rattle.csv_tables.proofs.rows.RecordRows.cell_need.Goals as goal

-- settings don't change the need of a cell
dressed_need : (is_nowrap : Bool) (table : TableValue) (set : CellSettingsValue) (cell : CellValue) → cell_need is_nowrap (measured_cell table (dressed (Some set) cell)) ≡ cell_need is_nowrap (measured_cell table cell)
dressed_need true table set cell = refl
dressed_need false table set cell = refl

pub returns-then-position-cell_count : goal.returns-then-position-cell_count
returns-then-position-cell_count c =
    let own = c.args.self.now in
    let table = c.args.table.now in
    let at = c.args.at in
    let fields = c.args.fields.now in
    let position = c.args.position in
    let made : RowValue = made_by own at fields in
    let many = as_many_cells own at fields in
    let as_long = cells_made-length own at fields in
    let listed = ap length c.columns_within-columns.ensures in
    let past : length made.cells ≤ position = omega (arith, many, as_long, listed, c.cell_count.ensures, c.if-position-cell_count.true) in
    let f = cell_need c.args.is_nowrap in
    let one : greatest_at table f (made ∷ []) position ≡ 0 = let none = ap (measured_at table f) (slice_get_past made.cells position past) in omega (arith, none) in
    let single = ap (λ (b : Bool). greatest_at table f (if b then pairs_by own fields else made ∷ []) position) c.requires in
    sym (single ∙ one)

pub returns : goal.returns
returns c =
    let own = c.args.self.now in
    let table = c.args.table.now in
    let at = c.args.at in
    let fields = c.args.fields.now in
    let position = c.args.position in
    let made : RowValue = made_by own at fields in
    let f = cell_need c.args.is_nowrap in
    let value = measured_made table f (dressed_need c.args.is_nowrap table) own at fields position ∙ ap (measured_at table f) c.in_ok-cell.ensures in
    let one : greatest_at table f (made ∷ []) position ≡ f (measured_cell table (cell_of c.in_ok-cell.cell)) = omega (arith, value) in
    let single = ap (λ (b : Bool). greatest_at table f (if b then pairs_by own fields else made ∷ []) position) c.requires in
    IfOk-weaker c.cell_need.result _ _ (λ longest is. is ∙ sym (single ∙ one)) c.cell_need.ensures
