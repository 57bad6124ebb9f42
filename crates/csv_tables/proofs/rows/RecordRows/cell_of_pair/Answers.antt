use Rattle.std.proofs.Common.{◌≡◌, Some, None, ap, append-nil, arith, sym, ◌∙◌}
use Rattle.std.proofs.lemmas.Result.{IfOk-weaker}
use Rattle.std.specs.Prelude.{option_map, slice_get}
use Rattle.csv_tables.specs.Cells.{cell_for, pair_for}
use Rattle.csv_tables.specs.Columns.{name_or_number}
use Rattle.csv_tables.proofs.rows.RecordRows.cell_of_pair.Goals as goal

pub returns-then-position-eq0 : goal.returns-then-position-eq0
returns-then-position-eq0 c =
    let row = pair_for c.args.self.now.look (name_or_number (option_map (λ s. s.now) c.args.name) c.args.column) c.args.field.now in
    IfOk-weaker c.name_cell.result _ _ (λ cell is. ap (slice_get row.cells) c.if-position-eq0.true ∙ ap Some (sym is)) c.name_cell.ensures

pub returns-else-position-eq0 : goal.returns-else-position-eq0
returns-else-position-eq0 c =
    let look = c.args.self.now.look in
    let field = c.args.field.now in
    let row = pair_for look (name_or_number (option_map (λ s. s.now) c.args.name) c.args.column) field in
    let second : c.args.position ≡ 1 = omega (arith, c.if-position-eq0.false, c.requires) in
    IfOk-weaker c.row_cell.result _ _
    (λ cell is. ap (slice_get row.cells) second ∙ ap Some (sym (is ∙ ap (cell_for look None) (append-nil field))))
    c.row_cell.ensures
