use Rattle.std.proofs.Common.{◌≡◌, [], ◌∷◌, ℕ, List, max, min, ap, sym, ◌∙◌, arith}
use Rattle.comfy_parts.specs.Text.{greatest}
use Rattle.comfy_table.proofs.RowCellLemmas.{clear_measured}
use Rattle.comfy_table.specs.RowCells.{cell_of}
use Rattle.comfy_table.specs.TableValue.{cell_content_width, measured_cell}
use Rattle.comfy_table.proofs.utils.formatting.row_cell.RowCell.content_width.Goals as goal

pub returns-in-Lent : goal.returns-in-Lent
returns-in-Lent c =
    let table = c.args.table.now in
    let width : cell_content_width (measured_cell table (cell_of c.args.self.now)) ≡ max 1 (min 65535 (greatest (c.columns.result ∷ []))) =
    ap (λ cell. cell_content_width (measured_cell table (cell_of cell))) c.in-Lent.is
    ∙ ap cell_content_width (clear_measured table c.in-Lent.cell c.columns.ensures.clear)
    ∙ ap (λ (ns : List ℕ). max 1 (min 65535 (greatest ns))) c.columns.ensures.columns in
    omega (arith, width, c.clamp.ensures)

pub returns-in-Several : goal.returns-in-Several
returns-in-Several c =
    let table = c.args.table.now in
    let width : cell_content_width (measured_cell table (cell_of c.args.self.now)) ≡ max 1 (min 65535 c.columns-in-Several.result) =
    ap (λ cell. cell_content_width (measured_cell table (cell_of cell))) c.in-Several.is
    ∙ ap cell_content_width (clear_measured table c.in-Several.cell c.columns-in-Several.ensures.clear)
    ∙ ap (λ n. max 1 (min 65535 n)) (sym c.columns-in-Several.ensures.columns) in
    omega (arith, width, c.clamp-in-Several.ensures)
