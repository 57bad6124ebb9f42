use Rattle.std.proofs.Common.{◌≡◌, ◌==◌, ◌∙◌, Some, ap, false, rules, sym, take, tests}
use Rattle.std.specs.List.{slice_get}
use Rattle.comfy_c.proofs.CellLemmas.{lent, taken}
use Rattle.comfy_c.proofs.HeaderLemmas.{header_is}
use Rattle.comfy_c.specs.CellCalls.{cells_by}
use Rattle.comfy_c.specs.Numbers.{row_with}
use Rattle.comfy_c.specs.declared.cells_rows.RowNumbers.{RowNumbers}
use Rattle.comfy_c.proofs.cells_draw.header_of.Goals as goal

pub returns-clause-header : goal.returns-clause-header
returns-clause-header c =
    let settings = c.args.settings.now in
    let cells = c.args.cells.now in
    let texts = c.args.texts.now in
    let row : RowNumbers = c.in-Some.row.now in
    let is : slice_get c.args.rows.now 0 ≡ Some row = search rules in
    let has : (settings.has_header == 0) ≡ false = search (rules, tests) in
    let made : c.in_ok-header.header ≡ row_with row (cells_by (take row.cells cells) (lent (take row.cells texts))) = search rules in
    ap Some (made ∙ ap (row_with row) (sym (taken row.cells cells texts)))
    ∙ sym (header_is settings (cells_by cells (lent texts)) c.args.rows.now row is has)
