use Rattle.std.proofs.Common.{◌≡◌, ap, sym, ◌∙◌, arith}
use Rattle.comfy_table.proofs.OtherRowLemmas.{part_same}
use Rattle.comfy_table.specs.Drawing.{part_of_drawing}
use Rattle.comfy_table.specs.TableValue.{TableValue}
use Rattle.comfy_table.proofs.table.arranged.ArrangedTable.draw.Goals as goal

pub returns-clause-ok : goal.returns-clause-ok
returns-clause-ok g c =
    let whole = g.C.TableSource.whole c.self.inside.contents in
    let infos = c.self.inside.infos.items in
    let rows = c.args.rows.now in
    let extent = c.args.extent in
    let same : part_of_drawing c.table-table.result.now infos extent.is_first extent.is_last rows ≡ part_of_drawing whole infos extent.is_first extent.is_last rows =
    sym (part_same c.table-table.result.now whole.rows infos extent.is_first extent.is_last rows)
    ∙ ap (λ (t : TableValue). part_of_drawing t infos extent.is_first extent.is_last rows) c.table-table.ensures in
    grind (arith, same)
