use Rattle.std.proofs.Common.{◌∙◌, Bor, ap, map}
use Rattle.std.proofs.lemmas.Iterator.{YieldsList-from_slice, YieldsList-from_zip}
use Rattle.std.proofs.lemmas.Iterator.Consumers.{YieldsList-end}
use Rattle.comfy_parts.specs.Text.{Text}
use Rattle.comfy_c.proofs.CellLemmas.{cells_paired}
use Rattle.comfy_c.specs.Numbers.{cell_with}
use Rattle.comfy_c.specs.declared.cells_rows.CellNumbers.{CellNumbers}
use Rattle.comfy_c.proofs.cells_rows.lent_cells.Goals as goal

pub returns : goal.returns
returns c =
    let all = YieldsList-from_zip {s = c.into_iter-cell-iterator.result} (YieldsList-from_slice c.args.cells.now cc) (YieldsList-from_slice c.args.texts.now cc) in
    let ended = YieldsList-end all c.loop-cell.yielded _ c.loop-cell.yielded_by _ c.next.new.self c.in-None.is c.next.ensures.steps in
    c.loop-cell.invariant ∙ ap (map (λ (p : CellNumbers × Bor Text). cell_with p.0 p.1.now)) ended.0 ∙ cells_paired c.args.cells.now c.args.texts.now
