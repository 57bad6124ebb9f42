use Rattle.std.proofs.Common.{subst}
use Rattle.comfy_table.specs.Arrangement.{IsDrawingOf}
use Rattle.comfy_table.specs.TableValue.{TableValue}
use Rattle.promises.proofs.AddedLemmas.{lines_stay}
use Rattle.promises.proofs.others.lines_before_and_after.Goals as goal

pub returns : goal.returns
returns c disabled plain room =
    lines_stay c.args.table.now c.args.row c.in_ok-lines.lines c.in_ok-others.others (c.shown_lines_stay.ensures.by_content c.args.table.now c.args.row c.in_ok-lines.lines c.in_ok-others.others)
    c.in_ok-lines.ensures.drawing (subst (λ (t : TableValue). IsDrawingOf t c.in_ok-others.others) c.in_ok-try_add_row.ensures.ok c.in_ok-others.ensures.drawing) disabled plain room
