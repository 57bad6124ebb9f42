use Rattle.promises.proofs.PromiseLemmas.{keeps_promises}
use Rattle.promises.proofs.straight.straight_fitting_lines.Goals as goal

pub returns : goal.returns
returns c = (keeps_promises c.args.table.now _ c.in_ok-lines.ensures.headline).straight_fitting _ c.in_ok-arranged.ensures.infos
