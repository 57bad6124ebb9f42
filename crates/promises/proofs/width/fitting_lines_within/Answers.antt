use Rattle.promises.proofs.PromiseLemmas.{keeps_promises}
use Rattle.promises.proofs.width.fitting_lines_within.Goals as goal

pub returns : goal.returns
returns c = (keeps_promises c.args.table.now _ c.in_ok-lines.ensures.headline).fitting_within _ c.in_ok-arranged.ensures.infos
