use Rattle.std.proofs.lemmas.Result.{IfOk-weaker}
use Rattle.promises.proofs.PromiseLemmas.{keeps_promises}
use Rattle.promises.proofs.straight.straight_whole_lines.Goals as goal

pub returns : goal.returns
returns c = IfOk-weaker c.lines.result _ _ (λ lines drawn. (keeps_promises c.args.table.now lines drawn).straight_whole) c.lines.ensures.headline
