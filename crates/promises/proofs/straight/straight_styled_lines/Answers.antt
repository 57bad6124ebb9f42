use Rattle.std.proofs.lemmas.Result.{IfOk-weaker}
use Rattle.promises.proofs.PromiseLemmas.{keeps_promises}
use Rattle.promises.proofs.straight.straight_styled_lines.Goals as goal

pub returns : goal.returns
returns c = IfOk-weaker c.lines.result _ _ (λ lines drawn. (keeps_promises c.args.table.now lines drawn).straight_styled) c.lines.ensures.headline
