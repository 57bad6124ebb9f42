use Rattle.std.proofs.lemmas.Result.{IfOk-weaker}
use Rattle.promises.proofs.PromiseLemmas.{keeps_promises}
use Rattle.promises.proofs.headline.headline.Goals as goal

pub returns-clause-drawing : goal.returns-clause-drawing
returns-clause-drawing c = IfOk-weaker c.lines.result _ _ (λ lines drawn. (keeps_promises c.args.table.now lines drawn).headline) c.lines.ensures.headline
