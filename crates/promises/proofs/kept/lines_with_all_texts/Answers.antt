use Rattle.std.proofs.lemmas.Result.{IfOk-weaker}
use Rattle.promises.proofs.PromiseLemmas.{keeps_promises}
use Rattle.promises.proofs.kept.lines_with_all_texts.Goals as goal

pub returns : goal.returns
returns c = IfOk-weaker c.lines.result _ _ (λ lines drawn. (keeps_promises c.args.table.now lines drawn).all_texts) c.lines.ensures.headline
