use Rattle.std.proofs.Common.{rules}
use Rattle.std.proofs.lemmas.Result.{IfOk-weaker}
use Rattle.promises.proofs.FrameLemmas.{over}
use Rattle.promises.proofs.width.lines_over.Goals as goal

pub returns : goal.returns
returns c = IfOk-weaker c.lines.result _ _ (λ lines drawn is. over c.args.table.now _ c.args.width lines (search rules) drawn is.0 is.1 is.2 is.3) c.lines.ensures.headline
