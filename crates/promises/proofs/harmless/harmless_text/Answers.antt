use Rattle.std.proofs.Common.{string_bytes}
use Rattle.std.proofs.lemmas.Result.{IfOk-weaker}
use Rattle.promises.proofs.ShownLemmas.{harmless}
use Rattle.promises.proofs.harmless.harmless_text.Goals as goal

pub returns : goal.returns
returns c = IfOk-weaker c.to_text.result _ _ (λ text. harmless c.args.table.now (string_bytes text)) c.to_text.ensures
