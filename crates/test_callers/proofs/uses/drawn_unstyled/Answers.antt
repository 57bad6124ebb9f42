use Rattle.std.proofs.lemmas.Result.{IfOk-weaker}
use Rattle.test_callers.proofs.uses.drawn_unstyled.Goals as goal

pub returns : goal.returns
returns c =
    IfOk-weaker c.lines.result _ _ (λ lines drawn unstyled plain. (drawn.widths, drawn.edges.unstyled_lines unstyled plain)) c.lines.ensures.headline
