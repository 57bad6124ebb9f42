use Rattle.std.proofs.Common.{rules}
use Rattle.std.proofs.lemmas.Result.{IfOk-weaker}
use Rattle.comfy_table.specs.Headline.{IsTableDrawing}
use Rattle.test_callers.proofs.uses.sequences.drawn_with_sequences.Goals as goal

pub returns-clause-closed : goal.returns-clause-closed
returns-clause-closed c =
    IfOk-weaker c.lines.result _ _ (λ lines (drawn : IsTableDrawing _ lines). (drawn.widths, drawn.drawn, drawn.sequences.closed (search rules))) c.lines.ensures.headline

pub returns-clause-resumed : goal.returns-clause-resumed
returns-clause-resumed c =
    IfOk-weaker c.lines.result _ _ (λ lines (drawn : IsTableDrawing _ lines). (drawn.widths, drawn.drawn, drawn.sequences.resumed (search rules))) c.lines.ensures.headline

pub returns-clause-cut : goal.returns-clause-cut
returns-clause-cut c =
    IfOk-weaker c.lines.result _ _ (λ lines (drawn : IsTableDrawing _ lines). (drawn.widths, drawn.drawn, drawn.sequences.cut_closed (search rules))) c.lines.ensures.headline

pub returns-clause-visible : goal.returns-clause-visible
returns-clause-visible c =
    IfOk-weaker c.lines.result _ _ (λ lines (drawn : IsTableDrawing _ lines) free. (drawn.widths, drawn.sequences.without_sequences free)) c.lines.ensures.headline
