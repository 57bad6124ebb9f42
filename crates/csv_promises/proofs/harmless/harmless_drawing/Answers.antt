use Rattle.std.proofs.Common.{string_bytes}
use Rattle.csv_command.proofs.OutputControlLemmas.{drawn_without_controls}
use Rattle.csv_promises.proofs.OutputLemmas.{harmless_text}
use Rattle.csv_promises.proofs.ResultLemmas.{then_some}
use Rattle.csv_promises.proofs.harmless.harmless_drawing.Goals as goal

pub returns : goal.returns
returns c =
    then_some _ _ c.render_csv.result c.ok.result c.ok.ensures.value
    (λ drawing drawn. harmless_text (string_bytes drawing) (drawn_without_controls _ c.args.input.now (string_bytes drawing) drawn))
    c.render_csv.ensures.drawn
