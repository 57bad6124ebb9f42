use Rattle.csv_promises.proofs.HarmlessLemmas.{written_harmless}
use Rattle.csv_promises.proofs.ResultLemmas.{of_ok}
use Rattle.csv_promises.proofs.harmless.harmless_output.Goals as goal

pub returns : goal.returns
returns c =
    let is = of_ok _ c.parse.result c.in_ok-invocation.invocation c.in_ok-invocation.ensures.value c.parse.ensures.ok in
    let made = of_ok _ c.output_for.result c.in_ok-sink.sink c.in_ok-sink.ensures.value c.output_for.ensures in
    written_harmless _ c.args.context c.in_ok-invocation.invocation c.args.input.now _ is made
