use Rattle.comfy_run.proofs.ProgramLemmas.{reported}
use Rattle.comfy_run.proofs.run.command.report.Goals as goal

pub returns : goal.returns
returns g c =
    let e = c.write_all.ensures in
    rw (← c.as_bytes.ensures.value) (reported c.write_all.result c.as_bytes.result.now _ _ _ e.written e.fault e.beginning)
