use Rattle.std.proofs.Common.{◌≡◌, Err, ap, rules}
use Rattle.comfy_run.proofs.RunLemmas.{after_ok, after_stop}
use Rattle.comfy_run.specs.Run.{run_error_of}
use Rattle.comfy_run.proofs.run.transfer.run.Goals as goal

pub returns-in_err-run-clause-known : goal.returns-in_err-run-clause-known
returns-in_err-run-clause-known g c = λ input had known taken read write.
    let stop = c.in_err-run.field-0.0 in
    let same : c.from_residual.result ≡ Err (run_error_of stop) = search rules in
    let happened = c.in_err-run.ensures.known input had known taken read write in
    (happened.0, happened.1, rw same (after_stop (Unit {0}) c.args.settings stop _ (λ is. c.in_err-run.ensures.unfinished (ap Err is)) happened.2))

pub returns-clause-known : goal.returns-clause-known
returns-clause-known g c = λ input had known taken read write.
    let happened = c.in_ok-run.ensures.known input had known taken read write in
    (happened.0, happened.1, after_ok (Unit {0}) c.in_ok-run.field-0 c.args.settings _ happened.2)
