use Rattle.std.proofs.Common.{◌≡◌, Err, rules}
use Rattle.csv_command.proofs.RunLemmas.{after_stop}
use Rattle.csv_command.specs.Errors.{of_stop}
use Rattle.csv_command.proofs.transfer.draw.Goals as goal

pub returns-in_err-run-clause-known : goal.returns-in_err-run-clause-known
returns-in_err-run-clause-known g c = λ input had known taken read write.
    let stop = c.in_err-run.field-0.0 in
    let same : c.from_residual.result ≡ Err (of_stop stop) = search rules in
    let happened = c.in_err-run.ensures.known input had known taken read write in
    (happened.0, happened.1, rw same (after_stop (Unit {0}) c.args.options.now stop _ happened.2))

pub returns-in_err-run-clause-long_records : goal.returns-in_err-run-clause-long_records
returns-in_err-run-clause-long_records g c = λ input had known taken read write.
    let stop = c.in_err-run.field-0.0 in
    let same : c.from_residual.result ≡ Err (of_stop stop) = search rules in
    let happened = c.in_err-run.ensures.findings input had known taken read write in
    (happened.0, happened.1, rw same tt)
