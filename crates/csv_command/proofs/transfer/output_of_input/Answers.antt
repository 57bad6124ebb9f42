use Rattle.std.proofs.Common.{◌≡◌, Err, rules}
use Rattle.csv_command.proofs.FirstRowLemmas.{whole_no_memory}
use Rattle.csv_command.specs.declared.error.CsvError.TheVariants.{OutOfMemory}
use Rattle.csv_command.proofs.transfer.output_of_input.Goals as goal

pub returns-in_err-joined-clause-refused : goal.returns-in_err-joined-clause-refused
returns-in_err-joined-clause-refused c =
    let same : c.from_residual-in_err-joined.result ≡ Err OutOfMemory = search rules in
    let made = c.in_ok-rendered_input.ensures.output in
    rw same (whole_no_memory c.args.options.now c.args.input.items made.are_records.text made.are_records.is_text)
