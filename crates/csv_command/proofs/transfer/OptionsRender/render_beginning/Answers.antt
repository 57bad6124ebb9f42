use Rattle.std.proofs.Common.{rules, ◌≡◌, ◌<◌, ◌^◌, None, length}
use Rattle.csv_records.specs.Beginning.{IsFoundInBeginning}
use Rattle.csv_command.specs.Errors.{of_columns}
use Rattle.csv_command.proofs.FirstRowLemmas.{beginning_output, beginning_refused, beginning_long_records, no_memory, none_found, unlimited}
use Rattle.csv_command.proofs.transfer.OptionsRender.render_beginning.Goals as goal

pub returns-in-Ok-output_of-clause-some : goal.returns-in-Ok-output_of-clause-some
returns-in-Ok-output_of-clause-some c =
    let options = c.args.self.now in
    let most = c.in_ok-most.most in
    let records = c.in_ok-first.first.records in
    let found : IsFoundInBeginning options.input most c.args.read.now c.in_ok-first.first = search rules in
    let first = found.are_first in (
      beginning_output options c.args.read.now most records c.if-self.false c.in_ok-most.ensures.some first c.in-Ok-output_of.pieces c.in-Ok-output_of.ensures.output,
      beginning_long_records options c.args.read.now most records c.if-self.false c.in_ok-most.ensures.some first c.in_ok-first.first.longer c.long_records_of-findings.result found.longer c.long_records_of-findings.ensures,
    )

pub returns-in-Err-clause-some : goal.returns-in-Err-clause-some
returns-in-Err-clause-some c =
    let options = c.args.self.now in
    let most = c.in_ok-most.most in
    let records = c.in_ok-first.first.records in
    let found : IsFoundInBeginning options.input most c.args.read.now c.in_ok-first.first = search rules in
    let same : c.from.result ≡ of_columns c.in-Err.error = search rules in
    rw same (beginning_refused options c.args.read.now most records c.if-self.false c.in_ok-most.ensures.some found.are_first c.in-Err.error c.in-Err.ensures.refused)

pub returns-in_default-clause-some : goal.returns-in_default-clause-some
returns-in_default-clause-some c = no_memory c.args.self.now c.args.read.now c.in_ok-most.most c.if-self.false c.in_ok-most.ensures.some

pub returns-in_err-most-clause-none : goal.returns-in_err-most-clause-none
returns-in_err-most-clause-none c =
    let same : c.from_residual.result ≡ None = search rules in
    let short : length c.args.read.now < 2 ^ 64 = search rules in
    rw same (unlimited c.args.self.now c.args.read.now short c.in_err-most.ensures.none)

pub returns-in_err-first-clause-none : goal.returns-in_err-first-clause-none
returns-in_err-first-clause-none c =
    let same : c.from_residual-in_err-first.result ≡ None = search rules in
    let found : c.in-Ok.found ≡ None = search rules in
    rw same (none_found c.args.self.now c.args.read.now c.in_ok-most.most c.in_ok-most.ensures.some (rw found at c.in-Ok.ensures.none))
