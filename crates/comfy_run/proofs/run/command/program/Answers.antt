use Rattle.std.proofs.Common.{Result, Ok, Err, refl}
use Rattle.comfy_run.proofs.ProgramLemmas.{nothing_reported, same_run, same_settings}
use Rattle.comfy_run.specs.declared.error.RunError.{RunError}
use Rattle.comfy_run.proofs.run.command.program.Goals as goal

pub returns-in-Ok-clause-ran : goal.returns-in-Ok-clause-ran
returns-in-Ok-clause-ran g c = λ settings is.
    let plain = same_settings c.in-Some.settings settings _ c.in-Some.ensures is in
    let answer : Result (Unit {0}) RunError = Ok c.in-Ok.field-0 in
    let known = same_run g.R.Source g.W.Sink answer (c.args.source.now, c.args.sink.now) (c.run.new.source, c.run.new.sink) plain c.in-Ok.ensures.known in
    (answer, refl, nothing_reported _ _, c.in-Ok.ensures.source, c.in-Ok.ensures.sink, known)

pub returns-in-Err-clause-ran : goal.returns-in-Err-clause-ran
returns-in-Err-clause-ran g c = λ settings is.
    let plain = same_settings c.in-Some.settings settings _ c.in-Some.ensures is in
    let answer : Result (Unit {0}) RunError = Err c.in-Err.error in
    let known = same_run g.R.Source g.W.Sink answer (c.args.source.now, c.args.sink.now) (c.run.new.source, c.run.new.sink) plain c.in-Err.ensures.known in
    (answer, refl, rw (← c.line_for.ensures) c.report-in-Err.ensures, c.in-Err.ensures.source, c.in-Err.ensures.sink, known)
