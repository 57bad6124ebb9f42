use Rattle.std.proofs.Common.{◌≡◌, Err, rules, arith, get_or, string_bytes, subst}
use Rattle.std.proofs.lemmas.Grind.{common_steps}
use Rattle.csv_command.specs.Columns.{IsColumnsRefusal, positions_of_word}
use Rattle.comfy_parts.specs.Text.{Text}
use Rattle.csv_command.proofs.ColumnLemmas.{refused_word}
use Rattle.csv_command.proofs.columns.positions_of_each.Goals as goal

pub loop-word-preserved : goal.loop-word-preserved
loop-word-preserved c = grind (arith, common_steps)

pub returns-in_err-more-clause-refused : goal.returns-in_err-more-clause-refused
returns-in_err-more-clause-refused c =
    let e = c.in_err-more.field-0.0 in
    let names = c.args.names.now in
    let same : c.from_residual.result ≡ Err e = search rules in
    let word : c.as_str.result.now ≡ string_bytes (get_or c.args.words.now c.loop-word.word-index c.word-item.result) = search rules in
    let why = subst (λ (w : Text). IsColumnsRefusal e (positions_of_word names c.args.count w)) word c.in_err-more.ensures.refused in
    rw same (refused_word names c.args.count c.args.words.now c.loop-word.word-index c.word-item.result _ e (omega arith) c.loop-word.invariant why)
