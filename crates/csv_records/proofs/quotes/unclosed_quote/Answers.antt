use Rattle.std.proofs.Common.{◌≡◌, ap, arith, length, ◌∙◌}
use Rattle.csv.specs.Reading.{strip_bom}
use Rattle.csv_records.proofs.QuoteLemmas.{marked, shifted}
use Rattle.csv_records.proofs.quotes.unclosed_quote.Goals as goal

pub overflow_sub-result : goal.overflow_sub-result
overflow_sub-result c = omega (arith, ap length (c.as_bytes-unmarked.ensures.value ∙ c.without_utf8_mark.ensures), (marked c.args.text.now).3)

pub returns-clause-some : goal.returns-clause-some
returns-clause-some c =
    let unmarked : c.as_bytes-unmarked.result.now ≡ strip_bom c.args.text.now = c.as_bytes-unmarked.ensures.value ∙ c.without_utf8_mark.ensures in
    shifted c.args.delimiter c.args.text.now c.as_bytes-unmarked.result.now c.in_ok-at.at unmarked c.in_ok-at.ensures.some
