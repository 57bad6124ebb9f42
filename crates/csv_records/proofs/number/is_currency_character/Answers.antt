use Rattle.std.proofs.Common.{◌∙◌, ap, length}
use Rattle.csv_records.specs.Number.{is_currency}
use Rattle.csv_records.proofs.FigureLemmas.{one_alone}
use Rattle.csv_records.proofs.number.is_currency_character.Goals as goal

pub returns-in-Some-default-empty : goal.returns-in-Some-default-empty
returns-in-Some-default-empty c =
    let some = c.in-Some-default-empty in
    c.is_currency.ensures ∙ one_alone is_currency c.args.text.now some.field-0-1.now some.c some.ensures.characters (ap length some.is-empty)
