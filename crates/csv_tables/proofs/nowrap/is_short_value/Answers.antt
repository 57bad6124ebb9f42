use Rattle.std.proofs.Common.{◌≡◌, ◌||◌, ◌∙◌, ap, sym, length, nat_le}
use Rattle.std.specs.List.{list_all}
use Rattle.std.specs.Str.{chars}
use Rattle.csv_tables.proofs.NoWrapFieldLemmas.{first-two, last, none}
use Rattle.csv_records.specs.Number.{is_neutral, is_number}
use Rattle.csv_tables.specs.NoWrap.{is_of_dates}
use Rattle.csv_tables.proofs.nowrap.is_short_value.Goals as goal

pub returns-then-are_of_dates : goal.returns-then-are_of_dates
returns-then-are_of_dates c =
    let field = c.args.field.now in
    let bytes : c.as_bytes.result.now ≡ field = c.as_bytes.ensures.value in
    c.if-are_of_dates.true
    ∙ first-two (nat_le (length (chars field)) 25) (list_all is_of_dates field) (is_number field || is_neutral field) (sym c.is_short.ensures ∙ c.if-is_short.true)
    (ap (list_all is_of_dates) (sym bytes) ∙ sym c.are_of_dates.ensures ∙ c.if-are_of_dates.true)

pub returns-else-are_of_dates : goal.returns-else-are_of_dates
returns-else-are_of_dates c =
    let field = c.args.field.now in
    let bytes : c.as_bytes.result.now ≡ field = c.as_bytes.ensures.value in
    c.is_numeric.ensures
    ∙ last (nat_le (length (chars field)) 25) (list_all is_of_dates field) (is_number field || is_neutral field) (sym c.is_short.ensures ∙ c.if-is_short.true)
    (ap (list_all is_of_dates) (sym bytes) ∙ sym c.are_of_dates.ensures ∙ c.if-are_of_dates.false)

pub returns-else-is_short : goal.returns-else-is_short
returns-else-is_short c =
    let field = c.args.field.now in
    c.if-is_short.false ∙ none (nat_le (length (chars field)) 25) (list_all is_of_dates field) (is_number field || is_neutral field) (sym c.is_short.ensures ∙ c.if-is_short.false)
