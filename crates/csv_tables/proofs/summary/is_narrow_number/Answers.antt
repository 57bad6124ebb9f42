use Rattle.std.proofs.Common.{◌≡◌, ◌∙◌, ap, sym, true, rules, tests}
use Rattle.std.specs.List.{list_all}
use Rattle.csv_records.specs.Number.{is_written}
use Rattle.csv_records.specs.declared.field_number.FieldNumber.{FieldNumber}
use Rattle.csv_tables.proofs.SummaryLemmas.{bare_is_narrow}
use Rattle.csv_tables.proofs.summary.is_narrow_number.Goals as goal

pub returns-then-number : goal.returns-then-number
returns-then-number c is =
    let bare : list_all is_written c.args.field.now ≡ true = sym (ap (λ (n : FieldNumber). n.is_bare) is) ∙ search (rules, tests) in
    c.is_short.ensures ∙ bare_is_narrow c.args.field.now bare
