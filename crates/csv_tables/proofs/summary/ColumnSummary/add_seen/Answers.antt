use Rattle.std.proofs.Common.{◌≡◌, ◌∙◌, length, rules, tests}
use Rattle.csv_tables.proofs.SummaryLemmas.{empty_says_nothing}
use Rattle.csv_tables.proofs.summary.ColumnSummary.add_seen.Goals as goal

pub returns-then-is_empty : goal.returns-then-is_empty
returns-then-is_empty c fields same =
    let none : length c.args.field.now ≡ 0 = search (rules, tests) in
    same ∙ empty_says_nothing fields c.args.field.now none
