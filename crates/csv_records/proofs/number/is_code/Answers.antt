use Rattle.std.proofs.Common.{◌≡◌, ◌∙◌, ap, false, rules, sym, tests}
use Rattle.std.specs.Char.{is_ascii_uppercase}
use Rattle.csv_records.specs.Number.{begins, is_code}
use Rattle.csv_records.proofs.FigureLemmas.{no_capital, other_length}
use Rattle.csv_records.proofs.number.is_code.Goals as goal
use Rattle.csv_records.proofs.number.is_code.Goals.{else-text-eq3, then-text-eq3}

pub returns-else-begins_with_capital : goal.returns-else-begins_with_capital
returns-else-begins_with_capital c =
    let text = c.args.text.now in
    let none : false ≡ is_code text =
    elim c.if-text-eq3.branch [
      | then-text-eq3 w ↦ no_capital text (ap (begins is_ascii_uppercase) (sym w.as_bytes.ensures.value) ∙ search (rules, tests))
      | else-text-eq3 w ↦ other_length text (search (rules, tests))
    ] in
    c.if-begins_with_capital.false ∙ none
