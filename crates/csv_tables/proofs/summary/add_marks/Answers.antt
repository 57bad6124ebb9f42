use Rattle.std.proofs.Common.{◌≡◌, ◌∙◌, false, sym, rules, tests}
use Rattle.csv_tables.proofs.SummaryLemmas.{known_marks, none_before, other_field, wide_field}
use Rattle.csv_tables.proofs.summary.add_marks.Goals as goal
use Rattle.csv_tables.proofs.summary.add_marks.Goals.{in-Some+then-marks, in-Some+else-marks, in-None}

pub returns-then-not-are_kept : goal.returns-then-not-are_kept
returns-then-not-are_kept c is fields same =
    let field = c.args.field.now in
    let ends : c.match-marks.are_kept ≡ false = search (rules, tests) in
    elim c.match-marks.branch [
      | in-Some+then-marks w ↦ sym (wide_field fields field (sym (w.is_narrow_number.ensures is) ∙ sym w.are_kept-is ∙ ends))
      | in-Some+else-marks w ↦ sym (other_field fields field _ (w.add.ensures is fields (known_marks fields _ (sym same ∙ w.in-Some.is))) w.if-marks.false)
      | in-None w ↦ sym (none_before fields field (sym same ∙ w.in-None.is))
    ]
