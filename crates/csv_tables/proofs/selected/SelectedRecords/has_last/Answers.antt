use Rattle.std.proofs.Common.{◌≡◌, Some, List, ap, length, nat_lt, sym, ◌-◌, ◌∙◌}
use Rattle.std.specs.List.{slice_get}
use Rattle.csv_tables.proofs.ReachedLemmas.{last-reached}
use Rattle.csv_tables.specs.declared.options.ColumnPlan.{ColumnPlan}
use Rattle.csv_tables.proofs.selected.SelectedRecords.has_last.Goals as goal

pub returns-in-Some : goal.returns-in-Some
returns-in-Some c is =
    let columns : List ColumnPlan = c.args.self.now.columns in
    let own : c.deref.result.now ≡ columns = c.deref.ensures.value ∙ ap (λ v. v.columns) c.self.view_is in
    let last : slice_get columns (length columns - 1) ≡ Some c.in-Some.last.now = ap (λ (items : List ColumnPlan). slice_get items (length items - 1)) (sym own) ∙ sym c.in-Some.ensures.value in
    last-reached c.args.row.now columns c.in-Some.last.now last (sym (ap (nat_lt c.in-Some.last.now.position) c.len.ensures) ∙ is)
