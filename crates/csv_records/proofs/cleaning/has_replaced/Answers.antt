use Rattle.std.proofs.Common.{ap, sym, ◌∙◌}
use Rattle.std.specs.List.{list_any}
use Rattle.csv_records.proofs.ReplacedLemmas.{none_without}
use Rattle.csv_records.specs.Cleaning.{may_begin_replaced}
use Rattle.csv_records.proofs.cleaning.has_replaced.Goals as goal

pub returns-else-may_hold_replaced : goal.returns-else-may_hold_replaced
returns-else-may_hold_replaced c =
    let none = ap (list_any may_begin_replaced) (sym c.as_bytes.ensures.value) ∙ sym c.may_hold_replaced.ensures ∙ c.if-may_hold_replaced.false in
    c.if-may_hold_replaced.false ∙ sym (none_without c.args.field.now c.utf8.field none)
