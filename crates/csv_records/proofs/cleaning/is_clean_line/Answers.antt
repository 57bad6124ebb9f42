use Rattle.std.proofs.Common.{ap, not, sym, ◌∙◌}
use Rattle.comfy_parts.specs.Text.{is_printable_ascii}
use Rattle.csv_records.proofs.CleaningLemmas.{none_replaced}
use Rattle.csv_records.proofs.cleaning.is_clean_line.Goals as goal

pub returns-then-is_printable : goal.returns-then-is_printable
returns-then-is_printable c = c.if-is_printable.true ∙ ap not (sym (none_replaced c.args.field.now (ap is_printable_ascii (sym c.as_bytes.ensures.value) ∙ sym c.is_printable.ensures ∙ c.if-is_printable.true)))
