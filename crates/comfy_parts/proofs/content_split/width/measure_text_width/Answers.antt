use Rattle.std.proofs.Common.{sym, ap, ◌∙◌}
use Rattle.comfy_parts.specs.Text.{is_printable_ascii}
use Rattle.comfy_parts.proofs.PrintableLemmas.{measure-printable}
use Rattle.comfy_parts.proofs.content_split.width.measure_text_width.Goals as goal

pub returns-then-is_printable-clause-value : goal.returns-then-is_printable-clause-value
returns-then-is_printable-clause-value c =
    sym (measure-printable c.args.text.now (ap is_printable_ascii (sym c.as_bytes.ensures.value) ∙ sym c.is_printable.ensures ∙ c.if-is_printable.true))
