use Rattle.std.proofs.Common.{ap, sym, ◌∙◌}
use Rattle.comfy_parts.proofs.EscapedLemmas.{printable_line}
use Rattle.comfy_parts.specs.Text.{is_printable_ascii}
use Rattle.comfy_parts.proofs.cell.text_lines.clear_width.Goals as goal

pub returns-then-is_printable : goal.returns-then-is_printable
returns-then-is_printable c =
    printable_line c.args.text.now (ap is_printable_ascii (sym c.as_bytes.ensures.value) ∙ sym c.is_printable.ensures ∙ c.if-is_printable.true)
