use Rattle.std.proofs.Common.{◌∷◌, [], ap, length, subst, sym, ◌∙◌}
use Rattle.comfy_parts.proofs.EscapedLemmas.{printable_line, unbroken_line}
use Rattle.comfy_parts.proofs.ValueLemmas.{has_text_lines}
use Rattle.comfy_parts.specs.Text.{Text}
use Rattle.comfy_parts.specs.TextLines.{IsClearLine}
use Rattle.comfy_parts.proofs.cell.text_lines.TextLines.of_printable.Goals as goal

pub invariant_of-result : goal.invariant_of-result
invariant_of-result c =
    subst (λ (text : Text). IsClearLine text (length c.args.text.now)) (sym c.in_ok-text.ensures.ok) (printable_line c.args.text.now c.requires.printable)

pub returns : goal.returns
returns c =
    let line = printable_line c.args.text.now c.requires.printable in
    let cut = ap (λ (text : Text). text ∷ []) c.in_ok-text.ensures.ok ∙ sym (unbroken_line c.args.text.now line.unbroken) in
    record { value = cut; text_lines = has_text_lines c.args.text.now (c.in_ok-text.text ∷ []) cut }
