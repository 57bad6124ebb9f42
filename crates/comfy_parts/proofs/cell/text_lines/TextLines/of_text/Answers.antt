use Rattle.std.proofs.Common.{◌≡◌, ◌==◌, [], ◌∷◌, false, List, ℕ, string_bytes, subst, sym}
use Rattle.std.specs.List.{list_any}
use Rattle.comfy_parts.proofs.EscapedLemmas.{unbroken_line}
use Rattle.comfy_parts.proofs.ValueLemmas.{has_text_lines}
use Rattle.comfy_parts.proofs.cell.text_lines.TextLines.of_text.Goals as goal

pub returns-in-Some : goal.returns-in-Some
returns-in-Some c =
    let text = string_bytes c.args.text in
    let unbroken = subst (λ (text : List ℕ). list_any (λ b. b == 0x0A) text ≡ false) c.as_str.ensures.value c.in-Some.ensures.unbroken in
    let cut = sym (unbroken_line text unbroken) in
    record { value = cut; text_lines = has_text_lines text (c.args.text ∷ []) cut }
