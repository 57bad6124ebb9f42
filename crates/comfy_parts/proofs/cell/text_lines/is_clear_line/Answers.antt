use Rattle.std.proofs.Common.{◌≡◌, ◌==◌, arith, false, List, ℕ, ap, sym, ◌∙◌, lit<, nat_lt, refl}
use Rattle.std.specs.List.{list_any}
use Rattle.comfy_parts.proofs.EscapedLemmas.{none_by_characters, none_of_control}
use Rattle.comfy_parts.proofs.cell.text_lines.is_clear_line.Goals as goal

-- the text has no control character
pub returns-then-not-has_control-clause-unbroken : goal.returns-then-not-has_control-clause-unbroken
returns-then-not-has_control-clause-unbroken c =
    let none : list_any (λ b. nat_lt b 0x20) c.args.text.now ≡ false = ap (λ (bs : List ℕ). list_any (λ b. nat_lt b 0x20) bs) (sym c.as_bytes.ensures.value) ∙ sym c.has_control.ensures ∙ c.if-not-has_control.true in
    λ _. none_of_control 0x0A (omega arith) c.args.text.now none

pub returns-then-not-has_control-clause-clear : goal.returns-then-not-has_control-clause-clear
returns-then-not-has_control-clause-clear c =
    let none : list_any (λ b. nat_lt b 0x20) c.args.text.now ≡ false = ap (λ (bs : List ℕ). list_any (λ b. nat_lt b 0x20) bs) (sym c.as_bytes.ensures.value) ∙ sym c.has_control.ensures ∙ c.if-not-has_control.true in
    λ _. none_of_control 0x1B (omega arith) c.args.text.now none

pub returns-then-not-contains-clause-unbroken : goal.returns-then-not-contains-clause-unbroken
returns-then-not-contains-clause-unbroken c = λ _. none_by_characters (λ c. c == 0x0A) 0x0A (lit< tt) refl c.args.text.now c.if-not-contains.ensures.cases
