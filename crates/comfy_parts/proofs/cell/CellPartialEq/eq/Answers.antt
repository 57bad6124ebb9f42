use Rattle.std.proofs.Common.{◌≡◌, ◌∙◌, ◌&&◌, Bool, true, false, ap, refl, sym, nat_eq, string_bytes}
use Rattle.std.specs.Cmp.Derive.Mapped.{pointwise-map}
use Rattle.std.specs.Cmp.Lexicographic.{pointwise}
use Rattle.std.specs.Option.{option_eq}
use Rattle.comfy_parts.specs.CellValue.{CellValue}
use Rattle.comfy_parts.specs.Comparisons.{alignment_eq, attribute_eq, color_eq}
use Rattle.comfy_parts.proofs.cell.CellPartialEq.eq.Goals.{Joined-eq-4, then-eq, else-eq, then-eq-2, else-eq-2, then-eq-3, else-eq-3, then-eq-4, else-eq-4}
use Rattle.comfy_parts.proofs.cell.CellPartialEq.eq.Goals as goal

-- the value of `s && t`, by the value of s
and_true : {s t v r : Bool} → s ≡ true → v ≡ r → r ≡ t → v ≡ (s && t)
and_true {t} h value test = value ∙ test ∙ ap (λ b. b && t) (sym h)

and_false : {s v : Bool} (t : Bool) → s ≡ false → v ≡ s → v ≡ (s && t)
and_false t h value = value ∙ h ∙ ap (λ b. b && t) (sym h)

-- the test of all fields except the last one
abbrev same_up_to_attributes : CellValue → CellValue → Bool
same_up_to_attributes a b =
    pointwise (pointwise nat_eq) a.text_lines b.text_lines
    && option_eq nat_eq a.delimiter b.delimiter
    && option_eq alignment_eq a.alignment b.alignment
    && option_eq color_eq a.foreground b.foreground
    && option_eq color_eq a.background b.background

-- the code's result before it compares the attributes is this test
found : (c : Joined-eq-4) → c.if-eq-4.value ≡ same_up_to_attributes c.args.self.now c.args.other.now
found c =
    let a = c.self.view_is in
    let b = c.other.view_is in
    let text_lines = c.eq.ensures ∙ sym (pointwise-map string_bytes (pointwise nat_eq) c.text_lines.result.now c.text_lines-2.result.now) ∙ (λ i. pointwise (pointwise nat_eq) (c.text_lines.ensures.value i) (c.text_lines-2.ensures.value i)) in
    let delimiter : c.if-eq.value ≡ (c.eq.result && option_eq nat_eq c.args.self.now.delimiter c.args.other.now.delimiter) =
    elim c.if-eq.branch [
      | then-eq w ↦ and_true w.if-eq.true w.value-is (w.eq-then-eq.ensures ∙ (λ i. option_eq nat_eq (a i).delimiter (b i).delimiter))
      | else-eq w ↦ and_false _ w.if-eq.false w.value-is
    ] in
    let alignment : c.if-eq-2.value ≡ (c.if-eq.value && option_eq alignment_eq c.args.self.now.alignment c.args.other.now.alignment) =
    elim c.if-eq-2.branch [
      | then-eq-2 w ↦ and_true w.if-eq-2.true w.value-is (w.eq-then-eq-2.ensures ∙ (λ i. option_eq alignment_eq (a i).alignment (b i).alignment))
      | else-eq-2 w ↦ and_false _ w.if-eq-2.false w.value-is
    ] in
    let foreground : c.if-eq-3.value ≡ (c.if-eq-2.value && option_eq color_eq c.args.self.now.foreground c.args.other.now.foreground) =
    elim c.if-eq-3.branch [
      | then-eq-3 w ↦ and_true w.if-eq-3.true w.value-is (w.eq-then-eq-3.ensures ∙ (λ i. option_eq color_eq (a i).foreground (b i).foreground))
      | else-eq-3 w ↦ and_false _ w.if-eq-3.false w.value-is
    ] in
    let background : c.if-eq-4.value ≡ (c.if-eq-3.value && option_eq color_eq c.args.self.now.background c.args.other.now.background) =
    elim c.if-eq-4.branch [
      | then-eq-4 w ↦ and_true w.if-eq-4.true w.value-is (w.eq-then-eq-4.ensures ∙ (λ i. option_eq color_eq (a i).background (b i).background))
      | else-eq-4 w ↦ and_false _ w.if-eq-4.false w.value-is
    ] in
    rw (background, foreground, alignment, delimiter, text_lines) refl

pub returns-then-eq-5 : goal.returns-then-eq-5
returns-then-eq-5 c =
    let test = c.eq-then-eq-5.ensures ∙ (λ i. pointwise attribute_eq (c.attributes.ensures i) (c.attributes-then-eq-5.ensures i)) in
    and_true c.if-eq-5.true refl test ∙ ap (λ b. b && pointwise attribute_eq c.args.self.now.attributes c.args.other.now.attributes) (found (goal.at.returns-then-eq-5 c).Joined-eq-4)

pub returns-else-eq-5 : goal.returns-else-eq-5
returns-else-eq-5 c =
    and_false (pointwise attribute_eq c.args.self.now.attributes c.args.other.now.attributes) c.if-eq-5.false refl
    ∙ ap (λ b. b && pointwise attribute_eq c.args.self.now.attributes c.args.other.now.attributes) (found (goal.at.returns-else-eq-5 c).Joined-eq-4)
