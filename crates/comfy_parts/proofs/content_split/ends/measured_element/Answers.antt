use Rattle.std.proofs.Common.{◌≡◌, ◌==◌, ◌++◌, ◌∙◌, take, sym, ap, ap₂, subst, arith, length}
use Rattle.std.specs.List.{list_any}
use Rattle.std.specs.Str.{IsUtf8}
use Rattle.std.proofs.lemmas.List.{take-append-drop}
use Rattle.std.proofs.lemmas.Str.{IsUtf8-drop}
use Rattle.comfy_parts.specs.Text.{is_printable_ascii}
use Rattle.comfy_parts.proofs.PrintableElementLemmas.{first-printable}
use Rattle.comfy_parts.proofs.PrintableLemmas.{measure-printable, place-looked_at}
use Rattle.comfy_parts.proofs.SummedElementLemmas.{front-boundary}
use Rattle.comfy_parts.proofs.content_split.ends.measured_element.Goals as goal

pub split_at-requires : goal.split_at-requires
split_at-requires c =
    let n = c.printable_run.result in
    let printable = ap (λ t. is_printable_ascii (take n t)) (sym c.as_bytes.ensures.value) ∙ c.printable_run.ensures.printable in
    place-looked_at n n c.args.text.now c.utf8.text printable (omega arith) (omega (arith, c.printable_run.ensures.bound, ap length c.as_bytes.ensures.value))

pub returns-then-ends_element-clause-element : goal.returns-then-ends_element-clause-element
returns-then-ends_element-clause-element c =
    let n = c.printable_run.result in
    let d = c.args.delimiter in
    let text = c.args.text.now in
    let front_is = ap (take n) (c.as_bytes.ensures.value) ∙ sym c.split_at.ensures.front in
    let printable = ap is_printable_ascii (sym front_is) ∙ c.printable_run.ensures.printable in
    let none = ap (list_any (λ b. b == d)) (sym front_is) ∙ c.printable_run.ensures.no_delimiter in
    let splits : text ≡ c.split_at.result.0.now ++ c.split_at.result.1.now = sym (take-append-drop n text) ∙ ap₂ (λ x y. x ++ y) (sym c.split_at.ensures.front) (sym c.split_at.ensures.back) in
    let looked_at = ap (λ t. is_printable_ascii (take n t)) (sym c.as_bytes.ensures.value) ∙ c.printable_run.ensures.printable in
    let place = place-looked_at n n text c.utf8.text looked_at (omega arith) (omega (arith, c.printable_run.ensures.bound, ap length c.as_bytes.ensures.value)) in
    let whole : IsUtf8 c.split_at.result.1.now = subst IsUtf8 (sym c.split_at.ensures.back) (IsUtf8-drop text n c.utf8.text place) in
    first-printable d text c.split_at.result.0.now c.split_at.result.1.now c.ranges.delimiter.0 c.utf8.text splits whole printable none (c.ends_element.ensures c.if-ends_element.true)

pub returns-then-ends_element-clause-columns : goal.returns-then-ends_element-clause-columns
returns-then-ends_element-clause-columns c =
    let front_is = ap (take c.printable_run.result) (c.as_bytes.ensures.value) ∙ sym c.split_at.ensures.front in
    sym (measure-printable c.split_at.result.0.now (ap is_printable_ascii (sym front_is) ∙ c.printable_run.ensures.printable))

pub split_at-requires-in-Some : goal.split_at-requires-in-Some
split_at-requires-in-Some c = front-boundary c.args.delimiter c.args.text.now c.in-Some.after.now c.in-Some.columns c.in-Some.ensures
