use Rattle.std.proofs.Common.{◌≡◌, ◌&&◌, ◌||◌, ◌∙◌, ap, refl, sym, true, rules, tests}
use Rattle.std.specs.List.{list_all}
use Rattle.comfy_parts.specs.Text.{Text}
use Rattle.csv_records.proofs.FieldNumberLemmas.{framed_number, plain_field}
use Rattle.csv_records.specs.Decimals.{number_with}
use Rattle.csv_records.specs.Number.{back_of, figure_of, front_of, is_enclosed, is_figure, is_inner, is_signed, is_written, unsigned}
use Rattle.csv_records.proofs.field_number.number_in.Goals as goal
use Rattle.csv_records.proofs.field_number.number_in.Goals.{then-number, else-number, then-number-2, else-number-2}

pub returns-in-Some : goal.returns-in-Some
returns-in-Some c =
    let rest : c.unsigned.result.now ≡ unsigned c.args.field.now = c.unsigned.ensures ∙ ap unsigned c.as_bytes.ensures.value in
    c.in-Some.ensures.value ∙ ap (λ (d : Text). number_with (is_figure d) true d) rest ∙ plain_field c.args.field.now (ap (list_all is_inner) (sym rest) ∙ c.in-Some.ensures.bare)

pub returns : goal.returns
returns c =
    let field = c.args.field.now in
    let front = c.parts_of.result.0.now in
    let digits = c.parts_of.result.1.now in
    let back = c.parts_of.result.2.now in
    let number = c.figure_number-number.result in
    let written : c.are_written.result ≡ list_all is_written field = search (rules, tests) in
    let around : c.if-number.is_number ≡ (number.is_number && (is_signed front back || is_enclosed front back)) = elim c.if-number.branch [ then-number w ↦ search (rules, tests) | else-number w ↦ search (rules, tests) ] in
    let decimal : c.if-number-2.result ≡ (number.is_decimal && c.if-number.is_number) = elim c.if-number-2.branch [ then-number-2 w ↦ search (rules, tests) | else-number-2 w ↦ search (rules, tests) ] in
    framed_number field front digits back
    (c.parts_of.ensures.front ∙ ap front_of c.trimmed.ensures) (c.parts_of.ensures.figure ∙ ap figure_of c.trimmed.ensures) (c.parts_of.ensures.back ∙ ap back_of c.trimmed.ensures)
    number _ (c.figure_number-number.ensures ∙ ap (λ b. number_with (is_figure digits) b digits) written) around decimal refl refl refl
