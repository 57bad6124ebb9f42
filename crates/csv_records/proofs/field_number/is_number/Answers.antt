use Rattle.std.proofs.Common.{◌≡◌, ◌||◌, ◌∙◌, ap, false, true, rules, tests}
use Rattle.csv_records.proofs.FieldNumberLemmas.{and_not, and_so, framed_is_number}
use Rattle.csv_records.specs.Number.{back_of, figure_of, front_of, is_enclosed, is_figure, is_signed}
use Rattle.csv_records.specs.declared.field_number.FieldNumber.{FieldNumber}
use Rattle.csv_records.proofs.field_number.is_number.Goals as goal

pub returns-then-may_be_around : goal.returns-then-may_be_around
returns-then-may_be_around c =
    let front = c.parts_of.result.0.now in
    let digits = c.parts_of.result.1.now in
    let back = c.parts_of.result.2.now in
    let around : (is_signed front back || is_enclosed front back) ≡ true = search (rules, tests) in
    ap (λ (n : FieldNumber). n.is_number) c.figure_number.ensures ∙ and_so (is_figure digits) _ around
    ∙ framed_is_number c.args.field.now front digits back
    (c.parts_of.ensures.front ∙ ap front_of c.trimmed.ensures) (c.parts_of.ensures.figure ∙ ap figure_of c.trimmed.ensures) (c.parts_of.ensures.back ∙ ap back_of c.trimmed.ensures)

pub returns-else-may_be_around : goal.returns-else-may_be_around
returns-else-may_be_around c =
    let front = c.parts_of.result.0.now in
    let digits = c.parts_of.result.1.now in
    let back = c.parts_of.result.2.now in
    let around : (is_signed front back || is_enclosed front back) ≡ false = search (rules, tests) in
    c.if-may_be_around.false ∙ and_not (is_figure digits) _ around
    ∙ framed_is_number c.args.field.now front digits back
    (c.parts_of.ensures.front ∙ ap front_of c.trimmed.ensures) (c.parts_of.ensures.figure ∙ ap figure_of c.trimmed.ensures) (c.parts_of.ensures.back ∙ ap back_of c.trimmed.ensures)
