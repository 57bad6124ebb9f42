use Rattle.std.proofs.Common.{◌≡◌, ◌&&◌, ◌||◌, Bool, not, refl, rules, tests}
use Rattle.csv_records.proofs.FieldNumberLemmas.{marked}
use Rattle.csv_records.specs.Number.{halves, is_decimal, is_name, is_scientific}
use Rattle.csv_records.proofs.field_number.marked_number.Goals as goal
use Rattle.csv_records.proofs.field_number.marked_number.Goals.{then-is_figure, else-is_figure, then-is_decimal, else-is_decimal+then-is_figure-2, else-is_decimal+else-is_figure-2}

pub returns : goal.returns
returns c =
    let digits = c.args.digits.now in
    let exponent : Bool = is_scientific (halves 0x65 digits) || is_scientific (halves 0x45 digits) in
    let decimal : c.if-is_figure.is_decimal ≡ (not (is_name digits) && is_decimal digits) = elim c.if-is_figure.branch [ then-is_figure w ↦ search (rules, tests) | else-is_figure w ↦ search (rules, tests) ] in
    let number : c.if-is_decimal.result ≡ (c.if-is_figure.is_decimal || (not (is_name digits) && exponent)) =
    elim c.if-is_decimal.branch [ then-is_decimal w ↦ search (rules, tests) | else-is_decimal+then-is_figure-2 w ↦ search (rules, tests) | else-is_decimal+else-is_figure-2 w ↦ search (rules, tests) ] in
    marked digits _ decimal refl number refl c.fraction_in.ensures c.fraction_in-2.ensures
