use Rattle.std.proofs.Common.{◌≡◌, false, ap, sym, ◌∙◌}
use Rattle.csv_tables.proofs.FieldLemmas.{printable_cell}
use Rattle.csv_tables.specs.Cells.{is_blank}
use Rattle.csv_tables.proofs.cells.cleaned_cell.Goals as goal

pub returns-in-Some : goal.returns-in-Some
returns-in-Some c =
    let text = c.args.text.now in
    let filled : is_blank text ≡ false = ap is_blank (sym c.as_bytes.ensures.value) ∙ sym c.is_blank.ensures ∙ c.if-not-is_blank.true in
    printable_cell c.args.look.now c.args.alignment text c.in-Some.cell c.if-not-look.true filled (sym c.in_ok-cell.ensures ∙ c.in-Some.is)
