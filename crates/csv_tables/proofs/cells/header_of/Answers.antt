use Rattle.std.proofs.Common.{◌≡◌, ◌∙◌, ◌++◌, List, [], Bool, Some, None, ap, ap₂, sym, false}
use Rattle.std.specs.Prelude.{if◌then◌else◌}
use Rattle.comfy_parts.specs.Text.{Text}
use Rattle.comfy_parts.specs.CellValue.{CellValue, RowValue, plain_row, with_cell}
use Rattle.comfy_parts.specs.declared.style.cell.CellAlignment.TheVariants.{Right}
use Rattle.csv_tables.proofs.DressedLemmas.{header_is}
use Rattle.csv_tables.specs.Cells.{cell_for, number_name, shown_cells, shown_number, with_weight}
use Rattle.csv_tables.specs.Contents.{field_cells}
use Rattle.csv_tables.proofs.cells.header_of.Goals as goal
use Rattle.csv_tables.proofs.cells.header_of.Goals.{then-is_numbered+in_ok-add_name, else-is_numbered}

pub returns : goal.returns
returns c =
    let look = c.args.look.now in
    let bold = look.has_bold_header in
    let columns = c.args.columns.now in
    let names = c.args.names.now in
    let heading : Bool → List CellValue = λ b. shown_cells look bold (shown_number (if b then Some (number_name names) else None)) in
    let none : c.in_ok-row.row ≡ plain_row [] = c.in_ok-row.ensures ∙ ap plain_row c.in_ok-with_capacity.ensures.items in
    let begun : c.if-is_numbered.row ≡ plain_row (heading c.args.is_numbered) =
    elim c.if-is_numbered.branch [
      | then-is_numbered+in_ok-add_name w ↦
          w.row-is ∙ w.in_ok-add_name.ensures ∙ ap₂ (λ (r : RowValue) (text : Text). with_cell (with_weight bold (cell_for look (Some Right) text)) r) none w.number_name.ensures ∙ sym (ap (λ (b : Bool). plain_row (heading b)) w.if-is_numbered.true)
      | else-is_numbered w ↦ w.row-is ∙ none ∙ sym (ap (λ (b : Bool). plain_row (heading b)) w.if-is_numbered.false)
    ] in
    c.in_ok-add_names.ensures
    ∙ ap (λ (r : RowValue). record r { cells = r.cells ++ field_cells look bold false c.args.settings.now columns names }) begun
    ∙ header_is look c.args.is_numbered columns names c.args.settings.now
