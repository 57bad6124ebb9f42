use Rattle.std.proofs.Common.{rules, ◌≡◌, ◌<◌, ◌*◌, ◌++◌, ◌∷◌, [], ℕ, List, None, Some, ap, arith, length, map, subst, sym, ◌∙◌}
use Rattle.std.proofs.lemmas.List.{length-append, length-map}
use Rattle.std.specs.List.{slice_get, slice_index_or}
use Rattle.comfy_table.specs.RowCells.{cell_of}
use Rattle.comfy_table.specs.declared.utils.formatting.row_cell.RowCell.{RowCell}
use Rattle.csv_tables.proofs.PairWidthLemmas.{named_more}
use Rattle.csv_tables.proofs.PlainRowLemmas.{inside}
use Rattle.csv_tables.proofs.ReachedLemmas.{no_column}
use Rattle.csv_tables.specs.Cells.{cell_for}
use Rattle.csv_tables.specs.LazyRows.{AreNamed, name_cell}
use Rattle.csv_tables.specs.declared.options.ColumnPlan.{ColumnPlan}
use Rattle.csv_tables.proofs.rows.RecordRows.push_names.Goals as goal

pub loop-place-preserved : goal.loop-place-preserved
loop-place-preserved c =
    let own = c.args.self.now in
    let place : ℕ = c.loop-place.place in
    let items : List ColumnPlan = c.as_slice-columns.result.now in
    let column : ColumnPlan = slice_index_or items place no_column in
    let before : List RowCell = c.loop-place.cells.items in
    let after : List RowCell = c.push_pair_of.new.cells.items in
    let pair = name_cell own column ∷ cell_for own.look None [] ∷ [] in
    let columns : items ≡ own.selected.columns = search rules in
    let within : place < length items = search rules in
    let found : slice_get own.selected.columns place ≡ Some column = ap (λ (all : List ColumnPlan). slice_get all place) (sym columns) ∙ inside items place no_column within in
    let pushed : map cell_of after ≡ map cell_of before ++ pair = search rules in
    let size : length (map cell_of before) ≡ 2 * place = length-map before cell_of ∙ c.loop-place.invariant.0 in
    let longer = length-append (map cell_of before) pair in
    let mapped = length-map after cell_of in
    let count = ap length pushed in (
      omega (arith, longer, mapped, count, size),
      subst (AreNamed own) (sym pushed) (named_more own (map cell_of before) place column (cell_for own.look None []) c.loop-place.invariant.1 size found),
    )
