use Rattle.std.proofs.Common.{◌≡◌, ◌++◌, false, take}
use Rattle.csv_tables.specs.Contents.{field_cells}
use Rattle.csv_tables.proofs.cells.add_names.Given as goal

abbrev pub invariant-loop-column : goal.invariant-loop-column
invariant-loop-column l =
    l.row ≡ record l.initial.row {
      cells = l.initial.row.cells ++ field_cells l.look l.look.has_bold_header false l.settings (take l.column-index l.columns) l.names;
    }
