-- Tables without their hidden columns, computed.
use Rattle.std.proofs.Common.{◌≡◌, [], ◌∷◌, None, Some, refl}
use Rattle.comfy_parts.proofs.Computing.{wrapping}
use Rattle.comfy_parts.specs.Presets.{ascii_full}
use Rattle.comfy_parts.specs.declared.style.column.ColumnConstraint.TheVariants.{Hidden}
use Rattle.comfy_table.specs.Arrangement.{IsDrawingOf}
use Rattle.comfy_table.specs.HiddenColumns.{beside_shown, without_hidden}
use Rattle.comfy_table.specs.TableValue.{TableValue}
use Rattle.test_definitions.proofs.TrialTables.{at_widths, cells_of, rows_of, table_of, texts, with_constraints}

-- the second column is hidden, and has a cell of three lines
abbrev one_shown : TableValue
one_shown = with_constraints (None ∷ Some Hidden ∷ []) (table_of ascii_full ("ab" ∷ "secret" ∷ []) (("cd" ∷ "1\n2\n3" ∷ []) ∷ []))

-- the first column and its cells are left
second_is_gone : without_hidden one_shown ≡ table_of ascii_full ("ab" ∷ []) (("cd" ∷ []) ∷ [])
unfolding wrapping
second_is_gone = refl

-- its row has one line
drawn_with_it : IsDrawingOf one_shown (texts ("+----+" ∷ "| ab |" ∷ "+====+" ∷ "| cd |" ∷ "+----+" ∷ []))
unfolding wrapping
drawn_with_it = (2 ∷ 6 ∷ [], at_widths refl refl refl, refl)

-- the same without the hidden column
drawn_without_it : IsDrawingOf (without_hidden one_shown) (texts ("+----+" ∷ "| ab |" ∷ "+====+" ∷ "| cd |" ∷ "+----+" ∷ []))
unfolding wrapping
drawn_without_it = (2 ∷ [], at_widths refl refl refl, refl)

-- a row keeps its cells of shown columns in their order; a cell beyond the columns is left out
kept_cells : beside_shown (with_constraints (Some Hidden ∷ None ∷ Some Hidden ∷ []) (rows_of ascii_full (("a" ∷ "b" ∷ "c" ∷ "d" ∷ []) ∷ []))).columns (cells_of ("1" ∷ "2" ∷ "3" ∷ "4" ∷ "5" ∷ []))
    ≡ cells_of ("2" ∷ "4" ∷ [])
unfolding wrapping
kept_cells = refl

kept_of_short_row : beside_shown (with_constraints (None ∷ Some Hidden ∷ []) (rows_of ascii_full (("a" ∷ "b" ∷ "c" ∷ []) ∷ []))).columns (cells_of ("1" ∷ "2" ∷ []))
    ≡ cells_of ("1" ∷ [])
unfolding wrapping
kept_of_short_row = refl
