-- The lines that a further row leaves in a drawing, computed.
use Rattle.std.proofs.Common.{◌≡◌, [], ◌∷◌, refl, ap, slice_index_or}
use Rattle.comfy_parts.proofs.Computing.{wrapping}
use Rattle.comfy_parts.specs.CellValue.{RowValue}
use Rattle.comfy_parts.specs.Presets.{ascii_full}
use Rattle.comfy_table.specs.AddedRows.{AddsBelow, added_lines}
use Rattle.comfy_table.specs.Drawing.{drawing, infos_of}
use Rattle.comfy_table.specs.TableValue.{TableValue, with_row}
use Rattle.test_definitions.proofs.TrialTables.{row_of, table_of, texts, utf8}

abbrev two_lines : TableValue
two_lines = table_of ascii_full ("ab" ∷ []) (("cd" ∷ []) ∷ [])

abbrev short_row : RowValue
short_row = row_of ("e" ∷ [])

-- the row separator and the row's line come above the bottom border
one_more_row : AddsBelow two_lines short_row (2 ∷ []) (texts ("+----+" ∷ "| ab |" ∷ "+====+" ∷ "| cd |" ∷ "+----+" ∷ []))
    (texts ("+----+" ∷ "| ab |" ∷ "+====+" ∷ "| cd |" ∷ "|----|" ∷ "| e  |" ∷ "+----+" ∷ []))
unfolding wrapping
one_more_row = (refl, refl)

-- without a row before it there is no row separator
first_row : added_lines (table_of ascii_full ("ab" ∷ []) []) (infos_of two_lines (2 ∷ [])) short_row ≡ texts ("| e  |" ∷ [])
unfolding wrapping
first_row = refl

-- a row that is wider than its column changes the shown lines
wider_row : drawing (with_row (row_of ("efg" ∷ [])) two_lines) (3 ∷ [])
    ≡ texts ("+-----+" ∷ "| ab  |" ∷ "+=====+" ∷ "| cd  |" ∷ "|-----|" ∷ "| efg |" ∷ "+-----+" ∷ [])
unfolding wrapping
wider_row = refl

-- so its lines aren't those of the first table with some lines below
-- false: comfy_table::laws::shown_lines_stay
wider_lines_do_not_stay : ¬ (AddsBelow two_lines short_row (2 ∷ []) (drawing two_lines (2 ∷ []))
    (drawing (with_row short_row two_lines) (3 ∷ [])))
unfolding wrapping
wider_lines_do_not_stay adds =
    let first : utf8 "+-----+" ≡ utf8 "+----+" = ap (λ lines. slice_index_or lines 0 []) adds.1 in
    cc first
