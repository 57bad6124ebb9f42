-- A table as it is measured: its rows, and their properties.
use Rattle.std.proofs.Common.{◌≡◌, ◌<◌, ℕ, zero, suc, Bool, true, false, List, [], ◌∷◌, Option, Some, None, map, option_map, refl, ap, arith, subst, sym}
use Rattle.std.specs.List.{All, slice_get}
use Rattle.std.specs.Prelude.{if◌then◌else◌}
use Rattle.std.specs.Str.{IsUtf8}
use Rattle.std.proofs.lemmas.List.{length-map}
use Rattle.std.proofs.lemmas.List.Elements.{All-map, All-weaker}
use Rattle.comfy_parts.proofs.CallerLemmas.{HasNo-visible, visible_text-whole}
use Rattle.comfy_parts.specs.CellValue.{CellValue, HasTextLines, IsCell, RowValue}
use Rattle.comfy_parts.specs.Text.{Text}
use Rattle.comfy_parts.specs.VisibleText.{visible_text}
use Rattle.comfy_table.specs.Laws.{HasNoBreak}
use Rattle.comfy_table.specs.TableValue.{TableValue, header_and_rows, measured_rows, visible_cell, visible_row}

-- a cell and a row as they are measured
abbrev pub cell_measured : Bool → CellValue → CellValue
cell_measured custom cell = record cell { text_lines = if custom then map visible_text cell.text_lines else cell.text_lines }

abbrev pub row_measured : Bool → RowValue → RowValue
row_measured custom row = record row { cells = if custom then map visible_cell row.cells else row.cells }

-- the rows of a table are measured one by one
pub rows_measured : (custom : Bool) (rows : List RowValue) → (if custom then map visible_row rows else rows) ≡ map (row_measured custom) rows
rows_measured true rows = refl
rows_measured false [] = refl
rows_measured false (row ∷ rows) = ap (λ (more : List RowValue). row ∷ more) (rows_measured false rows)

-- a header is measured as a row is
pub header_measured : (custom : Bool) (header : Option RowValue) → (if custom then option_map visible_row header else header) ≡ option_map (row_measured custom) header
header_measured true header = refl
header_measured false None = refl
header_measured false (Some row) = refl

-- the cell of a row at a position is measured by itself
pub get_measured : (custom : Bool) (cells : List CellValue) (i : ℕ) → slice_get (if custom then map visible_cell cells else cells) i ≡ option_map (cell_measured custom) (slice_get cells i)
get_measured true [] i = refl
get_measured true (cell ∷ cells) zero = refl
get_measured true (cell ∷ cells) (suc i) = get_measured true cells i
get_measured false [] i = refl
get_measured false (cell ∷ cells) zero = refl
get_measured false (cell ∷ cells) (suc i) = get_measured false cells i

-- all rows are measured one by one
pub measured_rows-is : (table : TableValue) → measured_rows table ≡ map (row_measured table.custom_styling) (header_and_rows table)
measured_rows-is table = grind (arith, rows_measured)

-- a property that rows keep as they are measured holds of all measured rows
pub All-measured : (table : TableValue) (P : RowValue → Type 0) → ((row : RowValue) → P row → P (visible_row row)) → All P (header_and_rows table) → All P (measured_rows table)
All-measured table P gives each =
    subst (All P) (sym (measured_rows-is table))
    (All-map P (row_measured table.custom_styling) (header_and_rows table)
    (All-weaker P (λ row. P (row_measured table.custom_styling row))
    (λ row own. elim table.custom_styling as (λ custom. P (row_measured custom row)) [ true ↦ gives row own | false ↦ own ]) (header_and_rows table) each))

-- ---- cells as they are measured

-- text lines keep the invariant of text lines in their visible texts
visible_text_lines : (texts : List Text) → HasTextLines texts → HasTextLines (map visible_text texts)
visible_text_lines texts own =
    record {
      some_line = subst (λ n. 0 < n) (sym (length-map texts visible_text)) own.some_line;
      no_breaks = All-map HasNoBreak visible_text texts (All-weaker HasNoBreak (λ text. HasNoBreak (visible_text text)) (HasNo-visible 0x0A) texts own.no_breaks);
      whole = All-map IsUtf8 visible_text texts (All-weaker IsUtf8 (λ text. IsUtf8 (visible_text text)) visible_text-whole texts own.whole);
    }

-- the cells of a row have the invariant of cells
abbrev pub HasCells : RowValue → Type 0
HasCells row = All IsCell row.cells

-- the cells of the rows still have the invariant as they are measured
pub measured_kept : (table : TableValue) → All HasCells (header_and_rows table) → All HasCells (measured_rows table)
measured_kept table each =
    All-measured table HasCells
    (λ row own. All-map IsCell visible_cell row.cells
    (All-weaker IsCell (λ cell. IsCell (visible_cell cell)) (λ cell is. record { text_lines = visible_text_lines cell.text_lines is.text_lines; delimiter = is.delimiter }) row.cells own)) each

-- each text line of a row has the property
abbrev pub IsRowOf : (Text → Type 0) → RowValue → Type 0
IsRowOf P row = All (λ (cell : CellValue). All P cell.text_lines) row.cells

-- rows whose cells have the invariant have the property, if it follows from the invariant
pub rows_of : (P : Text → Type 0) → ((texts : List Text) → HasTextLines texts → All P texts) → (rows : List RowValue) → All HasCells rows → All (IsRowOf P) rows
rows_of P gives rows each =
    All-weaker HasCells (IsRowOf P) (λ row own. All-weaker IsCell (λ (cell : CellValue). All P cell.text_lines) (λ cell is. gives cell.text_lines is.text_lines) row.cells own) rows each
