-- Rows of cells whose texts are UTF-8 have the properties of all rows.
use Rattle.std.proofs.Common.{◌≡◌, ◌≤◌, ◌==◌, ◌||◌, ◌-◌, ◌^◌, ◌∷◌, [], ℕ, Bool, true, false, IfSome, List, None, Some, arith, drop, nat_lt, refl, take}
use Rattle.std.proofs.lemmas.Bool.Decides.{nat_tests}
use Rattle.std.proofs.lemmas.List.Elements.{All-cons, All-drop, All-head, All-nil, All-tail, All-take}
use Rattle.std.specs.Char.{IsScalar}
use Rattle.std.specs.Int.{is_in_range}
use Rattle.std.specs.List.{All}
use Rattle.std.specs.Prelude.{if◌then◌else◌}
use Rattle.std.specs.Str.{IsUtf8}
use Rattle.comfy_parts.specs.CellValue.{CellValue, IsCell, IsDelimiter, IsRow}
use Rattle.comfy_parts.specs.Text.{Text}
use Rattle.csv_tables.proofs.WholeRowLemmas.{has_lines}
use Rattle.comfy_c.specs.Calls.{limit_of}
use Rattle.comfy_c.specs.CellCalls.{cells_by, rows_with}
use Rattle.comfy_c.specs.Numbers.{cell_with, char_of, height_of, row_with}
use Rattle.comfy_c.specs.declared.cells_rows.CellNumbers.{CellNumbers}
use Rattle.comfy_c.specs.declared.cells_rows.RowNumbers.{RowNumbers}

-- a delimiter is a character
char_whole : (n : ℕ) → IsDelimiter (char_of n)
char_whole n = by_tests (n == 0) (n == 0x11_0000) (nat_lt n 0xD800 || is_in_range 0xE000 0x10_FFFF n) refl
  where
    by_tests : (zero nul other : Bool) → (nat_lt n 0xD800 || is_in_range 0xE000 0x10_FFFF n) ≡ other → IsDelimiter (if zero then None else if nul then Some 0 else if other then Some n else None)
    by_tests true nul other is = tt
    by_tests false true other is = refl
    by_tests false false true is = grind (arith, nat_tests, is)
    by_tests false false false is = tt

cell_whole : (numbers : CellNumbers) (text : Text) → IsUtf8 text → IsCell (cell_with numbers text)
cell_whole numbers text utf8 = record { text_lines = has_lines text utf8; delimiter = char_whole numbers.delimiter }

pub cells_whole : (cells : List CellNumbers) (texts : List Text) → All IsUtf8 texts → All IsCell (cells_by cells texts)
cells_whole [] texts all = All-nil IsCell
cells_whole (cell ∷ cells) [] all = All-nil IsCell
cells_whole (cell ∷ cells) (text ∷ texts) all =
    All-cons IsCell (cell_with cell text) (cells_by cells texts) (cell_whole cell text (All-head IsUtf8 text texts all)) (cells_whole cells texts (All-tail IsUtf8 text texts all))

-- a greatest height is at least 1
at_least : (n : ℕ) → IfSome (height_of n) (λ h. 1 ≤ h)
at_least n = by_zero (n == 0) refl
  where
    by_limit : 1 ≤ n → (is : Bool) → IfSome (if is then None else Some n) (λ h. 1 ≤ h)
    by_limit some true = tt
    by_limit some false = some

    by_zero : (is : Bool) → (n == 0) ≡ is → IfSome (if is then None else limit_of n) (λ h. 1 ≤ h)
    by_zero true is = tt
    by_zero false is = by_limit (grind (arith, nat_tests, is)) (n == 2 ^ 64 - 1)

pub rows_whole : (rows : List RowNumbers) (cells : List CellValue) → All IsCell cells → All IsRow (rows_with rows cells)
rows_whole [] cells all = All-nil IsRow
rows_whole (row ∷ rows) cells all =
    All-cons IsRow (row_with row (take row.cells cells)) (rows_with rows (drop row.cells cells))
    (record { cells = All-take IsCell row.cells cells all; some_height = at_least row.max_height })
    (rows_whole rows (drop row.cells cells) (All-drop IsCell row.cells cells all))
