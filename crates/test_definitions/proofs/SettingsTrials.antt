-- Settings of rows and cells in a table of rows.
use Rattle.std.proofs.Common.{◌≡◌, ℕ, true, false, List, [], ◌∷◌, Option, Some, None, codes, map, refl}
use Rattle.std.specs.Prelude.{option_map}
use Rattle.comfy_parts.specs.CellValue.{CellValue, RowValue, plain_cell}
use Rattle.comfy_parts.specs.Presets.{ascii_full}
use Rattle.comfy_parts.specs.Text.{Text}
use Rattle.comfy_parts.specs.declared.style.attribute.Attribute.TheVariants.{Bold, Underlined}
use Rattle.comfy_parts.specs.declared.style.cell.CellAlignment.TheVariants.{Center, Right}
use Rattle.comfy_parts.specs.declared.style.color.Color.TheVariants.{Blue, Red}
use Rattle.comfy_table.specs.TableValue.{TableValue, new_table}
use Rattle.csv_tables.specs.Drawn.{SelectedValue}
use Rattle.csv_tables.specs.Settings.{CellSettingsValue, RowSettingsValue, dressed}
use Rattle.csv_tables.specs.Styled.{dressed_table, placed}
use Rattle.csv_tables.specs.declared.options.ColumnPlan.{ColumnPlan}
use Rattle.csv_tables.specs.declared.selection.Noun.TheVariants.{Record}

-- a red, underlined cell, a centred one, and one without settings
abbrev red : CellSettingsValue
red = record { alignment = None; foreground = Some Red; background = Some Blue; attributes = Underlined ∷ [] }

abbrev middle : CellSettingsValue
middle = record { alignment = Some Center; foreground = None; background = None; attributes = [] }

abbrev unset : CellSettingsValue
unset = record { alignment = None; foreground = None; background = None; attributes = [] }

-- attributes come after the cell's own, and colours replace its own
abbrev bold : CellValue
bold = record (plain_cell (codes "name")) { alignment = Some Right; foreground = Some Blue; attributes = Bold ∷ [] }

dressed_bold : dressed (Some red) bold ≡ record bold { foreground = Some Red; background = Some Blue; attributes = Bold ∷ Underlined ∷ [] }
dressed_bold = refl

dressed_middle : dressed (Some middle) bold ≡ record bold { alignment = Some Center }
dressed_middle = refl

dressed_unset : dressed (Some unset) bold ≡ bold
dressed_unset = refl

-- ---- a table

-- the second field is drawn before the first, and the number of a row before both
abbrev column : ℕ → ColumnPlan
column position = record { position = position; alignment = None; points = None; is_nowrap = false }

places : placed true (column 1 ∷ column 0 ∷ column 2 ∷ []) (red ∷ middle ∷ []) ≡ None ∷ Some middle ∷ Some red ∷ None ∷ []
places = refl

abbrev content : SelectedValue
content = record { names = None; rows = []; columns = column 1 ∷ column 0 ∷ []; count = None; is_numbered = true; noun = Record }

-- the name in the header is red, the first record has no settings, and the second one has at most one line
abbrev settings : List RowSettingsValue
settings =
    record { max_height = Some 2; cells = red ∷ [] }
    ∷ record { max_height = None; cells = [] }
    ∷ record { max_height = Some 0; cells = middle ∷ red ∷ [] }
    ∷ []

abbrev row : Option ℕ → List Text → RowValue
row height texts = record { cells = map plain_cell texts; max_height = height }

abbrev table : TableValue
table =
    record (new_table ascii_full) {
      header = Some (row None (codes "#" ∷ codes "days" ∷ codes "name" ∷ []));
      rows = row (Some 5) (codes "1" ∷ codes "3" ∷ codes "oats" ∷ []) ∷ row (Some 5) (codes "2" ∷ codes "14" ∷ codes "rye" ∷ []) ∷ row (Some 5) (codes "3" ∷ codes "15" ∷ []) ∷ [];
    }

abbrev made : TableValue
made = dressed_table content settings table

header : option_map (λ (own : RowValue). map (λ (cell : CellValue). cell.foreground) own.cells) made.header ≡ Some (None ∷ None ∷ Some Red ∷ [])
header = refl

-- the header has no greatest height, and a height of 0 counts as 1
header_height : option_map (λ (own : RowValue). own.max_height) made.header ≡ Some None
header_height = refl

heights : map (λ (own : RowValue). own.max_height) made.rows ≡ Some 5 ∷ Some 1 ∷ Some 5 ∷ []
heights = refl

colours : map (λ (own : RowValue). map (λ (cell : CellValue). cell.foreground) own.cells) made.rows ≡ (None ∷ None ∷ None ∷ []) ∷ (None ∷ Some Red ∷ None ∷ []) ∷ (None ∷ None ∷ []) ∷ []
colours = refl

sides : map (λ (own : RowValue). map (λ (cell : CellValue). cell.alignment) own.cells) made.rows ≡ (None ∷ None ∷ None ∷ []) ∷ (None ∷ None ∷ Some Center ∷ []) ∷ (None ∷ None ∷ []) ∷ []
sides = refl

-- with settings of rows the table is always styled, and without them it is unchanged
styled : made.enforce_styling ≡ true
styled = refl

without_settings : dressed_table content [] table ≡ table
without_settings = refl

unstyled : table.enforce_styling ≡ false
unstyled = refl
