-- The texts of a table in its lines.
-- Source: this library's own.
use Rattle.std.specs.Prelude.{◌≡◌, ◌⊎◌, ℕ, false, List, [], ◌∷◌, None, All, MatchOption, flat_map, option_map, slice_get, unwrap_or}
use Rattle.std.specs.List.{AllZip}
use Rattle.comfy_parts.specs.CellValue.{CellValue, ColumnValue, RowValue}
use Rattle.comfy_parts.specs.Text.{Text}
use Rattle.comfy_parts.specs.Wrapping.{IsSlicesWhere}
use Rattle.comfy_parts.specs.declared.style.table.ContentArrangement.TheVariants.{Disabled}
use Rattle.comfy_parts.specs.declared.style.table_style.ContentLineStyle.{ContentLineStyle}
use Rattle.comfy_table.specs.Lines.{cell_delimiter}
use Rattle.comfy_table.specs.TableValue.{TableValue, should_style, shown_columns}
use Rattle.promises.specs.Headline.{AreLinesOfParts, IsFramedBy}
use Rattle.promises.specs.Tables.{IsShownWhole}

-- a text line, or slices of it that leave out only the character d
abbrev pub AreSlicesOf : ℕ → Text → List Text → Type 0
AreSlicesOf d text slices =
    (slices ≡ text ∷ []) ⊎ IsSlicesWhere (λ line tail. Unit {0}) d text slices

-- `width` has the widths of the columns
module _ (table : TableValue) (width : ℕ → ℕ) where
  -- the lines show a row: each shown cell has its slices in its column, one in each line, between
  -- borders and spaces. If the row has no greatest height, the slices are those of the cell's text
  -- lines, from top to bottom. A missing cell is blank.
  pub record ShowsRow (borders : ContentLineStyle) (row : RowValue) (lines : List Text)
      : Type 0 where
    pub slices : ℕ × ColumnValue → List Text
    pub shown : AreLinesOfParts (should_style table) table row width slices borders lines
    pub are_slices : row.max_height ≡ None
        → All (λ (p : ℕ × ColumnValue). MatchOption (slice_get row.cells p.0) (slices p ≡ [] ∷ [])
        (λ cell. (of_texts : List (List Text))
        × AllZip (AreSlicesOf (cell_delimiter table p.1.delimiter cell)) cell.text_lines of_texts
        × (slices p ≡ flat_map (λ (of_text : List Text). of_text) of_texts)))
        (shown_columns table)

  -- the lines show a row unchanged: text line k of each shown cell is in line k
  abbrev pub ShowsWholeRow : ContentLineStyle → RowValue → List Text → Type 0
  ShowsWholeRow borders row lines =
      AreLinesOfParts (should_style table) table row width (λ p. unwrap_or
      (option_map (λ (cell : CellValue). cell.text_lines) (slice_get row.cells p.0)) ([] ∷ []))
      borders lines

-- the lines show the header and all rows of a table, below each other, with only frame lines
-- between them
abbrev pub AreShown : ((ℕ → ℕ) → ContentLineStyle → RowValue → List Text → Type 0) → TableValue
    → List Text → Type 0
AreShown Shows table lines = (width : ℕ → ℕ) × IsFramedBy (Shows width) table width lines

-- ---- promises

-- all texts are in the lines, as slices that leave out only the characters at which texts break
abbrev pub ShowAllTexts : TableValue → List Text → Type 0
ShowAllTexts table lines = table.custom_styling ≡ false → AreShown (ShowsRow table) table lines

-- all texts are in the lines unchanged, if the table is `Disabled` and as wide as its texts
abbrev pub ShowWholeTexts : TableValue → List Text → Type 0
ShowWholeTexts table lines =
    table.custom_styling ≡ false → table.arrangement ≡ Disabled → IsShownWhole table
    → AreShown (ShowsWholeRow table) table lines
