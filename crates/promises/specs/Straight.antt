-- Lines that are equally wide.
-- Source: this library's own.
use Rattle.std.specs.Prelude.{◌≡◌, List}
use Rattle.comfy_parts.specs.CellValue.{ColumnInfo}
use Rattle.comfy_parts.specs.Columns.{CharactersFit}
use Rattle.comfy_parts.specs.Text.{Text}
use Rattle.comfy_parts.specs.declared.style.table.ContentArrangement.TheVariants.{Disabled}
use Rattle.comfy_table.specs.NewTables.{AreEquallyWide}
use Rattle.comfy_table.specs.TableValue.{TableValue}
use Rattle.promises.specs.Headline.{AreColumnsOf}
use Rattle.promises.specs.Shown.{AreShownEquallyWide, HasNoControls}
use Rattle.promises.specs.Tables.{CharactersFitColumns, EachText, HasPlainFrame, IsPlain, IsShownWhole}

-- the lines are equally wide, if each character fits one terminal column
abbrev pub AreStraight : TableValue → List Text → Type 0
AreStraight table lines =
    IsPlain table → HasPlainFrame table → EachText (CharactersFit 1) table
    → AreEquallyWide lines

-- the lines are equally wide, if the table is as wide as its texts
abbrev pub AreStraightWhole : TableValue → List Text → Type 0
AreStraightWhole table lines =
    IsPlain table → HasPlainFrame table → table.arrangement ≡ Disabled → IsShownWhole table
    → AreEquallyWide lines

-- `columns` are the columns of the drawing, and its lines are equally wide if each character fits
-- its column
abbrev pub AreStraightWhereCharactersFit : TableValue → List ColumnInfo → List Text → Type 0
AreStraightWhereCharactersFit table columns lines =
    AreColumnsOf table lines columns
    × (IsPlain table → HasPlainFrame table → CharactersFitColumns table columns
    → AreEquallyWide lines)

-- even with colours and attributes, all lines show the same number of terminal columns
abbrev pub AreShownStraight : TableValue → List Text → Type 0
AreShownStraight table lines =
    HasNoControls table → HasPlainFrame table → EachText (CharactersFit 1) table
    → AreShownEquallyWide lines
