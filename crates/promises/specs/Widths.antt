-- Lines that keep to a width.
-- Source: this library's own.
use Rattle.std.specs.Prelude.{◌≡◌, ℕ, ◌+◌, ◌<◌, ◌≤◌, List, Some, All, length, max, sum_by}
use Rattle.comfy_parts.specs.CellValue.{ColumnInfo, ColumnValue}
use Rattle.comfy_parts.specs.Columns.{CharactersFit}
use Rattle.comfy_parts.specs.Text.{Text, measure}
use Rattle.comfy_parts.specs.declared.style.table.ContentArrangement.TheVariants.{Dynamic}
use Rattle.comfy_table.specs.TableValue.{TableValue}
use Rattle.promises.specs.Headline.{AreColumnsOf}
use Rattle.promises.specs.Tables.{CharactersFitColumns, EachText, HasPlainFrame, IsPlain, IsUnconstrained, shown}

-- the room for the frame: a border at each side of each shown column, its paddings, and one
-- terminal column for its texts
abbrev pub frame_room : TableValue → ℕ
frame_room table =
    1 + sum_by (λ (column : ColumnValue). column.padding.0 + 1 + column.padding.1 + 1) (shown table)

-- a column is shown, and no shown column has a constraint
abbrev pub IsFree : TableValue → Type 0
IsFree table = (0 < length (shown table)) × IsUnconstrained table

-- the table has a plain frame, a shown column, and neither styles nor constraints, and each
-- character of its texts fits one terminal column
abbrev pub IsNarrow : TableValue → Type 0
IsNarrow table =
    IsPlain table × HasPlainFrame table × IsFree table × EachText (CharactersFit 1) table

-- the lines of a narrow table are at most as wide as w, or as the frame if that is wider
abbrev pub KeepToWidth : TableValue → ℕ → List Text → Type 0
KeepToWidth table w lines =
    IsNarrow table → All (λ line. measure line ≤ max w (frame_room table)) lines

-- the lines of a narrow table are exactly as wide as w, if w has room for the frame
abbrev pub FillWidth : TableValue → ℕ → List Text → Type 0
FillWidth table w lines =
    IsNarrow table → frame_room table ≤ w → All (λ line. measure line ≡ w) lines

-- `columns` are the columns of the drawing, and its lines keep to the width if each character fits
-- its column
abbrev pub KeepToWidthWhereCharactersFit : TableValue → List ColumnInfo → List Text → Type 0
KeepToWidthWhereCharactersFit table columns lines =
    AreColumnsOf table lines columns
    × ((w : ℕ) → table.set_width ≡ Some w → table.arrangement ≡ Dynamic
    → IsPlain table → HasPlainFrame table → IsFree table → CharactersFitColumns table columns
    → All (λ line. measure line ≤ max w (frame_room table)) lines)
