-- Lines that keep to a width.
-- Source: this library's own.
use Rattle.std.specs.Prelude.{◌≡◌, ◌==◌, ◌+◌, ◌*◌, ◌≤◌, ℕ, Bool, true, not, List, Some, length, max, if◌then◌else◌}
use Rattle.comfy_parts.specs.Text.{Text}
use Rattle.csv_command.specs.declared.arguments.Options.{Options}
use Rattle.csv_tables.specs.Drawn.{drawn_rows, names_or_none}
use Rattle.csv_tables.specs.declared.options.Expansion.{Expansion}
use Rattle.csv_tables.specs.declared.options.Expansion.TheVariants.{Always, Auto, Never}
use Rattle.csv_tables.specs.declared.options.Layout.{Layout}
use Rattle.promises.specs.Shown.{ShowsColumns}
use Rattle.csv_promises.specs.Fields.{positions_in}
use Rattle.csv_promises.specs.Counted.{EachDrawnLine}
use Rattle.csv_promises.specs.Straight.{EachField, IsStraight}
use Rattle.csv_promises.specs.WideTexts.{HasRoomForTwo, HaveRoomEach, IsOfTwoColumns}

-- the width of the borders around n columns, their paddings, and one terminal column for each
abbrev pub frame_room : ℕ → ℕ
frame_room n = 1 + 4 * n

-- the number of columns that are drawn of records: those that options choose of the header and the
-- drawn rows, and that of record numbers
abbrev pub all_columns : Options → List (List Text) → ℕ
all_columns options records =
    length (positions_in options (names_or_none options.selection records)
    (drawn_rows options.selection records))
    + (if options.selection.is_numbered then 1 else 0)

-- The number of columns in a frame. It is two, for names and fields, if records are always
-- expanded, or may be expanded and one is drawn. Otherwise it is n.
abbrev pub columns_by : Expansion → Bool → ℕ → ℕ
columns_by Never has_rows n = n
columns_by Always has_rows n = 2
columns_by Auto has_rows n = if has_rows then 2 else n

abbrev pub framed_columns : Options → List (List Text) → ℕ
framed_columns options records =
    columns_by options.look.expansion
    (not (length (drawn_rows options.selection records) == 0)) (all_columns options records)

-- the number of columns that a layout draws, including that of record numbers
abbrev pub columns_in : Layout → ℕ
columns_in layout =
    length layout.columns.drawn + (if layout.selection.is_numbered then 1 else 0)

-- the number of columns in the frame of a layout
abbrev pub framed_columns_in : Layout → List (List Text) → ℕ
framed_columns_in layout records =
    columns_by layout.look.expansion
    (not (length (drawn_rows layout.selection records) == 0)) (columns_in layout)

-- a line shows at most as many terminal columns as the greater of width and frame. It shows exactly
-- as many as the width, if the width is filled and has room for the frame.
pub record KeepsTo (width frame : ℕ) (is_filled : Bool) (line : Text) : Type 0 where
  pub columns : ℕ
  pub shows : ShowsColumns columns line
  pub within : columns ≤ max width frame
  pub exact : is_filled ≡ true → frame ≤ width → columns ≡ width

-- the output for records keeps to the width that options set, if each character has room
abbrev pub KeepsItsWidth : Options → List (List Text) → Text → Type 0
KeepsItsWidth options records text =
    (width : ℕ) → options.look.width ≡ Some width
    → HaveRoomEach options.look.width (framed_columns options records) records
    → EachDrawnLine (KeepsTo width (frame_room (framed_columns options records))
    options.look.fills_width) options records text

-- the output for records is straight, if each character takes at most two terminal columns and the
-- width has room for two in each column
abbrev pub IsStraightWhereTwoFit : Options → List (List Text) → Text → Type 0
IsStraightWhereTwoFit options records text =
    EachField IsOfTwoColumns records
    → HasRoomForTwo options.look.width (framed_columns options records)
    → IsStraight options records text
