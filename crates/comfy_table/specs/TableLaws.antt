-- The laws of frame lines and of dynamic widths, for whole tables. Each is a statement on given
-- values: `widths` are the content widths of all columns, w is the table's width.
-- Source: this library's own.
use Rattle.std.specs.Prelude.{◌≡◌, ℕ, ◌+◌, ◌<◌, ◌≤◌, true, false, List, Some, map, length, max, min, sum, sum_by, nat_lt, All}
use Rattle.std.specs.List.{AllZip, list_any}
use Rattle.comfy_parts.specs.CellValue.{CellValue, ColumnValue}
use Rattle.comfy_parts.specs.Laws.{SameButOneDelimiter}
use Rattle.comfy_parts.specs.Text.{Text}
use Rattle.comfy_parts.specs.Wrapping.{lines_of_text}
use Rattle.comfy_parts.specs.declared.style.table.ContentArrangement.TheVariants.{Dynamic, DynamicFullWidth}
use Rattle.comfy_parts.specs.declared.style.table_style.LineStyle.{LineStyle}
use Rattle.comfy_table.specs.Arrangement.{IsArranged, room_beside_borders, widths_at}
use Rattle.comfy_table.specs.Drawing.{infos_of, outer_widths}
use Rattle.comfy_table.specs.Dynamic.{Steps, IsArrangedBy, content_room}
use Rattle.comfy_table.specs.Frame.{border_count, frame_line}
use Rattle.comfy_table.specs.Laws.{count, line_total, least_total, least_with_steps, NoConstraints, HasPrintableCells, IsPrintableCell}
use Rattle.comfy_table.specs.Levels.{IsLevelled, IsLevelledAt, IsFull}
use Rattle.comfy_table.specs.Lines.{cell_delimiter, longest_line}
use Rattle.comfy_table.specs.TableValue.{TableValue, table_width, shown_columns, column_cells}
use Rattle.comfy_table.specs.Widths.{ColumnNeeds, shown_count, shown_needs}

-- the content widths of the shown columns
abbrev pub shown_contents : TableValue → List ℕ → List ℕ
shown_contents table widths = widths_at widths (shown_columns table)

-- ---- frame lines, whatever the texts

-- a frame line has as many characters as the borders and the whole widths together, in any style
abbrev pub FrameCounts : TableValue → List ℕ → LineStyle → Type 0
FrameCounts table widths line =
    length widths ≡ length table.columns
    → count (frame_line table.style line (outer_widths (infos_of table widths)))
    ≡ line_total table widths

-- under `Dynamic` a frame line has at most as many characters as the table's width, or as the least
-- total if that is more
abbrev pub FrameKeepsToWidth : TableValue → ℕ → List ℕ → LineStyle → Type 0
FrameKeepsToWidth table w widths line =
    NoConstraints table → table.arrangement ≡ Dynamic → table_width table ≡ Some w
    → IsArranged table widths
    → count (frame_line table.style line (outer_widths (infos_of table widths)))
    ≤ max w (least_total table)

-- under `DynamicFullWidth` a frame line has exactly that many characters, if a column is shown
abbrev pub FrameFillsWidth : TableValue → ℕ → List ℕ → LineStyle → Type 0
FrameFillsWidth table w widths line =
    NoConstraints table → table.arrangement ≡ DynamicFullWidth → table_width table ≡ Some w
    → 0 < shown_count table
    → IsArranged table widths
    → count (frame_line table.style line (outer_widths (infos_of table widths)))
    ≡ max w (least_total table)

-- ---- totals under every constraint

-- the wider total: the borders, the whole widths of columns decided by fixed widths and lower
-- boundaries, and the paddings and one terminal column for each other shown column
abbrev pub wider_total : TableValue → Steps → ℕ
wider_total table steps =
    border_count table.style (shown_count table) + least_with_steps (shown_needs table) steps

-- under `Dynamic` a line has at most the table's width, or the wider total of the steps to these
-- widths if that is more
abbrev pub KeepsToWiderTotal : TableValue → ℕ → List ℕ → Type 0
KeepsToWiderTotal table w widths =
    table.arrangement ≡ Dynamic → table_width table ≡ Some w → IsArranged table widths
    → (steps : Steps) × IsArrangedBy (room_beside_borders table w) (shown_needs table) false steps
    (shown_contents table widths)
    × (line_total table widths ≤ max w (wider_total table steps))

-- under `DynamicFullWidth` a line has at most the table's width, or the wider total if that is
-- more, even if no column is shown
abbrev pub KeepsToWiderTotalInFull : TableValue → ℕ → List ℕ → Type 0
KeepsToWiderTotalInFull table w widths =
    table.arrangement ≡ DynamicFullWidth → table_width table ≡ Some w → IsArranged table widths
    → (steps : Steps) × IsArrangedBy (room_beside_borders table w) (shown_needs table) true steps
    (shown_contents table widths)
    × (line_total table widths ≤ max w (wider_total table steps))

-- under `DynamicFullWidth` a line has exactly that width, if a column is shown
abbrev pub FillsWiderTotal : TableValue → ℕ → List ℕ → Type 0
FillsWiderTotal table w widths =
    table.arrangement ≡ DynamicFullWidth → table_width table ≡ Some w → 0 < shown_count table
    → IsArranged table widths
    → (steps : Steps) × IsArrangedBy (room_beside_borders table w) (shown_needs table) true steps
    (shown_contents table widths)
    × (line_total table widths ≡ max w (wider_total table steps))

-- ---- widths without constraints

-- under `Dynamic` the shown columns keep to a level
abbrev pub TableIsLevelled : TableValue → ℕ → List ℕ → Type 0
TableIsLevelled table w widths =
    NoConstraints table → table.arrangement ≡ Dynamic → table_width table ≡ Some w
    → 0 < shown_count table
    → IsArranged table widths
    → IsLevelled (room_beside_borders table w) (shown_needs table) (shown_contents table widths)

-- under `DynamicFullWidth` the shown columns keep to a level, and fill the room
abbrev pub TableIsFull : TableValue → ℕ → List ℕ → Type 0
TableIsFull table w widths =
    NoConstraints table → table.arrangement ≡ DynamicFullWidth → table_width table ≡ Some w
    → 0 < shown_count table
    → IsArranged table widths
    → IsFull (room_beside_borders table w) (shown_needs table) (shown_contents table widths)

-- under `Dynamic` every shown column is as wide as its content, if all of them fit together with
-- borders and paddings
abbrev pub TableKeepsContents : TableValue → ℕ → List ℕ → Type 0
TableKeepsContents table w widths =
    NoConstraints table → table.arrangement ≡ Dynamic → table_width table ≡ Some w
    → IsArranged table widths
    → border_count table.style (shown_count table)
    + sum_by (λ (column : ColumnNeeds). max 1 column.content + column.padding) (shown_needs table)
    ≤ w
    → shown_contents table widths ≡ map (λ (column : ColumnNeeds). max 1 column.content)
    (shown_needs table)

-- under `Dynamic` the level is the best: if a content is above the level, no widths within the room
-- give each shown column its content or one more than the level
abbrev pub TableLevelIsBest : TableValue → ℕ → ℕ → List ℕ → Type 0
TableLevelIsBest table w level widths =
    NoConstraints table → table.arrangement ≡ Dynamic → table_width table ≡ Some w
    → IsArranged table widths
    → shown_count table ≤ content_room (room_beside_borders table w) (shown_needs table)
    → IsLevelledAt (room_beside_borders table w) (shown_needs table) level
    (shown_contents table widths)
    → list_any (λ (column : ColumnNeeds). nat_lt level column.content) (shown_needs table) ≡ true
    → (contents : List ℕ)
    → sum contents ≤ content_room (room_beside_borders table w) (shown_needs table)
    → ¬ (AllZip (λ (column : ColumnNeeds) content. min (max 1 column.content) (level + 1) ≤ content)
    (shown_needs table) contents)

-- ---- widths of printable ASCII

-- under `Dynamic` and without constraints no shown column is more than three terminal columns wider
-- than its content. This needs a table's width of at most 65535, since no content counts more.
abbrev pub IsAtMostThreeOver : TableValue → ℕ → List ℕ → Type 0
IsAtMostThreeOver table w widths =
    w ≤ 65535 → NoConstraints table → HasPrintableCells table → table.arrangement ≡ Dynamic
    → table_width table ≡ Some w
    → IsArranged table widths
    → AllZip (λ (column : ColumnNeeds) width. width ≤ column.content + 3) (shown_needs table)
    (shown_contents table widths)

-- the lines of a cell's text lines at the narrower width are its lines at width b, except for at
-- most one delimiter after each
abbrev pub ShrinkingKeepsLinesOf : ℕ → ℕ → ℕ → CellValue → Type 0
ShrinkingKeepsLinesOf narrower b d cell =
    All (λ (text : Text). AllZip (SameButOneDelimiter d) (lines_of_text narrower d text)
    (lines_of_text b d text)) cell.text_lines

-- if the longest line of a column at width b leaves three or more terminal columns free, all cells
-- of the column keep their lines at the width of this line
abbrev pub ShrinkingKeepsCells : TableValue → ℕ × ColumnValue → ℕ → Type 0
ShrinkingKeepsCells table p b =
    All (IsPrintableCell table p.1.delimiter) (column_cells table p.0)
    → longest_line table p.0 p.1.delimiter b + 3 ≤ b
    → All (λ (cell : CellValue). ShrinkingKeepsLinesOf
    (max 1 (longest_line table p.0 p.1.delimiter b)) b
    (cell_delimiter table p.1.delimiter cell) cell) (column_cells table p.0)
