-- Private: the lines of a row as pieces between gaps, and the frame of the rows.
-- Source: this library's own.
use Rattle.std.specs.Prelude.{ℕ, Bool, List, [], ◌++◌, Option, Some, None, map, if◌then◌else◌}
use Rattle.std.specs.List.{join_by}
use Rattle.comfy_parts.specs.CellValue.{CellValue, ColumnInfo, RowValue}
use Rattle.comfy_parts.specs.Text.{Text, spaces}
use Rattle.comfy_parts.specs.declared.style.table_style.ContentLineStyle.{ContentLineStyle}
use Rattle.comfy_parts.specs.declared.style.table_style.TableStyle.{TableStyle}
use Rattle.comfy_table.specs.Frame.{character, draws_left_border, draws_right_border, draws_vertical_lines, optional_frame_line}
use Rattle.comfy_table.specs.Pieces.{row_lines}
use Rattle.comfy_table.specs.Styling.{styled}
use Rattle.comfy_table.specs.TableValue.{TableValue}

-- a text between spaces on its two sides
abbrev pub spaced : ℕ × ℕ → Text → Text
spaced beside text = spaces beside.0 ++ (text ++ spaces beside.1)

-- a text, or the text between spaces in the styles of a cell
abbrev pub styled_text : Option (CellValue × (ℕ × ℕ)) → Text → Text
styled_text None text = text
styled_text (Some styles) text = styled styles.0 (spaced styles.1 text)

-- the gaps of a line: before the first piece, between two pieces, and after the last one
pub record RowGapsValue : Type 0 where
  pub left : Text
  pub junction : Text
  pub right : Text

-- a character of the style, if it is drawn
abbrev pub drawn_character : Bool → Option ℕ → Text
drawn_character drawn part = if drawn then character part else []

-- the gaps of a content line in this style
abbrev pub row_gaps : TableStyle → ContentLineStyle → RowGapsValue
row_gaps style line =
    record {
      left = drawn_character (draws_left_border style) line.left;
      junction = drawn_character (draws_vertical_lines style) line.junction;
      right = drawn_character (draws_right_border style) line.right;
    }

-- a line of pieces, with gaps around and between them
abbrev pub gap_line : RowGapsValue → List Text → Text
gap_line gaps pieces =
    gaps.left ++ (join_by (λ (piece : Text). piece) gaps.junction pieces ++ gaps.right)

-- the lines of a row
abbrev pub row_between : RowGapsValue → TableValue → List ColumnInfo → RowValue → List Text
row_between gaps table infos row = map (gap_line gaps) (row_lines table infos row)

-- the lines that all parts of a table have in common: the frame lines, if they are drawn, and the
-- gaps in the lines of rows
pub record FrameValue : Type 0 where
  pub top : List Text
  pub separator : List Text
  pub bottom : List Text
  pub gaps : RowGapsValue

-- the frame lines and gaps over columns of these whole widths
abbrev pub frame_of : TableStyle → List ℕ → FrameValue
frame_of style widths =
    record {
      top = optional_frame_line style style.top_border widths;
      separator = optional_frame_line style style.row_separator widths;
      bottom = optional_frame_line style style.bottom_border widths;
      gaps = row_gaps style style.content_lines;
    }
