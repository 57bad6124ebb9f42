-- Private: the cells of a row in its shown columns, with their pieces.
-- Source: this library's own.
use Rattle.std.specs.Prelude.{◌≡◌, ◌≤◌, ◌-◌, ℕ, List, [], ◌∷◌, ◌++◌, Option, Some, None, map, length, slice_index_or, take, if◌then◌else◌}
use Rattle.std.specs.List.{All}
use Rattle.comfy_parts.specs.CellValue.{CellValue, RowValue, ColumnInfo}
use Rattle.comfy_parts.specs.Text.{Text, greatest}
use Rattle.comfy_table.specs.DrawnLines.{DrawnLine}
use Rattle.comfy_table.specs.Pieces.{blank_piece, padded, pieces_at}
use Rattle.comfy_table.specs.Styling.{styled}
use Rattle.comfy_table.specs.TableValue.{TableValue, should_style}
use Rattle.comfy_table.specs.declared.utils.formatting.piece.Styles.{Styles}
use Rattle.comfy_table.specs.declared.utils.formatting.piece.Styles.TheVariants.{Nowhere, RoundTexts, RoundPieces}

-- a shown column with its pieces in a row
pub record DrawnCell : Type 0 where
  pub info : ColumnInfo
  pub pieces : List Text

-- the places where a table writes the styles of its cells
abbrev pub styles_of : TableValue → Styles
styles_of table =
    if should_style table
    then (if table.style_text_only then RoundTexts else RoundPieces)
    else Nowhere

-- the piece of a line, with styles written at these places
abbrev pub piece_with : Styles → CellValue → ColumnInfo → DrawnLine → Text
piece_with Nowhere cell info line = padded cell info line.columns line.written
piece_with RoundTexts cell info line = padded cell info line.columns (styled cell line.written)
piece_with RoundPieces cell info line = styled cell (padded cell info line.columns line.written)

-- the pieces of a cell with these lines; a missing cell has one blank piece
abbrev pub pieces_of_content : Styles → ColumnInfo → Option (CellValue × List DrawnLine)
    → List Text
pieces_of_content styles info None = blank_piece info ∷ []
pieces_of_content styles info (Some content) =
    map (piece_with styles content.0 info) content.1

-- the shown column at a position, with its pieces in a row
abbrev pub drawn_cell : TableValue → RowValue → ℕ × ColumnInfo → DrawnCell
drawn_cell table row p = record { info = p.1; pieces = pieces_at table row p }

-- the greatest number of pieces in a column
abbrev pub greatest_height : List DrawnCell → ℕ
greatest_height cells = greatest (map (λ (drawn : DrawnCell). length drawn.pieces) cells)

-- the piece of a cell in line k of its row
abbrev pub piece_at : ℕ → DrawnCell → Text
piece_at k drawn = slice_index_or drawn.pieces k (blank_piece drawn.info)

-- `further` is the last part of `cells`, and no cell before it has more than one piece
pub record AreFurther (further cells : List DrawnCell) : Type 0 where
  pub low : List DrawnCell
  pub before : All (λ (drawn : DrawnCell). length drawn.pieces ≤ 1) low
  pub all : cells ≡ low ++ further

-- a column without pieces
abbrev pub without_piece : ℕ × ColumnInfo → DrawnCell
without_piece p = record { info = p.1; pieces = [] }

-- the last columns with these cells, and before them the other columns without pieces
abbrev pub filled : List (ℕ × ColumnInfo) → List DrawnCell → List DrawnCell
filled columns further =
    map without_piece (take (length columns - length further) columns) ++ further
