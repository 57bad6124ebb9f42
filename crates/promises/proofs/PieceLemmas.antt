-- Drawings whose pieces are styled by their cells.
use Rattle.std.proofs.Common.{◌≡◌, ℕ, Bool, true, false, List, [], ◌∷◌, ◌++◌, Option, Some, None, append-nil, length, map, refl, sym, ap, ap₂, ◌∙◌, subst, slice_index_or}
use Rattle.std.specs.List.{All, AllZip, range_with_len, slice_get}
use Rattle.std.specs.Prelude.{if◌then◌else◌, option_map, option_to_list}
use Rattle.std.proofs.lemmas.List.Elements.{All-head, All-weaker}
use Rattle.std.proofs.lemmas.Slice.Zip.{AllZip-long}
use Rattle.comfy_parts.proofs.CallerLemmas.{All-at, All-every, All-others, AllZip-append, AllZip-join_by, AllZip-map, AllZip-map_map, At-or-both}
use Rattle.comfy_parts.specs.CellValue.{CellValue, ColumnInfo, RowValue, info_width}
use Rattle.comfy_parts.specs.Text.{Text, greatest, measure, spaces}
use Rattle.comfy_parts.specs.declared.style.attribute.Attribute.{Attribute}
use Rattle.comfy_parts.specs.VisibleLines.{CellLine}
use Rattle.comfy_parts.specs.declared.style.table_style.ContentLineStyle.{ContentLineStyle}
use Rattle.comfy_parts.specs.declared.style.table_style.LineStyle.{LineStyle}
use Rattle.comfy_table.proofs.KeptDrawingLemmas.{IsClearFrame, frame_kept, keeps_joined}
use Rattle.comfy_table.proofs.StyledLemmas.{KeptByJoining}
use Rattle.comfy_table.specs.Drawing.{drawing, infos_of, drawing_of_infos, drawn_header, drawn_row, drawn_rows, outer_widths}
use Rattle.comfy_table.specs.Frame.{content_line, optional_frame_line}
use Rattle.comfy_table.specs.Laws.{unstyled}
use Rattle.comfy_table.specs.Pieces.{blank_piece, padded, piece, pieces_at, pieces_of_optional, row_cell_lines, row_height, row_line, shown_infos}
use Rattle.comfy_table.specs.Styling.{styled}
use Rattle.comfy_table.specs.TableValue.{TableValue, header_and_rows, measured_table, should_style, visible_row}
use Rattle.promises.specs.Headline.{IsUncoloured}

-- the table without styles
abbrev pub plainly : TableValue → TableValue
plainly table = record table { no_tty = true; enforce_styling = false }

-- without custom styling a table is measured as it is
pub measured-plain : (table : TableValue) → table.custom_styling ≡ false → measured_table table ≡ table
measured-plain table plain =
    ap (λ (custom : Bool). record table {
      header = if custom then option_map visible_row table.header else table.header;
      rows = if custom then map visible_row table.rows else table.rows;
      custom_styling = false;
    }) plain ∙ ap (λ (custom : Bool). record table { custom_styling = custom }) (sym plain)

-- any text
abbrev pub AnyText : Text → Type 0
AnyText text = Unit {0}

-- a relation R that holds of each text and itself, of joined texts, and of each cell's pieces
module _ (R : Text → Text → Type 0) (joins : KeptByJoining AnyText R) (W : CellValue → Type 0) (table : TableValue) (infos : List ColumnInfo)
    (pieces : (cell : CellValue) → W cell → (info : ColumnInfo) (line : CellLine) → R (piece (plainly table) cell info line) (piece table cell info line)) where
  pieces_kept : (row : RowValue) → All W row.cells → (p : ℕ × ColumnInfo) → AllZip R (pieces_at (plainly table) row p) (pieces_at table row p)
  pieces_kept row each p = by_cell (slice_get row.cells p.0) (λ cell found. All-at W row.cells p.0 cell each found)
    where
      by_cell : (o : Option CellValue) → ((cell : CellValue) → o ≡ Some cell → W cell) → AllZip R (pieces_of_optional (plainly table) row p.1 o) (pieces_of_optional table row p.1 o)
      by_cell None own = (joins.of_kind (spaces (info_width p.1)) tt, tt)
      by_cell (Some cell) own =
          let lines = row_cell_lines table row p.1 cell in
          AllZip-map R (piece (plainly table) cell p.1) (piece table cell p.1) lines
          (All-every (λ (line : CellLine). R (piece (plainly table) cell p.1 line) (piece table cell p.1 line)) lines (pieces cell (own cell refl) p.1))

  heights : (row : RowValue) → All W row.cells → (ps : List (ℕ × ColumnInfo)) → map (λ (p : ℕ × ColumnInfo). length (pieces_at (plainly table) row p)) ps ≡ map (λ (p : ℕ × ColumnInfo). length (pieces_at table row p)) ps
  heights row each [] = refl
  heights row each (p ∷ ps) = ap₂ (λ (n : ℕ) (ns : List ℕ). n ∷ ns) (sym (AllZip-long R (pieces_at (plainly table) row p) (pieces_at table row p) (pieces_kept row each p))) (heights row each ps)

  any_frame : (line : LineStyle) → IsClearFrame AnyText line
  any_frame line = record { left = tt; fill = tt; junction = tt; right = tt }

  pub row_kept : (line : ContentLineStyle) (row : RowValue) → All W row.cells → AllZip R (drawn_row (plainly table) infos line row) (drawn_row table infos line row)
  row_kept line row each =
      subst (λ (h : ℕ). AllZip R (map (content_line table.style line) (map (row_line (plainly table) infos row) (range_with_len 0 h))) (drawn_row table infos line row)) (sym (ap greatest (heights row each (shown_infos infos))))
      (AllZip-map_map R (content_line table.style line) (row_line (plainly table) infos row) (row_line table infos row) (range_with_len 0 (row_height table infos row)) at)
    where
      at : (k : ℕ) → R (content_line table.style line (row_line (plainly table) infos row k)) (content_line table.style line (row_line table infos row k))
      at k =
          keeps_joined AnyText R joins table.style line.left line.junction line.right (row_line (plainly table) infos row k) (row_line table infos row k) tt tt tt
          (AllZip-map R (λ (p : ℕ × ColumnInfo). slice_index_or (pieces_at (plainly table) row p) k (blank_piece p.1)) (λ (p : ℕ × ColumnInfo). slice_index_or (pieces_at table row p) k (blank_piece p.1)) (shown_infos infos)
          (All-every (λ (p : ℕ × ColumnInfo). R (slice_index_or (pieces_at (plainly table) row p) k (blank_piece p.1)) (slice_index_or (pieces_at table row p) k (blank_piece p.1))) (shown_infos infos)
          (λ p. At-or-both R (pieces_at (plainly table) row p) (pieces_at table row p) k (blank_piece p.1) (blank_piece p.1) (pieces_kept row each p) (joins.of_kind (blank_piece p.1) tt))))

  abbrev Each : RowValue → Type 0
  Each row = All W row.cells

  kept_frame : (line : LineStyle) → AllZip R (optional_frame_line table.style line (outer_widths infos)) (optional_frame_line table.style line (outer_widths infos))
  kept_frame line = frame_kept AnyText R joins table.style line (outer_widths infos) (any_frame line)

  -- R holds of the lines of all cells
  pub drawing_by_pieces : All Each (header_and_rows table) → AllZip R (drawing_of_infos (plainly table) infos) (drawing_of_infos table infos)
  drawing_by_pieces each =
      AllZip-append R (optional_frame_line table.style table.style.top_border (outer_widths infos)) _ (optional_frame_line table.style table.style.top_border (outer_widths infos)) _ (kept_frame table.style.top_border)
      (AllZip-append R (drawn_header (plainly table) infos table.header) _ (drawn_header table infos table.header) _ (header_kept table.header each)
      (AllZip-append R (drawn_rows (plainly table) infos table.rows) _ (drawn_rows table infos table.rows) _
      (AllZip-join_by R (drawn_row (plainly table) infos table.style.content_lines) (drawn_row table infos table.style.content_lines)
      (optional_frame_line table.style table.style.row_separator (outer_widths infos)) (optional_frame_line table.style table.style.row_separator (outer_widths infos)) table.rows
      (kept_frame table.style.row_separator)
      (All-weaker Each (λ row. AllZip R (drawn_row (plainly table) infos table.style.content_lines row) (drawn_row table infos table.style.content_lines row)) (λ row own. row_kept table.style.content_lines row own) table.rows (All-others Each table.header table.rows each)))
      (kept_frame table.style.bottom_border)))
    where
      header_kept : (header : Option RowValue) → All Each (option_to_list header ++ table.rows) → AllZip R (drawn_header (plainly table) infos header) (drawn_header table infos header)
      header_kept None own = tt
      header_kept (Some row) own =
          AllZip-append R (drawn_row (plainly table) infos table.style.header_lines row) _ (drawn_row table infos table.style.header_lines row) _ (row_kept table.style.header_lines row (All-head Each row table.rows own)) (kept_frame table.style.header_separator)

-- ---- cells without colours

same_lines : (xs ys : List Text) → AllZip (λ (x y : Text). x ≡ y) xs ys → xs ≡ ys
same_lines [] [] zip = refl
same_lines [] (y ∷ ys) zip = absurd zip
same_lines (x ∷ xs) [] zip = absurd zip
same_lines (x ∷ xs) (y ∷ ys) zip = ap₂ (λ (t : Text) (ts : List Text). t ∷ ts) zip.0 (same_lines xs ys zip.1)

stays_joined : KeptByJoining AnyText (λ (x y : Text). x ≡ y)
stays_joined =
    record {
      kind = record { nothing = tt; space = tt; joined = λ xs ys front back. tt; parts = λ xs ys utf8 both. (tt, tt) };
      of_kind = λ text any. refl;
      of_both = λ shown others xs ys front back. ap₂ (λ (a b : Text). a ++ b) front back;
    }

-- the texts of cells without colours are written unchanged
pub uncoloured_text : (cell : CellValue) → IsUncoloured cell → (text : Text) → text ≡ styled cell text
uncoloured_text cell is text =
    sym (ap (λ (c : CellValue). styled c text) (ap₂ (λ f b. record cell { foreground = f; background = b }) is.no_foreground is.no_background)
    ∙ ap (λ (own : List Attribute). styled (record cell { foreground = None; background = None; attributes = own }) text) is.no_attributes ∙ append-nil text)

module _ (table : TableValue) where
  uncoloured_piece : (cell : CellValue) → IsUncoloured cell → (info : ColumnInfo) (line : CellLine) → piece (plainly table) cell info line ≡ piece table cell info line
  uncoloured_piece cell is info line = by_tests (should_style table) table.style_text_only
    where
      n : ℕ
      n = measure line.measured

      by_tests : (styles text_only : Bool) → padded cell info n line.written ≡ (if styles then (if text_only then padded cell info n (styled cell line.written) else styled cell (padded cell info n line.written)) else padded cell info n line.written)
      by_tests true true = ap (padded cell info n) (uncoloured_text cell is line.written)
      by_tests true false = uncoloured_text cell is (padded cell info n line.written)
      by_tests false text_only = refl

-- all lines of a table without colours are the plain ones
pub uncoloured_lines : (table : TableValue) (widths : List ℕ) → All (λ (row : RowValue). All IsUncoloured row.cells) (header_and_rows table) → table.custom_styling ≡ false → drawing table widths ≡ drawing (unstyled table) widths
uncoloured_lines table widths each none =
    sym (same_lines (drawing (plainly table) widths) (drawing table widths) (drawing_by_pieces (λ (x y : Text). x ≡ y) stays_joined IsUncoloured table (infos_of table widths) (uncoloured_piece table) each))
    ∙ ap (λ (t : TableValue). drawing (plainly t) widths) (sym (measured-plain table none))
