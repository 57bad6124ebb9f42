-- All lines of a table whose lines fit take the same number of terminal columns.
use Rattle.std.proofs.lemmas.Bool.{cond_both}
use Rattle.std.proofs.Common.{◌≡◌, ◌<◌, ◌≤◌, ◌⊎◌, inl, inr, ℕ, ◌+◌, Bool, List, [], Some, None, length, sum, ◌∙◌, subst, arith, slice_index_or}
use Rattle.std.specs.List.{All, slice_get}
use Rattle.std.specs.Prelude.{IsUtf8}
use Rattle.std.proofs.lemmas.List.{length-map}
use Rattle.std.proofs.lemmas.List.Elements.{All-cons, All-nil, All-weaker}
use Rattle.comfy_parts.specs.CellValue.{CellValue, RowValue, ColumnInfo, info_width}
use Rattle.comfy_parts.specs.Text.{Text, measure}
use Rattle.comfy_parts.specs.declared.style.table_style.ContentLineStyle.{ContentLineStyle}
use Rattle.comfy_parts.specs.declared.style.table_style.LineStyle.{LineStyle}
use Rattle.comfy_table.proofs.EqualCountLemmas.{All-drawing, All-row, length-infos_from}
use Rattle.comfy_table.specs.Drawing.{infos_of, outer_widths, drawn_row, drawing_of_infos, drawing}
use Rattle.comfy_table.specs.Frame.{border_count, content_line, draws_vertical_lines, frame_line, is_drawn, optional_frame_line}
use Rattle.comfy_table.specs.Laws.{line_total, unstyled}
use Rattle.comfy_table.specs.Pieces.{blank_piece, pieces_at, row_line, shown_infos}
use Rattle.comfy_table.specs.TableValue.{TableValue, measured_rows}
use Rattle.comfy_table.specs.Widths.{shown_count}
use Rattle.comfy_table.specs.Arrangement.{IsArranged}
use Rattle.comfy_table.specs.Straight.{EachCell, IsShownWhole, IsStraightTable, CellLinesFit, TextsFit, TextsAreApart}
use Rattle.comfy_table.proofs.CutLemmas.{All-pieces, unstyled_piece, measured_in_row}
use Rattle.comfy_table.proofs.CellFitLemmas.{HasFittingLines, IsWholeCell, lines-fit, texts-fit}
use Rattle.comfy_table.proofs.WholeTableLemmas.{whole_table_fits}
use Rattle.comfy_table.proofs.InfoLemmas.{infos-known}
use Rattle.comfy_table.proofs.MeasureLemmas.{IsAny, IsFollowing, any_follows, apart_follows, HasMeasure, HasMeasure-any, HasMeasure-spaces, IsPiece, measure-is}
use Rattle.comfy_table.proofs.PieceMeasureLemmas.{HasMeasure-frame_line, HasMeasure-joined, IsGoodPiece, good-any, good-front, good-junction, piece-any, piece-apart, spaced-blank, spaced-front}
use Rattle.comfy_parts.proofs.CallerLemmas.{AllZip-map, At-or, IsFittingLine}
use Rattle.comfy_parts.specs.Columns.{IsApart, IsOneColumn, style_characters}

-- the pieces of a row in a column are good: as wide as the column, and able to follow others
abbrev ArePiecesGood : (Text → Type 0) → TableValue → RowValue → ℕ × ColumnInfo → Type 0
ArePiecesGood Follows table row p = All (IsGoodPiece Follows (draws_vertical_lines table.style) (info_width p.1)) (pieces_at (unstyled table) row p)

-- the pieces in a column are good, if those of lines that fit are, and the blank piece
pieces-good : (Follows : Text → Type 0) (table : TableValue) (row : RowValue) (p : ℕ × ColumnInfo) → ((cell : CellValue) → slice_get row.cells p.0 ≡ Some cell → HasFittingLines table row p.1 cell)
    → IsGoodPiece Follows (draws_vertical_lines table.style) (info_width p.1) (blank_piece p.1)
    → ((cell : CellValue) (line : Text) → IsFittingLine p.1.content_width line → IsGoodPiece Follows (draws_vertical_lines table.style) (info_width p.1) (unstyled_piece cell p.1 line))
    → ArePiecesGood Follows table row p
pieces-good Follows table row p fit blank each =
    All-pieces (IsGoodPiece Follows (draws_vertical_lines table.style) (info_width p.1)) table row p blank
    (λ cell found. All-weaker (IsFittingLine p.1.content_width) (λ line. IsGoodPiece Follows (draws_vertical_lines table.style) (info_width p.1) (unstyled_piece cell p.1 line)) (each cell) (measured_in_row table row p.1 cell) (fit cell found))

-- ---- the drawing

module _ (table : TableValue) (infos : List ColumnInfo) (Follows : Text → Type 0) (follows : IsFollowing Follows) (characters : All IsOneColumn (style_characters table.style))
    (blanks : All (λ (p : ℕ × ColumnInfo). IsGoodPiece Follows (draws_vertical_lines table.style) (info_width p.1) (blank_piece p.1)) (shown_infos infos)) where
  -- the terminal columns of a line
  abbrev total_of : ℕ
  total_of = border_count table.style (length (outer_widths infos)) + sum (outer_widths infos)

  -- a line measures this total
  abbrev HasTotal : Text → Type 0
  HasTotal = HasMeasure Follows total_of

  -- each line of a row measures this total
  row_measured : (line : ContentLineStyle) (row : RowValue) → IsOneColumn line.left → IsOneColumn line.junction → IsOneColumn line.right
      → All (ArePiecesGood Follows table row) (shown_infos infos) → All HasTotal (drawn_row (unstyled table) infos line row)
  row_measured line row left junction right each = All-row HasTotal (unstyled table) infos line row at
    where
      Good : ℕ × ColumnInfo → Text → Type 0
      Good p = IsGoodPiece Follows (draws_vertical_lines table.style) (info_width p.1)

      at : (k : ℕ) → HasTotal (content_line table.style line (row_line (unstyled table) infos row k))
      at k =
          HasMeasure-joined Follows table.style line.left line.junction line.right (outer_widths infos) (row_line (unstyled table) infos row k) follows left junction right
          (AllZip-map (IsPiece Follows _) (λ (p : ℕ × ColumnInfo). info_width p.1) (λ (p : ℕ × ColumnInfo). slice_index_or (pieces_at (unstyled table) row p) k (blank_piece p.1)) (shown_infos infos)
          (λ j other below.
          let p = slice_index_or (shown_infos infos) j other in
          let good : Good p (slice_index_or (pieces_at (unstyled table) row p) k (blank_piece p.1)) = At-or (Good p) (pieces_at (unstyled table) row p) k (blank_piece p.1) (each j other below) (blanks j other below) in
          record { has = good.has; fronts = good.fronts _ junction }))

  -- a frame line that is drawn measures this total
  frame_measured : (line : LineStyle) → IsOneColumn line.left → IsOneColumn line.fill → IsOneColumn line.junction → IsOneColumn line.right → All HasTotal (optional_frame_line table.style line (outer_widths infos))
  frame_measured line left fill junction right =
      cond_both (is_drawn line) _ [] (All HasTotal)
      (λ _. All-cons HasTotal (frame_line table.style line (outer_widths infos)) []
      (HasMeasure-any Follows _ _ (HasMeasure-frame_line table.style line (outer_widths infos) left fill junction right)) (All-nil HasTotal))
      (λ _. All-nil HasTotal)

  -- all lines measure this total before any rest that may follow
  drawing_measured : All (λ row. All (ArePiecesGood Follows table row) (shown_infos infos)) (measured_rows table) → All HasTotal (drawing_of_infos (unstyled table) infos)
  drawing_measured each =
      let at : (k : ℕ) → k < 22 → IsOneColumn (slice_index_or (style_characters table.style) k None) = λ k below. characters k None below in
      All-drawing HasTotal (unstyled table) infos (λ row. All (ArePiecesGood Follows table row) (shown_infos infos))
      (frame_measured table.style.top_border (at 0 (omega arith)) (at 1 (omega arith)) (at 2 (omega arith)) (at 3 (omega arith)))
      (frame_measured table.style.header_separator (at 7 (omega arith)) (at 8 (omega arith)) (at 9 (omega arith)) (at 10 (omega arith)))
      (frame_measured table.style.row_separator (at 14 (omega arith)) (at 15 (omega arith)) (at 16 (omega arith)) (at 17 (omega arith)))
      (frame_measured table.style.bottom_border (at 18 (omega arith)) (at 19 (omega arith)) (at 20 (omega arith)) (at 21 (omega arith)))
      (λ row own. row_measured table.style.header_lines row (at 4 (omega arith)) (at 5 (omega arith)) (at 6 (omega arith)) own)
      (λ row own. row_measured table.style.content_lines row (at 11 (omega arith)) (at 12 (omega arith)) (at 13 (omega arith)) own) each

  -- so all lines measure this total
  pub drawing_straight : All (λ row. All (ArePiecesGood Follows table row) (shown_infos infos)) (measured_rows table) → All (λ line. measure line ≡ total_of) (drawing_of_infos (unstyled table) infos)
  drawing_straight each = All-weaker HasTotal (λ line. measure line ≡ total_of) (λ line has. measure-is Follows _ line follows has) (drawing_of_infos (unstyled table) infos) (drawing_measured each)

-- ---- all tables

-- if all lines of cells fit, all lines, also frame lines, are equally wide
straight_lines : (table : TableValue) (widths : List ℕ) → All IsOneColumn (style_characters table.style) → TextsAreApart table → EachCell (HasFittingLines table) table widths → IsArranged table widths
    → All (λ line. measure line ≡ line_total table widths) (drawing (unstyled table) widths)
straight_lines table widths characters apart lines_fit arranged =
    subst (λ n. All (λ line. measure line ≡ border_count table.style n + sum (outer_widths infos)) (drawing (unstyled table) widths)) columns (by_case apart)
  where
    infos : List ColumnInfo
    infos = infos_of table widths

    v : Bool
    v = draws_vertical_lines table.style

    columns : length (outer_widths infos) ≡ shown_count table
    columns = length-map (shown_infos infos) _ ∙ length-infos_from 0 table.columns widths arranged.one_for_each

    by_case : TextsAreApart table → All (λ line. measure line ≡ border_count table.style (length (outer_widths infos)) + sum (outer_widths infos)) (drawing (unstyled table) widths)
    by_case (inl drawn) =
        drawing_straight table infos IsApart apart_follows characters (λ j other below. good-junction v _ _ drawn (HasMeasure-any IsApart _ _ (HasMeasure-spaces _)))
        (λ k default under j other below.
        pieces-good IsApart table (slice_index_or (measured_rows table) k default) (slice_index_or (shown_infos infos) j other) (lines_fit k default under j other below)
        (good-junction v _ _ drawn (HasMeasure-any IsApart _ _ (HasMeasure-spaces _)))
        (λ cell line fitting. good-junction v _ _ drawn (piece-apart cell (slice_index_or (shown_infos infos) j other).1 line fitting)))
    by_case (inr (inl each)) =
        drawing_straight table infos IsApart apart_follows characters (λ j other below. blank j other below)
        (λ k default under j other below.
        pieces-good IsApart table (slice_index_or (measured_rows table) k default) (slice_index_or (shown_infos infos) j other) (lines_fit k default under j other below)
        (blank j other below)
        (λ cell line fitting. good-front v _ _ (λ rest. spaced-front IsApart _ _ rest apart_follows (padded j other below)) (piece-apart cell (slice_index_or (shown_infos infos) j other).1 line fitting)))
      where
        padded : All (λ (q : ℕ × ColumnInfo). 1 ≤ q.1.padding.0) (shown_infos infos)
        padded = infos-known table widths (λ p. 1 ≤ p.1.padding.0) (λ (q : ℕ × ColumnInfo). 1 ≤ q.1.padding.0) arranged.one_for_each each (λ i column w left. left)

        blank : (j : ℕ) (other : ℕ × ColumnInfo) → j < length (shown_infos infos) → IsGoodPiece IsApart v (info_width (slice_index_or (shown_infos infos) j other).1) (blank_piece (slice_index_or (shown_infos infos) j other).1)
        blank j other below =
            let left = padded j other below in
            good-front v _ _ (λ rest. spaced-blank IsApart _ rest apart_follows (omega (arith, left))) (HasMeasure-any IsApart _ _ (HasMeasure-spaces _))
    by_case (inr (inr each)) =
        let padded : All (λ (q : ℕ × ColumnInfo). 1 ≤ q.1.padding.1) (shown_infos infos) =
        infos-known table widths (λ p. 1 ≤ p.1.padding.1) (λ (q : ℕ × ColumnInfo). 1 ≤ q.1.padding.1) arranged.one_for_each each (λ i column w right. right) in
        drawing_straight table infos IsAny any_follows characters (λ j other below. good-any v _ _ (HasMeasure-spaces _))
        (λ k default under j other below.
        pieces-good IsAny table (slice_index_or (measured_rows table) k default) (slice_index_or (shown_infos infos) j other) (lines_fit k default under j other below)
        (good-any v _ _ (HasMeasure-spaces _))
        (λ cell line fitting. good-any v _ _ (piece-any cell (slice_index_or (shown_infos infos) j other).1 line (padded j other below) fitting)))

-- a property that follows from two properties of each cell holds of each cell
each_cell : (table : TableValue) (widths : List ℕ) (P Q R : RowValue → ColumnInfo → CellValue → Type 0) → ((row : RowValue) (info : ColumnInfo) (cell : CellValue) → P row info cell → Q row info cell → R row info cell)
    → EachCell P table widths → EachCell Q table widths → EachCell R table widths
each_cell table widths P Q R gives ps qs k default under j other below cell found = grind arith

-- so all lines of a straight table are equally wide
pub straight : (table : TableValue) (widths : List ℕ) → IsUtf8 table.indicator → EachCell (IsWholeCell table) table widths → IsArranged table widths → IsStraightTable table widths
    → All (λ line. measure line ≡ line_total table widths) (drawing (unstyled table) widths)
straight table widths indicator whole arranged is = straight_lines table widths is.characters is.apart (by_case is.fits) arranged
  where
    of_texts : EachCell (TextsFit table) table widths → EachCell (HasFittingLines table) table widths
    of_texts = each_cell table widths (IsWholeCell table) (TextsFit table) (HasFittingLines table) (λ row info cell own fit. texts-fit table row info cell indicator own fit) whole

    by_case : EachCell (CellLinesFit table) table widths ⊎ (EachCell (TextsFit table) table widths ⊎ IsShownWhole table) → EachCell (HasFittingLines table) table widths
    by_case (inl each) =
        each_cell table widths (IsWholeCell table) (CellLinesFit table) (HasFittingLines table) (λ row info cell own fit. lines-fit table row info cell indicator own fit) whole each
    by_case (inr (inl each)) = of_texts each
    by_case (inr (inr shown)) = of_texts (whole_table_fits table widths shown arranged)
