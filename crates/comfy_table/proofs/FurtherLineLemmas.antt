-- The lines of a row after its first one, made from the cells that are kept for them.
use Rattle.std.proofs.Common.{◌≡◌, ◌<◌, ◌≤◌, ◌+◌, ◌-◌, ℕ, zero, suc, List, [], ◌∷◌, ◌++◌, length, map, take, refl, ap, ap₂, sym, subst, ◌∙◌, arith, append-nil, append_assoc, slice_index_or}
use Rattle.std.proofs.lemmas.List.{get_or_append_left, get_or-append_right, get_or-map, get_or_past, get_or-take, length-append, length-map, length-take-le, map-append, take-map}
use Rattle.std.proofs.Math.Seq.{take-append_seam}
use Rattle.std.proofs.lemmas.List.Elements.{All-append, All-cons, All-head, All-nil, All-tail}
use Rattle.std.specs.List.{All, range_with_len}
use Rattle.comfy_parts.specs.CellValue.{RowValue, ColumnInfo}
use Rattle.comfy_parts.specs.Text.{Text}
use Rattle.comfy_table.proofs.DrawnCellLemmas.{drawn_between}
use Rattle.comfy_table.specs.DrawnCells.{AreFurther, DrawnCell, drawn_cell, filled, greatest_height, piece_at, without_piece}
use Rattle.comfy_table.specs.Gaps.{RowGapsValue, gap_line, row_between}
use Rattle.comfy_table.specs.Pieces.{blank_piece, shown_infos}
use Rattle.comfy_table.specs.TableValue.{TableValue}

-- the cell has at most one piece
abbrev IsLow : DrawnCell → Type 0
IsLow drawn = length drawn.pieces ≤ 1

-- ---- the cells that are kept

-- one more cell that is kept
pub further-more : (further cells : List DrawnCell) (drawn : DrawnCell) → AreFurther further cells → AreFurther (further ++ drawn ∷ []) (cells ++ drawn ∷ [])
further-more further cells drawn are =
    record {
      low = are.low;
      before = are.before;
      all = ap (λ (ds : List DrawnCell). ds ++ drawn ∷ []) are.all ∙ append_assoc are.low further (drawn ∷ []);
    }

-- a cell that isn't kept, before all cells that are
pub further-none : (cells : List DrawnCell) (drawn : DrawnCell) → length drawn.pieces ≤ 1 → AreFurther [] cells → AreFurther [] (cells ++ drawn ∷ [])
further-none cells drawn low are =
    record {
      low = are.low ++ drawn ∷ [];
      before = All-append IsLow are.low (drawn ∷ []) are.before (All-cons IsLow drawn [] low (All-nil IsLow));
      all = ap (λ (ds : List DrawnCell). ds ++ drawn ∷ []) (are.all ∙ append-nil are.low) ∙ sym (append-nil (are.low ++ drawn ∷ []));
    }

-- the last cell that is kept
pub kept-last : (further : List DrawnCell) (drawn other : DrawnCell) (i : ℕ) → i ≡ length (further ++ drawn ∷ []) - 1 → slice_index_or (further ++ drawn ∷ []) i other ≡ drawn
kept-last further drawn other i is =
    let size = length-append further (drawn ∷ []) in
    let from : length further ≤ i = omega (arith, is, size) in
    let first : i - length further ≡ 0 = omega (arith, is, size) in
    get_or-append_right further (drawn ∷ []) (length further) i other refl from ∙ ap (λ k. slice_index_or (drawn ∷ []) k other) first

-- at most as many cells are kept as there are
pub further-few : (further cells : List DrawnCell) → AreFurther further cells → length further ≤ length cells
further-few further cells are = let size = ap length are.all ∙ length-append are.low further in omega (arith, size)

-- ---- the cells of the columns, at each position

module _ (columns : List (ℕ × ColumnInfo)) (further : List DrawnCell) where
  -- the columns before the kept cells
  abbrev front : List (ℕ × ColumnInfo)
  front = take (length columns - length further) columns

  front-size : length (map without_piece front) ≡ length columns - length further
  front-size = length-map front without_piece ∙ length-take-le (length columns - length further) columns (omega arith)

  pub length-filled : length further ≤ length columns → length (filled columns further) ≡ length columns
  length-filled within = let size = length-append (map without_piece front) further in omega (arith, within, size, front-size)

  pub low-at : (i : ℕ) (p : ℕ × ColumnInfo) → i < length columns - length further → p ≡ slice_index_or columns i p → without_piece p ≡ slice_index_or (filled columns further) i (without_piece p)
  low-at i p below is =
      let within : i < length (map without_piece front) = omega (arith, below, front-size) in
      let among : i < length front = omega (arith, within, length-map front without_piece) in
      sym
      (get_or_append_left (map without_piece front) further (without_piece p) i within
      ∙ get_or-map without_piece front i p (without_piece p) among
      ∙ ap without_piece (get_or-take (length columns - length further) columns i p below ∙ sym is))

  pub kept-at : (i : ℕ) (drawn : DrawnCell) → length columns - length further ≤ i → drawn ≡ slice_index_or further (i - (length columns - length further)) drawn → drawn ≡ slice_index_or (filled columns further) i drawn
  kept-at i drawn from is = is ∙ sym (get_or-append_right (map without_piece front) further (length columns - length further) i drawn front-size from)

-- ---- the lines of a row

module _ (table : TableValue) (row : RowValue) where
  -- in a line after the first, a cell with at most one piece has none
  low-pieces : (k : ℕ) (xs : List (ℕ × ColumnInfo)) → 0 < k → All IsLow (map (drawn_cell table row) xs) → map (piece_at k) (map without_piece xs) ≡ map (piece_at k) (map (drawn_cell table row) xs)
  low-pieces k [] some low = refl
  low-pieces k (x ∷ xs) some low =
      ap₂ (λ (p : Text) (ps : List Text). p ∷ ps) (sym (get_or_past (drawn_cell table row x).pieces k (blank_piece x.1) (omega (arith, some, All-head IsLow (drawn_cell table row x) (map (drawn_cell table row) xs) low)))) (low-pieces k xs some (All-tail IsLow (drawn_cell table row x) (map (drawn_cell table row) xs) low))

  -- a row with a line has a column
  pub some-columns : (columns : List (ℕ × ColumnInfo)) (height : ℕ) → height ≡ greatest_height (map (drawn_cell table row) columns) → 0 < height → 0 < length columns
  some-columns [] height is some = absurd (omega (arith, is, some))
  some-columns (x ∷ xs) height is some = omega arith

  -- a row without a line has no text
  pub none-between : (gaps : RowGapsValue) (columns : List (ℕ × ColumnInfo)) (infos : List ColumnInfo) (height : ℕ) → columns ≡ shown_infos infos → height ≡ greatest_height (map (drawn_cell table row) columns) → height ≡ 0 → row_between gaps table infos row ≡ []
  none-between gaps columns infos height shown is none =
      let cells = map (drawn_cell table row) columns in
      sym (drawn_between gaps table infos row cells (ap (map (drawn_cell table row)) shown))
      ∙ ap (λ n. map (λ k. gap_line gaps (map (piece_at k) cells)) (range_with_len 0 n)) (sym is ∙ none)

  module _ (columns : List (ℕ × ColumnInfo)) (further : List DrawnCell) (are : AreFurther further (map (drawn_cell table row) columns)) where
    -- in a line after the first, the kept cells have all pieces
    same-pieces : (k : ℕ) → 0 < k → map (piece_at k) (filled columns further) ≡ map (piece_at k) (map (drawn_cell table row) columns)
    same-pieces k some =
        let n = length columns - length further in
        let size : length are.low ≡ n = let whole = ap length are.all ∙ length-append are.low further in omega (arith, whole, length-map columns (drawn_cell table row)) in
        let low : map (drawn_cell table row) (take n columns) ≡ are.low =
        sym (take-map (drawn_cell table row) n columns) ∙ ap₂ (λ m (ds : List DrawnCell). take m ds) (sym size) are.all ∙ take-append_seam are.low further in
        map-append (piece_at k) (map without_piece (take n columns)) further
        ∙ ap (λ (ps : List Text). ps ++ map (piece_at k) further)
        (low-pieces k (take n columns) some (subst (λ (ds : List DrawnCell). All IsLow ds) (sym low) are.before) ∙ ap (map (piece_at k)) low)
        ∙ sym (map-append (piece_at k) are.low further)
        ∙ ap (map (piece_at k)) (sym are.all)

    module _ (gaps : RowGapsValue) where
      others : (from count : ℕ) → 0 < from
          → map (λ k. gap_line gaps (map (piece_at k) (filled columns further))) (range_with_len from count) ≡ map (λ k. gap_line gaps (map (piece_at k) (map (drawn_cell table row) columns))) (range_with_len from count)
      others from zero some = refl
      others from (suc count) some = ap₂ (λ (line : Text) (lines : List Text). line ∷ lines) (ap (gap_line gaps) (same-pieces from some)) (others (from + 1) count (omega arith))

      -- the lines of a row are its first line and those after it
      pub lines-between : (infos : List ColumnInfo) (height : ℕ) → columns ≡ shown_infos infos → height ≡ greatest_height (map (drawn_cell table row) columns) → 0 < height
          → gap_line gaps (map (piece_at 0) (map (drawn_cell table row) columns)) ∷ map (λ k. gap_line gaps (map (piece_at k) (filled columns further))) (range_with_len 1 (height - 1)) ≡ row_between gaps table infos row
      lines-between infos zero shown is some = absurd (omega (arith, some))
      lines-between infos (suc height) shown is some =
          let cells = map (drawn_cell table row) columns in
          let count : suc height - 1 ≡ height = omega arith in
          ap (λ n. gap_line gaps (map (piece_at 0) cells) ∷ map (λ k. gap_line gaps (map (piece_at k) (filled columns further))) (range_with_len 1 n)) count
          ∙ ap (λ (lines : List Text). gap_line gaps (map (piece_at 0) cells) ∷ lines) (others 1 height (omega arith))
          ∙ ap (λ n. map (λ k. gap_line gaps (map (piece_at k) cells)) (range_with_len 0 n)) is
          ∙ drawn_between gaps table infos row cells (ap (map (drawn_cell table row)) shown)
