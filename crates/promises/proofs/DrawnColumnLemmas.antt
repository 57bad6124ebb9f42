-- The infos of columns, and the cells in them.
use Rattle.std.proofs.Common.{◌≡◌, ℕ, ◌+◌, Bool, true, false, not, cond, List, [], ◌∷◌, ◌++◌, Some, length, map, refl, sym, ap, ap₂, ◌∙◌, subst, arith, append_assoc, length-append, max, slice_index_or}
use Rattle.std.specs.Char.{IsScalar}
use Rattle.std.specs.List.{All, enumerate_from, slice_get}
use Rattle.std.specs.Prelude.{slice_index, zip}
use Rattle.std.specs.Str.{IsUtf8}
use Rattle.std.proofs.Math.Seq.{get_or-append_seam}
use Rattle.std.proofs.lemmas.List.Elements.{All-weaker}
use Rattle.comfy_parts.proofs.CallerLemmas.{All-at, All-of_map}
use Rattle.comfy_parts.specs.CellValue.{CellValue, ColumnInfo, ColumnValue, RowValue, info_of, is_hidden_column}
use Rattle.comfy_parts.specs.Text.{Text}
use Rattle.comfy_table.proofs.InfoLemmas.{columns_from, infos_from}
use Rattle.comfy_table.specs.Drawing.{infos_of}
use Rattle.comfy_table.specs.Headline.{IsTableDrawing}
use Rattle.comfy_table.specs.Lines.{cell_delimiter}
use Rattle.comfy_table.specs.Pieces.{shown_infos}
use Rattle.comfy_table.specs.TableValue.{TableValue, measured_rows, shown_columns}

-- a column's info, with the width at its position
abbrev pub drawn_column : List ℕ → ℕ × ColumnValue → ℕ × ColumnInfo
drawn_column widths p = (p.0, info_of p.1 (slice_index widths p.0))

-- the infos of the shown columns from a position on
drawn_from : (all front : List ℕ) (n : ℕ) (columns : List ColumnValue) (widths : List ℕ) → all ≡ front ++ widths → length front ≡ n → length widths ≡ length columns
    → infos_from n columns widths ≡ map (drawn_column all) (columns_from n columns)
drawn_from all front n [] widths splits at long = nothing_drawn widths
  where
    nothing_drawn : (ws : List ℕ) → infos_from n [] ws ≡ []
    nothing_drawn [] = refl
    nothing_drawn (w ∷ ws) = refl
drawn_from all front n (column ∷ columns) [] splits at long = absurd (omega (arith, long))
drawn_from all front n (column ∷ columns) (w ∷ widths) splits at long =
    by_test (is_hidden_column column) (drawn_from all (front ++ w ∷ []) (n + 1) columns widths (splits ∙ sym (append_assoc front (w ∷ []) widths)) (omega (arith, length-append front (w ∷ []), at)) (omega (arith, long)))
  where
    here : w ≡ slice_index all n
    here = sym (ap (λ xs. slice_index xs n) splits ∙ ap (slice_index (front ++ w ∷ widths)) (sym at) ∙ get_or-append_seam front w widths _)

    by_test : (b : Bool) → infos_from (n + 1) columns widths ≡ map (drawn_column all) (columns_from (n + 1) columns)
        → cond (not b) ((n, info_of column w) ∷ infos_from (n + 1) columns widths) (infos_from (n + 1) columns widths)
        ≡ map (drawn_column all) (cond (not b) ((n, column) ∷ columns_from (n + 1) columns) (columns_from (n + 1) columns))
    by_test true rest = rest
    by_test false rest = ap₂ (λ (v : ℕ) (more : List (ℕ × ColumnInfo)). (n, info_of column v) ∷ more) here rest

-- the infos of all columns from a position on, with their contents
all_from : (all front : List ℕ) (n : ℕ) (columns : List ColumnValue) (widths : List ℕ) → all ≡ front ++ widths → length front ≡ n → length widths ≡ length columns
    → map (λ (p : ColumnValue × ℕ). info_of p.0 p.1) (zip columns widths) ≡ map (λ (p : ℕ × ColumnValue). info_of p.1 (max 1 (slice_index all p.0))) (enumerate_from n columns)
all_from all front n [] [] splits at long = refl
all_from all front n [] (w ∷ widths) splits at long = absurd (omega (arith, long))
all_from all front n (column ∷ columns) [] splits at long = absurd (omega (arith, long))
all_from all front n (column ∷ columns) (w ∷ widths) splits at long =
    ap₂ (λ (v : ℕ) (more : List ColumnInfo). record (info_of column 0) { content_width = v } ∷ more) here
    (all_from all (front ++ w ∷ []) (n + 1) columns widths (splits ∙ sym (append_assoc front (w ∷ []) widths)) (omega (arith, length-append front (w ∷ []), at)) (omega (arith, long)))
  where
    own : w ≡ slice_index all n
    own = sym (ap (λ xs. slice_index xs n) splits ∙ ap (slice_index (front ++ w ∷ widths)) (sym at) ∙ get_or-append_seam front w widths _)

    here : max 1 w ≡ max 1 (max 1 (slice_index all n))
    here = omega (arith, own)

module _ (table : TableValue) (widths : List ℕ) (long : length widths ≡ length table.columns) where
  pub infos-are : infos_of table widths ≡ map (λ (p : ℕ × ColumnValue). info_of p.1 (max 1 (slice_index widths p.0))) (enumerate_from 0 table.columns)
  infos-are = all_from widths [] 0 table.columns widths refl refl long

  pub columns-drawn : shown_infos (infos_of table widths) ≡ map (drawn_column widths) (shown_columns table)
  columns-drawn = drawn_from widths [] 0 table.columns widths refl refl long

-- the cell of a row in a column consists of whole characters, and so does its delimiter
abbrev pub IsWholeAt : TableValue → RowValue → ℕ × ColumnValue → Type 0
IsWholeAt table row p = (cell : CellValue) → slice_get row.cells p.0 ≡ Some cell → IsScalar (cell_delimiter table p.1.delimiter cell) × All IsUtf8 cell.text_lines

-- the delimiters and texts in shown columns consist of whole characters
pub whole_at : (table : TableValue) (lines : List Text) (drawn : IsTableDrawing table lines) → All (λ (row : RowValue). All (IsWholeAt table row) (shown_columns table)) (measured_rows table)
whole_at table lines drawn k default under =
    All-weaker (λ (p : ℕ × ColumnValue). HasScalar (drawn_column drawn.widths p)) (IsWholeAt table row)
    (λ p own cell found. (own cell found, All-at (λ (c : CellValue). All IsUtf8 c.text_lines) row.cells p.0 cell (drawn.texts.whole_texts k default under) found)) (shown_columns table)
    (All-of_map HasScalar (drawn_column drawn.widths) (shown_columns table) (subst (All HasScalar) (columns-drawn table drawn.widths drawn.arranged.one_for_each) (drawn.texts.scalar_delimiters k default under)))
  where
    row : RowValue
    row = slice_index_or (measured_rows table) k default

    HasScalar : ℕ × ColumnInfo → Type 0
    HasScalar p = (cell : CellValue) → slice_get row.cells p.0 ≡ Some cell → IsScalar (cell_delimiter table p.1.delimiter cell)
