-- The lines of a cell, the last of which may be cut.
use Rattle.std.proofs.Common.{◌≡◌, ◌<◌, ℕ, ◌-◌, Bool, true, false, List, [], ◌∷◌, Option, Some, None, length, map, take, unwrap_or, nat_le, refl, ap, ◌∙◌, sym, arith, subst}
use Rattle.std.specs.List.{All, slice_get}
use Rattle.std.proofs.lemmas.Bool.{cond_both}
use Rattle.std.proofs.lemmas.Bool.Decides.{nat_tests}
use Rattle.std.proofs.lemmas.List.{drop-map, length-map, map-append, take-map}
use Rattle.std.proofs.lemmas.List.Elements.{All-append, All-cons, All-drop, All-nil, All-map, All-take, All-weaker}
use Rattle.comfy_parts.proofs.CallerLemmas.{visible_lines}
use Rattle.comfy_parts.specs.CellValue.{CellValue, ColumnInfo, RowValue}
use Rattle.comfy_parts.specs.Text.{Text, measure}
use Rattle.comfy_parts.specs.VisibleLines.{CellLine}
use Rattle.std.proofs.lemmas.Simd.{map-map}
use Rattle.comfy_table.proofs.MeasuredLemmas.{cell_measured}
use Rattle.comfy_table.specs.Laws.{unstyled}
use Rattle.comfy_table.specs.Lines.{as_measured, cell_delimiter, cell_lines, cut_line, cut_text, cut_to_height, cut_to_limit, uncut_lines}
use Rattle.comfy_table.specs.Pieces.{blank_piece, cell_pieces, padded, pieces_at, pieces_of_optional, row_cell_lines}
use Rattle.comfy_table.specs.TableValue.{TableValue}

-- ---- lists whose last element may be cut

-- without a limit, the number of all lines may be taken as the limit
pub no_limit : {A : Type 0} (cut : A → A) (limit : Option ℕ) (lines : List A) → cut_to_limit cut limit lines ≡ cut_to_height cut (unwrap_or limit (length lines)) lines
no_limit cut None lines = grind (arith, nat_tests)
no_limit cut (Some h) lines = refl

-- mapping the lines maps each of them, cut or not
pub map-cut : {A B : Type 0} (f : A → B) (cut : A → A) (other : B → B) (limit : Option ℕ) (lines : List A) → ((line : A) → f (cut line) ≡ other (f line))
    → map f (cut_to_limit cut limit lines) ≡ cut_to_limit other limit (map f lines)
map-cut f cut other None lines same = refl
map-cut f cut other (Some h) lines same = grind (arith, length-map, map-append, take-map, drop-map, made)
  where
    made : (xs : List _) → map f (map cut xs) ≡ map other (map f xs)
    made [] = refl
    made (x ∷ xs) = λ i. same x i ∷ made xs i

-- a property of each line, whole or cut, holds of all lines
pub All-cut : {A : Type 0} (P Q : A → Type 0) (cut : A → A) (limit : Option ℕ) (lines : List A) → All P lines → ((line : A) → P line → Q line)
    → ((h : ℕ) → limit ≡ Some h → h < length lines → (line : A) → P line → Q (cut line)) → All Q (cut_to_limit cut limit lines)
All-cut P Q cut None lines each whole one = All-weaker P Q whole lines each
All-cut P Q cut (Some h) lines each whole one =
    cond_both (nat_le (length lines) h) lines _ (All Q) (λ _. All-weaker P Q whole lines each)
    (λ taller. All-append Q (take (h - 1) lines) _ (All-weaker P Q whole _ (All-take P (h - 1) lines each))
    (All-map Q cut _ (All-weaker P (λ line. Q (cut line)) (one h refl (grind (arith, nat_tests, taller))) _ (All-take P 1 _ (All-drop P (h - 1) lines each)))))

-- ---- measured texts of the lines of a cell

-- the measured texts of lines
abbrev pub measured_of : List CellLine → List Text
measured_of lines = map (λ (line : CellLine). line.measured) lines

-- the measured texts of a cell's lines are the lines of the measured cell
pub whole-measured : (custom : Bool) (w d : ℕ) (cell : CellValue) → measured_of (uncut_lines custom w d cell) ≡ cell_lines w d (cell_measured custom cell)
whole-measured true w d cell = visible_lines w d cell.text_lines
whole-measured false w d cell = as_they_are (cell_lines w d cell)
  where
    as_they_are : (lines : List Text) → measured_of (map as_measured lines) ≡ lines
    as_they_are [] = refl
    as_they_are (line ∷ lines) = ap (λ (more : List Text). line ∷ more) (as_they_are lines)

-- the measured lines of a cell in a row
abbrev pub measured_in_row : TableValue → RowValue → ColumnInfo → CellValue → List Text
measured_in_row table row info cell =
    cut_to_limit (cut_text info.content_width table.indicator) row.max_height (cell_lines info.content_width (cell_delimiter table info.delimiter cell) cell)

-- the measured lines of a cell in a row are the measured texts of its lines
pub row-measured : (table : TableValue) (row : RowValue) (info : ColumnInfo) (cell : CellValue) → measured_of (row_cell_lines table row info cell) ≡ measured_in_row table row info (cell_measured table.custom_styling cell)
row-measured table row info cell =
    map-cut (λ (line : CellLine). line.measured) (cut_line table.custom_styling info.content_width table.indicator) (cut_text info.content_width table.indicator) row.max_height _ (λ line. refl)
    ∙ ap (cut_to_limit (cut_text info.content_width table.indicator) row.max_height) (whole-measured table.custom_styling info.content_width (cell_delimiter table info.delimiter cell) cell)

-- ---- unstyled tables

-- without styling, lines are written as they are measured
pub row-unstyled : (table : TableValue) (row : RowValue) (info : ColumnInfo) (cell : CellValue) → row_cell_lines (unstyled table) row info cell ≡ map as_measured (measured_in_row table row info cell)
row-unstyled table row info cell =
    sym (map-cut as_measured (cut_text info.content_width table.indicator) (cut_line false info.content_width table.indicator) row.max_height _ (λ line. refl))

-- the piece of a line without styling
abbrev pub unstyled_piece : CellValue → ColumnInfo → Text → Text
unstyled_piece cell info line = padded cell info (measure line) line

-- all pieces of an unstyled table are pieces without styling
pub pieces-unstyled : (table : TableValue) (row : RowValue) (info : ColumnInfo) (cell : CellValue) → cell_pieces (unstyled table) row info cell ≡ map (unstyled_piece cell info) (measured_in_row table row info cell)
pieces-unstyled table row info cell = grind (arith, row-unstyled, map-map)

-- a property of the pieces of measured lines and of a blank piece holds of all pieces in a column
pub All-pieces : (P : Text → Type 0) (table : TableValue) (row : RowValue) (p : ℕ × ColumnInfo) → P (blank_piece p.1)
    → ((cell : CellValue) → slice_get row.cells p.0 ≡ Some cell → All (λ line. P (unstyled_piece cell p.1 line)) (measured_in_row table row p.1 cell)) → All P (pieces_at (unstyled table) row p)
All-pieces P table row p blank = by_option (slice_get row.cells p.0)
  where
    by_option : (o : Option CellValue) → ((cell : CellValue) → o ≡ Some cell → All (λ line. P (unstyled_piece cell p.1 line)) (measured_in_row table row p.1 cell)) → All P (pieces_of_optional (unstyled table) row p.1 o)
    by_option None each = All-cons P (blank_piece p.1) [] blank (All-nil P)
    by_option (Some cell) each =
        subst (All P) (sym (pieces-unstyled table row p.1 cell)) (All-map P (unstyled_piece cell p.1) (measured_in_row table row p.1 cell) (each cell refl))
