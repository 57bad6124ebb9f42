-- A table has one list of widths, and so one drawing.
use Rattle.std.proofs.Common.{◌≡◌, ◌<◌, ℕ, zero, suc, ◌+◌, Bool, true, false, not, cond, List, [], ◌∷◌, drop, length, map, Option, Some, None, arith, refl, sym, ap, ap₂, ◌∙◌, slice_index, slice_index_or}
use Rattle.std.specs.List.{enumerate_from, filter}
use Rattle.std.specs.Prelude.{MatchOption}
use Rattle.comfy_parts.specs.CellValue.{ColumnValue, is_hidden_column}
use Rattle.comfy_parts.specs.Text.{Text}
use Rattle.comfy_table.proofs.OneWidthLemmas.{dynamic_is_one}
use Rattle.comfy_table.specs.AddedRows.{DrawingIsOne}
use Rattle.comfy_table.specs.Arrangement.{IsArranged, is_full_width, room_beside_borders, widths_at, width_kept}
use Rattle.comfy_table.specs.Drawing.{drawing}
use Rattle.comfy_table.specs.Dynamic.{IsDynamicLayout}
use Rattle.comfy_table.specs.HiddenColumns.{is_shown}
use Rattle.comfy_table.specs.TableValue.{TableValue, shown_columns, table_width}
use Rattle.comfy_table.specs.Widths.{disabled_width, shown_needs}

-- the columns from a position on that pass a test, each with its position
abbrev passing : (ColumnValue → Bool) → ℕ → List ColumnValue → List (ℕ × ColumnValue)
passing test at columns = filter (λ (p : ℕ × ColumnValue). test p.1) (enumerate_from at columns)

-- numbers that are equal at hidden and at shown columns are equal at the first column, and at the later ones
parts : (ws vs : List ℕ) (at : ℕ) (column : ColumnValue) (hidden shown : List (ℕ × ColumnValue)) (b : Bool)
    → widths_at ws (cond b ((at, column) ∷ hidden) hidden) ≡ widths_at vs (cond b ((at, column) ∷ hidden) hidden)
    → widths_at ws (cond (not b) ((at, column) ∷ shown) shown) ≡ widths_at vs (cond (not b) ((at, column) ∷ shown) shown)
    → (slice_index ws at ≡ slice_index vs at) × (widths_at ws hidden ≡ widths_at vs hidden) × (widths_at ws shown ≡ widths_at vs shown)
parts ws vs at column hidden shown true one others = (ap (λ (xs : List ℕ). slice_index_or xs 0 0) one, ap (drop 1) one, others)
parts ws vs at column hidden shown false others one = (ap (λ (xs : List ℕ). slice_index_or xs 0 0) one, others, ap (drop 1) one)

-- so they are equal at all columns
same_at_columns : (ws vs : List ℕ) (at : ℕ) (columns : List ColumnValue)
    → widths_at ws (passing is_hidden_column at columns) ≡ widths_at vs (passing is_hidden_column at columns)
    → widths_at ws (passing is_shown at columns) ≡ widths_at vs (passing is_shown at columns)
    → (i : ℕ) → i < length columns → slice_index ws (at + i) ≡ slice_index vs (at + i)
same_at_columns ws vs at [] hidden shown i below = absurd (omega (arith, below))
same_at_columns ws vs at (column ∷ columns) hidden shown zero below =
    let known = parts ws vs at column (passing is_hidden_column (at + 1) columns) (passing is_shown (at + 1) columns) (is_hidden_column column) hidden shown in
    let here : at + 0 ≡ at = omega arith in
    ap (slice_index ws) here ∙ known.0 ∙ ap (slice_index vs) (sym here)
same_at_columns ws vs at (column ∷ columns) hidden shown (suc i) below =
    let known = parts ws vs at column (passing is_hidden_column (at + 1) columns) (passing is_shown (at + 1) columns) (is_hidden_column column) hidden shown in
    let there : at + suc i ≡ at + 1 + i = omega arith in
    ap (slice_index ws) there ∙ same_at_columns ws vs (at + 1) columns known.1 known.2 i (omega (arith, below)) ∙ ap (slice_index vs) (sym there)

-- lists of one length that are equal at each position are equal
same_lists : (ws vs : List ℕ) → length ws ≡ length vs → ((i : ℕ) → i < length ws → slice_index ws i ≡ slice_index vs i) → ws ≡ vs
same_lists [] [] long each = refl
same_lists [] (v ∷ vs) long each = absurd (omega (arith, long))
same_lists (w ∷ ws) [] long each = absurd (omega (arith, long))
same_lists (w ∷ ws) (v ∷ vs) long each =
    ap₂ (λ (x : ℕ) (xs : List ℕ). x ∷ xs) (each 0 (omega arith)) (same_lists ws vs (omega (arith, long)) (λ i below. each (suc i) (omega (arith, below))))

-- two lists of widths of a table are equal
pub arranged_is_one : (table : TableValue) (ws vs : List ℕ) → IsArranged table ws → IsArranged table vs → ws ≡ vs
arranged_is_one table ws vs first second =
    same_lists ws vs (first.one_for_each ∙ sym second.one_for_each) (λ i below. moved i (omega (arith, below, first.one_for_each)))
  where
    of_shown : (o : Option ℕ) (xs ys : List ℕ)
        → MatchOption o (xs ≡ map (disabled_width table) (shown_columns table)) (λ w. IsDynamicLayout (room_beside_borders table w) (shown_needs table) (is_full_width table.arrangement) xs)
        → MatchOption o (ys ≡ map (disabled_width table) (shown_columns table)) (λ w. IsDynamicLayout (room_beside_borders table w) (shown_needs table) (is_full_width table.arrangement) ys) → xs ≡ ys
    of_shown None xs ys one other = one ∙ sym other
    of_shown (Some w) xs ys one other = dynamic_is_one (room_beside_borders table w) (shown_needs table) (is_full_width table.arrangement) xs ys one other

    moved : (i : ℕ) → i < length table.columns → slice_index ws i ≡ slice_index vs i
    moved i below =
        let here : i ≡ 0 + i = omega arith in
        ap (slice_index ws) here
        ∙ same_at_columns ws vs 0 table.columns (first.hidden_widths ∙ sym second.hidden_widths) (of_shown (width_kept table.arrangement (table_width table)) _ _ first.shown_widths second.shown_widths) i below
        ∙ ap (slice_index vs) (sym here)

-- so two drawings of a table are equal
pub drawing_is_one : (table : TableValue) (lines others : List Text) → DrawingIsOne table lines others
drawing_is_one table lines others (ws, first, is) (vs, second, are) = is ∙ ap (drawing table) (arranged_is_one table ws vs first second) ∙ sym are
