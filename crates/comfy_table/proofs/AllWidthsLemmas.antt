-- The widths of all columns, made from the dynamic widths of the shown ones.
use Rattle.std.proofs.Common.{◌≡◌, ℕ, suc, ◌+◌, Bool, true, false, not, cond, List, [], ◌∷◌, drop, length, map, max, arith, refl, sym, ap, ap₂, ◌∙◌, subst, slice_index, slice_index_or, Option, Some}
use Rattle.std.specs.List.{enumerate_from, filter}
use Rattle.std.specs.Prelude.{zip, MatchOption}
use Rattle.std.proofs.lemmas.List.{length-map}
use Rattle.std.proofs.lemmas.List.FromFn.{length-enumerate_from}
use Rattle.comfy_parts.specs.CellValue.{ColumnInfo, ColumnValue, info_of, is_hidden_column}
use Rattle.comfy_table.specs.AllWidths.{all_widths, given_in_order}
use Rattle.comfy_table.specs.Arrangement.{IsArranged, is_full_width, room_beside_borders, widths_at, width_kept}
use Rattle.comfy_table.specs.Dynamic.{IsDynamicLayout, added}
use Rattle.comfy_table.specs.TableValue.{TableValue, column_content_width, table_width, shown_columns}
use Rattle.comfy_table.specs.Widths.{ColumnNeeds, disabled_width, needs_of, shown_count, shown_needs}
use Rattle.comfy_table.proofs.BudgetLemmas.{length-contents_after}
use Rattle.comfy_table.proofs.SpreadLemmas.{length-even_spread}

-- ---- dynamic widths have one element for each shown column

-- the sum of two lists of one length, element by element, has this length
length-added : (xs ys : List ℕ) → length xs ≡ length ys → length (added xs ys) ≡ length xs
length-added [] ys same = refl
length-added (x ∷ xs) [] same = absurd (omega arith)
length-added (x ∷ xs) (y ∷ ys) same = ap suc (length-added xs ys (omega arith))

-- dynamic widths have one element for each column
pub length-dynamic : (room : ℕ) (columns : List ColumnNeeds) (full : Bool) (widths : List ℕ) → IsDynamicLayout room columns full widths → length widths ≡ length columns
length-dynamic room columns full widths dynamic = grind (arith, length-added, length-contents_after, length-even_spread)

-- ---- the given widths

-- one width for each column
length-given_in_order : (table : TableValue) (widths : List ℕ) (columns : List (ℕ × ColumnValue)) → length (given_in_order table widths columns) ≡ length columns
length-given_in_order table widths [] = refl
length-given_in_order table widths (p ∷ columns) =
    grind (arith, length-given_in_order table widths columns, length-given_in_order table (drop 1 widths) columns)

-- the columns from a position on that pass a test, each with its position
abbrev passing : (ColumnValue → Bool) → ℕ → List ColumnValue → List (ℕ × ColumnValue)
passing test at columns = filter (λ (p : ℕ × ColumnValue). test p.1) (enumerate_from at columns)

-- the elements of `all` from a position on are these numbers
abbrev pub AreFrom : List ℕ → ℕ → List ℕ → Type 0
AreFrom all at numbers = (i : ℕ) → slice_index all (at + i) ≡ slice_index numbers i

-- the element at the position is the first number
pub first_from : (all : List ℕ) (at x : ℕ) (numbers : List ℕ) → AreFrom all at (x ∷ numbers) → slice_index all at ≡ x
first_from all at x numbers each = let moved : at ≡ at + 0 = omega arith in ap (slice_index all) moved ∙ each 0

-- the elements after it are the other numbers
pub after_first : (all : List ℕ) (at x : ℕ) (numbers : List ℕ) → AreFrom all at (x ∷ numbers) → AreFrom all (at + 1) numbers
after_first all at x numbers each i = let moved : at + 1 + i ≡ at + suc i = omega arith in ap (slice_index all) moved ∙ each (suc i)

-- the hidden columns have their contents' widths
hidden_given : (table : TableValue) (all widths : List ℕ) (at : ℕ) (columns : List ColumnValue) → AreFrom all at (given_in_order table widths (enumerate_from at columns))
    → widths_at all (passing is_hidden_column at columns) ≡ map (λ (p : ℕ × ColumnValue). max 1 (column_content_width table p.0)) (passing is_hidden_column at columns)
hidden_given table all widths at [] each = refl
hidden_given table all widths at (column ∷ columns) each =
    by_test (is_hidden_column column) (hidden_given table all widths (at + 1) columns) (hidden_given table all (drop 1 widths) (at + 1) columns) each
  where
    later : List (ℕ × ColumnValue)
    later = passing is_hidden_column (at + 1) columns

    own : ℕ × ColumnValue → ℕ
    own p = max 1 (column_content_width table p.0)

    same : (ws : List ℕ) → Type 0
    same ws = AreFrom all (at + 1) (given_in_order table ws (enumerate_from (at + 1) columns)) → widths_at all later ≡ map own later

    by_test : (b : Bool) → same widths → same (drop 1 widths)
        → AreFrom all at (cond b (own (at, column) ∷ given_in_order table widths (enumerate_from (at + 1) columns)) (slice_index_or widths 0 1 ∷ given_in_order table (drop 1 widths) (enumerate_from (at + 1) columns)))
        → widths_at all (cond b ((at, column) ∷ later) later) ≡ map own (cond b ((at, column) ∷ later) later)
    by_test true hidden visible these =
        ap₂ (λ (x : ℕ) (xs : List ℕ). x ∷ xs) (first_from all at _ _ these) (hidden (after_first all at _ _ these))
    by_test false hidden visible these = visible (after_first all at _ _ these)

-- the shown columns have the given widths, if there is one for each
shown_given : (table : TableValue) (all widths : List ℕ) (at : ℕ) (columns : List ColumnValue) → AreFrom all at (given_in_order table widths (enumerate_from at columns))
    → length widths ≡ length (passing (λ (c : ColumnValue). not (is_hidden_column c)) at columns)
    → widths_at all (passing (λ (c : ColumnValue). not (is_hidden_column c)) at columns) ≡ widths
shown_given table all [] at [] each enough = refl
shown_given table all (w ∷ widths) at [] each enough = absurd (omega arith)
shown_given table all widths at (column ∷ columns) each enough =
    by_test (is_hidden_column column) widths (λ ws. shown_given table all ws (at + 1) columns) each enough
  where
    later : List (ℕ × ColumnValue)
    later = passing (λ (c : ColumnValue). not (is_hidden_column c)) (at + 1) columns

    from_here : Bool → List ℕ → List ℕ
    from_here b ws = cond b (max 1 (column_content_width table at) ∷ given_in_order table ws (enumerate_from (at + 1) columns)) (slice_index_or ws 0 1 ∷ given_in_order table (drop 1 ws) (enumerate_from (at + 1) columns))

    by_test : (b : Bool) (ws : List ℕ)
        → ((vs : List ℕ) → AreFrom all (at + 1) (given_in_order table vs (enumerate_from (at + 1) columns)) → length vs ≡ length later → widths_at all later ≡ vs)
        → AreFrom all at (from_here b ws) → length ws ≡ length (cond (not b) ((at, column) ∷ later) later)
        → widths_at all (cond (not b) ((at, column) ∷ later) later) ≡ ws
    by_test true ws rest these some = rest ws (after_first all at _ _ these) some
    by_test false [] rest these some = absurd (omega arith)
    by_test false (w ∷ ws) rest these some =
        ap₂ (λ (x : ℕ) (xs : List ℕ). x ∷ xs) (first_from all at _ _ these) (rest ws (after_first all at _ _ these) (omega arith))

-- ---- a dynamic arrangement

-- the elements of a list from position 0 on are the whole list
pub from_start : (all : List ℕ) → AreFrom all 0 all
from_start all i = let moved : 0 + i ≡ i = omega arith in ap (slice_index all) moved

-- if a width is kept, the dynamic widths with those of hidden columns are widths of the table
pub arranged_by_widths : (table : TableValue) (w : ℕ) (widths : List ℕ) → width_kept table.arrangement (table_width table) ≡ Some w
    → IsDynamicLayout (room_beside_borders table w) (shown_needs table) (is_full_width table.arrangement) widths → IsArranged table (all_widths table widths)
arranged_by_widths table w widths kept dynamic = record {
  one_for_each = length-given_in_order table widths (enumerate_from 0 table.columns) ∙ length-enumerate_from 0 table.columns;
  hidden_widths = hidden_given table (all_widths table widths) widths 0 table.columns (from_start (all_widths table widths));
  shown_widths =
      subst (λ (o : Option ℕ). MatchOption o (shown ≡ map (disabled_width table) (shown_columns table)) (λ v. IsDynamicLayout (room_beside_borders table v) (shown_needs table) (is_full_width table.arrangement) shown)) (sym kept)
      (subst (λ (ws : List ℕ). IsDynamicLayout (room_beside_borders table w) (shown_needs table) (is_full_width table.arrangement) ws) (sym shown_is) dynamic);
}
  where
    shown : List ℕ
    shown = widths_at (all_widths table widths) (shown_columns table)

    enough : length widths ≡ shown_count table
    enough =
        length-dynamic (room_beside_borders table w) (shown_needs table) (is_full_width table.arrangement) widths dynamic
        ∙ length-map (shown_columns table) (needs_of table)

    shown_is : shown ≡ widths
    shown_is = shown_given table (all_widths table widths) widths 0 table.columns (from_start (all_widths table widths)) enough

-- ---- the infos of columns

-- the infos of the columns from a position on, with these widths
abbrev pub infos_from : TableValue → List ℕ → ℕ → List ColumnValue → List ColumnInfo
infos_from table widths at columns = map (λ (p : ColumnValue × ℕ). info_of p.0 p.1) (zip columns (given_in_order table widths (enumerate_from at columns)))
