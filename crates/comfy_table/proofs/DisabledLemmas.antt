-- The widths by content are the widths of an arrangement that keeps to no width.
use Rattle.std.proofs.Common.{◌≡◌, ℕ, suc, ◌+◌, Bool, true, false, not, cond, List, [], ◌∷◌, length, map, max, Option, None, arith, refl, sym, ap, ap₂, ◌∙◌, subst, slice_index}
use Rattle.std.specs.List.{enumerate_from, filter}
use Rattle.std.specs.Prelude.{if◌then◌else◌, zip}
use Rattle.std.proofs.lemmas.List.{length-map}
use Rattle.std.proofs.lemmas.List.FromFn.{length-enumerate_from}
use Rattle.comfy_parts.specs.CellValue.{ColumnInfo, ColumnValue, info_of, is_hidden_column, shown_among}
use Rattle.std.specs.Prelude.{MatchOption}
use Rattle.comfy_table.specs.Arrangement.{IsArranged, is_full_width, room_beside_borders, widths_at, width_kept}
use Rattle.comfy_table.specs.Drawing.{infos_of}
use Rattle.comfy_table.specs.Dynamic.{IsDynamicLayout}
use Rattle.comfy_table.specs.DisabledWidths.{width_by_content, widths_by_content}
use Rattle.comfy_table.specs.TableValue.{TableValue, column_content_width, table_width, shown_columns}
use Rattle.comfy_table.specs.Widths.{disabled_width, shown_count, shown_needs}

-- the shown columns with positions are as many as the shown columns without positions
pub visible_from-count : (n : ℕ) (columns : List ColumnValue)
    → length (filter (λ (p : ℕ × ColumnValue). not (is_hidden_column p.1)) (enumerate_from n columns)) ≡ shown_among columns
visible_from-count n [] = refl
visible_from-count n (column ∷ columns) = grind (arith, visible_from-count (n + 1) columns)

-- the number of shown columns is the same with and without positions
pub shown_count-among : (table : TableValue) → shown_count table ≡ shown_among table.columns
shown_count-among table = visible_from-count 0 table.columns

-- at the positions of the columns that pass a test, g's numbers are f's numbers, if both agree there
picked : (g f : ℕ × ColumnValue → ℕ) (test : ColumnValue → Bool) → ((p : ℕ × ColumnValue) → test p.1 ≡ true → g p ≡ f p)
    → (all : List ℕ) (at : ℕ) (columns : List ColumnValue)
    → ((i : ℕ) → slice_index all (at + i) ≡ slice_index (map g (enumerate_from at columns)) i)
    → map (λ (p : ℕ × ColumnValue). slice_index all p.0) (filter (λ (p : ℕ × ColumnValue). test p.1) (enumerate_from at columns))
    ≡ map f (filter (λ (p : ℕ × ColumnValue). test p.1) (enumerate_from at columns))
picked g f test same all at [] each = refl
picked g f test same all at (column ∷ columns) each =
    by_test (test column) refl
    (picked g f test same all (at + 1) columns (λ i. let moved : at + 1 + i ≡ at + suc i = omega arith in ap (slice_index all) moved ∙ each (suc i)))
  where
    here : slice_index all at ≡ g (at, column)
    here = let moved : at ≡ at + 0 = omega arith in ap (slice_index all) moved ∙ each 0

    by_test : (b : Bool) → test column ≡ b
        → map (λ (p : ℕ × ColumnValue). slice_index all p.0) (filter (λ (p : ℕ × ColumnValue). test p.1) (enumerate_from (at + 1) columns)) ≡ map f (filter (λ (p : ℕ × ColumnValue). test p.1) (enumerate_from (at + 1) columns))
        → map (λ (p : ℕ × ColumnValue). slice_index all p.0) (cond b ((at, column) ∷ filter (λ (p : ℕ × ColumnValue). test p.1) (enumerate_from (at + 1) columns)) (filter (λ (p : ℕ × ColumnValue). test p.1) (enumerate_from (at + 1) columns)))
        ≡ map f (cond b ((at, column) ∷ filter (λ (p : ℕ × ColumnValue). test p.1) (enumerate_from (at + 1) columns)) (filter (λ (p : ℕ × ColumnValue). test p.1) (enumerate_from (at + 1) columns)))
    by_test true is rest = ap₂ (λ (x : ℕ) (xs : List ℕ). x ∷ xs) (here ∙ same (at, column) is) rest
    by_test false is rest = rest

-- at the positions of the columns that pass a test, the widths by content are f's numbers, if both agree there
picked_by_content : (table : TableValue) (f : ℕ × ColumnValue → ℕ) (test : ColumnValue → Bool) → ((p : ℕ × ColumnValue) → test p.1 ≡ true → width_by_content table p ≡ f p)
    → widths_at (widths_by_content table) (filter (λ (p : ℕ × ColumnValue). test p.1) (enumerate_from 0 table.columns))
    ≡ map f (filter (λ (p : ℕ × ColumnValue). test p.1) (enumerate_from 0 table.columns))
picked_by_content table f test same =
    picked (width_by_content table) f test same (widths_by_content table) 0 table.columns (λ i. let moved : 0 + i ≡ i = omega arith in ap (slice_index (widths_by_content table)) moved)

-- a hidden column has its content's width
hidden_width : (table : TableValue) (p : ℕ × ColumnValue) → is_hidden_column p.1 ≡ true → width_by_content table p ≡ max 1 (column_content_width table p.0)
hidden_width table p is = ap (λ (b : Bool). if b then max 1 (column_content_width table p.0) else disabled_width table p) is

-- a shown column has its disabled width
visible_width : (table : TableValue) (p : ℕ × ColumnValue) → not (is_hidden_column p.1) ≡ true → width_by_content table p ≡ disabled_width table p
visible_width table p is = grind arith

-- if no width is kept, the widths by content are the table's
pub arranged_by_content : (table : TableValue) → width_kept table.arrangement (table_width table) ≡ None → IsArranged table (widths_by_content table)
arranged_by_content table none =
    let shown : List ℕ = widths_at (widths_by_content table) (shown_columns table) in
    record {
      one_for_each = length-map (enumerate_from 0 table.columns) (width_by_content table) ∙ length-enumerate_from 0 table.columns;
      hidden_widths = picked_by_content table (λ p. max 1 (column_content_width table p.0)) is_hidden_column (hidden_width table);
      shown_widths =
          subst (λ (o : Option ℕ). MatchOption o (shown ≡ map (disabled_width table) (shown_columns table)) (λ w. IsDynamicLayout (room_beside_borders table w) (shown_needs table) (is_full_width table.arrangement) shown)) (sym none)
          (picked_by_content table (disabled_width table) (λ (c : ColumnValue). not (is_hidden_column c)) (visible_width table));
    }

-- ---- the infos of columns

-- the info of the column at a position, with its width by content
abbrev pub info_by_content : TableValue → ℕ × ColumnValue → ColumnInfo
info_by_content table p = info_of p.1 (width_by_content table p)

-- zipping columns with f's numbers gives each column with its own number
zip-map : (f : ℕ × ColumnValue → ℕ) (n : ℕ) (columns : List ColumnValue)
    → map (λ (p : ColumnValue × ℕ). info_of p.0 p.1) (zip columns (map f (enumerate_from n columns))) ≡ map (λ (p : ℕ × ColumnValue). info_of p.1 (f p)) (enumerate_from n columns)
zip-map f n [] = refl
zip-map f n (column ∷ columns) = ap (λ (infos : List ColumnInfo). info_of column (f (n, column)) ∷ infos) (zip-map f (n + 1) columns)

-- so the infos of the columns have the widths by content
pub infos-by_content : (table : TableValue) → map (info_by_content table) (enumerate_from 0 table.columns) ≡ infos_of table (widths_by_content table)
infos-by_content table = sym (zip-map (width_by_content table) 0 table.columns)
