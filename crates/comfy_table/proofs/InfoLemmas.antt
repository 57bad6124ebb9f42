-- Properties of the shown columns hold of their infos.
use Rattle.std.proofs.Common.{◌≡◌, ℕ, ◌+◌, Bool, true, false, not, cond, List, [], ◌∷◌, ◌++◌, length, map, refl, sym, ap, ◌∙◌, arith, append_assoc, length-append}
use Rattle.std.specs.List.{All, enumerate_from, filter}
use Rattle.std.specs.Prelude.{slice_index, zip}
use Rattle.std.proofs.Math.Seq.{get_or-append_seam}
use Rattle.std.proofs.lemmas.List.Elements.{All-cons, All-nil, All-head, All-tail}
use Rattle.comfy_parts.specs.CellValue.{ColumnInfo, ColumnValue, info_of, is_hidden_column}
use Rattle.comfy_table.specs.Drawing.{infos_of}
use Rattle.comfy_table.specs.Pieces.{shown_infos}
use Rattle.comfy_table.specs.TableValue.{TableValue, shown_columns}

-- the shown columns of a list that begins at position n
abbrev pub columns_from : ℕ → List ColumnValue → List (ℕ × ColumnValue)
columns_from n columns = filter (λ (p : ℕ × ColumnValue). not (is_hidden_column p.1)) (enumerate_from n columns)

-- the infos of the shown columns of a list that begins at position n
abbrev pub infos_from : ℕ → List ColumnValue → List ℕ → List (ℕ × ColumnInfo)
infos_from n columns widths =
    filter (λ (p : ℕ × ColumnInfo). not p.1.is_hidden) (enumerate_from n (map (λ (p : ColumnValue × ℕ). info_of p.0 p.1) (zip columns widths)))

module _ (all : List ℕ) (Known : ℕ × ColumnValue → Type 0) (Holds : ℕ × ColumnInfo → Type 0)
    (gives : (i : ℕ) (column : ColumnValue) (w : ℕ) → w ≡ slice_index all i → Known (i, column) → Holds (i, info_of column w)) where
  from : (front : List ℕ) (n : ℕ) (columns : List ColumnValue) (widths : List ℕ) → all ≡ front ++ widths → length front ≡ n → All Known (columns_from n columns) → All Holds (infos_from n columns widths)
  from front n [] [] splits at each = All-nil Holds
  from front n [] (w ∷ widths) splits at each = All-nil Holds
  from front n (column ∷ columns) [] splits at each = All-nil Holds
  from front n (column ∷ columns) (w ∷ widths) splits at each =
      by_test (is_hidden_column column) each
      (from (front ++ w ∷ []) (n + 1) columns widths (splits ∙ sym (append_assoc front (w ∷ []) widths)) (omega (arith, length-append front (w ∷ []), at)))
    where
      here : w ≡ slice_index all n
      here = sym (ap (λ xs. slice_index xs n) splits ∙ ap (slice_index (front ++ w ∷ widths)) (sym at) ∙ get_or-append_seam front w widths _)

      by_test : (b : Bool) → All Known (cond (not b) ((n, column) ∷ columns_from (n + 1) columns) (columns_from (n + 1) columns))
          → (All Known (columns_from (n + 1) columns) → All Holds (infos_from (n + 1) columns widths))
          → All Holds (cond (not b) ((n, info_of column w) ∷ infos_from (n + 1) columns widths) (infos_from (n + 1) columns widths))
      by_test true each rest = rest each
      by_test false each rest =
          All-cons Holds (n, info_of column w) (infos_from (n + 1) columns widths) (gives n column w here (All-head Known (n, column) (columns_from (n + 1) columns) each))
          (rest (All-tail Known (n, column) (columns_from (n + 1) columns) each))

-- a property of each shown column with the width at its position holds of its info
pub infos-at : (table : TableValue) (widths : List ℕ) (Known : ℕ × ColumnValue → Type 0) (Holds : ℕ × ColumnInfo → Type 0) → All Known (shown_columns table)
    → ((i : ℕ) (column : ColumnValue) (w : ℕ) → w ≡ slice_index widths i → Known (i, column) → Holds (i, info_of column w)) → All Holds (shown_infos (infos_of table widths))
infos-at table widths Known Holds each gives = from widths Known Holds gives [] 0 table.columns widths refl refl each

-- a property of each shown column holds of its info, for any width
pub infos-known : (table : TableValue) (widths : List ℕ) (Known : ℕ × ColumnValue → Type 0) (Holds : ℕ × ColumnInfo → Type 0) → length widths ≡ length table.columns → All Known (shown_columns table)
    → ((i : ℕ) (column : ColumnValue) (w : ℕ) → Known (i, column) → Holds (i, info_of column w)) → All Holds (shown_infos (infos_of table widths))
infos-known table widths Known Holds same each gives = infos-at table widths Known Holds each (λ i column w at known. gives i column w known)
