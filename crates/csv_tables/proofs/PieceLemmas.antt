-- Drawings that come in pieces.
use Rattle.std.proofs.Common.{◌≡◌, ◌≢◌, ◌<◌, ◌==◌, ℕ, zero, suc, ◌+◌, Bool, true, false, List, [], ◌∷◌, ◌++◌, drop, length, take, arith, append-nil, append_assoc, take-append-drop, refl, ap, sym, ◌∙◌, ⊎_elim}
use Rattle.std.proofs.lemmas.Bool.{cases_lt}
use Rattle.std.proofs.lemmas.Bool.Decides.{nat_tests}
use Rattle.std.proofs.lemmas.List.{length-take-le, take_all}
use Rattle.std.proofs.lemmas.List.Concat.{flat_map-append}
use Rattle.std.specs.Prelude.{flat_map, if◌then◌else◌}
use Rattle.comfy_parts.specs.CellValue.{ColumnInfo, RowValue}
use Rattle.comfy_parts.specs.Text.{Text}
use Rattle.comfy_table.specs.Drawing.{drawn_row, outer_widths, part_of_drawing, terminated_text_of}
use Rattle.comfy_table.specs.Frame.{optional_frame_line}
use Rattle.comfy_table.proofs.OtherRowLemmas.{height_same, part_same}
use Rattle.comfy_table.specs.Pieces.{row_height}
use Rattle.comfy_table.specs.TableValue.{TableValue, with_other_rows}
use Rattle.csv_tables.specs.Contents.{drawn_next, expanded_from, expanded_record, fields_text, made_by, pairs_by, rows_at, rows_from}
use Rattle.csv_tables.specs.declared.rows.RecordRows.{RecordRows}

-- ---- rows of a table

module _ (table : TableValue) (infos : List ColumnInfo) where
  -- a row with the separator above it
  further : RowValue → List Text
  further row = optional_frame_line table.style table.style.row_separator (outer_widths infos) ++ drawn_row table infos table.style.content_lines row

  bottom : Bool → List Text
  bottom is_last = if is_last then optional_frame_line table.style table.style.bottom_border (outer_widths infos) else []

  -- rows below other rows
  further_on : (is_last : Bool) (xs ys : List RowValue) → part_of_drawing table infos false is_last (xs ++ ys) ≡ part_of_drawing table infos false false xs ++ part_of_drawing table infos false is_last ys
  unfolding further bottom
  further_on is_last xs ys =
      ap (λ (l : List Text). l ++ bottom is_last) (flat_map-append further xs ys)
      ∙ append_assoc (flat_map further xs) (flat_map further ys) (bottom is_last)
      ∙ ap (λ (l : List Text). l ++ (flat_map further ys ++ bottom is_last)) (sym (append-nil (flat_map further xs)))

  -- the first row alone, and then the others
  first_row : (is_first is_last : Bool) (x : RowValue) (xs : List RowValue) → part_of_drawing table infos is_first is_last (x ∷ xs) ≡ part_of_drawing table infos is_first false (x ∷ []) ++ part_of_drawing table infos false is_last xs
  first_row true is_last x xs = grind (arith, append_assoc, append-nil)
  first_row false is_last x xs = grind (arith, append_assoc, append-nil)

  rows_on : (is_first is_last : Bool) (x : RowValue) (xs ys : List RowValue)
      → part_of_drawing table infos is_first is_last ((x ∷ xs) ++ ys) ≡ part_of_drawing table infos is_first false (x ∷ xs) ++ part_of_drawing table infos false is_last ys
  rows_on is_first is_last x xs ys =
      let one = part_of_drawing table infos is_first false (x ∷ []) in
      let more = part_of_drawing table infos false is_last ys in
      first_row is_first is_last x (xs ++ ys)
      ∙ ap (λ (l : List Text). one ++ l) (further_on is_last xs ys)
      ∙ sym (append_assoc one (part_of_drawing table infos false false xs) more)
      ∙ ap (λ (l : List Text). l ++ more) (sym (first_row is_first false x xs))

  -- the text of rows
  abbrev lines : Bool → Bool → List RowValue → Text
  lines is_first is_last rows = terminated_text_of (part_of_drawing table infos is_first is_last rows)

  -- the text of the rows that are drawn so far, without the bottom border
  pub begun : List RowValue → Text
  begun [] = []
  begun (x ∷ xs) = terminated_text_of (part_of_drawing table infos true false (x ∷ xs))

  pub begun_none : begun [] ≡ []
  unfolding begun
  begun_none = refl

  pub begun_more : (xs : List RowValue) (x : RowValue) → begun (xs ++ x ∷ []) ≡ begun xs ++ terminated_text_of (part_of_drawing table infos (length xs == 0) false (x ∷ []))
  unfolding begun
  begun_more [] x = refl
  begun_more (y ∷ ys) x =
      let later : (length (y ∷ ys) == 0) ≡ false = grind (arith, nat_tests) in
      ap terminated_text_of (rows_on true false y ys (x ∷ []))
      ∙ flat_map-append _ (part_of_drawing table infos true false (y ∷ ys)) (part_of_drawing table infos false false (x ∷ []))
      ∙ ap (λ b. lines true false (y ∷ ys) ++ lines b false (x ∷ [])) (sym later)

  -- the text with the bottom border
  pub begun_all : (xs : List RowValue) → begun xs ++ (if length xs == 0 then [] else terminated_text_of (part_of_drawing table infos false true [])) ≡ fields_text table infos xs
  unfolding begun
  begun_all [] = refl
  begun_all (y ∷ ys) =
      let later : (length (y ∷ ys) == 0) ≡ false = grind (arith, nat_tests) in
      ap (λ b. lines true false (y ∷ ys) ++ (if b then [] else lines false true [])) later
      ∙ sym
      (ap (lines true true) (sym (append-nil (y ∷ ys)))
      ∙ ap terminated_text_of (rows_on true true y ys [])
      ∙ flat_map-append _ (part_of_drawing table infos true false (y ∷ ys)) (part_of_drawing table infos false true []))

-- a table with other rows draws the same parts
module _ (own table : TableValue) (infos : List ColumnInfo) (is : with_other_rows table.rows own ≡ table) where
  pub part_as : (is_first is_last : Bool) (rows : List RowValue) → part_of_drawing own infos is_first is_last rows ≡ part_of_drawing table infos is_first is_last rows
  part_as is_first is_last rows = sym (part_same own table.rows infos is_first is_last rows) ∙ ap (λ (t : TableValue). part_of_drawing t infos is_first is_last rows) is

  pub height_as : (row : RowValue) → row_height own infos row ≡ row_height table infos row
  height_as row = sym (height_same own table.rows infos row) ∙ ap (λ (t : TableValue). row_height t infos row) is

  pub fields_as : (rows : List RowValue) → fields_text own infos rows ≡ fields_text table infos rows
  fields_as [] = refl
  fields_as (x ∷ xs) = ap terminated_text_of (part_as true true (x ∷ xs))

-- ---- records

-- the row of the next record, and the rows of the others
pub row_more : (rows : RecordRows) (table : TableValue) (infos : List ColumnInfo) (at : ℕ) (is_first is_last : Bool) (x : List Text) (xs : List (List Text)) → rows.is_expanded ≡ false
    → terminated_text_of (part_of_drawing table infos is_first false (made_by rows at x ∷ [])) ++ terminated_text_of (part_of_drawing table infos false is_last (rows_from rows (at + 1) xs))
    ≡ terminated_text_of (part_of_drawing table infos is_first is_last (rows_from rows at (x ∷ xs)))
row_more rows table infos at is_first is_last x xs is =
    let rest = rows_from rows (at + 1) xs in
    let one : rows_at rows at x ≡ made_by rows at x ∷ [] = ap (λ (b : Bool). if b then pairs_by rows x else made_by rows at x ∷ []) is in
    sym (flat_map-append _ (part_of_drawing table infos is_first false (made_by rows at x ∷ [])) (part_of_drawing table infos false is_last rest))
    ∙ ap terminated_text_of (sym (first_row table infos is_first is_last (made_by rows at x) rest))
    ∙ ap (λ (l : List RowValue). lines table infos is_first is_last (l ++ rest)) (sym one)

from_on : (rows : RecordRows) (at : ℕ) (xs ys : List (List Text)) → rows_from rows at (xs ++ ys) ≡ rows_from rows at xs ++ rows_from rows (at + length xs) ys
from_on rows at [] ys = let same : at ≡ at + 0 = omega arith in ap (λ n. rows_from rows n ys) same
from_on rows at (x ∷ xs) ys =
    let same : (at + 1) + length xs ≡ at + suc (length xs) = omega arith in
    ap (λ (l : List RowValue). rows_at rows at x ++ l) (from_on rows (at + 1) xs ys ∙ ap (λ n. rows_from rows (at + 1) xs ++ rows_from rows n ys) same)
    ∙ sym (append_assoc (rows_at rows at x) (rows_from rows (at + 1) xs) (rows_from rows (at + suc (length xs)) ys))

expanded_on : (rows : RecordRows) (table : TableValue) (infos : List ColumnInfo) (at : ℕ) (xs ys : List (List Text))
    → expanded_from rows table infos at (xs ++ ys) ≡ expanded_from rows table infos at xs ++ expanded_from rows table infos (at + length xs) ys
expanded_on rows table infos at [] ys = let same : at ≡ at + 0 = omega arith in ap (λ n. expanded_from rows table infos n ys) same
expanded_on rows table infos at (x ∷ xs) ys =
    let same : (at + 1) + length xs ≡ at + suc (length xs) = omega arith in
    let one = expanded_record rows table infos at x in
    ap (λ (t : Text). one ++ t) (expanded_on rows table infos (at + 1) xs ys ∙ ap (λ n. expanded_from rows table infos (at + 1) xs ++ expanded_from rows table infos n ys) same)
    ∙ sym (append_assoc one (expanded_from rows table infos (at + 1) xs) (expanded_from rows table infos (at + suc (length xs)) ys))

-- the next records, and then the others
drawn_on : (rows : RecordRows) (table : TableValue) (infos : List ColumnInfo) (at : ℕ) (is_first : Bool) (xs ys : List (List Text)) → 0 < length xs
    → drawn_next rows table infos at is_first true (xs ++ ys) ≡ drawn_next rows table infos at is_first false xs ++ drawn_next rows table infos (at + length xs) false true ys
drawn_on rows table infos at is_first [] ys some = absurd (omega (arith, some))
drawn_on rows table infos at is_first (x ∷ xs) ys some = by_kind rows.is_expanded refl
  where
    single : rows.is_expanded ≡ false
        → terminated_text_of (part_of_drawing table infos is_first true (rows_from rows at (x ∷ (xs ++ ys))))
        ≡ terminated_text_of (part_of_drawing table infos is_first false (rows_from rows at (x ∷ xs))) ++ terminated_text_of (part_of_drawing table infos false true (rows_from rows (at + suc (length xs)) ys))
    single is =
        let one : rows_at rows at x ≡ made_by rows at x ∷ [] = ap (λ (b : Bool). if b then pairs_by rows x else made_by rows at x ∷ []) is in
        let rest = rows_from rows (at + 1) xs in
        let others = rows_from rows (at + suc (length xs)) ys in
        let front : rows_from rows at (x ∷ xs) ≡ made_by rows at x ∷ rest = ap (λ (l : List RowValue). l ++ rest) one in
        ap (lines table infos is_first true) (from_on rows at (x ∷ xs) ys ∙ ap (λ (l : List RowValue). l ++ others) front)
        ∙ ap terminated_text_of (rows_on table infos is_first true (made_by rows at x) rest others)
        ∙ flat_map-append _ (part_of_drawing table infos is_first false (made_by rows at x ∷ rest)) (part_of_drawing table infos false true others)
        ∙ ap (λ (l : List RowValue). lines table infos is_first false l ++ lines table infos false true others) (sym front)

    by_kind : (b : Bool) → rows.is_expanded ≡ b
        → (if b then expanded_from rows table infos at (x ∷ (xs ++ ys)) else terminated_text_of (part_of_drawing table infos is_first true (rows_from rows at (x ∷ (xs ++ ys)))))
        ≡ (if b then expanded_from rows table infos at (x ∷ xs) else terminated_text_of (part_of_drawing table infos is_first false (rows_from rows at (x ∷ xs))))
        ++ (if b then expanded_from rows table infos (at + suc (length xs)) ys else terminated_text_of (part_of_drawing table infos false true (rows_from rows (at + suc (length xs)) ys)))
    by_kind true is = expanded_on rows table infos at (x ∷ xs) ys
    by_kind false is = single is

-- ---- pieces

-- a list without its first n and then m elements
drop-more : (n m : ℕ) (xs : List (List Text)) → drop m (drop n xs) ≡ drop (n + m) xs
drop-more zero m xs = let same : m ≡ 0 + m = omega arith in ap (λ k. drop k xs) same
drop-more (suc n) m [] = drop-none m ∙ sym (drop-none (suc n + m))
  where
    drop-none : (k : ℕ) → drop {A = List Text} k [] ≡ []
    drop-none zero = refl
    drop-none (suc k) = refl
drop-more (suc n) m (x ∷ xs) = let same : suc (n + m) ≡ suc n + m = omega arith in drop-more n m xs ∙ ap (λ k. drop k (x ∷ xs)) same

-- the first n elements are n, and fewer than all
pub many_taken : (n : ℕ) (xs : List (List Text)) → length (take n xs) ≢ length xs → (length (take n xs) ≡ n) × (n < length xs)
many_taken n xs other =
    ⊎_elim (λ inside. (length-take-le n xs (omega (arith, inside)), inside))
    (λ outside. absurd (other (ap length (take_all n xs outside)))) (cases_lt n (length xs))

-- the first n elements are all
pub all_taken : (n : ℕ) (xs : List (List Text)) → length (take n xs) ≡ length xs → take n xs ≡ xs
all_taken n xs same =
    ⊎_elim (λ inside. let few = length-take-le n xs (omega (arith, inside)) in absurd (omega (arith, inside, few, same)))
    (λ outside. take_all n xs outside) (cases_lt n (length xs))

-- the text of the next records, if others are left
pub next_piece : (rows : RecordRows) (table : TableValue) (infos : List ColumnInfo) (at most : ℕ) (is_first : Bool) (all : List (List Text)) → 0 < most → length (take most (drop at all)) ≢ length (drop at all)
    → drawn_next rows table infos at is_first true (drop at all)
    ≡ drawn_next rows table infos at is_first false (take most (drop at all)) ++ drawn_next rows table infos (at + length (take most (drop at all))) false true (drop (at + length (take most (drop at all))) all)
next_piece rows table infos at most is_first all some not_all =
    let left = drop at all in
    let next = take most left in
    let long : length next ≡ most = (many_taken most left not_all).0 in
    let rest : drop most left ≡ drop (at + length next) all = drop-more at most all ∙ ap (λ k. drop (at + k) all) (sym long) in
    ap (drawn_next rows table infos at is_first true) (sym (take-append-drop most left))
    ∙ drawn_on rows table infos at is_first next (drop most left) (omega (arith, long, some))
    ∙ ap (λ (l : List (List Text)). drawn_next rows table infos at is_first false next ++ drawn_next rows table infos (at + length next) false true l) rest
