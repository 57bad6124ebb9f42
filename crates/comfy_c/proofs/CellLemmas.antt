-- Attributes by their bits, and rows of cells by their counts.
use Rattle.std.proofs.Common.{◌≡◌, ◌<◌, ◌+◌, ◌/◌, ◌%◌, ◌==◌, ◌++◌, ◌∷◌, ◌∙◌, [], ℕ, Bool, true, false, zero, suc, cond, List, ap, ap₂, append_assoc, arith, drop, get_or, length, map, refl, slice_range, sym, take, zip}
use Rattle.std.proofs.lemmas.List.{at_drop_more, drop-drop}
use Rattle.std.proofs.lemmas.List.Sums.{sum_by-cons}
use Rattle.std.specs.Borrow.{Bor}
use Rattle.comfy_parts.specs.CellValue.{CellValue, RowValue}
use Rattle.comfy_parts.specs.Text.{Text}
use Rattle.comfy_parts.specs.declared.style.attribute.Attribute.{Attribute}
use Rattle.csv_records.specs.CutLists.{total}
use Rattle.comfy_c.specs.CellCalls.{cells_by, counts_of, rows_with}
use Rattle.comfy_c.specs.Numbers.{attributes_by, cell_with, row_with}
use Rattle.comfy_c.specs.declared.cells_rows.CellNumbers.{CellNumbers}
use Rattle.comfy_c.specs.declared.cells_rows.RowNumbers.{RowNumbers}

-- ---- the row past the last one

abbrev pub no_row : RowNumbers
no_row = record { cells = 0; max_height = 0 }

-- ---- parts

-- the part from a start is a prefix of the rest from there
pub part : {A : Type 0} (xs : List A) (start n : ℕ) → take n (drop start xs) ≡ slice_range xs start (start + n)
part xs start n = ap (λ (k : ℕ). take k (drop start xs)) (omega arith)

-- ---- attributes

-- one attribute more, for the last bit
pub attributes_more : (all : List Attribute) (i : ℕ) (d : Attribute) → i < length all → (bits : ℕ) (made : List Attribute)
    → made ++ attributes_by (drop i all) bits ≡ (made ++ cond (bits % 2 == 1) (get_or all i d ∷ []) []) ++ attributes_by (drop (i + 1) all) (bits / 2)
attributes_more all i d below bits made =
    ap (λ xs. made ++ xs) (at_drop_more (λ xs. attributes_by xs bits) all i d below ∙ by_test (bits % 2 == 1))
    ∙ sym (append_assoc made (cond (bits % 2 == 1) (get_or all i d ∷ []) []) (attributes_by (drop (i + 1) all) (bits / 2)))
  where
    by_test : (is : Bool) → cond is (get_or all i d ∷ attributes_by (drop (i + 1) all) (bits / 2)) (attributes_by (drop (i + 1) all) (bits / 2)) ≡ cond is (get_or all i d ∷ []) [] ++ attributes_by (drop (i + 1) all) (bits / 2)
    by_test true = refl
    by_test false = refl

-- no bits are set
none_set : (all : List Attribute) → attributes_by all 0 ≡ []
none_set [] = refl
none_set (attribute ∷ attributes) = none_set attributes

-- one bit is set
pub one_set : (all : List Attribute) (i : ℕ) (d : Attribute) → i < length all → slice_range all i (i + 1) ≡ attributes_by (drop i all) 1
one_set all i d below =
    let rest = drop (i + 1) all in
    sym (part all i 1)
    ∙ at_drop_more (λ xs. take 1 xs) all i d below
    ∙ ap (λ (xs : List Attribute). get_or all i d ∷ xs) (sym (none_set rest))
    ∙ sym (at_drop_more (λ xs. attributes_by xs 1) all i d below)

-- ---- cells

-- the texts to which references point
abbrev pub lent : List (Bor Text) → List Text
lent texts = map (λ (text : Bor Text). text.now) texts

-- pairs of numbers and texts are cells
pub cells_paired : (cells : List CellNumbers) (texts : List (Bor Text)) → map (λ (p : CellNumbers × Bor Text). cell_with p.0 p.1.now) (zip cells texts) ≡ cells_by cells (lent texts)
cells_paired [] texts = refl
cells_paired (cell ∷ cells) [] = refl
cells_paired (cell ∷ cells) (text ∷ texts) = ap (λ xs. cell_with cell text.now ∷ xs) (cells_paired cells texts)

-- there are as many cells as numbers
pub as_many : (cells : List CellNumbers) (texts : List Text) → length texts ≡ length cells → length (cells_by cells texts) ≡ length cells
as_many [] texts same = refl
as_many (cell ∷ cells) [] same = absurd (omega (arith, same))
as_many (cell ∷ cells) (text ∷ texts) same = ap suc (as_many cells texts (omega (arith, same)))

-- ---- rows

-- the first cells are those of the first numbers and texts
pub taken : (n : ℕ) (cells : List CellNumbers) (texts : List (Bor Text)) → take n (cells_by cells (lent texts)) ≡ cells_by (take n cells) (lent (take n texts))
taken zero cells texts = refl
taken (suc n) [] texts = refl
taken (suc n) (cell ∷ cells) [] = refl
taken (suc n) (cell ∷ cells) (text ∷ texts) = ap (λ xs. cell_with cell text.now ∷ xs) (taken n cells texts)

-- the other cells are those of the other numbers and texts
pub dropped : (n : ℕ) (cells : List CellNumbers) (texts : List (Bor Text)) → drop n (cells_by cells (lent texts)) ≡ cells_by (drop n cells) (lent (drop n texts))
dropped zero cells texts = refl
dropped (suc n) [] texts = refl
dropped (suc n) (cell ∷ cells) [] = by_cells (drop n cells)
  where
    by_cells : (rest : List CellNumbers) → [] ≡ cells_by rest []
    by_cells [] = refl
    by_cells (first ∷ rest) = refl
dropped (suc n) (cell ∷ cells) (text ∷ texts) = dropped n cells texts

module _ (all : List RowNumbers) (i : ℕ) (below : i < length all) where
  abbrev own : RowNumbers
  own = get_or all i no_row

  -- one row more, whose cells are the first of the rest from a start
  module _ (cells : List CellNumbers) (texts : List (Bor Text)) (start : ℕ) where
    abbrev mine : RowValue
    mine = row_with own (cells_by (slice_range cells start (start + own.cells)) (lent (slice_range texts start (start + own.cells))))

    abbrev others : List RowValue
    others = rows_with (drop (i + 1) all) (cells_by (drop (start + own.cells) cells) (lent (drop (start + own.cells) texts)))

    first_row : rows_with (drop i all) (cells_by (drop start cells) (lent (drop start texts))) ≡ mine ∷ others
    first_row =
        let n = own.cells in
        let front = taken n (drop start cells) (drop start texts) ∙ (λ k. cells_by (part cells start n k) (lent (part texts start n k))) in
        let rest = dropped n (drop start cells) (drop start texts) ∙ (λ k. cells_by (drop-drop n start cells k) (lent (drop-drop n start texts k))) in
        at_drop_more (λ xs. rows_with xs (cells_by (drop start cells) (lent (drop start texts)))) all i no_row below
        ∙ ap₂ (λ (front : List CellValue) (rest : List CellValue). row_with own front ∷ rows_with (drop (i + 1) all) rest) front rest

    pub rows_more : (made more : List RowValue) → more ≡ made ++ mine ∷ [] → made ++ rows_with (drop i all) (cells_by (drop start cells) (lent (drop start texts))) ≡ more ++ others
    rows_more made more pushed =
        ap (λ xs. made ++ xs) first_row ∙ sym (append_assoc made (mine ∷ []) others) ∙ ap (λ xs. xs ++ others) (sym pushed)

  -- the number of its cells, and of the others
  pub counts_more : total (counts_of (drop i all)) ≡ own.cells + total (counts_of (drop (i + 1) all))
  counts_more = at_drop_more (λ xs. total (counts_of xs)) all i no_row below ∙ sum_by-cons (λ n. n) own.cells (counts_of (drop (i + 1) all))
