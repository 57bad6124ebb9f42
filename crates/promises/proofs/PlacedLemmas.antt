-- Columns with their positions, and rows as they are measured.
use Rattle.std.proofs.Common.{◌≡◌, ℕ, suc, ◌+◌, Bool, true, false, cond, List, [], ◌∷◌, Some, ap, ◌∙◌, arith, map, refl}
use Rattle.std.specs.List.{All, enumerate_from, filter, slice_get}
use Rattle.std.proofs.lemmas.List.Elements.{All-cons, All-head, All-nil, All-tail}
use Rattle.comfy_parts.specs.CellValue.{RowValue}
use Rattle.comfy_table.proofs.MeasuredLemmas.{measured_rows-is, row_measured}
use Rattle.comfy_table.specs.TableValue.{TableValue, header_and_rows, measured_rows}

-- a property of each element that passes a test holds of these elements with their positions
pub placed : {A : Type 0} (test : A → Bool) (P : A → Type 0) (n : ℕ) (xs : List A) → All P (filter test xs)
    → All (λ (p : ℕ × A). P p.1) (filter (λ (p : ℕ × A). test p.1) (enumerate_from n xs))
placed {A} test P n [] each = All-nil (λ (p : ℕ × A). P p.1)
placed {A} test P n (x ∷ xs) each = by_test (test x) each (λ more. placed test P (n + 1) xs more)
  where
    later : List (ℕ × A)
    later = filter (λ (p : ℕ × A). test p.1) (enumerate_from (n + 1) xs)

    by_test : (b : Bool) → All P (cond b (x ∷ filter test xs) (filter test xs)) → (All P (filter test xs) → All (λ (p : ℕ × A). P p.1) later)
        → All (λ (p : ℕ × A). P p.1) (cond b ((n, x) ∷ later) later)
    by_test true each rest = All-cons (λ (p : ℕ × A). P p.1) (n, x) later (All-head P x (filter test xs) each) (rest (All-tail P x (filter test xs) each))
    by_test false each rest = rest each

-- each of these elements is at its position, and passes the test
pub standing : {A : Type 0} (test : A → Bool) (all : List A) (n : ℕ) (xs : List A)
    → ((k : ℕ) → slice_get all (n + k) ≡ slice_get xs k)
    → All (λ (p : ℕ × A). (slice_get all p.0 ≡ Some p.1) × (test p.1 ≡ true))
    (filter (λ (p : ℕ × A). test p.1) (enumerate_from n xs))
standing {A} test all n [] same =
    All-nil (λ (p : ℕ × A). (slice_get all p.0 ≡ Some p.1) × (test p.1 ≡ true))
standing {A} test all n (x ∷ xs) same = by_test (test x) refl (standing test all (n + 1) xs next)
  where
    IsPlaced : ℕ × A → Type 0
    IsPlaced p = (slice_get all p.0 ≡ Some p.1) × (test p.1 ≡ true)

    later : List (ℕ × A)
    later = filter (λ (p : ℕ × A). test p.1) (enumerate_from (n + 1) xs)

    next : (k : ℕ) → slice_get all (n + 1 + k) ≡ slice_get xs k
    next k = let at : n + 1 + k ≡ n + suc k = omega arith in ap (slice_get all) at ∙ same (suc k)

    here : slice_get all n ≡ Some x
    here = let at : n ≡ n + 0 = omega arith in ap (slice_get all) at ∙ same 0

    by_test : (b : Bool) → test x ≡ b → All IsPlaced later
        → All IsPlaced (cond b ((n, x) ∷ later) later)
    by_test true passes rest = All-cons IsPlaced (n, x) later (here, passes) rest
    by_test false passes rest = rest

-- ---- rows as they are measured

-- rows that are measured without custom styling stay the same
rows_stay : (rows : List RowValue) → map (row_measured false) rows ≡ rows
rows_stay [] = refl
rows_stay (row ∷ rows) = ap (λ (more : List RowValue). row ∷ more) (rows_stay rows)

-- without custom styling rows are measured as they are
pub measured_plain : (table : TableValue) → table.custom_styling ≡ false → measured_rows table ≡ header_and_rows table
measured_plain table plain = measured_rows-is table ∙ ap (λ (custom : Bool). map (row_measured custom) (header_and_rows table)) plain ∙ rows_stay (header_and_rows table)
