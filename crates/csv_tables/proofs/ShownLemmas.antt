-- Rows of which a field is measured before its cell is made.
use Rattle.std.proofs.Common.{◌≡◌, ◌≤◌, ℕ, zero, suc, ◌+◌, Bool, true, false, List, ◌++◌, Some, None, length, max, arith, refl, ap, sym, ◌∙◌, nat_lt, ◌==◌, ◌≢◌, ⊎_elim}
use Rattle.std.proofs.lemmas.Bool.{cases_lt, eqb-false, eqb-true}
use Rattle.std.proofs.lemmas.Bool.Decides.{nat_tests}
use Rattle.std.proofs.lemmas.List.{length-map}
use Rattle.std.proofs.lemmas.Option.{slice_get-map, slice_get_past}
use Rattle.std.specs.List.{slice_get}
use Rattle.std.specs.Prelude.{decimal, option_map, if◌then◌else◌}
use Rattle.comfy_parts.specs.CellValue.{CellValue}
use Rattle.comfy_parts.specs.Text.{Text, is_printable_ascii, spaces}
use Rattle.comfy_table.specs.TableValue.{TableValue, cell_content_width}
use Rattle.csv_tables.specs.Cells.{Shown, cell_for, columns_within, shown_fields, shown_number, text_in}
use Rattle.csv_tables.specs.Contents.{plain_by, measured_at, shown_by}
use Rattle.csv_tables.specs.declared.options.ColumnPlan.{ColumnPlan}
use Rattle.csv_tables.specs.declared.rows.RecordRows.{RecordRows}

-- ---- spaces after a field

pub spaces_printable : (n : ℕ) → is_printable_ascii (spaces n) ≡ true
spaces_printable zero = refl
spaces_printable (suc n) = spaces_printable n

-- ---- what a row shows

-- the fields of a row come after its number
pub shown_after : (rows : RecordRows) (fields : List Text) (column : ColumnPlan) (at position place : ℕ) → position ≡ place + (if rows.selected.is_numbered then 1 else 0)
    → slice_get (columns_within fields rows.selected.columns) place ≡ Some column
    → slice_get (shown_by rows at fields) position ≡ Some (record { alignment = column.alignment; text = text_in rows.look rows.is_aligned column fields })
shown_after rows fields column at position place is_at found = by_number rows.selected.is_numbered is_at
  where
    drawn : List ColumnPlan
    drawn = columns_within fields rows.selected.columns

    own : Shown
    own = record { alignment = column.alignment; text = text_in rows.look rows.is_aligned column fields }

    in_fields : slice_get (shown_fields rows.look rows.is_aligned drawn fields) place ≡ Some own
    in_fields = slice_get-map (λ (d : ColumnPlan). record { alignment = d.alignment; text = text_in rows.look rows.is_aligned d fields }) drawn place ∙ ap (option_map (λ (d : ColumnPlan). record { alignment = d.alignment; text = text_in rows.look rows.is_aligned d fields })) found

    by_number : (b : Bool) → position ≡ place + (if b then 1 else 0)
        → slice_get (shown_number (if b then Some (decimal (at + 1)) else None) ++ shown_fields rows.look rows.is_aligned drawn fields) position ≡ Some own
    by_number true is =
        let next : place + 1 ≡ suc place = omega arith in
        ap (slice_get (shown_number (Some (decimal (at + 1))) ++ shown_fields rows.look rows.is_aligned drawn fields)) (is ∙ next) ∙ in_fields
    by_number false is =
        let same : place + 0 ≡ place = omega arith in
        ap (slice_get (shown_fields rows.look rows.is_aligned drawn fields)) (is ∙ same) ∙ in_fields

-- ---- all cells of a row

-- a row has a cell for its number and for each column
pub as_many_cells : (rows : RecordRows) (at : ℕ) (fields : List Text) → length (plain_by rows at fields).cells ≡ length (columns_within fields rows.selected.columns) + (if rows.selected.is_numbered then 1 else 0)
as_many_cells rows at fields =
    length-map (shown_by rows at fields) (λ (s : Shown). cell_for rows.look s.alignment s.text) ∙ by_number rows.selected.is_numbered
  where
    drawn : List ColumnPlan
    drawn = columns_within fields rows.selected.columns

    many : length (shown_fields rows.look rows.is_aligned drawn fields) ≡ length drawn
    many = length-map drawn (λ (d : ColumnPlan). record { alignment = d.alignment; text = text_in rows.look rows.is_aligned d fields })

    by_number : (b : Bool) → length (shown_number (if b then Some (decimal (at + 1)) else None) ++ shown_fields rows.look rows.is_aligned drawn fields) ≡ length drawn + (if b then 1 else 0)
    by_number true = let own = many in omega (arith, own)
    by_number false = let own = many in omega (arith, own)

-- a width after one more cell
pub one_wider : (had : ℕ) (f : ℕ → ℕ) (i k : ℕ) → max (max had (if nat_lt i k then f i else 0)) (if i == k then f k else 0) ≡ max had (if nat_lt i (k + 1) then f i else 0)
one_wider had f i k = ⊎_elim (λ before. grind (arith, nat_tests, before)) (λ after. by_test (i == k) refl after) (cases_lt i k)
  where
    by_test : (b : Bool) → (i == k) ≡ b → k ≤ i → max (max had (if nat_lt i k then f i else 0)) (if b then f k else 0) ≡ max had (if nat_lt i (k + 1) then f i else 0)
    by_test true is after =
        let here : i ≡ k = eqb-true i k is in
        let same = ap f here in
        let at : nat_lt i k ≡ false = grind (arith, nat_tests, after) in
        let above : nat_lt i (k + 1) ≡ true = grind (arith, nat_tests, here) in
        let one = ap (λ b. if b then f i else 0) at in
        let two = ap (λ b. if b then f i else 0) above in
        omega (arith, one, two, same)
    by_test false is after =
        let other : i ≢ k = eqb-false i k is in
        let at : nat_lt i k ≡ false = grind (arith, nat_tests, after) in
        let above : nat_lt i (k + 1) ≡ false = grind (arith, nat_tests, after, other) in
        let one = ap (λ b. if b then f i else 0) at in
        let two = ap (λ b. if b then f i else 0) above in
        omega (arith, one, two)

-- after all cells there is none
pub all_cells : (table : TableValue) (cells : List CellValue) (n i : ℕ) → length cells ≡ n
    → (if nat_lt i n then measured_at table cell_content_width (slice_get cells i) else 0) ≡ measured_at table cell_content_width (slice_get cells i)
all_cells table cells n i all = by_test (nat_lt i n) refl
  where
    by_test : (b : Bool) → nat_lt i n ≡ b → (if b then measured_at table cell_content_width (slice_get cells i) else 0) ≡ measured_at table cell_content_width (slice_get cells i)
    by_test true is = refl
    by_test false is =
        let past : length cells ≤ i = grind (arith, nat_tests, is, all) in
        sym (ap (measured_at table cell_content_width) (slice_get_past cells i past))

-- ---- a number, and fields after it

pub start_width : (had m first i : ℕ) → had ≡ max had (if nat_lt i (first + 0) then (if nat_lt i first then 0 else m) else 0)
start_width had m first i =
    let same : first + 0 ≡ first = omega arith in
    by_test (nat_lt i first) ∙ ap (λ n. max had (if nat_lt i n then (if nat_lt i first then 0 else m) else 0)) (sym same)
  where
    by_test : (b : Bool) → had ≡ max had (if b then (if b then 0 else m) else 0)
    by_test true = omega arith
    by_test false = omega arith

-- the widths after the number, and then after the fields, are those after all cells
pub joined_width : (old m had now first n i : ℕ) → had ≡ max old (if nat_lt i first then m else 0) → now ≡ max had (if nat_lt i n then (if nat_lt i first then 0 else m) else 0) → (if nat_lt i n then m else 0) ≡ m → now ≡ max old m
joined_width old m had now first n i = by_tests (nat_lt i first) (nat_lt i n)
  where
    by_tests : (p q : Bool) → had ≡ max old (if p then m else 0) → now ≡ max had (if q then (if p then 0 else m) else 0) → (if q then m else 0) ≡ m → now ≡ max old m
    by_tests true true one two all = omega (arith, one, two, all)
    by_tests true false one two all = omega (arith, one, two, all)
    by_tests false true one two all = omega (arith, one, two, all)
    by_tests false false one two all = omega (arith, one, two, all)
