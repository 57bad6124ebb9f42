-- The widths of the names and the fields of expanded records.
use Rattle.std.proofs.Common.{◌≡◌, ◌≢◌, ◌<◌, ℕ, zero, suc, ◌+◌, ◌*◌, Bool, true, false, cond, List, [], ◌∷◌, ◌++◌, Some, drop, filter, flat_map, length, map, max, nat_lt, take, arith, refl, ap, ap₂, sym, ◌∙◌}
use Rattle.std.proofs.lemmas.Bool.Decides.{nat_tests}
use Rattle.std.proofs.lemmas.List.{length-append, length-set}
use Rattle.std.specs.List.{slice_get, slice_index_or, slice_set}
use Rattle.std.specs.Prelude.{if◌then◌else◌}
use Rattle.comfy_parts.specs.CellValue.{CellValue, RowValue}
use Rattle.comfy_parts.specs.Text.{Text, greatest}
use Rattle.comfy_table.specs.TableValue.{TableValue, cell_content_width, measured_cell}
use Rattle.csv_tables.proofs.ContentLemmas.{greatest_at-append, most_cells-append}
use Rattle.csv_tables.specs.Cells.{held}
use Rattle.csv_tables.specs.Contents.{greatest_at, most_cells, pairs_by}
use Rattle.csv_tables.specs.Fields.{field_or_blank}
use Rattle.csv_tables.specs.LazyRows.{AreNamed, name_cell, names_width, pair_in}
use Rattle.csv_tables.specs.declared.options.ColumnPlan.{ColumnPlan}
use Rattle.csv_tables.specs.declared.rows.RecordRows.{RecordRows}

-- the number of fields of the longest record
abbrev pub most_fields : List (List Text) → ℕ
most_fields records = greatest (map length records)

module _ (t : TableValue) (rows : RecordRows) where
  -- the width of a name
  abbrev pub name_width : ColumnPlan → ℕ
  name_width column = cell_content_width (measured_cell t (name_cell rows column))

  -- the width of the widest name among the columns that a record of `n` fields has
  abbrev widest : ℕ → List ColumnPlan → ℕ
  widest n columns = greatest (map name_width (filter (λ (column : ColumnPlan). nat_lt column.position n) columns))

  -- the rows of some columns
  abbrev rows_in : List Text → List ColumnPlan → List RowValue
  rows_in fields columns = map (λ (column : ColumnPlan). pair_in rows column (field_or_blank fields column.position)) columns

  -- ---- one record

  first_cells : (fields : List Text) (columns : List ColumnPlan) → greatest_at t cell_content_width (rows_in fields columns) 0 ≡ greatest (map name_width columns)
  first_cells fields [] = refl
  first_cells fields (column ∷ columns) = ap (max (name_width column)) (first_cells fields columns)

  -- the greatest width in the column of names
  pub of_names : (fields : List Text) → greatest_at t cell_content_width (pairs_by rows fields) 0 ≡ names_width t rows (length fields)
  of_names fields = first_cells fields (held fields rows.selected.columns)

  no_third : (i : ℕ) (fields : List Text) (columns : List ColumnPlan) → greatest_at t cell_content_width (rows_in fields columns) (suc (suc i)) ≡ 0
  no_third i fields [] = refl
  no_third i fields (column ∷ columns) = let rest = no_third i fields columns in omega (arith, rest)

  two_cells : (fields : List Text) (columns : List ColumnPlan) → most_cells (rows_in fields columns) ≡ (if nat_lt 0 (greatest (map name_width columns)) then 2 else 0)
  two_cells fields [] = refl
  two_cells fields (column ∷ columns) = by_rest (nat_lt 0 (greatest (map name_width columns))) (two_cells fields columns)
    where
      some : nat_lt 0 (max (name_width column) (greatest (map name_width columns))) ≡ true
      some = grind (arith, nat_tests)

      by_rest : (b : Bool) → most_cells (rows_in fields columns) ≡ (if b then 2 else 0) → max 2 (most_cells (rows_in fields columns)) ≡ (if nat_lt 0 (max (name_width column) (greatest (map name_width columns))) then 2 else 0)
      by_rest true own = ap (max 2) own ∙ sym (ap (λ (b : Bool). if b then 2 else 0) some)
      by_rest false own = ap (max 2) own ∙ sym (ap (λ (b : Bool). if b then 2 else 0) some)

  nothing_held : (columns : List ColumnPlan) → greatest (map name_width columns) ≡ 0 → columns ≡ []
  nothing_held [] none = refl
  nothing_held (column ∷ columns) none = absurd (omega (arith, none))

  -- ---- all records

  -- a longer record has more columns
  longer : (a b : ℕ) (columns : List ColumnPlan) → widest (max a b) columns ≡ max (widest a columns) (widest b columns)
  longer a b [] = refl
  longer a b (column ∷ columns) = by_tests (nat_lt column.position a) (nat_lt column.position b) refl refl (longer a b columns)
    where
      w : ℕ
      w = name_width column

      one : Bool → ℕ → ℕ
      one test n = greatest (map name_width (cond test (column ∷ filter (λ (c : ColumnPlan). nat_lt c.position n) columns) (filter (λ (c : ColumnPlan). nat_lt c.position n) columns)))

      by_tests : (p q : Bool) → nat_lt column.position a ≡ p → nat_lt column.position b ≡ q → widest (max a b) columns ≡ max (widest a columns) (widest b columns)
          → one (nat_lt column.position (max a b)) (max a b) ≡ max (one (nat_lt column.position a) a) (one (nat_lt column.position b) b)
      by_tests true q is other rest =
          let both : nat_lt column.position (max a b) ≡ true = grind (arith, nat_tests, is) in
          let left = ap (λ (test : Bool). one test (max a b)) both in
          let first = ap (λ (test : Bool). one test a) is in
          let second = ap (λ (test : Bool). one test b) other in
          by_other q second rest left first
        where
          by_other : (q : Bool) → one (nat_lt column.position b) b ≡ one q b → widest (max a b) columns ≡ max (widest a columns) (widest b columns) → one (nat_lt column.position (max a b)) (max a b) ≡ one true (max a b) → one (nat_lt column.position a) a ≡ one true a
              → one (nat_lt column.position (max a b)) (max a b) ≡ max (one (nat_lt column.position a) a) (one (nat_lt column.position b) b)
          by_other true second rest left first = omega (arith, second, rest, left, first)
          by_other false second rest left first = omega (arith, second, rest, left, first)
      by_tests false true is other rest =
          let both : nat_lt column.position (max a b) ≡ true = grind (arith, nat_tests, other) in
          let left = ap (λ (test : Bool). one test (max a b)) both in
          let first = ap (λ (test : Bool). one test a) is in
          let second = ap (λ (test : Bool). one test b) other in
          omega (arith, second, rest, left, first)
      by_tests false false is other rest =
          let both : nat_lt column.position (max a b) ≡ false = grind (arith, nat_tests, is, other) in
          let left = ap (λ (test : Bool). one test (max a b)) both in
          let first = ap (λ (test : Bool). one test a) is in
          let second = ap (λ (test : Bool). one test b) other in
          omega (arith, second, rest, left, first)

  none_first : (columns : List ColumnPlan) → widest 0 columns ≡ 0
  none_first [] = refl
  none_first (column ∷ columns) =
      let not_first : nat_lt column.position 0 ≡ false = grind (arith, nat_tests) in
      ap (λ (test : Bool). greatest (map name_width (cond test (column ∷ filter (λ (c : ColumnPlan). nat_lt c.position 0) columns) (filter (λ (c : ColumnPlan). nat_lt c.position 0) columns)))) not_first
      ∙ none_first columns

  -- the widest name of all records is that of the longest record
  pub all_names : (records : List (List Text)) → greatest_at t cell_content_width (flat_map (pairs_by rows) records) 0 ≡ names_width t rows (most_fields records)
  all_names [] = sym (none_first rows.selected.columns)
  all_names (fields ∷ records) =
      greatest_at-append t cell_content_width (pairs_by rows fields) (flat_map (pairs_by rows) records) 0
      ∙ ap₂ max (of_names fields) (all_names records)
      ∙ sym (longer (length fields) (most_fields records) rows.selected.columns)

  pub none_third : (i : ℕ) (records : List (List Text)) → greatest_at t cell_content_width (flat_map (pairs_by rows) records) (suc (suc i)) ≡ 0
  none_third i [] = refl
  none_third i (fields ∷ records) =
      greatest_at-append t cell_content_width (pairs_by rows fields) (flat_map (pairs_by rows) records) (suc (suc i))
      ∙ ap₂ max (no_third i fields (held fields rows.selected.columns)) (none_third i records)

  -- without a name there are no rows
  pub none_named : (records : List (List Text)) → names_width t rows (most_fields records) ≡ 0 → flat_map (pairs_by rows) records ≡ []
  none_named [] none = refl
  none_named (fields ∷ records) none =
      let both = longer (length fields) (most_fields records) rows.selected.columns in
      let here : names_width t rows (length fields) ≡ 0 = omega (arith, none, both) in
      let rest : names_width t rows (most_fields records) ≡ 0 = omega (arith, none, both) in
      ap₂ (λ (own more : List RowValue). own ++ more) (ap (rows_in fields) (nothing_held (held fields rows.selected.columns) here)) (none_named records rest)

  -- each row has two cells
  pub all_cells : (records : List (List Text)) → most_cells (flat_map (pairs_by rows) records) ≡ (if nat_lt 0 (names_width t rows (most_fields records)) then 2 else 0)
  all_cells [] = sym (ap (λ (n : ℕ). if nat_lt 0 n then 2 else 0) (none_first rows.selected.columns))
  all_cells (fields ∷ records) =
      most_cells-append (pairs_by rows fields) (flat_map (pairs_by rows) records)
      ∙ ap₂ max (two_cells fields (held fields rows.selected.columns)) (all_cells records)
      ∙ either (names_width t rows (length fields)) (names_width t rows (most_fields records)) (names_width t rows (max (length fields) (most_fields records))) (longer (length fields) (most_fields records) rows.selected.columns)
    where
      either : (m n both : ℕ) → both ≡ max m n → max (if nat_lt 0 m then 2 else 0) (if nat_lt 0 n then 2 else 0) ≡ (if nat_lt 0 both then 2 else 0)
      either m n both is = by_tests (nat_lt 0 m) (nat_lt 0 n) refl refl
        where
          by_tests : (p q : Bool) → nat_lt 0 m ≡ p → nat_lt 0 n ≡ q → max (if p then 2 else 0) (if q then 2 else 0) ≡ (if nat_lt 0 both then 2 else 0)
          by_tests true true one other = let some : nat_lt 0 both ≡ true = grind (arith, nat_tests, is, one) in sym (ap (λ (b : Bool). if b then 2 else 0) some)
          by_tests true false one other = let some : nat_lt 0 both ≡ true = grind (arith, nat_tests, is, one) in sym (ap (λ (b : Bool). if b then 2 else 0) some)
          by_tests false true one other = let some : nat_lt 0 both ≡ true = grind (arith, nat_tests, is, other) in sym (ap (λ (b : Bool). if b then 2 else 0) some)
          by_tests false false one other = let none : nat_lt 0 both ≡ false = grind (arith, nat_tests, is, one, other) in sym (ap (λ (b : Bool). if b then 2 else 0) none)

-- ---- cells of names, each before a field

-- two neighbouring cells
pub two_at : {X : Type 0} (xs : List X) (n : ℕ) (x y : X) → slice_get xs n ≡ Some x → slice_get xs (n + 1) ≡ Some y → take 2 (drop n xs) ≡ x ∷ y ∷ []
two_at [] n x y first second = absurd (cc first)
two_at (z ∷ []) zero x y first second = absurd (cc second)
two_at (z ∷ (w ∷ xs)) zero x y first second =
    let one : z ≡ x = cc first in
    let other : w ≡ y = cc second in
    ap₂ (λ a b. a ∷ b ∷ []) one other
two_at (z ∷ xs) (suc n) x y first second =
    let next : suc n + 1 ≡ suc (n + 1) = omega arith in
    two_at xs n x y first (sym (ap (slice_get (z ∷ xs)) next) ∙ second)

-- ---- a cell in place of another

pub set_same : {X : Type 0} (xs : List X) (n : ℕ) (x : X) → n < length xs → slice_get (slice_set xs n x) n ≡ Some x
set_same [] n x within = absurd (omega (arith, within))
set_same (y ∷ ys) zero x within = refl
set_same (y ∷ ys) (suc n) x within = set_same ys n x (omega (arith, within))

pub set_other : {X : Type 0} (xs : List X) (n m : ℕ) (x : X) → n ≢ m → slice_get (slice_set xs n x) m ≡ slice_get xs m
set_other [] n m x other = refl
set_other (y ∷ ys) zero zero x other = absurd (other refl)
set_other (y ∷ ys) zero (suc m) x other = refl
set_other (y ∷ ys) (suc n) zero x other = refl
set_other (y ∷ ys) (suc n) (suc m) x other = set_other ys n m x (λ same. other (ap suc same))

pub map_set : {X Y : Type 0} (f : X → Y) (xs : List X) (n : ℕ) (x : X) → map f (slice_set xs n x) ≡ slice_set (map f xs) n (f x)
map_set f [] n x = refl
map_set f (y ∷ ys) zero x = refl
map_set f (y ∷ ys) (suc n) x = ap (λ rest. f y ∷ rest) (map_set f ys n x)

pub map_taken : {X Y : Type 0} (f : X → Y) (n : ℕ) (xs : List X) → map f (take n xs) ≡ take n (map f xs)
map_taken f zero xs = refl
map_taken f (suc n) [] = refl
map_taken f (suc n) (x ∷ xs) = ap (λ rest. f x ∷ rest) (map_taken f n xs)

-- ---- a name and a field after those of the columns before

get_before : {X : Type 0} (xs ys : List X) (n : ℕ) → n < length xs → slice_get (xs ++ ys) n ≡ slice_get xs n
get_before [] ys n below = absurd (omega (arith, below))
get_before (x ∷ xs) ys zero below = refl
get_before (x ∷ xs) ys (suc n) below = get_before xs ys n (omega (arith, below))

get_at : {X : Type 0} (xs : List X) (y : X) (ys : List X) (n : ℕ) → n ≡ length xs → slice_get (xs ++ y ∷ ys) n ≡ Some y
get_at [] y ys n is = ap (slice_get (y ∷ ys)) is
get_at (x ∷ xs) y ys zero is = absurd (omega (arith, is))
get_at (x ∷ xs) y ys (suc n) is = get_at xs y ys n (omega (arith, is))

pub named_more : (rows : RecordRows) (cells : List CellValue) (place : ℕ) (column : ColumnPlan) (field : CellValue) → AreNamed rows cells → length cells ≡ 2 * place
    → slice_get rows.selected.columns place ≡ Some column → AreNamed rows (cells ++ name_cell rows column ∷ field ∷ [])
named_more rows cells place column field are size is =
    let tail = name_cell rows column ∷ field ∷ [] in
    record {
      columns = place + 1;
      count = omega (arith, length-append cells tail, size);
      names = λ k own below at.
          let earlier : 2 * k < length cells → slice_get (cells ++ tail) (2 * k) ≡ slice_get cells (2 * k) = get_before cells tail (2 * k) in
          let here : 2 * k ≡ length cells → slice_get (cells ++ tail) (2 * k) ≡ Some (name_cell rows column) = get_at cells (name_cell rows column) (field ∷ []) (2 * k) in
          let own_name : k < are.columns → slice_get cells (2 * k) ≡ Some (name_cell rows own) = λ less. are.names k own less at in
          grind (arith, earlier, here, own_name, is, at, size, are.count, below);
    }

-- the cell of a field, after that of its column's name
module _ (rows : RecordRows) (cells : List CellValue) (place : ℕ) (field : CellValue) (are : AreNamed rows cells) (within : 2 * place + 1 < length cells) where
  abbrev pub put : List CellValue
  put = slice_set cells (2 * place + 1) field

  pub put_named : AreNamed rows put
  put_named =
      record {
        columns = are.columns;
        count = length-set cells (2 * place + 1) field ∙ are.count;
        names = λ k column below is. set_other cells (2 * place + 1) (2 * k) field (λ same. absurd (omega (arith, same))) ∙ are.names k column below is;
      }

  pub put_pair : (column : ColumnPlan) → slice_get rows.selected.columns place ≡ Some column → take 2 (drop (2 * place) put) ≡ name_cell rows column ∷ field ∷ []
  unfolding put_named
  put_pair column is =
      let below : place < are.columns = omega (arith, within, are.count) in
      two_at put (2 * place) (name_cell rows column) field (put_named.names place column below is) (set_same cells (2 * place + 1) field within)

-- ---- the list of both widths

module _ (t : TableValue) (rows : RecordRows) (records : List (List Text)) where
  pub both_widths : (name field : ℕ) → name ≡ names_width t rows (most_fields records) → field ≡ greatest_at t cell_content_width (flat_map (pairs_by rows) records) 1
      → (i : ℕ) → slice_index_or (name ∷ field ∷ []) i 0 ≡ greatest_at t cell_content_width (flat_map (pairs_by rows) records) i
  both_widths name field named fields zero = named ∙ sym (all_names t rows records)
  both_widths name field named fields (suc zero) = fields
  both_widths name field named fields (suc (suc i)) = sym (none_third t rows i records)

  pub no_widths : names_width t rows (most_fields records) ≡ 0 → (i : ℕ) → 0 ≡ greatest_at t cell_content_width (flat_map (pairs_by rows) records) i
  no_widths none i = sym (ap (λ (made : List RowValue). greatest_at t cell_content_width made i) (none_named t rows records none))
