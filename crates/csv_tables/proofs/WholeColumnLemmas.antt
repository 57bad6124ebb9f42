-- Columns with their own widths, and the room that they need.
use Rattle.std.proofs.Common.{◌≡◌, ◌≤◌, ◌&&◌, nat_le, ℕ, suc, ◌+◌, Bool, true, false, not, List, [], ◌∷◌, Some, None, filter, flat_map, length, map, max, sum_by, unwrap_or, refl, sym, ap, subst, arith}
use Rattle.std.specs.List.{All, AllByRecursion, enumerate_from, range_with_len}
use Rattle.std.specs.Prelude.{if◌then◌else◌}
use Rattle.std.proofs.lemmas.Bool.{leb-true}
use Rattle.std.proofs.lemmas.List.Elements.{All-head, All-map, All-tail}
use Rattle.std.proofs.lemmas.List.Sums.{sum_by-cons}
use Rattle.comfy_parts.proofs.CallerLemmas.{All-every, All-flat_map, every-places, filter_all, no_fewer_columns}
use Rattle.comfy_parts.specs.CellValue.{CellValue, ColumnValue, RowValue, column_padding, is_hidden_column, is_hidden_constraint}
use Rattle.comfy_parts.specs.Text.{Text, greatest, measure}
use Rattle.comfy_parts.specs.declared.style.column.ColumnConstraint.{ColumnConstraint}
use Rattle.comfy_table.proofs.BuiltTableLemmas.{IsNewColumn}
use Rattle.comfy_table.specs.TableValue.{TableValue, column_cells, column_content_width, constrained, with_row, with_rows}
use Rattle.comfy_table.specs.Widths.{ColumnNeeds, fixed_by_boundary, fixed_by_constraint, lower_boundary, needs_of, shown_count, without_padding}
use Rattle.csv_tables.proofs.LeastLemmas.{least_of, lower_or_one}
use Rattle.csv_tables.proofs.NoWrapLemmas.{boundary-within}
use Rattle.csv_tables.specs.Cells.{held, pair_for}
use Rattle.csv_tables.specs.Fields.{field_or_blank}
use Rattle.csv_tables.specs.Columns.{name_at}
use Rattle.csv_tables.specs.Drawn.{SelectedValue, empty_table, pairs_in, pairs_table}
use Rattle.csv_tables.specs.NoWrap.{lower_bound, boundary_for, cell_nowrap_width, field_width, is_nowrap, nowrap_width, with_content, with_second}
use Rattle.csv_tables.specs.declared.options.ColumnPlan.{ColumnPlan}
use Rattle.csv_tables.specs.declared.options.Look.{Look}

-- ---- what columns need

-- these columns need at most their paddings and these contents, and at least one terminal column each
pub record AreNeeds (columns : List ColumnNeeds) (contents : List ℕ) : Type 0 where
  pub count : length columns ≡ length contents
  pub room : sum_by (λ (column : ColumnNeeds). column.padding) columns + sum_by least_of columns ≤ sum_by (λ content. 2 + content) contents
  pub least : length columns ≤ sum_by least_of columns

record IsNeed (column : ColumnNeeds) (content : ℕ) : Type 0 where
  padding : column.padding ≡ 2
  least : 1 ≤ least_of column
  most : least_of column ≤ content

needs-cons : (column : ColumnNeeds) (content : ℕ) (columns : List ColumnNeeds) (contents : List ℕ) → IsNeed column content → AreNeeds columns contents → AreNeeds (column ∷ columns) (content ∷ contents)
needs-cons column content columns contents own more =
    let paddings = sum_by-cons (λ (c : ColumnNeeds). c.padding) column columns in
    let fixed = sum_by-cons least_of column columns in
    let all = sum_by-cons (λ (n : ℕ). 2 + n) content contents in
    record {
      count = ap suc more.count;
      room = omega (arith, paddings, fixed, all, own.padding, own.most, more.room);
      least = omega (arith, fixed, own.least, more.least);
    }

-- ---- columns of a table

-- columns with these content widths as lower boundaries
abbrev pub leasts_on : List ℕ → List ColumnValue → List ColumnValue
leasts_on kept columns = constrained (map lower_bound kept) columns

-- a lower boundary that is fixed at once takes as much as one that isn't
as_much : (content padding l : ℕ) → unwrap_or (fixed_by_boundary content padding (Some l)) (without_padding padding l) ≡ without_padding padding l
as_much content padding l = by_test (nat_le (content + padding) l)
  where
    by_test : (b : Bool) → unwrap_or (if b then Some (without_padding padding l) else None) (without_padding padding l) ≡ without_padding padding l
    by_test true = refl
    by_test false = refl

module _ (table : TableValue) where
  need : (kept needed i : ℕ) (column : ColumnValue) → max 1 kept ≤ needed → IsNewColumn column → IsNeed (needs_of table (i, record column { constraint = Some (lower_bound kept) })) needed
  need kept needed i column within new =
      let one : column.padding.0 ≡ 1 = ap (λ (x : ℕ × ℕ). x.0) new.padding in
      let other : column.padding.1 ≡ 1 = ap (λ (x : ℕ × ℕ). x.1) new.padding in
      let takes : least_of (needs_of table (i, record column { constraint = Some (lower_bound kept) })) ≡ without_padding (column_padding column) (boundary_for kept) = as_much (column_content_width table i) (column_padding column) (boundary_for kept) in
      record { padding = omega (arith, one, other); least = omega (arith, takes, one, other); most = omega (arith, takes, one, other, within, boundary-within kept) }

  pub needs : (kept needed : ℕ → ℕ) → ((i : ℕ) → max 1 (kept i) ≤ needed i) → (columns : List ColumnValue) (n : ℕ) → AllByRecursion IsNewColumn columns
      → AreNeeds (map (needs_of table) (enumerate_from n (leasts_on (map kept (range_with_len n (length columns))) columns))) (map needed (range_with_len n (length columns)))
  needs kept needed within [] n new = record { count = refl; room = omega arith; least = omega arith }
  needs kept needed within (column ∷ columns) n new = needs-cons _ _ _ _ (need (kept n) (needed n) n column (within n) new.0) (needs kept needed within columns (n + 1) new.1)

-- none of these columns is hidden
shown : (column : ColumnValue) → IsNewColumn column → not (is_hidden_column column) ≡ true
shown column new = ap (λ c. not (is_hidden_constraint c)) new.no_constraint

each_shown : (kept : List ℕ) (columns : List ColumnValue) → AllByRecursion IsNewColumn columns → AllByRecursion (λ (column : ColumnValue). not (is_hidden_column column) ≡ true) (leasts_on kept columns)
each_shown [] [] new = tt
each_shown [] (column ∷ columns) new = (shown column new.0, each_shown [] columns new.1)
each_shown (least ∷ more) [] new = tt
each_shown (least ∷ more) (column ∷ columns) new = (refl, each_shown more columns new.1)

-- all of them are shown
pub all_shown : (kept : List ℕ) (columns : List ColumnValue) → AllByRecursion IsNewColumn columns
    → filter (λ (p : ℕ × ColumnValue). not (is_hidden_column p.1)) (enumerate_from 0 (leasts_on kept columns)) ≡ enumerate_from 0 (leasts_on kept columns)
all_shown kept columns new =
    filter_all (λ (p : ℕ × ColumnValue). not (is_hidden_column p.1)) (enumerate_from 0 (leasts_on kept columns))
    (every-places (λ (column : ColumnValue). not (is_hidden_column column) ≡ true) 0 (leasts_on kept columns) (each_shown kept columns new))

-- constraints don't change the number of columns
pub constrained-length : (constraints : List ColumnConstraint) (columns : List ColumnValue) → length (constrained constraints columns) ≡ length columns
constrained-length [] columns = refl
constrained-length (first ∷ more) [] = refl
constrained-length (first ∷ more) (column ∷ columns) = ap suc (constrained-length more columns)

pub leasts-length : (kept : List ℕ) (columns : List ColumnValue) → length (leasts_on kept columns) ≡ length columns
leasts-length kept columns = constrained-length (map lower_bound kept) columns

-- a column with the paddings and the delimiter of a new column
pub record IsPaddedColumn (column : ColumnValue) : Type 0 where
  pub padding : column.padding ≡ (1, 1)
  pub no_delimiter : column.delimiter ≡ None
  pub no_alignment : column.alignment ≡ None

padded_column : (column : ColumnValue) → IsNewColumn column → IsPaddedColumn column
padded_column column new = record { padding = new.padding; no_delimiter = new.no_delimiter; no_alignment = new.no_alignment }

pub padded_columns : (kept : List ℕ) (columns : List ColumnValue) → AllByRecursion IsNewColumn columns → AllByRecursion IsPaddedColumn (leasts_on kept columns)
padded_columns [] [] new = tt
padded_columns [] (column ∷ columns) new = (padded_column column new.0, padded_columns [] columns new.1)
padded_columns (least ∷ more) [] new = tt
padded_columns (least ∷ more) (column ∷ columns) new = (record { padding = new.0.padding; no_delimiter = new.0.no_delimiter; no_alignment = new.0.no_alignment }, padded_columns more columns new.1)

-- ---- names and fields

-- a number or date is at most as wide as the room, or counts as 0
line-within : (room : ℕ) (line : Text) → nowrap_width room line ≤ room
line-within room line = by_test (is_nowrap line) (nat_le (measure line) room) refl
  where
    by_test : (a b : Bool) → nat_le (measure line) room ≡ b → (if a && b then measure line else 0) ≤ room
    by_test true true fits = leb-true (measure line) room fits
    by_test true false fits = omega arith
    by_test false b fits = omega arith

greatest-within : {A : Type 0} (room : ℕ) (f : A → ℕ) → ((x : A) → f x ≤ room) → (xs : List A) → greatest (map f xs) ≤ room
greatest-within room f each [] = omega arith
greatest-within room f each (x ∷ xs) = let own = each x in let more = greatest-within room f each xs in omega (arith, own, more)

pub field_width-within : (room : ℕ) (table : TableValue) → field_width room table ≤ room
field_width-within room table =
    greatest-within room (cell_nowrap_width room) (λ (cell : CellValue). greatest-within room (nowrap_width room) (line-within room) cell.text_lines) (column_cells table 1)

-- a row of two cells
abbrev pub HasTwo : RowValue → Type 0
HasTwo row = length row.cells ≡ 2

-- a table of expanded records has at most two columns
two_at_most : (rows : List RowValue) (table : TableValue) → All HasTwo rows → length table.columns ≤ 2 → length (with_rows rows table).columns ≤ 2
two_at_most [] table two below = below
two_at_most (row ∷ rows) table two below =
    let own : length row.cells ≡ 2 = All-head HasTwo row rows two in
    let grown = no_fewer_columns (length row.cells) table.columns in
    two_at_most rows (with_row row table) (All-tail HasTwo row rows two) (omega (arith, own, grown, below))

two_stay : (rows : List RowValue) (table : TableValue) → All HasTwo rows → length table.columns ≡ 2 → length (with_rows rows table).columns ≡ 2
two_stay [] table two is = is
two_stay (row ∷ rows) table two is =
    let own : length row.cells ≡ 2 = All-head HasTwo row rows two in
    let grown = no_fewer_columns (length row.cells) table.columns in
    two_stay rows (with_row row table) (All-tail HasTwo row rows two) (omega (arith, own, grown, is))

-- with a row, it has both
pub exactly_two : (row : RowValue) (rows : List RowValue) (table : TableValue) → All HasTwo (row ∷ rows) → length table.columns ≤ 2 → length (with_rows (row ∷ rows) table).columns ≡ 2
exactly_two row rows table two below =
    let own : length row.cells ≡ 2 = All-head HasTwo row rows two in
    let grown = no_fewer_columns (length row.cells) table.columns in
    two_stay rows (with_row row table) (All-tail HasTwo row rows two) (omega (arith, own, grown, below))

pub pairs_are_two : (look : Look) (content : SelectedValue) → All HasTwo (flat_map (pairs_in look content) content.rows)
pairs_are_two look content =
    let names = unwrap_or content.names [] in
    All-flat_map HasTwo (pairs_in look content) content.rows
    (All-every (λ (fields : List Text). All HasTwo (pairs_in look content fields)) content.rows
    (λ fields. All-map HasTwo (λ (column : ColumnPlan). pair_for look (name_at names column.position) (field_or_blank fields column.position)) (held fields content.columns)
    (All-every (λ (column : ColumnPlan). HasTwo (pair_for look (name_at names column.position) (field_or_blank fields column.position))) (held fields content.columns) (λ column. refl))))

pub pairs_have_two : (look : Look) (content : SelectedValue) → length (pairs_table look content).columns ≤ 2
pairs_have_two look content = two_at_most (flat_map (pairs_in look content) content.rows) (empty_table look) (pairs_are_two look content) (omega arith)

-- the fields have a width, beside new columns of names
pub padded_second : (field : ℕ) (columns : List ColumnValue) → AllByRecursion IsNewColumn columns → AllByRecursion IsPaddedColumn (with_second field columns)
padded_second field [] new = tt
padded_second field (a ∷ []) new = (padded_column a new.0, tt)
padded_second field (a ∷ b ∷ more) new = (padded_column a new.0, (record { padding = new.1.0.padding; no_delimiter = new.1.0.no_delimiter; no_alignment = new.1.0.no_alignment }, padded_columns [] more new.1.1))

module _ (table : TableValue) (field : ℕ) (a b : ColumnValue) (new : AllByRecursion IsNewColumn (a ∷ b ∷ [])) where
  -- both columns are shown
  pub both_shown : filter (λ (p : ℕ × ColumnValue). not (is_hidden_column p.1)) (enumerate_from 0 (with_second field (a ∷ b ∷ []))) ≡ (0, a) ∷ (1, with_content field b) ∷ []
  both_shown =
      filter_all (λ (p : ℕ × ColumnValue). not (is_hidden_column p.1)) (enumerate_from 0 (with_second field (a ∷ b ∷ [])))
      (every-places (λ (column : ColumnValue). not (is_hidden_column column) ≡ true) 0 (with_second field (a ∷ b ∷ [])) (shown a new.0, (refl, tt)))

  need_second : IsNeed (needs_of table (1, with_content field b)) (max 1 field)
  need_second =
      let one : b.padding.0 ≡ 1 = ap (λ (x : ℕ × ℕ). x.0) new.1.0.padding in
      let other : b.padding.1 ≡ 1 = ap (λ (x : ℕ × ℕ). x.1) new.1.0.padding in
      record { padding = omega (arith, one, other); least = omega arith; most = omega (arith, one, other) }

  -- names may be broken
  need_first : (n : ℕ) → 1 ≤ n → IsNeed (needs_of table (0, a)) n
  need_first n some =
      let one : a.padding.0 ≡ 1 = ap (λ (x : ℕ × ℕ). x.0) new.0.padding in
      let other : a.padding.1 ≡ 1 = ap (λ (x : ℕ × ℕ). x.1) new.0.padding in
      let free : least_of (needs_of table (0, a)) ≡ 1 =
      ap (λ c. unwrap_or (fixed_by_constraint table (shown_count table) (column_content_width table 0) (column_padding a) c) (lower_or_one (column_padding a) (lower_boundary table (shown_count table) c))) new.0.no_constraint in
      record { padding = omega (arith, one, other); least = omega (arith, free); most = omega (arith, free, some) }

  pub second_needs : (n : ℕ) → 1 ≤ n → AreNeeds (map (needs_of table) (filter (λ (p : ℕ × ColumnValue). not (is_hidden_column p.1)) (enumerate_from 0 (with_second field (a ∷ b ∷ []))))) (n ∷ max 1 field ∷ [])
  second_needs n some =
      subst (λ (ps : List (ℕ × ColumnValue)). AreNeeds (map (needs_of table) ps) (n ∷ max 1 field ∷ [])) (sym both_shown)
      (needs-cons _ _ _ _ (need_first n some) (needs-cons _ _ _ _ need_second (record { count = refl; room = omega arith; least = omega arith })))
