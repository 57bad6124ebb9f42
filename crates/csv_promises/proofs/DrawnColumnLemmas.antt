-- The number of columns that a layout draws of records.
use Rattle.std.proofs.Common.{◌≡◌, ◌≤◌, ◌<◌, ◌||◌, ◌==◌, ℕ, ◌+◌, Bool, true, false, List, [], ◌∷◌, Option, None, fold, length, map, max, nat_lt, unwrap_or, refl, sym, ap, ap₂, ◌∙◌, subst, arith}
use Rattle.std.specs.List.{All, list_any}
use Rattle.std.specs.Prelude.{if◌then◌else◌}
use Rattle.std.proofs.lemmas.List.{length-map}
use Rattle.std.proofs.lemmas.List.Elements.{All-head, All-tail}
use Rattle.comfy_parts.proofs.CallerLemmas.{All-of_map}
use Rattle.comfy_parts.specs.Text.{Text}
use Rattle.csv_tables.proofs.RowLemmas.{positions-shown}
use Rattle.csv_tables.specs.Columns.{count_of, seen}
use Rattle.csv_tables.specs.Drawn.{SelectedValue, columns_of, drawn_rows, names_or_none, selected_of}
use Rattle.csv_tables.specs.declared.options.ColumnPlan.{ColumnPlan}
use Rattle.csv_tables.specs.declared.options.Layout.{Layout}
use Rattle.csv_promises.proofs.FrameLemmas.{reaches}
use Rattle.csv_promises.specs.Width.{columns_in}

-- ---- fields at positions

-- a position past the names is in one of the rows
in_row : (p : ℕ) (rows : List (List Text)) (n : ℕ) → n ≤ p → p < fold (λ (m : ℕ) (fields : List Text). max m (length fields)) n rows → list_any (λ (fields : List Text). nat_lt p (length fields)) rows ≡ true
in_row p [] n past below = absurd (omega (arith, past, below))
in_row p (fields ∷ rows) n past below = by_test (nat_lt p (length fields)) refl (λ short. in_row p rows (max n (length fields)) (omega (arith, past, short)) below)
  where
    by_test : (b : Bool) → nat_lt p (length fields) ≡ b → (length fields ≤ p → list_any (λ (f : List Text). nat_lt p (length f)) rows ≡ true) → (b || list_any (λ (f : List Text). nat_lt p (length f)) rows) ≡ true
    by_test true own later = refl
    by_test false own later = later (grind (arith, own))

-- ---- contents

-- without names, each position is that of a column of the rows
abbrev pub AreBelow : List Text → List (List Text) → List ℕ → Type 0
AreBelow names rows positions = names ≡ [] → All (λ (k : ℕ). k < count_of [] rows) positions

module _ (layout : Layout) (records : List (List Text)) (known : Option ℕ) (content : SelectedValue) (is : selected_of known layout records ≡ content) where
  abbrev names : List Text
  names = names_or_none layout.selection records

  abbrev rows : List (List Text)
  rows = drawn_rows layout.selection records

  abbrev columns : List ColumnPlan
  columns = columns_of layout records

  pub placed : map (λ (column : ColumnPlan). column.position) columns ≡ layout.columns.drawn
  placed = positions-shown layout.columns (map (seen layout.look.has_sequences) rows)

  long : length columns ≡ length layout.columns.drawn
  long = omega (arith, length-map columns (λ (column : ColumnPlan). column.position), ap length placed)

  own_columns : content.columns ≡ columns
  own_columns = sym (ap (λ (c : SelectedValue). c.columns) is)

  pub some_drawn : 1 ≤ length layout.columns.drawn → 1 ≤ length content.columns
  some_drawn some = omega (arith, some, long, ap (λ (cs : List ColumnPlan). length cs) own_columns)

  -- the number of drawn columns, including that of record numbers
  pub drawn_count : length content.columns + (if content.is_numbered then 1 else 0) ≡ columns_in layout
  drawn_count = ap₂ (λ (n : ℕ) (b : Bool). n + (if b then 1 else 0)) (ap (λ (cs : List ColumnPlan). length cs) own_columns ∙ long) (sym (ap (λ (c : SelectedValue). c.is_numbered) is))

  same_rows : content.rows ≡ rows
  same_rows = sym (ap (λ (c : SelectedValue). c.rows) is)

  -- there are rows if records are drawn below the header
  pub no_rows-is : (length content.rows == 0) ≡ (length rows == 0)
  no_rows-is = ap (λ (rs : List (List Text)). length rs == 0) same_rows

  -- without names, a row has the field of the last column
  pub reaches_last : 1 ≤ length layout.columns.drawn → AreBelow names rows layout.columns.drawn → content.names ≡ None → reaches content.columns content.rows ≡ true
  reaches_last some inside none =
      ap₂ (λ (cs : List ColumnPlan) (rs : List (List Text)). reaches cs rs) own_columns same_rows ∙ by_columns columns (omega (arith, some, long)) below
    where
      unnamed : names ≡ []
      unnamed = ap (λ (o : Option (List Text)). unwrap_or o []) (ap (λ (c : SelectedValue). c.names) is ∙ none)

      IsIn : ColumnPlan → Type 0
      IsIn column = column.position < count_of [] rows

      below : All IsIn columns
      below = All-of_map (λ (k : ℕ). k < count_of [] rows) (λ (column : ColumnPlan). column.position) columns (subst (All (λ (k : ℕ). k < count_of [] rows)) (sym placed) (inside unnamed))

      by_columns : (cs : List ColumnPlan) → 1 ≤ length cs → All IsIn cs → reaches cs rows ≡ true
      by_columns [] one in_rows = absurd (omega (arith, one))
      by_columns (column ∷ []) one in_rows = in_row column.position rows 0 (omega arith) (All-head IsIn column [] in_rows)
      by_columns (column ∷ next ∷ more) one in_rows = by_columns (next ∷ more) (omega arith) (All-tail IsIn column (next ∷ more) in_rows)
