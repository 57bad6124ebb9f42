-- The drawn records, and the columns for the cells of their rows.
use Rattle.std.proofs.Common.{◌≡◌, ◌<◌, ◌≤◌, ℕ, take, Bool, true, false, List, [], ◌∷◌, ◌++◌, Option, Some, None, flat_map, length, map, max, refl, sym, ap, subst, arith, append_assoc, length-append}
use Rattle.std.specs.List.{All}
use Rattle.std.specs.Prelude.{option_to_list}
use Rattle.std.proofs.lemmas.List.{length-take-le, take-append-le}
use Rattle.std.proofs.lemmas.List.Elements.{All-append, All-cons, All-head, All-nil, All-tail, All-take, All-weaker}
use Rattle.comfy_parts.proofs.CallerLemmas.{no_fewer_columns}
use Rattle.comfy_parts.specs.CellValue.{RowValue, columns_grown_to}
use Rattle.comfy_parts.specs.Text.{Text}
use Rattle.comfy_table.specs.TableValue.{TableValue, header_and_rows, with_row, with_rows}
use Rattle.csv_tables.proofs.BuiltLemmas.{plain_table}
use Rattle.csv_tables.specs.Cells.{header_for, row_for, counted_from}
use Rattle.csv_tables.specs.Drawn.{SelectedValue, empty_table, headed_table, limited, names_of, pairs_in, records_below}
use Rattle.csv_command.specs.Drawn.{most_drawn}
use Rattle.csv_tables.specs.declared.options.ColumnPlan.{ColumnPlan}
use Rattle.csv_tables.specs.declared.options.Look.{Look}

-- ---- columns

-- each cell of a row has a column
abbrev pub HasColumns : TableValue → RowValue → Type 0
HasColumns table row = length row.cells ≤ length table.columns

-- it still has one after rows are appended to the table
rows_have_columns : (rows : List RowValue) (t : TableValue) → All (HasColumns t) (header_and_rows t) → All (HasColumns (with_rows rows t)) (header_and_rows (with_rows rows t))
rows_have_columns [] t each = each
rows_have_columns (row ∷ rows) t each =
    rows_have_columns rows (with_row row t)
    (subst (All Has) (append_assoc (option_to_list t.header) t.rows (row ∷ []))
    (All-append Has (header_and_rows t) (row ∷ []) (All-weaker (HasColumns t) Has (λ r own. omega (arith, own, grown)) (header_and_rows t) each) (All-cons Has row [] (omega (arith, grown)) (All-nil Has))))
  where
    Has : RowValue → Type 0
    Has = HasColumns (with_row row t)

    grown : length (columns_grown_to (length row.cells) t.columns) ≡ max (length row.cells) (length t.columns)
    grown = no_fewer_columns (length row.cells) t.columns

header_has_columns : (look : Look) (is_numbered : Bool) (columns : List ColumnPlan) (names : Option (List Text)) → All (HasColumns (headed_table look is_numbered columns names)) (header_and_rows (headed_table look is_numbered columns names))
header_has_columns look is_numbered columns None = All-nil (HasColumns (empty_table look))
header_has_columns look is_numbered columns (Some names) =
    let header = header_for look is_numbered columns names in
    let grown = no_fewer_columns (length header.cells) [] in
    All-cons (HasColumns (headed_table look is_numbered columns (Some names))) header [] (omega (arith, grown)) (All-nil (HasColumns (headed_table look is_numbered columns (Some names))))

pub table_has_columns : (is_expanded is_aligned : Bool) (look : Look) (content : SelectedValue) → All (HasColumns (plain_table is_expanded is_aligned look content)) (header_and_rows (plain_table is_expanded is_aligned look content))
table_has_columns true is_aligned look content = rows_have_columns (flat_map (pairs_in look content) content.rows) (empty_table look) (All-nil (HasColumns (empty_table look)))
table_has_columns false is_aligned look content = rows_have_columns (map (row_for look is_aligned content.is_numbered content.columns) (counted_from 1 content.rows)) (headed_table look content.is_numbered content.columns content.names) (header_has_columns look content.is_numbered content.columns content.names)

-- further rows leave the header as it is, and remove no column
pub with_rows-header : (rows : List RowValue) (t : TableValue) → (with_rows rows t).header ≡ t.header
with_rows-header [] t = refl
with_rows-header (row ∷ rows) t = with_rows-header rows (with_row row t)

pub with_rows-columns : (n : ℕ) (rows : List RowValue) (t : TableValue) → n ≤ length t.columns → n ≤ length (with_rows rows t).columns
with_rows-columns n [] t own = own
with_rows-columns n (row ∷ rows) t own = with_rows-columns n rows (with_row row t) (omega (arith, own, no_fewer_columns (length row.cells) t.columns))

-- ---- records

all_limited : {A : Type 0} (P : A → Type 0) (limit : Option ℕ) (xs : List A) → All P xs → All P (limited limit xs)
all_limited P None xs each = each
all_limited P (Some n) xs each = All-take P n xs each

-- a property of each record is one of the header and of each drawn row
pub all_drawn : (P : List Text → Type 0) (has_header : Bool) (limit : Option ℕ) (records : List (List Text)) → All P records → All P (option_to_list (names_of has_header records) ++ limited limit (records_below has_header records))
all_drawn P true limit [] each = all_limited P limit [] (All-nil P)
all_drawn P true limit (names ∷ rows) each = All-cons P names (limited limit rows) (All-head P names rows each) (all_limited P limit rows (All-tail P names rows each))
all_drawn P false limit records each = all_limited P limit records each

-- if more records are read than are drawn, the same header and the same rows are drawn of all records
pub record AreDrawnFirst (has_header : Bool) (limit : ℕ) (first all : List (List Text)) : Type 0 where
  pub names : names_of has_header first ≡ names_of has_header all
  pub rows : limited (Some limit) (records_below has_header first) ≡ limited (Some limit) (records_below has_header all)
  pub fewer : length (limited (Some limit) (records_below has_header all)) < length (records_below has_header all)

first_rows : (limit : ℕ) (rows more : List (List Text)) → limit < length rows → (take limit rows ≡ take limit (rows ++ more)) × (length (take limit (rows ++ more)) < length (rows ++ more))
first_rows limit rows more below =
    let same = take-append-le limit rows more (omega (arith, below)) in
    let long = length-take-le limit rows (omega (arith, below)) in
    (sym same, omega (arith, ap length same, long, below, length-append rows more))

pub first_are_drawn : (has_header : Bool) (limit : ℕ) (first more : List (List Text)) → most_drawn has_header limit < length first → AreDrawnFirst has_header limit first (first ++ more)
first_are_drawn true limit [] more below = absurd (omega (arith, below))
first_are_drawn true limit (names ∷ rows) more below = let own = first_rows limit rows more (omega (arith, below)) in record { names = refl; rows = own.0; fewer = own.1 }
first_are_drawn false limit first more below = let own = first_rows limit first more below in record { names = refl; rows = own.0; fewer = own.1 }
