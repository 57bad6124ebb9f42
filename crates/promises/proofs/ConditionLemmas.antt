-- Meeting the conditions of promises, for callers.
use Rattle.std.proofs.Common.{get_or, ◌≡◌, ◌==◌, ◌&&◌, ◌≤◌, ◌<◌, ◌-◌, ℕ, Bool, true, false, not, List, [], ◌∷◌, ◌++◌, None, Some, Option, append-nil, refl, sym, ap, ◌∙◌, subst, arith, length, max, nat_le, ap₂, flat_map}
use Rattle.std.specs.List.{All, join_by, list_all, range_with_len, slice_split}
use Rattle.std.specs.Int.{is_in_range}
use Rattle.std.specs.Prelude.{decimal, encode_utf8}
use Rattle.std.proofs.lemmas.Bool.{and_parts}
use Rattle.std.proofs.lemmas.Bool.Decides.{nat_tests}
use Rattle.std.proofs.lemmas.Grind.{flat_map-append}
use Rattle.std.proofs.lemmas.List.{append_assoc}
use Rattle.std.proofs.lemmas.List.Elements.{All-append, All-cons, All-filter, All-head, All-map, All-nil, All-tail, All-weaker}
use Rattle.std.proofs.lemmas.Str.{chars-IsAscii, encode_ascii}
use Rattle.cluster_width.specs.ClusterSums.{clash, selectors_agree}
use Rattle.std.proofs.lemmas.List.Sums.{AllPass-from_list_all, list_all-from_AllPass}
use Rattle.comfy_parts.proofs.CallerLemmas.{All-every, ascii-printable, below_seven_bits, frame_adds, frame_apart, measure-printable, no_fewer_columns}
use Rattle.comfy_parts.proofs.PrintableLineLemmas.{parts-all}
use Rattle.comfy_parts.proofs.Computing.{wrapping}
use Rattle.comfy_parts.specs.CellValue.{CellValue, ColumnInfo, ColumnValue, RowValue, columns_grown_to, is_hidden_column, new_column, plain_cell}
use Rattle.comfy_parts.specs.Columns.{CharactersFit, IsApart, IsOneColumn, character_fits}
use Rattle.comfy_parts.specs.Text.{Text, is_printable_ascii, measure}
use Rattle.comfy_parts.specs.VisibleText.{is_parameter}
use Rattle.comfy_table.proofs.StyledLemmas.{decimal-parameters}
use Rattle.comfy_table.specs.Drawing.{drawn_row, drawn_rows, outer_widths}
use Rattle.comfy_table.specs.Frame.{optional_frame_line}
use Rattle.comfy_table.specs.TableValue.{TableValue, ellipsis, header_and_rows, with_header, with_row, with_rows}
use Rattle.promises.specs.Tables.{HasPlainFrame}
use Rattle.promises.specs.Rows.{IsNarrowCell}
use Rattle.promises.specs.Conditions.{HasNewFrame, IsEmpty, IsNewColumn, IsOfRows, PartsMakeTheWhole, framed}

-- ---- printable ASCII

one_column : (c : ℕ) → is_in_range 0x20 0x7E c ≡ true → character_fits 1 c ≡ true
one_column c printable =
    let below = below_seven_bits c printable in
    let text : encode_utf8 c ≡ c ∷ [] = encode_ascii c (omega (arith, below)) in
    let size : measure (c ∷ []) ≡ 1 = measure-printable (c ∷ []) (ap (λ t. t && true) printable) in
    ap (λ t. nat_le (measure t) 1) text ∙ ap (λ n. nat_le n 1) size

each_one : (cs : List ℕ) → list_all (is_in_range 0x20 0x7E) cs ≡ true → list_all (character_fits 1) cs ≡ true
each_one cs all = list_all-from_AllPass (character_fits 1) cs (λ k default below. one_column _ (AllPass-from_list_all (is_in_range 0x20 0x7E) cs all k default below))

-- no printable character is a variation selector
agree : (cs : List ℕ) → list_all (is_in_range 0x20 0x7E) cs ≡ true → selectors_agree cs ≡ true
agree [] all = refl
agree (c ∷ []) all = refl
agree (c ∷ d ∷ cs) all =
    let both = and_parts (is_in_range 0x20 0x7E c) (list_all (is_in_range 0x20 0x7E) (d ∷ cs)) all in
    let next = and_parts (is_in_range 0x20 0x7E d) (list_all (is_in_range 0x20 0x7E) cs) both.1 in
    let below = below_seven_bits c both.0 in
    let after = below_seven_bits d next.0 in
    let apart : clash c d ≡ false = grind (arith, nat_tests, below, after) in
    ap₂ (λ a b. not a && b) apart (agree (d ∷ cs) both.1)

narrow_text : (text : Text) → is_printable_ascii text ≡ true → CharactersFit 1 text
narrow_text text printable =
    ap (characters_all 1) (chars-IsAscii text (ascii-printable text printable)) ∙ ap₂ (λ a b. a && b) (each_one text printable) (agree text printable)
  where
    characters_all : ℕ → List ℕ → Bool
    characters_all w cs = list_all (character_fits w) cs && selectors_agree cs

pub narrow_cell : (text : Text) → is_printable_ascii text ≡ true → IsNarrowCell (plain_cell text)
narrow_cell text printable =
    let parts = slice_split (λ b. b == 0x0A) text in
    let each = AllPass-from_list_all is_printable_ascii parts (parts-all (is_in_range 0x20 0x7E) (λ b. b == 0x0A) text printable) in
    record { delimiter = refl; characters = λ k default below. narrow_text _ (each k default below) }

-- ---- frames

ellipsis_is : encode_utf8 0x2026 ≡ ellipsis
unfolding wrapping
ellipsis_is = refl

pub ellipsis_apart : IsApart ellipsis
ellipsis_apart = subst IsApart (append-nil (encode_utf8 0x2026) ∙ ellipsis_is) (frame_apart 0x2026 [] refl)

one_space : (o : Option ℕ) → o ≡ None → IsOneColumn o
one_space o none = subst IsOneColumn (sym none) (frame_adds 0x20 refl)

pub plain_frame : (table : TableValue) → HasNewFrame table → HasPlainFrame table
plain_frame table new =
    record {
      style = new.style;
      delimiter = one_space table.delimiter new.delimiter;
      column_delimiters = All-weaker IsNewColumn (λ (column : ColumnValue). IsOneColumn column.delimiter) (λ column is. one_space column.delimiter is.no_delimiter) table.columns new.columns;
      cell_delimiters = All-weaker (λ (row : RowValue). All (λ (cell : CellValue). cell.delimiter ≡ None) row.cells) (λ (row : RowValue). All (λ (cell : CellValue). IsOneColumn cell.delimiter) row.cells)
          (λ row all. All-weaker (λ (cell : CellValue). cell.delimiter ≡ None) (λ (cell : CellValue). IsOneColumn cell.delimiter) (λ cell none. one_space cell.delimiter none) row.cells all) (header_and_rows table) new.cells;
      indicator = subst IsApart (sym new.indicator) ellipsis_apart;
      paddings = All-filter (λ (column : ColumnValue). not (is_hidden_column column)) (λ (column : ColumnValue). 1 ≤ column.padding.0) table.columns
          (All-weaker IsNewColumn (λ (column : ColumnValue). 1 ≤ column.padding.0) (λ column is. let one : column.padding.0 ≡ 1 = ap (λ (x : ℕ × ℕ). x.0) is.padding in omega (arith, one)) table.columns new.columns);
    }

-- ---- rows

grown : (n : ℕ) (columns : List ColumnValue) → All IsNewColumn columns → All IsNewColumn (columns_grown_to n columns)
grown n columns each =
    All-append IsNewColumn columns _ each
    (All-map IsNewColumn new_column (range_with_len (length columns) (n - length columns))
    (All-every (λ i. IsNewColumn (new_column i)) (range_with_len (length columns) (n - length columns)) (λ i. record { padding = refl; no_constraint = refl; no_delimiter = refl })))

-- one more row
more : (base : TableValue) (header : RowValue) (rows : List RowValue) (row : RowValue) (table : TableValue) → IsOfRows base header rows table → IsOfRows base header (rows ++ row ∷ []) (with_row row table)
more base header rows row table so_far =
    let wide = no_fewer_columns (length row.cells) table.columns in
    let Room : RowValue → Type 0 = λ (r : RowValue). length r.cells ≤ length (columns_grown_to (length row.cells) table.columns) in
    record {
      is = ap (λ (t : TableValue). with_row row t) so_far.is;
      columns = grown (length row.cells) table.columns so_far.columns;
      room = All-append (λ (r : RowValue). length r.cells ≤ length (columns_grown_to (length row.cells) table.columns)) (header ∷ rows) (row ∷ [])
          (All-weaker (λ (r : RowValue). length r.cells ≤ length table.columns) (λ (r : RowValue). length r.cells ≤ length (columns_grown_to (length row.cells) table.columns)) (λ r own. omega (arith, own, wide)) (header ∷ rows) so_far.room)
          (All-cons (λ (r : RowValue). length r.cells ≤ length (columns_grown_to (length row.cells) table.columns)) row [] (omega (arith, wide)) (All-nil (λ (r : RowValue). length r.cells ≤ length (columns_grown_to (length row.cells) table.columns))));
    }

all_added : (base : TableValue) (header : RowValue) (rows added : List RowValue) (table : TableValue) → IsOfRows base header rows table → IsOfRows base header (rows ++ added) (with_rows added table)
all_added base header rows [] table so_far = subst (λ (rs : List RowValue). IsOfRows base header rs table) (sym (append-nil rows)) so_far
all_added base header rows (row ∷ added) table so_far =
    subst (λ (rs : List RowValue). IsOfRows base header rs (with_rows added (with_row row table))) (append_assoc rows (row ∷ []) added)
    (all_added base header (rows ++ row ∷ []) added (with_row row table) (more base header rows row table so_far))

pub of_rows : (base : TableValue) (header : RowValue) (rows : List RowValue) → IsEmpty base → IsOfRows base header rows (with_rows rows (with_header header base))
of_rows base header rows empty = all_added base header [] rows (with_header header base) first
  where
    wide : length (columns_grown_to (length header.cells) base.columns) ≡ max (length header.cells) (length base.columns)
    wide = no_fewer_columns (length header.cells) base.columns

    first : IsOfRows base header [] (with_header header base)
    first =
        record {
          is = ap (λ (rs : List RowValue). record base { columns = columns_grown_to (length header.cells) base.columns; header = Some header; rows = rs }) empty.no_rows;
          columns = grown (length header.cells) base.columns (subst (All IsNewColumn) (sym empty.no_columns) (All-nil IsNewColumn));
          room = All-cons (λ (r : RowValue). length r.cells ≤ length (columns_grown_to (length header.cells) base.columns)) header [] (omega (arith, wide)) (All-nil (λ (r : RowValue). length r.cells ≤ length (columns_grown_to (length header.cells) base.columns)));
        }

-- ---- parts

module _ {X Y : Type 0} (f : X → List Y) (between : List Y) where
  -- the lines after the first part
  later : (parts : List (List X)) → All (λ part. 0 < length part) parts
      → flat_map (λ x. between ++ f x) (flat_map (λ (part : List X). part) parts) ≡ flat_map (λ part. between ++ join_by f between part) parts
  later [] some = refl
  later ([] ∷ parts) some = absurd (let none = All-head (λ (part : List X). 0 < length part) [] parts some in omega (arith, none))
  later ((x ∷ xs) ∷ parts) some =
      flat_map-append (λ z. between ++ f z) (x ∷ xs) (flat_map (λ (part : List X). part) parts)
      ∙ ap (λ t. flat_map (λ z. between ++ f z) (x ∷ xs) ++ t) (later parts (All-tail (λ (part : List X). 0 < length part) (x ∷ xs) parts some))
      ∙ ap (λ t. t ++ flat_map (λ part. between ++ join_by f between part) parts) (append_assoc between (f x) (flat_map (λ z. between ++ f z) xs))

  pub joined : (parts : List (List X)) → All (λ part. 0 < length part) parts
      → join_by f between (flat_map (λ (part : List X). part) parts) ≡ join_by (join_by f between) between parts
  joined [] some = refl
  joined ([] ∷ parts) some = absurd (let none = All-head (λ (part : List X). 0 < length part) [] parts some in omega (arith, none))
  joined ((x ∷ xs) ∷ parts) some =
      ap (λ t. f x ++ t) (flat_map-append (λ z. between ++ f z) xs (flat_map (λ (part : List X). part) parts))
      ∙ sym (append_assoc (f x) (flat_map (λ z. between ++ f z) xs) (flat_map (λ z. between ++ f z) (flat_map (λ (part : List X). part) parts)))
      ∙ ap (λ t. (f x ++ flat_map (λ z. between ++ f z) xs) ++ t) (later parts (All-tail (λ (part : List X). 0 < length part) (x ∷ xs) parts some))

-- the drawing of all rows consists of the parts, put together
pub whole_of_parts : (table : TableValue) (infos : List ColumnInfo) (parts : List (List RowValue)) → PartsMakeTheWhole table infos parts
whole_of_parts table infos parts rows some =
    ap (λ (rs : List RowValue). framed table infos (drawn_rows table infos rs)) (sym rows)
    ∙ ap (framed table infos) (joined (drawn_row table infos table.style.content_lines) (optional_frame_line table.style table.style.row_separator (outer_widths infos)) parts some)

-- ---- numbers

one_digit : (c : ℕ) → is_parameter c ≡ true → is_in_range 0x20 0x7E c ≡ true
one_digit c is = grind (arith, nat_tests)

pub printable_number : (n : ℕ) → is_printable_ascii (decimal n) ≡ true
printable_number n =
    list_all-from_AllPass (is_in_range 0x20 0x7E) (decimal n) (λ k default below. one_digit (get_or (decimal n) k default) (AllPass-from_list_all is_parameter (decimal n) (decimal-parameters n) k default below))
