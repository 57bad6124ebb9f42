-- Rows of cells of one text line, in columns that have room for them.
use Rattle.std.proofs.Common.{◌≡◌, ◌<◌, ◌≤◌, ◌+◌, ◌||◌, ℕ, suc, Bool, true, false, List, [], ◌∷◌, ◌++◌, All, IfSome, Option, Some, None, length, map, max, nat_lt, slice_get, slice_index_or, refl, ap, ap₂, sym, subst, ◌∙◌, arith, unwrap_or, ⊎_elim}
use Rattle.std.proofs.lemmas.Bool.{cases_lt}
use Rattle.std.proofs.lemmas.Bool.Decides.{nat_tests}
use Rattle.std.proofs.lemmas.List.{length-map}
use Rattle.std.proofs.lemmas.Option.{slice_get-get_or, slice_get_within}
use Rattle.std.proofs.lemmas.List.Elements.{All-cons, All-filter, All-head, All-nil, All-tail}
use Rattle.std.specs.List.{enumerate_from, flat_map, list_any}
use Rattle.std.specs.Prelude.{not, if◌then◌else◌}
use Rattle.comfy_parts.specs.CellValue.{CellValue, ColumnInfo, RowValue}
use Rattle.comfy_parts.specs.Text.{Text, greatest, measure}
use Rattle.comfy_parts.specs.VisibleText.{visible_text}
use Rattle.comfy_parts.specs.Wrapping.{lines_of_text}
use Rattle.comfy_table.proofs.CutLemmas.{whole-measured}
use Rattle.comfy_table.specs.Lines.{cell_delimiter, cell_lines, cut_line, cut_to_limit, uncut_lines}
use Rattle.comfy_table.specs.Pieces.{cell_pieces, piece, pieces_at, pieces_of_optional, row_cell_lines, row_height, shown_infos}
use Rattle.comfy_table.specs.TableValue.{TableValue, cell_content_width, measured_cell}
use Rattle.csv_tables.proofs.DressedLemmas.{height_made}
use Rattle.csv_tables.proofs.WholeRowLemmas.{high}
use Rattle.csv_tables.specs.Contents.{dressed_by, greatest_at, made_by, measured_at, plain_by, settings_by}
use Rattle.csv_tables.specs.LazyRows.{AreWithin, IsFlat}
use Rattle.csv_tables.specs.Settings.{CellSettingsValue, RowSettingsValue, dressed, dressed_cells, limit_by}
use Rattle.csv_tables.specs.Styled.{placed}
use Rattle.csv_tables.specs.declared.rows.RecordRows.{RecordRows}

-- one line isn't cut by height
uncut : {A : Type 0} (cut : A → A) (limit : Option ℕ) (lines : List A) → length lines ≤ 1 → IfSome limit (λ h. 1 ≤ h) → length (cut_to_limit cut limit lines) ≤ 1
uncut cut None lines one high = one
uncut cut (Some h) lines one high = grind (arith, nat_tests, one, high)

-- at most one text line that fits gives at most one line
few_lines : (w d : ℕ) (texts : List Text) → length texts ≤ 1 → greatest (map measure texts) ≤ w → length (flat_map (lines_of_text w d) texts) ≤ 1
few_lines w d [] few fits = omega arith
few_lines w d (text ∷ []) few fits =
    let own : measure text ≤ w = omega (arith, fits) in
    let one : lines_of_text w d text ≡ text ∷ [] = grind (arith, nat_tests, own) in
    let long = ap (λ (ls : List Text). length (ls ++ [])) one in
    omega (arith, long)
few_lines w d (text ∷ (other ∷ texts)) few fits = absurd (omega (arith, few))

-- a cell with at most one text line that fits gives at most one piece
flat_cell : (t : TableValue) (row : RowValue) → IfSome row.max_height (λ h. 1 ≤ h) → (info : ColumnInfo) (cell : CellValue) (width : ℕ) → length cell.text_lines ≤ 1
    → cell_content_width (measured_cell t cell) ≤ width → width ≤ info.content_width → width < 65535 → length (cell_pieces t row info cell) ≤ 1
flat_cell t row high info cell width few content fits below =
    let w = info.content_width in
    let d = cell_delimiter t info.delimiter cell in
    let texts = (measured_cell t cell).text_lines in
    let same : length texts ≡ length cell.text_lines = as_many t.custom_styling in
    let measured : length (cell_lines w d (measured_cell t cell)) ≤ 1 = few_lines w d texts (omega (arith, same, few)) (omega (arith, content, fits, below)) in
    let whole = uncut_lines t.custom_styling w d cell in
    let many : length whole ≡ length (cell_lines w d (measured_cell t cell)) =
    sym (length-map whole _) ∙ ap length (whole-measured t.custom_styling w d cell) in
    let cut = uncut (cut_line t.custom_styling w t.indicator) row.max_height whole (omega (arith, many, measured)) high in
    let pieces = length-map (row_cell_lines t row info cell) (piece t cell info) in
    omega (arith, pieces, cut)
  where
    as_many : (custom : Bool) → length (if custom then map visible_text cell.text_lines else cell.text_lines) ≡ length cell.text_lines
    as_many true = length-map cell.text_lines visible_text
    as_many false = refl

-- ---- all columns

all_from : (P : ℕ × ColumnInfo → Type 0) (n : ℕ) (infos : List ColumnInfo) → ((i : ℕ) (info : ColumnInfo) → slice_get infos i ≡ Some info → P (n + i, info)) → All P (enumerate_from n infos)
all_from P n [] each = All-nil P
all_from P n (info ∷ infos) each =
    All-cons P (n, info) (enumerate_from (n + 1) infos) (subst (λ k. P (k, info)) (omega arith) (each 0 info refl))
    (all_from P (n + 1) infos (λ i other is. subst (λ k. P (k, other)) (omega arith) (each (suc i) other is)))

low : {X : Type 0} (f : X → ℕ) (xs : List X) → All (λ x. f x ≤ 1) xs → greatest (map f xs) ≤ 1
low f [] each = omega arith
low f (x ∷ xs) each = let first = All-head (λ y. f y ≤ 1) x xs each in let rest = low f xs (All-tail (λ y. f y ≤ 1) x xs each) in omega (arith, first, rest)

-- one column more
pub one_more : (Q : ℕ → ColumnInfo → Type 0) (infos : List ColumnInfo) (n : ℕ) (last : ColumnInfo) → slice_get infos n ≡ Some last → Q n last
    → ((i : ℕ) (info : ColumnInfo) → i < n → slice_get infos i ≡ Some info → Q i info) → (i : ℕ) (info : ColumnInfo) → i < n + 1 → slice_get infos i ≡ Some info → Q i info
one_more Q infos n last at own before i info below is =
    ⊎_elim (λ earlier. before i info earlier is)
    (λ later. let here : n ≡ i = omega (arith, later, below) in
    let one : last ≡ info = cc (sym at ∙ ap (slice_get infos) here ∙ is) in
    subst (λ k. Q k info) here (subst (Q n) one own)) (cases_lt i n)

module _ (t : TableValue) (widths : List ℕ) (infos : List ColumnInfo) (within : AreWithin widths infos) where
  -- a flat row has at most one line
  flat_row : (row : RowValue) → IsFlat row → ((i : ℕ) → greatest_at t cell_content_width (row ∷ []) i ≤ slice_index_or widths i 0) → row_height t infos row ≤ 1
  flat_row row flat bound =
      low (λ (p : ℕ × ColumnInfo). length (pieces_at t row p)) (shown_infos infos)
      (All-filter (λ (p : ℕ × ColumnInfo). not p.1.is_hidden) (λ (p : ℕ × ColumnInfo). length (pieces_at t row p) ≤ 1) (enumerate_from 0 infos)
      (all_from (λ (p : ℕ × ColumnInfo). length (pieces_at t row p) ≤ 1) 0 infos (λ i info is. subst (λ k. length (pieces_at t row (k, info)) ≤ 1) (omega arith) (each i info is))))
    where
      each : (i : ℕ) (info : ColumnInfo) → slice_get infos i ≡ Some info → length (pieces_of_optional t row info (slice_get row.cells i)) ≤ 1
      each i info is = by_cell (slice_get row.cells i) refl
        where
          by_cell : (o : Option CellValue) → slice_get row.cells i ≡ o → length (pieces_of_optional t row info o) ≤ 1
          by_cell None none = omega arith
          by_cell (Some cell) found =
              let own = within i info is in
              let below = slice_get_within row.cells i cell found in
              let here : slice_index_or row.cells i cell ≡ cell = ap (λ (o : Option CellValue). unwrap_or o cell) (sym (slice_get-get_or row.cells i cell below) ∙ found) in
              let few : length cell.text_lines ≤ 1 = subst (λ (cell : CellValue). length cell.text_lines ≤ 1) here (flat.lines i cell below) in
              let content : greatest_at t cell_content_width (row ∷ []) i ≡ max (cell_content_width (measured_cell t cell)) 0 = ap (λ (o : Option CellValue). greatest (map (measured_at t cell_content_width) (o ∷ []))) found in
              flat_cell t row flat.some_height info cell (slice_index_or widths i 0) few (omega (arith, content, bound i)) own.0 own.1

  -- no flat row is tall
  pub none_tall : (rows : List RowValue) → All IsFlat rows → ((i : ℕ) → greatest_at t cell_content_width rows i ≤ slice_index_or widths i 0) → list_any (nat_lt 1) (map (row_height t infos) rows) ≡ false
  none_tall [] flat bound = refl
  none_tall (row ∷ rows) flat bound =
      let one = flat_row row (All-head IsFlat row rows flat) (λ i. let all = bound i in omega (arith, all)) in
      let own : nat_lt 1 (row_height t infos row) ≡ false = grind (arith, nat_tests, one) in
      ap₂ (λ a b. a || b) own (none_tall rows (All-tail IsFlat row rows flat) (λ i. let all = bound i in omega (arith, all)))

-- ---- rows with settings

-- a cell has at most one text line
abbrev IsFew : CellValue → Type 0
IsFew cell = length cell.text_lines ≤ 1

-- settings add no text lines
few_dressed : (settings : List (Option CellSettingsValue)) (cells : List CellValue) → All IsFew cells → All IsFew (dressed_cells settings cells)
few_dressed settings [] few = few
few_dressed [] (cell ∷ cells) few = few
few_dressed (None ∷ settings) (cell ∷ cells) few = All-cons IsFew cell (dressed_cells settings cells) (All-head IsFew cell cells few) (few_dressed settings cells (All-tail IsFew cell cells few))
few_dressed (Some own ∷ settings) (cell ∷ cells) few = All-cons IsFew (dressed (Some own) cell) (dressed_cells settings cells) (All-head IsFew cell cells few) (few_dressed settings cells (All-tail IsFew cell cells few))

pub flat_made : (rows : RecordRows) (at : ℕ) (fields : List Text) → IsFlat (plain_by rows at fields) → IsFlat (made_by rows at fields)
flat_made rows at fields flat =
    record {
      lines = by_settings (settings_by rows at);
      some_height = subst (λ (limit : Option ℕ). IfSome limit (λ h. 1 ≤ h)) (sym (height_made rows at fields)) (high rows.look (limit_by (settings_by rows at) rows.look));
    }
  where
    by_settings : (own : Option RowSettingsValue) → All IsFew (dressed_by rows.selected own (plain_by rows at fields)).cells
    by_settings None = flat.lines
    by_settings (Some own) = few_dressed (placed rows.selected.is_numbered rows.selected.columns own.cells) (plain_by rows at fields).cells flat.lines
