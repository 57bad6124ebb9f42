-- Rows with settings: their cells, and the tables that they are in.
use Rattle.std.proofs.Common.{◌≡◌, ℕ, zero, suc, ◌+◌, ◌||◌, Bool, true, false, List, [], ◌∷◌, ◌++◌, Option, Some, None, drop, length, map, max, not, append-nil, arith, refl, ap, sym, ◌∙◌}
use Rattle.std.specs.List.{list_any, slice_get}
use Rattle.std.specs.Option.{option_or}
use Rattle.std.specs.Prelude.{decimal, option_map, ◌==◌, if◌then◌else◌}
use Rattle.std.proofs.lemmas.Bool.Decides.{nat_tests}
use Rattle.comfy_parts.specs.CellValue.{CellValue, IsCell, RowValue, columns_grown_to, plain_row}
use Rattle.comfy_parts.specs.Text.{Text}
use Rattle.comfy_parts.specs.declared.style.cell.CellAlignment.TheVariants.{Right}
use Rattle.comfy_table.specs.RowCells.{row_with}
use Rattle.comfy_table.specs.TableValue.{TableValue, measured_cell, with_header, with_other_rows}
use Rattle.csv_tables.specs.Cells.{cell_for, columns_within, counted_from, has_field, header_for, number_name, number_of, shown_cells, shown_fields, shown_number, with_weight}
use Rattle.csv_tables.specs.Contents.{dressed_by, field_cell, field_cells, made_by, measured_at, most_cells, plain_by, settings_by}
use Rattle.csv_tables.specs.Drawn.{SelectedValue, empty_table, headed_table}
use Rattle.csv_tables.specs.Settings.{CellSettingsValue, RowSettingsValue, cell_settings, dressed, dressed_cells, limit_by}
use Rattle.csv_tables.specs.Styled.{dressed_header, dressed_rows, dressed_table, placed}
use Rattle.csv_tables.specs.declared.options.ColumnPlan.{ColumnPlan}
use Rattle.csv_tables.specs.declared.options.Look.{Look}
use Rattle.csv_tables.specs.declared.rows.RecordRows.{RecordRows}

-- ---- cells

pub dressed-length : (settings : List (Option CellSettingsValue)) (cells : List CellValue) → length (dressed_cells settings cells) ≡ length cells
dressed-length settings [] = refl
dressed-length [] (cell ∷ cells) = refl
dressed-length (own ∷ settings) (cell ∷ cells) = ap suc (dressed-length settings cells)

-- a cell with settings has the properties of every cell
pub dressed-keeps : (own : Option CellSettingsValue) (cell : CellValue) → IsCell cell → IsCell (dressed own cell)
dressed-keeps None cell is = is
dressed-keeps (Some own) cell is = record { text_lines = is.text_lines; delimiter = is.delimiter }

module _ (look : Look) (is_bold is_aligned : Bool) (fields : List Text) where
  -- the cells of columns, without settings
  pub plain_fields : (columns : List ColumnPlan) → shown_cells look is_bold (shown_fields look is_aligned columns fields) ≡ field_cells look is_bold is_aligned [] columns fields
  plain_fields [] = refl
  plain_fields (column ∷ columns) = ap (λ (cells : List CellValue). field_cell look is_bold is_aligned [] fields column ∷ cells) (plain_fields columns)

  -- the cells of columns with settings, in a row that may have more columns
  fields_dressed : (settings : List CellSettingsValue) (columns more : List ColumnPlan)
      → dressed_cells (map (λ (column : ColumnPlan). slice_get settings column.position) (columns ++ more)) (shown_cells look is_bold (shown_fields look is_aligned columns fields)) ≡ field_cells look is_bold is_aligned settings columns fields
  fields_dressed settings [] more = refl
  fields_dressed settings (column ∷ columns) more = ap (λ (cells : List CellValue). field_cell look is_bold is_aligned settings fields column ∷ cells) (fields_dressed settings columns more)

  -- the cells that a row shows, without settings
  pub plain_cells : (number : Option Text) (columns : List ColumnPlan)
      → shown_cells look is_bold (shown_number number ++ shown_fields look is_aligned columns fields) ≡ shown_cells look is_bold (shown_number number) ++ field_cells look is_bold is_aligned [] columns fields
  plain_cells None columns = plain_fields columns
  plain_cells (Some text) columns = ap (λ (cells : List CellValue). with_weight is_bold (cell_for look (Some Right) text) ∷ cells) (plain_fields columns)

  -- the cells that a row shows, with settings; the cell of the number has none
  pub cells_dressed : (is_numbered : Bool) (text : Text) (settings : List CellSettingsValue) (columns more : List ColumnPlan)
      → dressed_cells (placed is_numbered (columns ++ more) settings) (shown_cells look is_bold (shown_number (if is_numbered then Some text else None) ++ shown_fields look is_aligned columns fields))
      ≡ shown_cells look is_bold (shown_number (if is_numbered then Some text else None)) ++ field_cells look is_bold is_aligned settings columns fields
  cells_dressed true text settings columns more = ap (λ (cells : List CellValue). with_weight is_bold (cell_for look (Some Right) text) ∷ cells) (fields_dressed settings columns more)
  cells_dressed false text settings columns more = fields_dressed settings columns more

-- the columns that a record reaches are the first ones
first_columns : (fields : List Text) (columns : List ColumnPlan) → (more : List ColumnPlan) × (columns_within fields columns ++ more ≡ columns)
first_columns fields [] = ([], refl)
first_columns fields (column ∷ columns) = by_any (list_any (has_field fields) (column ∷ columns)) refl (first_columns fields columns)
  where
    by_any : (b : Bool) → list_any (has_field fields) (column ∷ columns) ≡ b → (more : List ColumnPlan) × (columns_within fields columns ++ more ≡ columns) → (more : List ColumnPlan) × (columns_within fields (column ∷ columns) ++ more ≡ column ∷ columns)
    by_any true is rest = (rest.0, rw is (ap (λ (cs : List ColumnPlan). column ∷ cs) rest.1))
    by_any false is rest = (column ∷ columns, rw is refl)

module _ (rows : RecordRows) (at : ℕ) (fields : List Text) where
  -- the cells of the row of a record: its number, and its fields with their settings
  abbrev pub own_cells : Option RowSettingsValue → List CellValue
  own_cells own =
      shown_cells rows.look false (shown_number (number_of rows.selected.is_numbered (at + 1)))
      ++ field_cells rows.look false rows.is_aligned (cell_settings own) (columns_within fields rows.selected.columns) fields

  pub cells_made : (made_by rows at fields).cells ≡ own_cells (settings_by rows at)
  cells_made = by_settings (settings_by rows at)
    where
      reached : List ColumnPlan
      reached = columns_within fields rows.selected.columns

      by_settings : (own : Option RowSettingsValue) → (dressed_by rows.selected own (plain_by rows at fields)).cells ≡ own_cells own
      by_settings None = plain_cells rows.look false rows.is_aligned fields (number_of rows.selected.is_numbered (at + 1)) reached
      by_settings (Some own) =
          let first = first_columns fields rows.selected.columns in
          ap (λ (columns : List ColumnPlan). dressed_cells (placed rows.selected.is_numbered columns own.cells) (plain_by rows at fields).cells) (sym first.1)
          ∙ cells_dressed rows.look false rows.is_aligned fields rows.selected.is_numbered (decimal (at + 1)) own.cells reached first.0

  -- the greatest height of the row
  pub height_made : (made_by rows at fields).max_height ≡ option_map (max 1) (limit_by (settings_by rows at) rows.look)
  height_made = by_settings (settings_by rows at)
    where
      by_limit : (limit : Option ℕ) → option_or (option_map (max 1) limit) (option_map (max 1) rows.look.max_height) ≡ option_map (max 1) (option_or limit rows.look.max_height)
      by_limit None = refl
      by_limit (Some limit) = refl

      by_settings : (own : Option RowSettingsValue) → (dressed_by rows.selected own (plain_by rows at fields)).max_height ≡ option_map (max 1) (limit_by own rows.look)
      by_settings None = refl
      by_settings (Some own) = by_limit own.max_height

  -- the row is made of these cells and this height
  pub row_made : row_with (made_by rows at fields).cells (limit_by (settings_by rows at) rows.look) ≡ made_by rows at fields
  row_made = ap (λ (height : Option ℕ). record { cells = (made_by rows at fields).cells; max_height = height }) (sym height_made)

  pub cells_made-length : length (made_by rows at fields).cells ≡ length (plain_by rows at fields).cells
  cells_made-length = by_settings (settings_by rows at)
    where
      by_settings : (own : Option RowSettingsValue) → length (dressed_by rows.selected own (plain_by rows at fields)).cells ≡ length (plain_by rows at fields).cells
      by_settings None = refl
      by_settings (Some own) = dressed-length (placed rows.selected.is_numbered rows.selected.columns own.cells) (plain_by rows at fields).cells

-- a measure of cells that settings don't change
module _ (table : TableValue) (f : CellValue → ℕ) (same : (own : CellSettingsValue) (cell : CellValue) → f (measured_cell table (dressed (Some own) cell)) ≡ f (measured_cell table cell)) where
  measured_cells : (settings : List (Option CellSettingsValue)) (cells : List CellValue) (i : ℕ) → measured_at table f (slice_get (dressed_cells settings cells) i) ≡ measured_at table f (slice_get cells i)
  measured_cells settings [] i = refl
  measured_cells [] (cell ∷ cells) i = refl
  measured_cells (None ∷ settings) (cell ∷ cells) zero = refl
  measured_cells (Some own ∷ settings) (cell ∷ cells) zero = same own cell
  measured_cells (own ∷ settings) (cell ∷ cells) (suc i) = measured_cells settings cells i

  pub measured_made : (rows : RecordRows) (at : ℕ) (fields : List Text) (i : ℕ) → measured_at table f (slice_get (made_by rows at fields).cells i) ≡ measured_at table f (slice_get (plain_by rows at fields).cells i)
  measured_made rows at fields i = by_settings (settings_by rows at)
    where
      by_settings : (own : Option RowSettingsValue) → measured_at table f (slice_get (dressed_by rows.selected own (plain_by rows at fields)).cells i) ≡ measured_at table f (slice_get (plain_by rows at fields).cells i)
      by_settings None = refl
      by_settings (Some own) = measured_cells (placed rows.selected.is_numbered rows.selected.columns own.cells) (plain_by rows at fields).cells i

-- ---- the header

heading_dressed : (look : Look) (is_numbered : Bool) (columns : List ColumnPlan) (names : List Text) (settings : List CellSettingsValue)
    → dressed_cells (placed is_numbered columns settings) (header_for look is_numbered columns names).cells
    ≡ shown_cells look look.has_bold_header (shown_number (if is_numbered then Some (number_name names) else None)) ++ field_cells look look.has_bold_header false settings columns names
heading_dressed look is_numbered columns names settings =
    ap (λ (all : List ColumnPlan). dressed_cells (placed is_numbered all settings) (header_for look is_numbered columns names).cells) (sym (append-nil columns))
    ∙ cells_dressed look look.has_bold_header false names is_numbered (number_name names) settings columns []

-- such a row is the row of the header
pub header_is : (look : Look) (is_numbered : Bool) (columns : List ColumnPlan) (names : List Text) (settings : List CellSettingsValue)
    → plain_row (shown_cells look look.has_bold_header (shown_number (if is_numbered then Some (number_name names) else None)) ++ field_cells look look.has_bold_header false settings columns names)
    ≡ plain_row (dressed_cells (placed is_numbered columns settings) (header_for look is_numbered columns names).cells)
header_is look is_numbered columns names settings = ap plain_row (sym (heading_dressed look is_numbered columns names settings))

module _ (look : Look) (content : SelectedValue) where
  -- a table without rows is styled if rows have settings
  abbrev pub styled_empty : List RowSettingsValue → TableValue
  styled_empty settings = record (empty_table look) { enforce_styling = not (length settings == 0) || look.has_bold_header }

  pub empty_dressed : (settings : List RowSettingsValue) → styled_empty settings ≡ dressed_table content settings (empty_table look)
  empty_dressed [] = refl
  empty_dressed (heading ∷ settings) =
      let some : (suc (length settings) == 0) ≡ false = grind (arith, nat_tests) in
      ap (λ (b : Bool). record (empty_table look) { enforce_styling = not b || look.has_bold_header }) some

  -- the same table with a header, whose cells have their settings
  pub headed_dressed : (settings : List RowSettingsValue) (names : List Text)
      → with_header (plain_row (dressed_cells (placed content.is_numbered content.columns (cell_settings (slice_get settings 0))) (header_for look content.is_numbered content.columns names).cells)) (styled_empty settings)
      ≡ dressed_table content settings (headed_table look content.is_numbered content.columns (Some names))
  headed_dressed [] names =
      ap (λ (cells : List CellValue). with_header (plain_row cells) (empty_table look))
      (heading_dressed look content.is_numbered content.columns names []
      ∙ sym (plain_cells look look.has_bold_header false names (if content.is_numbered then Some (number_name names) else None) content.columns))
  headed_dressed (heading ∷ settings) names =
      let header = header_for look content.is_numbered content.columns names in
      ap (with_header (dressed_header content heading header)) (empty_dressed (heading ∷ settings))
      ∙ ap (λ n. record (dressed_table content (heading ∷ settings) (empty_table look)) { header = Some (dressed_header content heading header); columns = columns_grown_to n [] })
      (dressed-length (placed content.is_numbered content.columns heading.cells) header.cells)

-- ---- rows

module _ (content : SelectedValue) where
  pub none_dressed : (rows : List RowValue) → dressed_rows content [] rows ≡ rows
  none_dressed [] = refl
  none_dressed (row ∷ rows) = refl

  -- the first row and the other rows
  first_dressed : (settings : List RowSettingsValue) (n : ℕ) (row : RowValue) (rows : List RowValue)
      → dressed_by content (slice_get settings n) row ∷ dressed_rows content (drop (suc n) settings) rows ≡ dressed_rows content (drop n settings) (row ∷ rows)
  first_dressed [] zero row rows = ap (λ (rest : List RowValue). row ∷ rest) (none_dressed rows)
  first_dressed [] (suc n) row rows = ap (λ (rest : List RowValue). row ∷ rest) (none_dressed rows)
  first_dressed (own ∷ settings) zero row rows = refl
  first_dressed (own ∷ settings) (suc n) row rows = first_dressed settings n row rows

  -- the rows of records, the first of which has number n
  pub rows_dressed : (settings : List RowSettingsValue) (row : ℕ × List Text → RowValue) (n : ℕ) (left : List (List Text))
      → map (λ (r : ℕ × List Text). dressed_by content (slice_get settings r.0) (row r)) (counted_from n left) ≡ dressed_rows content (drop n settings) (map row (counted_from n left))
  rows_dressed settings row n [] = refl
  rows_dressed settings row n (fields ∷ left) =
      let next : n + 1 ≡ suc n = omega arith in
      ap (λ (rest : List RowValue). dressed_by content (slice_get settings n) (row (n, fields)) ∷ rest)
      (rows_dressed settings row (n + 1) left ∙ ap (λ k. dressed_rows content (drop k settings) (map row (counted_from (n + 1) left))) next)
      ∙ first_dressed settings n (row (n, fields)) (map row (counted_from (n + 1) left))

  -- rows with settings have as many cells
  pub most_dressed : (settings : List RowSettingsValue) (rows : List RowValue) → most_cells (dressed_rows content settings rows) ≡ most_cells rows
  most_dressed settings [] = refl
  most_dressed [] (row ∷ rows) = refl
  most_dressed (own ∷ settings) (row ∷ rows) =
      let first = dressed-length (placed content.is_numbered content.columns own.cells) row.cells in
      let rest = most_dressed settings rows in
      omega (arith, first, rest)

  pub no_rows_dressed : (settings : List RowSettingsValue) (table : TableValue) → table.rows ≡ [] → (dressed_table content settings table).rows ≡ []
  no_rows_dressed [] table none = none
  no_rows_dressed (heading ∷ settings) table none = ap (dressed_rows content settings) none

  -- the header has as many cells, and the table as many columns
  pub header_dressed : (settings : List RowSettingsValue) (table : TableValue) (row : RowValue) → (dressed_table content settings table).header ≡ Some row
      → (plain : RowValue) × (table.header ≡ Some plain) × (length plain.cells ≡ length row.cells)
  header_dressed [] table row is = (row, is, refl)
  header_dressed (heading ∷ settings) table row is = by_header table.header refl is
    where
      by_header : (header : Option RowValue) → table.header ≡ header → option_map (dressed_header content heading) header ≡ Some row → (plain : RowValue) × (table.header ≡ Some plain) × (length plain.cells ≡ length row.cells)
      by_header None same is = absurd (cc is)
      by_header (Some plain) same is =
          let own : dressed_header content heading plain ≡ row = cc is in
          (plain, same, sym (dressed-length (placed content.is_numbered content.columns heading.cells) plain.cells) ∙ ap (λ (r : RowValue). length r.cells) own)

  pub columns_dressed : (settings : List RowSettingsValue) (table : TableValue) → (dressed_table content settings table).columns ≡ table.columns
  columns_dressed [] table = refl
  columns_dressed (heading ∷ settings) table = refl

  -- a table grows to rows with settings as it grows to those without
  pub grown_dressed : (settings : List RowSettingsValue) (rows : List RowValue) (headed : TableValue)
      → with_other_rows (dressed_rows content (drop 1 settings) rows) (record (dressed_table content settings headed) { columns = columns_grown_to (max (length (dressed_table content settings headed).columns) (most_cells (dressed_rows content (drop 1 settings) rows))) (dressed_table content settings headed).columns })
      ≡ dressed_table content settings (with_other_rows rows (record headed { columns = columns_grown_to (max (length headed.columns) (most_cells rows)) headed.columns }))
  grown_dressed [] rows headed = ap (λ (rs : List RowValue). with_other_rows rs (record headed { columns = columns_grown_to (max (length headed.columns) (most_cells rs)) headed.columns })) (none_dressed rows)
  grown_dressed (heading ∷ settings) rows headed =
      ap (λ n. record headed {
        header = option_map (dressed_header content heading) headed.header;
        rows = dressed_rows content settings rows;
        enforce_styling = true;
        columns = columns_grown_to (max (length headed.columns) n) headed.columns;
      })
      (most_dressed settings rows)
