-- Tables that are built from a table without columns, by a header and rows.
use Rattle.std.proofs.Common.{◌≡◌, ◌==◌, ◌⊎◌, ℕ, ◌-◌, ◌≤◌, inl, inr, true, false, List, [], ◌∷◌, None, length, refl, sym, ap, ◌∙◌, subst, arith, option_to_list}
use Rattle.std.specs.List.{All, list_any, range_with_len}
use Rattle.std.specs.Prelude.{not}
use Rattle.std.proofs.lemmas.List.Elements.{All-append, All-cons, All-filter, All-from_recursion, All-head, All-map, All-nil, All-tail, All-weaker, recursion_from_All}
use Rattle.comfy_parts.specs.CellValue.{CellValue, ColumnValue, RowValue, columns_grown_to, is_hidden_column, new_column}
use Rattle.comfy_parts.specs.Columns.{IsOneColumn, style_characters}
use Rattle.comfy_parts.specs.Text.{Text, measure}
use Rattle.comfy_parts.specs.declared.style.table_style.TableStyle.{TableStyle}
use Rattle.comfy_parts.proofs.CallerLemmas.{All-every, every-places}
use Rattle.comfy_table.proofs.MeasuredLemmas.{measured_rows-is, row_measured}
use Rattle.comfy_table.specs.Arrangement.{width_kept}
use Rattle.comfy_table.specs.Headline.{IsTableDrawing}
use Rattle.comfy_table.specs.Laws.{HasNoEscape, IsStyleWithout, NoConstraints, line_total}
use Rattle.comfy_table.specs.NewTables.{AreEquallyWide, IsShortRow, NewTablesAreStraight, NewTablesLeaveNoneOpen}
use Rattle.comfy_table.specs.Straight.{IsShownWhole, IsStraightTable}
use Rattle.comfy_table.specs.TableValue.{TableValue, column_cells, header_and_rows, new_table, measured_rows, should_style, table_width, shown_columns, with_header, with_row, with_rows}

-- a column with default settings
pub record IsNewColumn (column : ColumnValue) : Type 0 where
  pub padding : column.padding ≡ (1, 1)
  pub no_constraint : column.constraint ≡ None
  pub no_delimiter : column.delimiter ≡ None
  pub no_alignment : column.alignment ≡ None

grown : (n : ℕ) (columns : List ColumnValue) → All IsNewColumn columns → All IsNewColumn (columns_grown_to n columns)
grown n columns each =
    All-append IsNewColumn columns _ each
    (All-map IsNewColumn new_column (range_with_len (length columns) (n - length columns))
    (All-every (λ i. IsNewColumn (new_column i)) (range_with_len (length columns) (n - length columns)) (λ i. record { padding = refl; no_constraint = refl; no_delimiter = refl; no_alignment = refl })))

-- a table that differs from the base only in default columns, and in a header and rows for which P holds
module _ (base : TableValue) (P : RowValue → Type 0) where
  pub record IsBuilt (table : TableValue) : Type 0 where
    pub is : table ≡ record base { columns = table.columns; header = table.header; rows = table.rows }
    pub columns : All IsNewColumn table.columns
    pub header : All P (option_to_list table.header)
    pub rows : All P table.rows

  pub built-row : (row : RowValue) (table : TableValue) → P row → IsBuilt table → IsBuilt (with_row row table)
  built-row row table own known =
      record { is = ap (λ (t : TableValue). with_row row t) known.is; columns = grown (length row.cells) table.columns known.columns; header = known.header; rows = All-append P table.rows _ known.rows (All-cons P row [] own (All-nil P)) }

  pub built-header : (row : RowValue) (table : TableValue) → P row → IsBuilt table → IsBuilt (with_header row table)
  built-header row table own known =
      record { is = ap (λ (t : TableValue). with_header row t) known.is; columns = grown (length row.cells) table.columns known.columns; header = All-cons P row [] own (All-nil P); rows = known.rows }

  pub built-rows : (rows : List RowValue) (table : TableValue) → All P rows → IsBuilt table → IsBuilt (with_rows rows table)
  built-rows [] table each known = known
  built-rows (row ∷ rows) table each known = built-rows rows (with_row row table) (All-tail P row rows each) (built-row row table (All-head P row rows each) known)

  module _ (table : TableValue) (known : IsBuilt table) where
    -- all measured rows have Q, if Q follows from P
    pub measured_known : (Q : RowValue → Type 0) → ((row : RowValue) → P row → Q (row_measured base.custom_styling row)) → All Q (measured_rows table)
    measured_known Q gives =
        subst (All Q) (sym (measured_rows-is table))
        (All-map Q (row_measured table.custom_styling) (header_and_rows table)
        (subst (λ custom. All (λ row. Q (row_measured custom row)) (header_and_rows table)) (sym (ap (λ (t : TableValue). t.custom_styling) known.is))
        (All-weaker P (λ row. Q (row_measured base.custom_styling row)) gives (header_and_rows table) (All-append P (option_to_list table.header) table.rows known.header known.rows))))

    -- without custom styling the measured rows have P
    pub rows_known : base.custom_styling ≡ false → All P (measured_rows table)
    rows_known plain = measured_known P (λ row own. subst (λ custom. P (row_measured custom row)) (sym plain) own)

    pub columns_known : All (λ (p : ℕ × ColumnValue). IsNewColumn p.1) (shown_columns table)
    columns_known = All-filter (λ (p : ℕ × ColumnValue). not (is_hidden_column p.1)) (λ (p : ℕ × ColumnValue). IsNewColumn p.1) _ (All-from_recursion (λ p. IsNewColumn p.1) _ (every-places IsNewColumn 0 table.columns (recursion_from_All IsNewColumn table.columns known.columns)))

    pub padded : All (λ (p : ℕ × ColumnValue). 1 ≤ p.1.padding.0) (shown_columns table)
    padded =
        All-weaker (λ (p : ℕ × ColumnValue). IsNewColumn p.1) (λ (p : ℕ × ColumnValue). 1 ≤ p.1.padding.0)
        (λ p new. let one : p.1.padding.0 ≡ 1 = ap (λ (x : ℕ × ℕ). x.0) new.padding in omega (arith, one)) (shown_columns table) columns_known

    pub unconstrained : NoConstraints table
    unconstrained = All-weaker (λ (p : ℕ × ColumnValue). IsNewColumn p.1) (λ (p : ℕ × ColumnValue). p.1.constraint ≡ None) (λ p new. new.no_constraint) (shown_columns table) columns_known

    -- the characters of its style add one terminal column each, if those of the base do
    pub characters_known : All IsOneColumn (style_characters base.style) → All IsOneColumn (style_characters table.style)
    characters_known = subst (λ (style : TableStyle). All IsOneColumn (style_characters style)) (sym (ap (λ (t : TableValue). t.style) known.is))

-- a table that is built in this way is straight, if its rows are short and it keeps to no width
pub built_is_straight : (base : TableValue) (plain : base.custom_styling ≡ false) (table : TableValue) (widths : List ℕ) → IsBuilt base IsShortRow table → All IsOneColumn (style_characters base.style)
    → width_kept table.arrangement (table_width table) ≡ None → IsStraightTable table widths
built_is_straight base plain table widths known characters no_width =
    record { characters = characters_known base IsShortRow table known characters; apart = inr (inl (padded base IsShortRow table known)); fits = inr (inr shown) }
  where
    rows : All IsShortRow (measured_rows table)
    rows = rows_known base IsShortRow table known plain

    shown : IsShownWhole table
    shown =
        record {
          no_width = no_width;
          no_constraints = unconstrained base IsShortRow table known;
          uncut = All-weaker IsShortRow (λ (row : RowValue). row.max_height ≡ None) (λ row own. own.uncut) (measured_rows table) rows;
          short = All-weaker IsShortRow (λ (row : RowValue). All (λ (cell : CellValue). All (λ line. measure line ≤ 65535) cell.text_lines) row.cells) (λ row own. own.short) (measured_rows table) rows;
        }

-- the lines of a table that is built in this way are equally wide
pub built_is_equally_wide : (base : TableValue) (plain : base.custom_styling ≡ false) (unstyled : should_style base ≡ false) (P : RowValue → Type 0) (table : TableValue) → IsBuilt base P table
    → (lines : List Text) (drawing : IsTableDrawing table lines) → IsStraightTable table drawing.widths → AreEquallyWide lines
built_is_equally_wide base plain unstyled P table known lines drawing is = (
  line_total table drawing.widths,
  subst (All (λ line. measure line ≡ line_total table drawing.widths)) (sym (drawing.edges.unstyled_lines (ap should_style known.is ∙ unstyled) (ap (λ (t : TableValue). t.custom_styling) known.is ∙ plain))) (drawing.edges.straight is),
)

-- a new table with a header and rows is built from an empty table
built_new : (P : RowValue → Type 0) (style : TableStyle) (header : RowValue) (rows : List RowValue) → P header → All P rows → IsBuilt (new_table style) P (with_rows rows (with_header header (new_table style)))
built_new P style header rows first each =
    built-rows (new_table style) P rows (with_header header (new_table style)) each
    (built-header (new_table style) P header (new_table style) first (record { is = refl; columns = All-nil IsNewColumn; header = All-nil P; rows = All-nil P }))

-- so the lines of a new table are equally wide
pub new_tables_are_straight : (style : TableStyle) (header : RowValue) (rows : List RowValue) (lines : List Text) → NewTablesAreStraight style header rows lines
new_tables_are_straight style header rows lines characters first each drawing =
    built_is_equally_wide (new_table style) refl refl IsShortRow table known lines drawing
    (built_is_straight (new_table style) refl table drawing.widths known characters (ap (λ (t : TableValue). width_kept t.arrangement (table_width t)) known.is))
  where
    table : TableValue
    table = with_rows rows (with_header header (new_table style))

    known : IsBuilt (new_table style) IsShortRow table
    known = built_new IsShortRow style header rows first each

-- with custom styling, no line of a new table leaves a sequence open
pub new_tables_leave_none_open : (style : TableStyle) (header : RowValue) (rows : List RowValue) (lines : List Text) → NewTablesLeaveNoneOpen style header rows lines
new_tables_leave_none_open style header rows lines clear drawing =
    drawing.sequences.closed_lines refl
    (record {
      styling = inl (ap should_style known.is);
      style = record { indicator = ap (λ (t : TableValue). list_any (λ x. x == 0x1B) t.indicator) known.is; characters = subst (IsStyleWithout 0x1B) (sym (ap (λ (t : TableValue). t.style) known.is)) clear };
      ends = All-weaker (λ (p : ℕ × ColumnValue). IsNewColumn p.1) (λ (p : ℕ × ColumnValue). (1 ≤ p.1.padding.1) ⊎ All (λ (cell : CellValue). All HasNoEscape cell.text_lines) (column_cells (record table { custom_styling = true }) p.0))
          (λ p new. let one : p.1.padding.1 ≡ 1 = ap (λ (x : ℕ × ℕ). x.1) new.padding in inl (omega (arith, one))) (shown_columns table) (columns_known (new_table style) (λ row. Unit {0}) table known);
    })
  where
    table : TableValue
    table = with_rows rows (with_header header (new_table style))

    known : IsBuilt (new_table style) (λ row. Unit {0}) table
    known = built_new (λ row. Unit {0}) style header rows tt (λ k default below. tt)
