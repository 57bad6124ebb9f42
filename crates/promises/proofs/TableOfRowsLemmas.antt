-- A new table of a header and rows keeps the promises.
use Rattle.std.proofs.Common.{◌≡◌, ◌<◌, ◌≤◌, ◌+◌, ◌*◌, ℕ, true, not, List, [], ◌∷◌, None, Option, refl, sym, ap, ◌∙◌, subst, arith, length, max, sum_by}
use Rattle.std.specs.List.{All, AllByRecursion}
use Rattle.std.proofs.lemmas.List.Elements.{All-filter, All-head, All-nil, All-tail, All-weaker, recursion_from_All}
use Rattle.std.proofs.lemmas.List.Sums.{sum_by-cons}
use Rattle.comfy_parts.proofs.CallerLemmas.{filter_all, no_fewer_columns}
use Rattle.comfy_parts.specs.CellValue.{CellValue, ColumnValue, RowValue, is_hidden_column, is_hidden_constraint}
use Rattle.comfy_parts.specs.Columns.{CharactersFit, IsOneColumnStyle}
use Rattle.comfy_parts.specs.Text.{Text, measure}
use Rattle.comfy_parts.specs.declared.style.column.ColumnConstraint.{ColumnConstraint}
use Rattle.comfy_parts.specs.declared.style.table.ContentArrangement.{ContentArrangement}
use Rattle.comfy_parts.specs.declared.style.table.ContentArrangement.TheVariants.{Disabled}
use Rattle.comfy_parts.specs.declared.style.table_style.TableStyle.{TableStyle}
use Rattle.comfy_table.proofs.BuiltTableLemmas as built
use Rattle.comfy_table.specs.Arrangement.{width_kept}
use Rattle.comfy_table.specs.Headline.{IsTableDrawing}
use Rattle.comfy_table.specs.NewTables.{AreEquallyWide, IsShortRow}
use Rattle.comfy_table.specs.TableValue.{TableValue, header_and_rows, new_table, should_style, table_width, with_header, with_row, with_rows}
use Rattle.promises.proofs.ConditionLemmas.{of_rows, plain_frame}
use Rattle.promises.proofs.PromiseLemmas.{keeps_promises}
use Rattle.promises.specs.Conditions.{IsNewColumn, IsOfRows}
use Rattle.promises.specs.Promises.{KeepsPromises}
use Rattle.promises.specs.Rows.{HaveCells, IsNarrowCell, IsNarrowRow, KeepsRows, table_of}
use Rattle.promises.specs.Tables.{EachText, HasPlainFrame, IsPlain, IsShownWhole, IsUnconstrained, shown}
use Rattle.promises.specs.Widths.{frame_room}

-- ---- columns

module _ (table : TableValue) (columns : All IsNewColumn table.columns) where
  all_seen : AllByRecursion (λ (column : ColumnValue). not (is_hidden_column column) ≡ true) table.columns
  all_seen =
      recursion_from_All (λ (column : ColumnValue). not (is_hidden_column column) ≡ true) table.columns
      (All-weaker IsNewColumn (λ (column : ColumnValue). not (is_hidden_column column) ≡ true)
      (λ column new. ap (λ (c : Option ColumnConstraint). not (is_hidden_constraint c)) new.no_constraint) table.columns columns)

  pub all_shown : shown table ≡ table.columns
  all_shown = filter_all (λ (column : ColumnValue). not (is_hidden_column column)) table.columns all_seen

  pub free_columns : IsUnconstrained table
  free_columns =
      All-filter (λ (column : ColumnValue). not (is_hidden_column column)) (λ (column : ColumnValue). column.constraint ≡ None) table.columns
      (All-weaker IsNewColumn (λ (column : ColumnValue). column.constraint ≡ None) (λ column new. new.no_constraint) table.columns columns)

-- ---- the room of the frame

-- a new column takes a border, two paddings and one terminal column
taken : (columns : List ColumnValue) → All IsNewColumn columns → sum_by (λ (column : ColumnValue). column.padding.0 + 1 + column.padding.1 + 1) columns ≡ 4 * length columns
taken [] new = refl
taken (column ∷ columns) new =
    let own = (All-head IsNewColumn column columns new).padding in
    let left : column.padding.0 ≡ 1 = ap (λ (p : ℕ × ℕ). p.0) own in
    let right : column.padding.1 ≡ 1 = ap (λ (p : ℕ × ℕ). p.1) own in
    omega (arith, left, right, sum_by-cons (λ (c : ColumnValue). c.padding.0 + 1 + c.padding.1 + 1) column columns, taken columns (All-tail IsNewColumn column columns new))

-- rows of at most n cells give at most n columns
pub few_columns : (n : ℕ) (rows : List RowValue) (table : TableValue) → length table.columns ≤ n → HaveCells n rows → length (with_rows rows table).columns ≤ n
few_columns n [] table below each = below
few_columns n (row ∷ rows) table below each =
    let own = All-head (λ (r : RowValue). length r.cells ≤ n) row rows each in
    let wide = no_fewer_columns (length row.cells) table.columns in
    few_columns n rows (with_row row table) (omega (arith, own, wide, below)) (All-tail (λ (r : RowValue). length r.cells ≤ n) row rows each)

-- ---- tables

module _ (style : TableStyle) (arrangement : ContentArrangement) (width : Option ℕ) (header : RowValue) (rows : List RowValue) where
  abbrev base : TableValue
  base = record (new_table style) { arrangement = arrangement; set_width = width }

  abbrev table : TableValue
  table = table_of style arrangement width header rows

  made : IsOfRows base header rows table
  made = of_rows base header rows (record { no_columns = refl; no_rows = refl })

  its_rows : header_and_rows table ≡ header ∷ rows
  its_rows = ap header_and_rows made.is

  its_width : table.set_width ≡ width
  its_width = ap (λ (t : TableValue). t.set_width) made.is

  its_arrangement : table.arrangement ≡ arrangement
  its_arrangement = ap (λ (t : TableValue). t.arrangement) made.is

  plain : IsPlain table
  plain = record { no_styles = ap should_style made.is; no_sequences = ap (λ (t : TableValue). t.custom_styling) made.is }

  -- a property of the header and the rows holds of those of the table
  of_all : (P : RowValue → Type 0) → All P (header ∷ rows) → All P (header_and_rows table)
  of_all P each = subst (All P) (sym its_rows) each

  module _ (narrow : All IsNarrowRow (header ∷ rows)) where
    frame : IsOneColumnStyle style → HasPlainFrame table
    frame characters =
        plain_frame table
        (record {
          style = subst IsOneColumnStyle (sym (ap (λ (t : TableValue). t.style) made.is)) characters;
          delimiter = ap (λ (t : TableValue). t.delimiter) made.is;
          columns = made.columns;
          cells = of_all (λ (row : RowValue). All (λ (cell : CellValue). cell.delimiter ≡ None) row.cells)
              (All-weaker IsNarrowRow (λ (row : RowValue). All (λ (cell : CellValue). cell.delimiter ≡ None) row.cells)
              (λ row each. All-weaker IsNarrowCell (λ (cell : CellValue). cell.delimiter ≡ None) (λ cell is. is.delimiter) row.cells each) (header ∷ rows) narrow);
          indicator = ap (λ (t : TableValue). t.indicator) made.is;
        })

    texts : EachText (CharactersFit 1) table
    texts =
        of_all (λ (row : RowValue). All (λ (cell : CellValue). All (CharactersFit 1) cell.text_lines) row.cells)
        (All-weaker IsNarrowRow (λ (row : RowValue). All (λ (cell : CellValue). All (CharactersFit 1) cell.text_lines) row.cells)
        (λ row each. All-weaker IsNarrowCell (λ (cell : CellValue). All (CharactersFit 1) cell.text_lines) (λ cell is. is.characters) row.cells each) (header ∷ rows) narrow)

  -- a column is shown
  some_column : 0 < length header.cells → 0 < length (shown table)
  some_column some =
      let all = ap length (all_shown table made.columns) in
      let room = All-head (λ (row : RowValue). length row.cells ≤ length table.columns) header rows made.room in
      omega (arith, all, room, some)

  room_of : (n : ℕ) → HaveCells n (header ∷ rows) → frame_room table ≤ 1 + 4 * n
  room_of n each =
      let own = All-head (λ (row : RowValue). length row.cells ≤ n) header rows each in
      let wide = no_fewer_columns (length header.cells) base.columns in
      let few = few_columns n rows (with_header header base) (omega (arith, own, wide)) (All-tail (λ (row : RowValue). length row.cells ≤ n) header rows each) in
      let all = ap (λ (columns : List ColumnValue). sum_by (λ (column : ColumnValue). column.padding.0 + 1 + column.padding.1 + 1) columns) (all_shown table made.columns) ∙ taken table.columns made.columns in
      omega (arith, few, all)

  -- the lines, if the table is as wide as its texts
  module _ (disabled : arrangement ≡ Disabled) (short : All IsShortRow (header ∷ rows)) where
    whole : IsShownWhole table
    whole =
        record {
          no_constraint = free_columns table made.columns;
          uncut = of_all (λ (row : RowValue). row.max_height ≡ None) (All-weaker IsShortRow (λ (row : RowValue). row.max_height ≡ None) (λ row is. is.uncut) (header ∷ rows) short);
          short = of_all (λ (row : RowValue). All (λ (cell : CellValue). All (λ line. measure line ≤ 65535) cell.text_lines) row.cells)
              (All-weaker IsShortRow (λ (row : RowValue). All (λ (cell : CellValue). All (λ line. measure line ≤ 65535) cell.text_lines) row.cells) (λ row is. is.short) (header ∷ rows) short);
        }

    short_is_straight : (lines : List Text) → IsOneColumnStyle style → IsTableDrawing table lines → AreEquallyWide lines
    short_is_straight lines characters drawn =
        built.built_is_equally_wide base refl refl IsShortRow table known lines drawn
        (built.built_is_straight base refl table drawn.widths known characters (ap (λ (a : ContentArrangement). width_kept a (table_width table)) (its_arrangement ∙ disabled)))
      where
        known : built.IsBuilt base IsShortRow table
        known =
            built.built-rows base IsShortRow rows (with_header header base) (All-tail IsShortRow header rows short)
            (built.built-header base IsShortRow header base (All-head IsShortRow header rows short) (record { is = refl; columns = All-nil built.IsNewColumn; header = All-nil IsShortRow; rows = All-nil IsShortRow }))

  pub keeps_rows : (lines : List Text) → IsOneColumnStyle style → IsTableDrawing table lines → KeepsRows style arrangement width header rows lines
  keeps_rows lines characters drawn =
      record {
        straight = λ narrow. kept.straight plain (frame narrow characters) (texts narrow);
        straight_whole = λ disabled short. short_is_straight disabled short lines characters drawn;
        within = λ w n known dynamic narrow few some.
            let room = room_of n few in
            All-weaker (λ line. measure line ≤ max w (frame_room table)) (λ line. measure line ≤ max w (1 + 4 * n)) (λ line is. omega (arith, is, room)) lines
            (kept.within w (its_width ∙ known) (its_arrangement ∙ dynamic) (plain, frame narrow characters, (some_column some, free_columns table made.columns), texts narrow));
        over = λ w n known full narrow few some enough.
            let room = room_of n few in
            kept.over w (its_width ∙ known) (its_arrangement ∙ full) (plain, frame narrow characters, (some_column some, free_columns table made.columns), texts narrow) (omega (arith, enough, room));
        all_texts = kept.all_texts plain.no_sequences;
        whole_texts = λ disabled short. kept.whole_texts plain.no_sequences (its_arrangement ∙ disabled) (whole disabled short);
      }
    where
      kept : KeepsPromises table lines
      kept = keeps_promises table lines drawn
