-- Lines that don't show a field of a record, or show a wrong one, or show it at a wrong place.
use Rattle.std.proofs.Common.{◌≡◌, ◌==◌, ◌&&◌, ◌⊎◌, inl, inr, ◌<◌, ◌≤◌, ◌-◌, ℕ, zero, suc, ◌+◌, Bool, true, false, List, [], ◌∷◌, ◌++◌, Option, None, Some, is_some, arith, append-nil, codes, drop, append_assoc, filter_map, flat_map, length, map, max, min, nat_le, refl, slice_index_or, sym, ap, ap₂, ◌∙◌, subst, unwrap_or}
use Rattle.std.specs.List.{All, AllZip, cons_option, enumerate_from, join_by, slice_get, slice_split}
use Rattle.std.specs.Prelude.{if◌then◌else◌, EachIndex, IfSome, MatchOption, encode_utf8_all, option_map, option_to_list, replicate}
use Rattle.std.proofs.lemmas.Bool.Decides.{nat_tests}
use Rattle.std.proofs.lemmas.List.Elements.{All-head, All-tail}
use Rattle.std.proofs.lemmas.Str.{encode_ascii}
use Rattle.comfy_parts.proofs.CallerLemmas.{measure-nil}
use Rattle.comfy_parts.specs.CellValue.{CellValue, ColumnValue, RowValue}
use Rattle.comfy_parts.specs.Presets.{nothing}
use Rattle.comfy_parts.specs.Text.{IsOnly, Text, greatest, measure, spaces}
use Rattle.comfy_parts.specs.Wrapping.{IsSlicesWhere}
use Rattle.comfy_parts.specs.declared.style.cell.CellAlignment.{CellAlignment}
use Rattle.comfy_parts.specs.declared.style.cell.CellAlignment.TheVariants.{Left, Right}
use Rattle.comfy_parts.specs.declared.style.table_style.TableStyle.{TableStyle}
use Rattle.comfy_table.specs.Frame.{content_line, optional_frame_line}
use Rattle.comfy_table.specs.Laws.{AreLinesOf}
use Rattle.comfy_table.specs.Lines.{cell_delimiter, cut_text, cut_to_limit}
use Rattle.comfy_table.specs.Pieces.{free_before}
use Rattle.comfy_table.specs.TableValue.{TableValue, cell_content_width, should_style, shown_columns}
use Rattle.csv.specs.Records.{field_at}
use Rattle.csv_tables.specs.Cells.{unless_blank}
use Rattle.csv_tables.specs.Drawn.{condensed_style}
use Rattle.csv_tables.specs.Fields.{field_or_blank}
use Rattle.csv_tables.specs.declared.options.Look.{Look}
use Rattle.promises.proofs.KeptLemmas.{slices_anywhere}
use Rattle.promises.specs.Headline.{AreContentLines, AreLinesOfCell, AreLinesOfParts, AreLinesOfRow, AreLinesOfText, IsFramedDrawing, IsPiece, IsUncoloured, framed, is_coloured, is_styled, side_in, side_of, lines_in, widths_shown, whole_width}
use Rattle.csv_promises.specs.Fields.{HoldsField, HoldsFields, IsDrawingOf, IsFieldColumn, cells_after_name, side_at, widest_whole}

-- a style with a hyphen, which isn't drawn without a header
abbrev pub dashed : TableStyle
dashed = record nothing { header_separator = record { left = None; fill = Some 0x2D; junction = None; right = None } }

-- the widest text of a column of these rows
abbrev widest_of : List RowValue → ℕ → ℕ
widest_of rows i = max 1 (greatest (map cell_content_width (filter_map (λ (row : RowValue). slice_get row.cells i) rows)))

-- the lines of a drawing of one row of fields, in a style without borders, are those of that row
pub record IsOneRow (sides : List CellAlignment) (whole : List Bool) (fields : List Text) (lines : List Text) : Type 0 where
  pub table : TableValue
  pub row : RowValue
  pub hold : HoldsFields sides fields row
  pub width : ℕ → ℕ
  pub cell_lines : ℕ × ColumnValue → CellValue → List Text
  pub are_cell_lines : All (λ (p : ℕ × ColumnValue). (cell : CellValue) → slice_get row.cells p.0 ≡ Some cell → AreLinesOfCell (width p.0) (cell_delimiter table p.1.delimiter cell) cell (cell_lines p cell)) (enumerate_from 0 table.columns)
  pub as_high : length lines ≡ greatest (map (λ (p : ℕ × ColumnValue). length (lines_in table width cell_lines row p)) (enumerate_from 0 table.columns))
  pub drawn : EachIndex lines (λ k. (pieces : List Text) × AllZip (λ (p : ℕ × ColumnValue). IsPiece false (side_of row p) p.1 (width p.0) (slice_index_or (lines_in table width cell_lines row p) k [])) (enumerate_from 0 table.columns) pieces
      × (slice_index_or lines k [] ≡ join_by (λ (piece : Text). piece) [] pieces ++ []))
  pub columns : All IsFieldColumn table.columns
  pub no_delimiter : table.delimiter ≡ None
  pub has_columns : length row.cells ≤ length table.columns
  pub as_many : length table.columns ≡ length fields
  pub keeps_whole : (i : ℕ) → i < length table.columns → slice_get whole i ≡ Some true → widest_of (row ∷ []) i ≤ width i

pub one_row : {has_names : Bool} {sides : List CellAlignment} (look : Look) → look.style ≡ dashed → look.has_bold_header ≡ false → IfSome look.width (λ w. w ≤ 65535) → (whole : List Bool) (fields lines : List Text) (text : Text) → ((own : List Text) → AreLinesOf text own → own ≡ lines) → IsDrawingOf look false has_names sides whole (fields ∷ []) text → IsOneRow sides whole fields lines
one_row {has_names} {sides} look own_style plain_header narrow whole fields lines text cut is =
    by_header is.table.header is.table.rows is.is_table.header is.is_table.hold is.framed.is_plain.frame.is_header is.framed.is_plain.frame.are_rows is.framed.is_plain.are_cell_lines is.is_table.has_columns (by_width look.width (is.keeps_whole narrow))
  where
    table : TableValue
    table = is.table

    plain : IsFramedDrawing table is.framed.plain
    plain = is.framed.is_plain

    same : is.framed.plain ≡ lines
    same = sym (is.unstyled plain_header) ∙ cut is.lines is.are

    style : table.style ≡ dashed
    style = by_style (subst (λ (s : TableStyle). (table.style ≡ s) ⊎ (table.style ≡ condensed_style s)) own_style is.is_table.style)
      where
        by_style : (table.style ≡ dashed) ⊎ (table.style ≡ condensed_style dashed) → table.style ≡ dashed
        by_style (inl own) = own
        by_style (inr own) = own

    drawn : lines ≡ plain.frame.header ++ (join_by (λ (block : List Text). block) [] plain.frame.rows ++ [])
    drawn =
        sym same
        ∙ subst (λ (s : TableStyle). is.framed.plain ≡ optional_frame_line s s.top_border (widths_shown table plain.width) ++ (plain.frame.header ++ (join_by (λ (block : List Text). block) (optional_frame_line s s.row_separator (widths_shown table plain.width)) plain.frame.rows
        ++ optional_frame_line s s.bottom_border (widths_shown table plain.width)))) style plain.frame.drawn

    -- the columns of the rows are kept whole, with any header
    by_width : (o : Option ℕ) → ((i : ℕ) → i < length table.columns → slice_get whole i ≡ Some true → widest_whole o table i ≤ plain.width i) → (i : ℕ) → i < length table.columns → slice_get whole i ≡ Some true → widest_of table.rows i ≤ plain.width i
    by_width (Some w) wide i below is_whole = wide i below is_whole
    by_width None wide i below is_whole = below_header table.header (wide i below is_whole)
      where
        cells : List RowValue → List CellValue
        cells rows = filter_map (λ (row : RowValue). slice_get row.cells i) rows

        by_cell : (o : Option CellValue) → max 1 (greatest (map cell_content_width (cons_option o (cells table.rows)))) ≤ plain.width i → widest_of table.rows i ≤ plain.width i
        by_cell None within = within
        by_cell (Some cell) within = omega (arith, within)

        below_header : (header : Option RowValue) → widest_of (option_to_list header ++ table.rows) i ≤ plain.width i → widest_of table.rows i ≤ plain.width i
        below_header None within = within
        below_header (Some row) within = by_cell (slice_get row.cells i) within

    by_header : (header : Option RowValue) (rows : List RowValue) → is_some header ≡ false → AllZip (HoldsFields sides) (fields ∷ []) (option_to_list header ++ rows) → MatchOption header (plain.frame.header ≡ []) (λ row. (block : List Text) × AreLinesOfRow table plain.width plain.cell_lines table.style.header_lines row block × (plain.frame.header ≡ block ++ framed table plain.width table.style.header_separator))
        → AllZip (AreLinesOfRow table plain.width plain.cell_lines table.style.content_lines) rows plain.frame.rows
        → All (λ (row : RowValue). All (λ (p : ℕ × ColumnValue). (cell : CellValue) → slice_get row.cells p.0 ≡ Some cell → AreLinesOfCell (plain.width p.0) (cell_delimiter table p.1.delimiter cell) cell (plain.cell_lines p cell)) (shown_columns table)) (option_to_list header ++ rows)
        → All (λ (row : RowValue). length row.cells ≤ length table.columns) (option_to_list header ++ rows)
        → ((i : ℕ) → i < length table.columns → slice_get whole i ≡ Some true → widest_of rows i ≤ plain.width i) → IsOneRow sides whole fields lines
    by_header (Some header) rows none hold own are texts few wide = absurd (cc none)
    by_header None [] none hold own are texts few wide = absurd hold
    by_header None (row ∷ other ∷ rows) none hold own are texts few wide = absurd hold.1
    by_header None (row ∷ []) none hold own are texts few wide = by_rows plain.frame.rows refl are
      where
        Own : RowValue → Type 0
        Own r = All (λ (p : ℕ × ColumnValue). (cell : CellValue) → slice_get r.cells p.0 ≡ Some cell → AreLinesOfCell (plain.width p.0) (cell_delimiter table p.1.delimiter cell) cell (plain.cell_lines p cell)) (shown_columns table)

        by_rows : (blocks : List (List Text)) → plain.frame.rows ≡ blocks → AllZip (AreLinesOfRow table plain.width plain.cell_lines table.style.content_lines) (row ∷ []) blocks → IsOneRow sides whole fields lines
        by_rows [] is_rows zip = absurd zip
        by_rows (block ∷ other ∷ blocks) is_rows zip = absurd zip.1
        by_rows (block ∷ []) is_rows zip =
            let block_is : lines ≡ block =
            drawn ∙ ap₂ (λ (h : List Text) (bs : List (List Text)). h ++ (join_by (λ (b : List Text). b) [] bs ++ [])) own is_rows ∙ append-nil (block ++ []) ∙ append-nil block in
            subst (IsOneRow sides whole fields) (sym block_is)
            (record {
              table = table;
              row = row;
              hold = hold.0;
              width = plain.width;
              cell_lines = plain.cell_lines;
              are_cell_lines = subst (All (λ (p : ℕ × ColumnValue). (cell : CellValue) → slice_get row.cells p.0 ≡ Some cell → AreLinesOfCell (plain.width p.0) (cell_delimiter table p.1.delimiter cell) cell (plain.cell_lines p cell))) is.is_table.shown (All-head Own row [] texts);
              as_high = subst (λ (ps : List (ℕ × ColumnValue)). length block ≡ greatest (map (λ (p : ℕ × ColumnValue). length (lines_in table plain.width plain.cell_lines row p)) ps)) is.is_table.shown zip.0.as_high;
              drawn = λ k below.
                  let here = zip.0.drawn k below in (
                    here.0,
                    subst (λ (ps : List (ℕ × ColumnValue)). AllZip (λ (p : ℕ × ColumnValue). IsPiece false (side_of row p) p.1 (plain.width p.0) (slice_index_or (lines_in table plain.width plain.cell_lines row p) k [])) ps here.0) is.is_table.shown here.1,
                    here.2 ∙ ap (λ (s : TableStyle). content_line s s.content_lines here.0) style,
                  );
              columns = is.is_table.columns;
              no_delimiter = is.is_table.no_delimiter;
              as_many = All-head (λ (own : List Text). length table.columns ≡ length own) fields [] is.is_table.as_many;
              has_columns = All-head (λ (r : RowValue). length r.cells ≤ length table.columns) row [] few;
              keeps_whole = wide;
            })

-- a field that is one text line, and doesn't begin with a space
pub record IsOneText (field : Text) : Type 0 where
  pub one : slice_split (λ b. b == 0x0A) (unless_blank field) ≡ field ∷ []
  pub unspaced : (rest : Text) → ¬ (field ≡ 0x20 ∷ rest)

module _ {sides : List CellAlignment} (whole : List Bool) (field : Text) (fields lines : List Text) (text_is : IsOneText field) (is : IsOneRow sides whole (field ∷ fields) lines) (some : ¬ (is.row.cells ≡ [])) where
  abbrev lines_of : ColumnValue → List Text
  lines_of column = lines_in is.table is.width is.cell_lines is.row (0, column)

  -- the first column has the lines of the field
  record HasFirst (columns : List ColumnValue) : Type 0 where
    column : ColumnValue
    more : List ColumnValue
    are : columns ≡ column ∷ more
    wide : slice_get whole 0 ≡ Some true → min 65535 (measure field) ≤ is.width 0
    own : (lines_of column ≡ field ∷ []) ⊎ ((is.width 0 < measure field) × IsSlicesWhere (λ line tail. Unit {0}) 0x20 field (lines_of column))
    at_side : side_of is.row (0, column) ≡ side_at sides 0

  first : HasFirst is.table.columns
  unfolding field_at
  first = by_cells is.row.cells refl (is.hold.each 0)
    where
      by_cells : (cells : List CellValue) → is.row.cells ≡ cells → MatchOption (slice_get is.row.cells 0) (field_or_blank (field ∷ fields) 0 ≡ []) (HoldsField (side_at sides 0) (field_or_blank (field ∷ fields) 0)) → HasFirst is.table.columns
      by_cells [] are own = absurd (some are)
      by_cells (cell ∷ cells) are own = by_columns is.table.columns refl is.columns is.are_cell_lines
        where
          found : slice_get is.row.cells 0 ≡ Some cell
          found = ap (λ (cs : List CellValue). slice_get cs 0) are

          holds : HoldsField (side_at sides 0) field cell
          holds = subst (λ (o : Option CellValue). MatchOption o (field ≡ []) (HoldsField (side_at sides 0) field)) found own

          by_columns : (columns : List ColumnValue) → is.table.columns ≡ columns → All IsFieldColumn columns
              → All (λ (p : ℕ × ColumnValue). (cell : CellValue) → slice_get is.row.cells p.0 ≡ Some cell → AreLinesOfCell (is.width p.0) (cell_delimiter is.table p.1.delimiter cell) cell (is.cell_lines p cell)) (enumerate_from 0 columns) → HasFirst columns
          by_columns [] none pads each = let long = ap length are in let short = ap length none in absurd (omega (arith, long, short, is.has_columns))
          by_columns (column ∷ more) same pads each =
              let pad : IsFieldColumn column = All-head IsFieldColumn column more pads in
              let cell_is = All-head (λ (p : ℕ × ColumnValue). (cell : CellValue) → slice_get is.row.cells p.0 ≡ Some cell → AreLinesOfCell (is.width p.0) (cell_delimiter is.table p.1.delimiter cell) cell (is.cell_lines p cell)) (0, column) (enumerate_from 1 more) each cell found in
              let space : cell_delimiter is.table column.delimiter cell ≡ 0x20 =
              ap₂ (λ (a b : Option ℕ). unwrap_or a (unwrap_or b (unwrap_or is.table.delimiter 0x20))) holds.no_delimiter pad.no_delimiter ∙ ap (λ (o : Option ℕ). unwrap_or o 0x20) is.no_delimiter in
              let text : cell.text_lines ≡ field ∷ [] = holds.texts ∙ text_is.one in
              let uncut : lines_of column ≡ is.cell_lines (0, column) cell =
              ap₂ (λ (o : Option CellValue) (limit : Option ℕ). unwrap_or (option_map (λ (c : CellValue). cut_to_limit (cut_text (is.width 0) is.table.indicator) limit (is.cell_lines (0, column) c)) o) ([] ∷ [])) found is.hold.uncut in
              record {
                column = column;
                more = more;
                are = refl;
                at_side = ap (λ (o : Option CellValue). side_in o column) found ∙ ap (λ (o : Option CellAlignment). unwrap_or cell.alignment (unwrap_or o Left)) pad.no_alignment ∙ holds.at_side;
                own = by_texts (is.width 0) field cell_is.0 (subst (λ (ts : List Text). AllZip (AreLinesOfText (is.width 0) 0x20) ts cell_is.0) text (subst (λ (d : ℕ). AllZip (AreLinesOfText (is.width 0) d) cell.text_lines cell_is.0) space cell_is.1)) (lines_of column) (uncut ∙ cell_is.2);
                wide = λ is_whole.
                    let some_column : 0 < length is.table.columns = omega (arith, ap length same) in
                    let content : widest_of (is.row ∷ []) 0 ≡ max 1 (max 1 (min 65535 (measure field))) =
                    ap (λ (o : Option CellValue). max 1 (greatest (map cell_content_width (cons_option o [])))) found ∙ ap (λ (ts : List Text). max 1 (max (max 1 (min 65535 (greatest (map measure ts)))) 0)) text ∙ omega arith in
                    let kept = is.keeps_whole 0 some_column is_whole in omega (arith, content, kept);
              }
            where
              by_texts : (w : ℕ) (text : Text) (of_texts : List (List Text)) → AllZip (AreLinesOfText w 0x20) (text ∷ []) of_texts → (own : List Text) → own ≡ flat_map (λ (of_text : List Text). of_text) of_texts → (own ≡ text ∷ []) ⊎ ((w < measure text) × IsSlicesWhere (λ line tail. Unit {0}) 0x20 text own)
              by_texts w text [] zip own same = absurd zip
              by_texts w text (of_text ∷ other ∷ of_texts) zip own same = absurd zip.1
              by_texts w text (of_text ∷ []) zip own same = by_test (nat_le (measure text) w) refl
                where
                  own_is : own ≡ of_text
                  own_is = same ∙ append-nil of_text

                  by_test : (b : Bool) → nat_le (measure text) w ≡ b → (own ≡ text ∷ []) ⊎ ((w < measure text) × IsSlicesWhere (λ line tail. Unit {0}) 0x20 text own)
                  by_test true room = let fits : measure text ≤ w = grind (arith, nat_tests, room) in inl (own_is ∙ zip.0.whole fits)
                  by_test false wide = let tall : w < measure text = grind (arith, nat_tests, wide) in inr (tall, subst (IsSlicesWhere (λ line tail. Unit {0}) 0x20 text) (sym own_is) (slices_anywhere _ 0x20 text of_text (zip.0.slices tall)))

  -- a field that isn't blank has a line
  pub has_line : ¬ (field ≡ []) → 1 ≤ length lines
  has_line filled = by_columns is.table.columns first is.as_high
    where
      some_line : (own : List Text) → (own ≡ field ∷ []) ⊎ ((is.width 0 < measure field) × IsSlicesWhere (λ line tail. Unit {0}) 0x20 field own) → 1 ≤ length own
      some_line own (inl whole) = let long = ap length whole in omega (arith, long)
      some_line (line ∷ own) (inr slices) = omega arith
      some_line [] (inr (wide, (zero, blank))) = absurd (filled blank)
      some_line [] (inr (wide, (suc m, blank))) = absurd (text_is.unspaced (encode_utf8_all (replicate m 0x20)) (blank ∙ ap (λ (t : Text). t ++ encode_utf8_all (replicate m 0x20)) (encode_ascii 0x20 (omega arith))))

      by_columns : (columns : List ColumnValue) → HasFirst columns → length lines ≡ greatest (map (λ (p : ℕ × ColumnValue). length (lines_in is.table is.width is.cell_lines is.row p)) (enumerate_from 0 columns)) → 1 ≤ length lines
      by_columns [] has high = absurd (cc has.are)
      by_columns (column ∷ more) has high =
          let same : column ≡ has.column = cc has.are in
          let long = some_line (lines_of has.column) has.own in
          let own : length (lines_of column) ≡ length (lines_of has.column) = ap (λ (c : ColumnValue). length (lines_of c)) same in
          omega (arith, high, long, own)

-- a blank field has one line, with a cell or without
pub blank_line : {sides : List CellAlignment} (whole : List Bool) (lines : List Text) → IsOneRow sides whole ([] ∷ []) lines → length lines ≡ 1
blank_line {sides} whole lines is = by_columns is.table.columns is.as_many is.as_high of_column
  where
    text_is : IsOneText []
    text_is = record { one = refl; unspaced = λ rest same. cc same }

    lines_of : ColumnValue → List Text
    lines_of column = lines_in is.table is.width is.cell_lines is.row (0, column)

    of_cells : (cells : List CellValue) → is.row.cells ≡ cells → (column : ColumnValue) → is.table.columns ≡ column ∷ [] → length (lines_of column) ≡ 1
    of_cells [] none column are = ap (λ (o : Option CellValue). length (unwrap_or (option_map (λ (cell : CellValue). cut_to_limit (cut_text (is.width 0) is.table.indicator) is.row.max_height (is.cell_lines (0, column) cell)) o) ([] ∷ []))) (ap (λ (cs : List CellValue). slice_get cs 0) none)
    of_cells (cell ∷ cells) are column alone = by_own (first whole [] [] lines text_is is (λ none. cc (sym are ∙ none)))
      where
        by_own : HasFirst whole [] [] lines text_is is (λ none. cc (sym are ∙ none)) is.table.columns → length (lines_of column) ≡ 1
        by_own has =
            let same : column ≡ has.column = cc (sym alone ∙ has.are) in
            ap (λ (c : ColumnValue). length (lines_of c)) same ∙ by_lines has.own
          where
            by_lines : (lines_of has.column ≡ [] ∷ []) ⊎ ((is.width 0 < measure []) × IsSlicesWhere (λ line tail. Unit {0}) 0x20 [] (lines_of has.column)) → length (lines_of has.column) ≡ 1
            by_lines (inl own) = ap length own
            by_lines (inr (wide, slices)) = let none = measure-nil in absurd (omega (arith, wide, none))

    of_column : (column : ColumnValue) → is.table.columns ≡ column ∷ [] → length (lines_of column) ≡ 1
    of_column = of_cells is.row.cells refl

    by_columns : (columns : List ColumnValue) → length columns ≡ 1 → length lines ≡ greatest (map (λ (p : ℕ × ColumnValue). length (lines_in is.table is.width is.cell_lines is.row p)) (enumerate_from 0 columns)) → ((column : ColumnValue) → columns ≡ column ∷ [] → length (lines_of column) ≡ 1) → length lines ≡ 1
    by_columns [] one high own = absurd (omega (arith, one))
    by_columns (column ∷ other ∷ columns) one high own = absurd (omega (arith, one))
    by_columns (column ∷ []) one high own = let own_is = own column refl in omega (arith, high, own_is)

-- A line begins with one space or more, a prefix of the text, and a space. In a column that is kept whole there is room
-- for the text. In a right-aligned one, at most one space follows.
pub record BeginsWith (sides : List CellAlignment) (whole : List Bool) (field : Text) (is_alone : Bool) (line : Text) : Type 0 where
  pub left : ℕ
  pub right : ℕ
  pub front : Text
  pub others : Text
  pub is : line ≡ (spaces (suc left) ++ (front ++ spaces (suc right))) ++ others
  pub alone : is_alone ≡ true → others ≡ []
  pub tail : Text
  pub fronts : field ≡ front ++ tail
  pub wide : slice_get whole 0 ≡ Some true → min 65535 (measure field) ≤ left + measure front + right
  pub at_right : side_at sides 0 ≡ Right → right ≡ 0
  pub whole_front : slice_get whole 0 ≡ Some true → measure field ≤ 65535 → front ≡ field

module _ {sides : List CellAlignment} (whole : List Bool) (field : Text) (fields : List Text) (line : Text) (below : List Text) (text_is : IsOneText field) (is : IsOneRow sides whole (field ∷ fields) (line ∷ below)) (some : ¬ (is.row.cells ≡ [])) where
  -- the line of a row whose first field is this one begins in this way
  pub begins : BeginsWith sides whole field (length fields == 0) line
  begins = by_columns is.table.columns (first whole field fields (line ∷ below) text_is is some) is.columns here.0 here.1 here.2 (omega (arith, is.as_many))
    where
      here : (pieces : List Text) × AllZip (λ (p : ℕ × ColumnValue). IsPiece false (side_of is.row p) p.1 (is.width p.0) (slice_index_or (lines_in is.table is.width is.cell_lines is.row p) 0 [])) (enumerate_from 0 is.table.columns) pieces × (line ≡ join_by (λ (piece : Text). piece) [] pieces ++ [])
      here = is.drawn 0 (omega arith)

      -- the first line is a prefix of the text
      front_of : (own : List Text) → (own ≡ field ∷ []) ⊎ ((is.width 0 < measure field) × IsSlicesWhere (λ line tail. Unit {0}) 0x20 field own) → (tail : Text) × (field ≡ slice_index_or own 0 [] ++ tail)
      front_of own (inl whole) = ([], sym (append-nil (slice_index_or own 0 []) ∙ ap (λ (ls : List Text). slice_index_or ls 0 []) whole))
      front_of [] (inr blank) = (field, refl)
      front_of (one ∷ own) (inr (wide, (tail, slice, ends, more))) = by_gap slice.gap slice.gap_is_delimiters slice.splits
        where
          by_gap : (gap : Text) → IsOnly 0x20 gap → field ≡ gap ++ (one ++ tail) → (tail : Text) × (field ≡ one ++ tail)
          by_gap gap (zero, none) splits = (tail, splits ∙ ap (λ (g : Text). g ++ (one ++ tail)) none)
          by_gap gap (suc m, only) splits =
              absurd (text_is.unspaced (encode_utf8_all (replicate m 0x20) ++ (one ++ tail)) (splits ∙ ap (λ (g : Text). g ++ (one ++ tail)) (only ∙ ap (λ (t : Text). t ++ encode_utf8_all (replicate m 0x20)) (encode_ascii 0x20 (omega arith)))))

      by_columns : (columns : List ColumnValue) → HasFirst whole field fields (line ∷ below) text_is is some columns → All IsFieldColumn columns → (pieces : List Text)
          → AllZip (λ (p : ℕ × ColumnValue). IsPiece false (side_of is.row p) p.1 (is.width p.0) (slice_index_or (lines_in is.table is.width is.cell_lines is.row p) 0 [])) (enumerate_from 0 columns) pieces
          → line ≡ join_by (λ (piece : Text). piece) [] pieces ++ [] → length columns ≤ suc (length fields) → BeginsWith sides whole field (length fields == 0) line
      by_columns [] has pads pieces zip made_is few = absurd (cc has.are)
      by_columns (column ∷ more) has pads [] zip made_is few = absurd zip
      by_columns (column ∷ more) has pads (piece ∷ pieces) zip made_is few = by_left zip.0.left zip.0.right (zip.0.drawn ∙ ap₂ (λ (a b : Text). a ++ (slice_index_or (lines_in is.table is.width is.cell_lines is.row (0, column)) 0 [] ++ b)) zip.0.are_spaces.0 zip.0.are_spaces.1) zip.0.wide zip.0.aligned room.0 room.1
        where
          pad : column.padding ≡ (1, 1)
          pad = (All-head IsFieldColumn column more pads).padding

          -- in a column that is kept whole it is the text
          by_own : min 65535 (measure field) ≤ is.width 0 → measure field ≤ 65535 → (lines_in is.table is.width is.cell_lines is.row (0, has.column) ≡ field ∷ []) ⊎ ((is.width 0 < measure field) × IsSlicesWhere (λ line tail. Unit {0}) 0x20 field (lines_in is.table is.width is.cell_lines is.row (0, has.column))) → slice_index_or (lines_in is.table is.width is.cell_lines is.row (0, has.column)) 0 [] ≡ field
          by_own room short (inl own) = ap (λ (ls : List Text). slice_index_or ls 0 []) own
          by_own room short (inr (wide, slices)) = absurd (omega (arith, room, short, wide))

          room : (1 ≤ zip.0.left) × (1 ≤ zip.0.right)
          room =
              let one : column.padding.0 ≡ 1 = ap (λ (x : ℕ × ℕ). x.0) pad in
              let other : column.padding.1 ≡ 1 = ap (λ (x : ℕ × ℕ). x.1) pad in
              (omega (arith, one, zip.0.padded.0), omega (arith, other, zip.0.padded.1))

          same : column ≡ has.column
          same = cc has.are

          fronts : (tail : Text) × (field ≡ slice_index_or (lines_in is.table is.width is.cell_lines is.row (0, column)) 0 [] ++ tail)
          fronts = subst (λ (c : ColumnValue). (tail : Text) × (field ≡ slice_index_or (lines_in is.table is.width is.cell_lines is.row (0, c)) 0 [] ++ tail)) (sym same) (front_of (lines_in is.table is.width is.cell_lines is.row (0, has.column)) has.own)

          joined : (others : List Text) → AllZip (λ (p : ℕ × ColumnValue). IsPiece false (side_of is.row p) p.1 (is.width p.0) (slice_index_or (lines_in is.table is.width is.cell_lines is.row p) 0 [])) (enumerate_from 1 more) others
              → (rest : Text) × (join_by (λ (piece : Text). piece) [] (piece ∷ others) ++ [] ≡ piece ++ rest) × ((length fields == 0) ≡ true → rest ≡ [])
          joined others own = (flat_map (λ (other : Text). [] ++ other) others ++ [], append_assoc piece (flat_map (λ (other : Text). [] ++ other) others) [], λ alone. by_more others more own alone few)
            where
              by_more : (others : List Text) (cs : List ColumnValue) → AllZip (λ (p : ℕ × ColumnValue). IsPiece false (side_of is.row p) p.1 (is.width p.0) (slice_index_or (lines_in is.table is.width is.cell_lines is.row p) 0 [])) (enumerate_from 1 cs) others → (length fields == 0) ≡ true → suc (length cs) ≤ suc (length fields)
                  → flat_map (λ (other : Text). [] ++ other) others ++ [] ≡ []
              by_more [] cs zips alone short = refl
              by_more (other ∷ others) [] zips alone short = absurd zips
              by_more (other ∷ others) (c ∷ cs) zips alone short = absurd (grind (arith, nat_tests, alone, short))

          by_left : (l r : ℕ) → piece ≡ spaces l ++ (slice_index_or (lines_in is.table is.width is.cell_lines is.row (0, column)) 0 [] ++ spaces r)
              → l + measure (slice_index_or (lines_in is.table is.width is.cell_lines is.row (0, column)) 0 []) + r ≡ whole_width column (max (is.width 0) (measure (slice_index_or (lines_in is.table is.width is.cell_lines is.row (0, column)) 0 [])))
              → l ≡ column.padding.0 + free_before (side_of is.row (0, column)) (is.width 0 - measure (slice_index_or (lines_in is.table is.width is.cell_lines is.row (0, column)) 0 [])) → 1 ≤ l → 1 ≤ r → BeginsWith sides whole field (length fields == 0) line
          by_left zero r drawn wide aligned some_left some_right = absurd (omega (arith, some_left))
          by_left (suc l) zero drawn wide aligned some_left some_right = absurd (omega (arith, some_right))
          by_left (suc l) (suc r) drawn wide aligned some_left some_right =
              let rest = joined pieces zip.1 in
              record {
                left = l;
                right = r;
                front = slice_index_or (lines_in is.table is.width is.cell_lines is.row (0, column)) 0 [];
                others = rest.0;
                is = made_is ∙ rest.1 ∙ ap (λ (t : Text). t ++ rest.0) drawn;
                alone = rest.2;
                tail = fronts.0;
                fronts = fronts.1;
                wide = λ is_whole.
                    let one : column.padding.0 ≡ 1 = ap (λ (x : ℕ × ℕ). x.0) pad in
                    let other : column.padding.1 ≡ 1 = ap (λ (x : ℕ × ℕ). x.1) pad in
                    let kept = has.wide is_whole in omega (arith, one, other, wide, kept);
                at_right = λ right.
                    let one : column.padding.0 ≡ 1 = ap (λ (x : ℕ × ℕ). x.0) pad in
                    let other : column.padding.1 ≡ 1 = ap (λ (x : ℕ × ℕ). x.1) pad in
                    let side : side_of is.row (0, column) ≡ Right = ap (λ (c : ColumnValue). side_of is.row (0, c)) same ∙ has.at_side ∙ right in
                    let free = ap (λ (side : CellAlignment). free_before side (is.width 0 - measure (slice_index_or (lines_in is.table is.width is.cell_lines is.row (0, column)) 0 []))) side in
                    omega (arith, one, other, wide, aligned, free);
                whole_front = λ is_whole short. ap (λ (c : ColumnValue). slice_index_or (lines_in is.table is.width is.cell_lines is.row (0, c)) 0 []) same ∙ by_own (has.wide is_whole) short has.own;
              }

-- ---- lines with sequences

-- a cell after the name has no colour
plain_at : (n : ℕ) (cells : List CellValue) → All IsUncoloured (drop n cells) → is_coloured (slice_get cells n) ≡ false
plain_at zero [] plain = refl
plain_at zero (cell ∷ cells) plain = let own = All-head IsUncoloured cell cells plain in rw own.no_foreground (rw own.no_background (rw own.no_attributes refl))
plain_at (suc n) [] plain = refl
plain_at (suc n) (cell ∷ cells) plain = plain_at n cells plain

-- a text ends in a space
abbrev pub EndsInSpace : Text → Type 0
EndsInSpace line = (front : Text) × (line ≡ front ++ codes " ")

after_spaces : (n : ℕ) → 1 ≤ n → EndsInSpace (spaces n)
after_spaces zero some = absurd (omega (arith, some))
after_spaces (suc zero) some = ([], refl)
after_spaces (suc (suc n)) some = let more = after_spaces (suc n) (omega arith) in (0x20 ∷ more.0, ap (λ (t : Text). 0x20 ∷ t) more.1)

after : (front line : Text) → EndsInSpace line → EndsInSpace (front ++ line)
after front line (own, is) = (front ++ own, ap (λ (t : Text). front ++ t) is ∙ sym (append_assoc front own (codes " ")))

-- a piece without sequences ends in a space
plain_piece : {side : CellAlignment} (column : ColumnValue) → column.padding ≡ (1, 1) → (w : ℕ) (line piece : Text) → IsPiece false side column w line piece → EndsInSpace piece
plain_piece column padding w line piece is =
    let one : column.padding.1 ≡ 1 = ap (λ (x : ℕ × ℕ). x.1) padding in
    subst EndsInSpace (sym is.drawn)
    (after is.before (line ++ is.after) (after line is.after (subst EndsInSpace (sym is.are_spaces.1) (after_spaces is.right (omega (arith, one, is.padded.1))))))

-- the line of a row of one field, or of a name and one field, in a style without borders
pub ends_plain : {sides : List CellAlignment} (look : Look) → look.style ≡ dashed → (has_names : Bool) (whole : List Bool) (fields : List Text) → length fields ≡ (if has_names then 2 else 1) → (line text : Text) → ((own : List Text) → AreLinesOf text own → own ≡ line ∷ []) → IsDrawingOf look false has_names sides whole (fields ∷ []) text → EndsInSpace line
ends_plain {sides} look own_style has_names whole fields long line text cut is = by_header table.header table.rows is.is_table.header is.is_table.hold is.is_table.uncoloured is.framed.frame.is_header is.framed.frame.are_rows
  where
    table : TableValue
    table = is.table

    style : table.style ≡ dashed
    style = by_style (subst (λ (s : TableStyle). (table.style ≡ s) ⊎ (table.style ≡ condensed_style s)) own_style is.is_table.style)
      where
        by_style : (table.style ≡ dashed) ⊎ (table.style ≡ condensed_style dashed) → table.style ≡ dashed
        by_style (inl own) = own
        by_style (inr own) = own

    width : ℕ → ℕ
    width = is.framed.is_plain.width

    lines_at : ℕ × ColumnValue → CellValue → List Text
    lines_at = is.framed.is_plain.cell_lines

    Shows : RowValue → List Text → Type 0
    Shows = AreContentLines table width lines_at table.style.content_lines

    drawn : line ∷ [] ≡ is.framed.frame.header ++ (join_by (λ (block : List Text). block) [] is.framed.frame.rows ++ [])
    drawn =
        sym (cut is.lines is.are)
        ∙ subst (λ (s : TableStyle). is.lines ≡ optional_frame_line s s.top_border (widths_shown table width) ++ (is.framed.frame.header ++ (join_by (λ (block : List Text). block) (optional_frame_line s s.row_separator (widths_shown table width)) is.framed.frame.rows
        ++ optional_frame_line s s.bottom_border (widths_shown table width)))) style is.framed.frame.drawn

    -- the line ends with its last piece
    by_pieces : (row : RowValue) → All IsUncoloured (cells_after_name has_names row) → (k : ℕ) (pieces : List Text) → AllZip (λ (p : ℕ × ColumnValue). IsPiece (is_styled (should_style table) row p) (side_of row p) p.1 (width p.0) (slice_index_or (lines_in table width lines_at row p) k [])) (enumerate_from 0 table.columns) pieces
        → line ≡ join_by (λ (piece : Text). piece) [] pieces ++ [] → EndsInSpace line
    by_pieces row plain k pieces zip made = by_names has_names table.columns (All-head (λ (own : List Text). length table.columns ≡ length own) fields [] is.is_table.as_many ∙ long) is.is_table.columns plain pieces zip made
      where
        Pieces : List ColumnValue → List Text → Type 0
        Pieces columns = AllZip (λ (p : ℕ × ColumnValue). IsPiece (is_styled (should_style table) row p) (side_of row p) p.1 (width p.0) (slice_index_or (lines_in table width lines_at row p) k [])) (enumerate_from 0 columns)

        plain_last : (n : ℕ) (column : ColumnValue) → All IsUncoloured (drop n row.cells) → (piece : Text) → IsPiece (is_styled (should_style table) row (n, column)) (side_of row (n, column)) column (width n) (slice_index_or (lines_in table width lines_at row (n, column)) k []) piece → IsPiece false (side_of row (n, column)) column (width n) (slice_index_or (lines_in table width lines_at row (n, column)) k []) piece
        plain_last n column own piece = subst (λ (styles : Bool). IsPiece styles (side_of row (n, column)) column (width n) (slice_index_or (lines_in table width lines_at row (n, column)) k []) piece) (ap (λ (b : Bool). should_style table && b) (plain_at n row.cells own) ∙ none (should_style table))
          where
            none : (b : Bool) → (b && false) ≡ false
            none true = refl
            none false = refl

        by_names : (names : Bool) (columns : List ColumnValue) → length columns ≡ (if names then 2 else 1) → All IsFieldColumn columns → All IsUncoloured (cells_after_name names row) → (pieces : List Text) → Pieces columns pieces → line ≡ join_by (λ (piece : Text). piece) [] pieces ++ [] → EndsInSpace line
        by_names false (column ∷ []) one pads own (piece ∷ []) zip made =
            subst EndsInSpace (sym (made ∙ append-nil (piece ++ []) ∙ append-nil piece))
            (plain_piece column (All-head IsFieldColumn column [] pads).padding (width 0) (slice_index_or (lines_in table width lines_at row (0, column)) k []) piece (plain_last 0 column own piece zip.0))
        by_names false (column ∷ []) one pads own [] zip made = absurd zip
        by_names false (column ∷ []) one pads own (piece ∷ other ∷ pieces) zip made = absurd zip.1
        by_names false [] one pads own pieces zip made = absurd (omega (arith, one))
        by_names false (column ∷ other ∷ columns) one pads own pieces zip made = absurd (omega (arith, one))
        by_names true (name ∷ column ∷ []) two pads own (piece ∷ last ∷ []) zip made =
            subst EndsInSpace (sym (made ∙ append-nil (piece ++ (last ++ [])) ∙ ap (λ (t : Text). piece ++ t) (append-nil last)))
            (after piece last (plain_piece column (All-head IsFieldColumn column [] (All-tail IsFieldColumn name (column ∷ []) pads)).padding (width 1) (slice_index_or (lines_in table width lines_at row (1, column)) k []) last (plain_last 1 column own last zip.1.0)))
        by_names true (name ∷ column ∷ []) two pads own [] zip made = absurd zip
        by_names true (name ∷ column ∷ []) two pads own (piece ∷ []) zip made = absurd zip.1
        by_names true (name ∷ column ∷ []) two pads own (piece ∷ last ∷ other ∷ pieces) zip made = absurd zip.1.1
        by_names true [] two pads own pieces zip made = absurd (omega (arith, two))
        by_names true (column ∷ []) two pads own pieces zip made = absurd (omega (arith, two))
        by_names true (name ∷ column ∷ other ∷ columns) two pads own pieces zip made = absurd (omega (arith, two))

    by_block : (row : RowValue) → All IsUncoloured (cells_after_name has_names row) → (block : List Text) → line ∷ [] ≡ block → Shows row block → EndsInSpace line
    by_block row plain block same shows =
        let own : AreLinesOfParts (should_style table) table row width (lines_in table width lines_at row) table.style.content_lines (line ∷ []) =
        subst (AreLinesOfParts (should_style table) table row width (lines_in table width lines_at row) table.style.content_lines) (sym same) (shows.are is.is_table.no_sequences) in
        let here = own.drawn 0 (omega arith) in
        by_pieces row plain 0 here.0
        (subst (λ (ps : List (ℕ × ColumnValue)). AllZip (λ (p : ℕ × ColumnValue). IsPiece (is_styled (should_style table) row p) (side_of row p) p.1 (width p.0) (slice_index_or (lines_in table width lines_at row p) 0 [])) ps here.0) is.is_table.shown here.1)
        (here.2 ∙ ap (λ (s : TableStyle). content_line s s.content_lines here.0) style)

    by_header : (header : Option RowValue) (rows : List RowValue) → is_some header ≡ false → AllZip (HoldsFields sides) (fields ∷ []) (option_to_list header ++ rows) → All (λ (row : RowValue). All IsUncoloured (cells_after_name has_names row)) rows
        → MatchOption header (is.framed.frame.header ≡ []) (λ row. (block : List Text) × AreContentLines table width lines_at table.style.header_lines row block × (is.framed.frame.header ≡ block ++ framed table width table.style.header_separator)) → AllZip Shows rows is.framed.frame.rows → EndsInSpace line
    by_header (Some header) rows none hold plain own are = absurd (cc none)
    by_header None [] none hold plain own are = absurd hold
    by_header None (row ∷ other ∷ rows) none hold plain own are = absurd hold.1
    by_header None (row ∷ []) none hold plain own are = by_rows is.framed.frame.rows refl are
      where
        by_rows : (blocks : List (List Text)) → is.framed.frame.rows ≡ blocks → AllZip Shows (row ∷ []) blocks → EndsInSpace line
        by_rows [] is_rows zip = absurd zip
        by_rows (block ∷ other ∷ blocks) is_rows zip = absurd zip.1
        by_rows (block ∷ []) is_rows zip =
            by_block row (All-head (λ (r : RowValue). All IsUncoloured (cells_after_name has_names r)) row [] plain) block
            (drawn ∙ ap₂ (λ (h : List Text) (bs : List (List Text)). h ++ (join_by (λ (b : List Text). b) [] bs ++ [])) own is_rows ∙ append-nil (block ++ []) ∙ append-nil block) zip.0
