-- Adding a row at the end of a table keeps the lines above the bottom border, if no column gets wider.
use Rattle.std.proofs.Common.{◌≡◌, ◌≤◌, ℕ, ◌-◌, List, [], ◌∷◌, ◌++◌, Option, Some, None, length, map, max, nat_lt, arith, refl, sym, ap, ap₂, ◌∙◌, subst, append-nil, append_assoc}
use Rattle.std.specs.List.{join_by, range_with_len, slice_get}
use Rattle.std.specs.Prelude.{MatchOption, if◌then◌else◌, option_and_then, unwrap_or}
use Rattle.std.proofs.lemmas.List.{map-append}
use Rattle.comfy_parts.specs.CellValue.{CellValue, ColumnInfo, ColumnValue, RowValue, column_padding, new_column}
use Rattle.comfy_parts.specs.Text.{Text, greatest}
use Rattle.comfy_table.proofs.BoundaryLemmas.{fixed_same, upper_same}
use Rattle.comfy_table.proofs.ColumnCellLemmas.{greatest-append, greatest_measured, of_measured}
use Rattle.comfy_parts.proofs.CallerLemmas.{join_by_push}
use Rattle.comfy_table.proofs.OneDrawingLemmas.{arranged_is_one}
use Rattle.comfy_table.proofs.OtherRowLemmas.{header_same, row_same}
use Rattle.comfy_table.specs.AddedRows.{HasColumnsFor, IsWithinContents, RowIsAddedBelow, ShownLinesStay, added_lines, bottom_lines, lines_above_bottom}
use Rattle.comfy_table.specs.Arrangement.{IsArranged, hidden_columns, is_full_width, room_beside_borders, width_kept, widths_at}
use Rattle.comfy_table.specs.Drawing.{drawing, drawing_of_infos, drawn_header, drawn_row, drawn_rows, infos_of, outer_widths}
use Rattle.comfy_table.specs.Dynamic.{IsDynamicLayout}
use Rattle.comfy_table.specs.Frame.{optional_frame_line}
use Rattle.comfy_table.specs.TableValue.{TableValue, cell_content_width, cells_at, cells_with_header, column_content_width, measured_cell, shown_columns, table_width, with_other_rows, with_row}
use Rattle.comfy_table.specs.Widths.{capped_content, disabled_width, fixed_by_constraint, shown_count, shown_needs, upper_boundary}

module _ (table : TableValue) (row : RowValue) where
  -- the table with the row appended, and the same columns
  abbrev longer : TableValue
  longer = with_other_rows (table.rows ++ row ∷ []) table

  -- if each cell has a column, this is the table with the row
  with_row-is : HasColumnsFor table row → with_row row table ≡ longer
  with_row-is enough =
      let none : length row.cells - length table.columns ≡ 0 = omega (arith, enough) in
      ap (λ (columns : List ColumnValue). record longer { columns = columns })
      (ap (λ n. table.columns ++ map new_column (range_with_len (length table.columns) n)) none ∙ append-nil table.columns)

  -- ---- lines

  module _ (infos : List ColumnInfo) where
    abbrev separator : List Text
    separator = optional_frame_line table.style table.style.row_separator (outer_widths infos)

    rows_are : drawn_rows longer infos (table.rows ++ row ∷ []) ≡ drawn_rows table infos table.rows ++ added_lines table infos row
    rows_are =
        (λ i. join_by (λ (r : RowValue). row_same table (table.rows ++ row ∷ []) infos table.style.content_lines r i) separator (table.rows ++ row ∷ []))
        ∙ join_by_push (drawn_row table infos table.style.content_lines) separator table.rows row
        ∙ append_assoc (drawn_rows table infos table.rows) (if nat_lt 0 (length table.rows) then separator else []) (drawn_row table infos table.style.content_lines row)

    -- four parts regrouped: the two in the middle are joined
    regrouped : (top header rows bottom : List Text) → top ++ (header ++ (rows ++ bottom)) ≡ (top ++ (header ++ rows)) ++ bottom
    regrouped top header rows bottom = ap (λ (ls : List Text). top ++ ls) (sym (append_assoc header rows bottom)) ∙ sym (append_assoc top (header ++ rows) bottom)

    above_is : drawing_of_infos table infos ≡ lines_above_bottom table infos ++ bottom_lines table infos
    above_is = regrouped (optional_frame_line table.style table.style.top_border (outer_widths infos)) (drawn_header table infos table.header) (drawn_rows table infos table.rows) (bottom_lines table infos)

    longer_is : drawing_of_infos longer infos ≡ lines_above_bottom table infos ++ (added_lines table infos row ++ bottom_lines table infos)
    longer_is =
        let top = optional_frame_line table.style table.style.top_border (outer_widths infos) in
        let rows = drawn_rows table infos table.rows in
        let added = added_lines table infos row in
        ap (λ (header : List Text). top ++ (header ++ (drawn_rows longer infos (table.rows ++ row ∷ []) ++ bottom_lines table infos))) (header_same table (table.rows ++ row ∷ []) infos table.header)
        ∙ ap (λ (lines : List Text). top ++ (drawn_header table infos table.header ++ (lines ++ bottom_lines table infos))) rows_are
        ∙ ap (λ (lines : List Text). top ++ (drawn_header table infos table.header ++ lines)) (append_assoc rows added (bottom_lines table infos))
        ∙ regrouped top (drawn_header table infos table.header) rows (added ++ bottom_lines table infos)

  -- so the lines of the row come above the bottom border
  pub row_is_added_below : (widths : List ℕ) → RowIsAddedBelow table row widths
  row_is_added_below widths enough = (above_is (infos_of table widths), ap (λ (t : TableValue). drawing t widths) (with_row-is enough) ∙ longer_is (infos_of table widths))

  -- ---- widths

  module _ (within : IsWithinContents table row) where
    abbrev own : Option CellValue → ℕ
    own = of_measured table cell_content_width

    own_same : (cell : Option CellValue) → of_measured longer cell_content_width cell ≡ own cell
    own_same None = refl
    own_same (Some cell) = refl

    own_within : (i : ℕ) → own (slice_get row.cells i) ≤ column_content_width table i
    own_within i = by_cell (slice_get row.cells i) (within i)
      where
        by_cell : (o : Option CellValue) → ((cell : CellValue) → o ≡ Some cell → cell_content_width (measured_cell table cell) ≤ column_content_width table i) → own o ≤ column_content_width table i
        by_cell None each = omega arith
        by_cell (Some cell) each = each cell refl

    -- the row's cell doesn't widen the column
    content_same : (i : ℕ) → column_content_width longer i ≡ column_content_width table i
    content_same i = omega (arith, chain, split, known, own_within i)
      where
        header : ℕ
        header = own (option_and_then (λ (r : RowValue). slice_get r.cells i) table.header)

        chain : column_content_width longer i ≡ max header (greatest (map own (cells_at table.rows i ++ slice_get row.cells i ∷ [])))
        chain =
            greatest_measured longer cell_content_width i ∙ (λ j. greatest (map (λ (o : Option CellValue). own_same o j) (cells_with_header longer i)))
            ∙ ap (λ (cells : List (Option CellValue)). max header (greatest (map own cells))) (map-append (λ (r : RowValue). slice_get r.cells i) table.rows (row ∷ []))

        split : greatest (map own (cells_at table.rows i ++ slice_get row.cells i ∷ [])) ≡ max (greatest (map own (cells_at table.rows i))) (max (own (slice_get row.cells i)) 0)
        split = ap greatest (map-append own (cells_at table.rows i) (slice_get row.cells i ∷ [])) ∙ greatest-append (map own (cells_at table.rows i)) (own (slice_get row.cells i) ∷ [])

        known : column_content_width table i ≡ max header (greatest (map own (cells_at table.rows i)))
        known = greatest_measured table cell_content_width i

    disabled_same : (p : ℕ × ColumnValue) → disabled_width longer p ≡ disabled_width table p
    disabled_same p =
        let n = shown_count table in
        let padding = column_padding p.1 in
        ap (λ content. unwrap_or (fixed_by_constraint longer n content padding p.1.constraint) (capped_content content padding (upper_boundary longer n p.1.constraint))) (content_same p.0)
        ∙ ap₂ (λ (fixed upper : Option ℕ). unwrap_or fixed (capped_content (column_content_width table p.0) padding upper))
        (fixed_same longer table refl refl n (column_content_width table p.0) padding p.1.constraint) (upper_same longer table refl refl n p.1.constraint)

    -- if no width is kept, no column's width changes
    widths_stay : (widths : List ℕ) → width_kept table.arrangement (table_width table) ≡ None → IsArranged table widths → IsArranged longer widths
    widths_stay widths none arranged =
        record {
          one_for_each = arranged.one_for_each;
          hidden_widths = arranged.hidden_widths ∙ (λ j. map (λ (p : ℕ × ColumnValue). max 1 (sym (content_same p.0) j)) (hidden_columns table));
          shown_widths = subst (Are longer) (sym none) (subst (Are table) none arranged.shown_widths ∙ (λ j. map (λ (p : ℕ × ColumnValue). sym (disabled_same p) j) (shown_columns table)));
        }
      where
        shown : List ℕ
        shown = widths_at widths (shown_columns table)

        Are : TableValue → Option ℕ → Type 0
        Are t o = MatchOption o (shown ≡ map (disabled_width t) (shown_columns t)) (λ w. IsDynamicLayout (room_beside_borders t w) (shown_needs t) (is_full_width t.arrangement) shown)

  -- so all lines that were drawn stay
  pub shown_lines_stay : (lines others : List Text) → ShownLinesStay table row lines others
  shown_lines_stay lines others none enough within (ws, before, is) (vs, after, are) =
      let same : vs ≡ ws = arranged_is_one longer vs ws (subst (λ (t : TableValue). IsArranged t vs) (with_row-is enough) after) (widths_stay within ws none before) in
      let drawn = row_is_added_below ws enough in
      (ws, (is ∙ drawn.0, are ∙ ap (drawing (with_row row table)) same ∙ drawn.1))
