-- The texts of a table in its drawing.
use Rattle.std.proofs.Common.{◌≡◌, inl, inr, ◌<◌, ◌≤◌, ℕ, Bool, true, false, List, [], ◌∷◌, ◌++◌, Option, Some, None, length, map, max, not, flat_map, refl, sym, ap, ap₂, ◌∙◌, subst, arith, slice_index_or, unwrap_or, nat_le}
use Rattle.std.specs.List.{All, AllZip, slice_get, filter_map}
use Rattle.std.specs.Prelude.{Contains, option_map, option_to_list, slice_index, MatchOption}
use Rattle.std.specs.Str.{IsUtf8}
use Rattle.std.proofs.lemmas.List.Elements.{All-append, All-contains, All-from_recursion, All-head, All-tail, All-weaker, recursion_from_All}
use Rattle.comfy_parts.proofs.CallerLemmas.{All-at, All-given, every-parts}
use Rattle.comfy_parts.specs.CellValue.{CellValue, ColumnValue, RowValue, is_hidden_column}
use Rattle.comfy_parts.specs.Text.{Text, greatest, measure}
use Rattle.comfy_parts.specs.Wrapping.{IsSlicesWhere}
use Rattle.comfy_parts.specs.declared.style.table.ContentArrangement.TheVariants.{Disabled}
use Rattle.comfy_parts.specs.declared.style.table_style.ContentLineStyle.{ContentLineStyle}
use Rattle.std.proofs.lemmas.Bool.Decides.{nat_tests}
use Rattle.comfy_table.proofs.ThreePlacesLemmas.{every-le-greatest}
use Rattle.comfy_table.proofs.UnstyledLemmas.{unstyled_drawing}
use Rattle.comfy_table.specs.Drawing.{drawing, infos_of}
use Rattle.comfy_table.specs.Headline.{IsTableDrawing}
use Rattle.comfy_table.specs.Laws.{unstyled}
use Rattle.comfy_table.specs.Lines.{cell_delimiter, cut_text, cut_to_limit}
use Rattle.comfy_table.specs.TableValue.{TableValue, cell_content_width, header_and_rows, measured_rows, should_style, shown_columns, with_other_rows}
use Rattle.promises.proofs.DrawnColumnLemmas.{IsWholeAt, whole_at}
use Rattle.promises.proofs.HeadlineLemmas.{bare, framed-plain, framed-width, framed_table, headline, styled_lines}
use Rattle.promises.proofs.PieceLemmas.{measured-plain, plainly}
use Rattle.promises.proofs.PlacedLemmas.{measured_plain, placed}
use Rattle.promises.specs.Headline.{AreContentLines, AreLinesOfCell, AreLinesOfParts, AreLinesOfText, EachShownCell, IsFramedBy, IsFramedTable, IsHeadline, IsPiece, framed, is_styled, side_of, lines_in, widest}
use Rattle.promises.specs.Kept.{AreShown, AreSlicesOf, ShowsRow, ShowsWholeRow}
use Rattle.promises.specs.Shown.{IsStyled}
use Rattle.promises.specs.Tables.{IsShownWhole}

-- two functions that agree on each element give the same list
same_maps : {X Y : Type 0} (f g : X → Y) (xs : List X) → All (λ x. f x ≡ g x) xs → map f xs ≡ map g xs
same_maps f g [] same = refl
same_maps f g (x ∷ xs) same = ap₂ (λ (y : _) (ys : List _). y ∷ ys) (All-head (λ x. f x ≡ g x) x xs same) (same_maps f g xs (All-tail (λ x. f x ≡ g x) x xs same))

-- slices that end at given places are slices
pub slices_anywhere : (Ends : Text → Text → Type 0) (d : ℕ) (text : Text) (lines : List Text) → IsSlicesWhere Ends d text lines → IsSlicesWhere (λ line tail. Unit {0}) d text lines
slices_anywhere Ends d text [] only = only
slices_anywhere Ends d text (line ∷ lines) (tail, slice, ends, more) = (tail, slice, tt, slices_anywhere Ends d tail lines more)

-- ---- rows between frame lines

-- if each row's lines show something else too, so do the lines between frame lines
module _ (Is : RowValue → Type 0) (Shows Others : ContentLineStyle → RowValue → List Text → Type 0)
    (gives : (borders : ContentLineStyle) (row : RowValue) (block : List Text) → Is row → Shows borders row block → Others borders row block) where
  rows_give : (borders : ContentLineStyle) (rows : List RowValue) (blocks : List (List Text)) → All Is rows → AllZip (Shows borders) rows blocks → AllZip (Others borders) rows blocks
  rows_give borders [] [] each zip = tt
  rows_give borders [] (block ∷ blocks) each zip = absurd zip
  rows_give borders (row ∷ rows) [] each zip = absurd zip
  rows_give borders (row ∷ rows) (block ∷ blocks) each zip =
      (gives borders row block (All-head Is row rows each) zip.0, rows_give borders rows blocks (All-tail Is row rows each) zip.1)

  pub frame_gives : (table : TableValue) (width : ℕ → ℕ) (lines : List Text) → All Is (header_and_rows table) → IsFramedBy Shows table width lines → IsFramedBy Others table width lines
  frame_gives table width lines each is =
      record { header = is.header; rows = is.rows; is_header = by_header table.header each is.is_header; are_rows = rows_give table.style.content_lines table.rows is.rows (others table.header each) is.are_rows; drawn = is.drawn }
    where
      others : (header : Option RowValue) → All Is (option_to_list header ++ table.rows) → All Is table.rows
      others None own = own
      others (Some row) own = All-tail Is row table.rows own

      by_header : (header : Option RowValue) → All Is (option_to_list header ++ table.rows)
          → MatchOption header (is.header ≡ []) (λ row. (block : List Text) × Shows table.style.header_lines row block × (is.header ≡ block ++ framed table width table.style.header_separator))
          → MatchOption header (is.header ≡ []) (λ row. (block : List Text) × Others table.style.header_lines row block × (is.header ≡ block ++ framed table width table.style.header_separator))
      by_header None own none = none
      by_header (Some row) own (block, shows, made) = (block, gives table.style.header_lines row block (All-head Is row table.rows own) shows, made)

-- the lines of parts are the lines of equal parts
module _ (styles : Bool) (table : TableValue) (row : RowValue) (width : ℕ → ℕ) (parts others : ℕ × ColumnValue → List Text) where
  abbrev IsSame : ℕ × ColumnValue → Type 0
  IsSame p = parts p ≡ others p

  other_pieces : (k : ℕ) (ps : List (ℕ × ColumnValue)) (pieces : List Text) → All IsSame ps
      → AllZip (λ (p : ℕ × ColumnValue). IsPiece (is_styled styles row p) (side_of row p) p.1 (width p.0) (slice_index_or (parts p) k [])) ps pieces → AllZip (λ (p : ℕ × ColumnValue). IsPiece (is_styled styles row p) (side_of row p) p.1 (width p.0) (slice_index_or (others p) k [])) ps pieces
  other_pieces k [] [] same zip = tt
  other_pieces k [] (piece ∷ pieces) same zip = absurd zip
  other_pieces k (p ∷ ps) [] same zip = absurd zip
  other_pieces k (p ∷ ps) (piece ∷ pieces) same zip =
      (subst (λ (part : List Text). IsPiece (is_styled styles row p) (side_of row p) p.1 (width p.0) (slice_index_or part k []) piece) (All-head IsSame p ps same) zip.0, other_pieces k ps pieces (All-tail IsSame p ps same) zip.1)

  other_parts : (borders : ContentLineStyle) (block : List Text) → All IsSame (shown_columns table) → AreLinesOfParts styles table row width parts borders block → AreLinesOfParts styles table row width others borders block
  other_parts borders block same own =
      record {
        as_high =
            own.as_high
            ∙ ap greatest (same_maps (λ (p : ℕ × ColumnValue). length (parts p)) (λ (p : ℕ × ColumnValue). length (others p)) (shown_columns table) (All-weaker IsSame (λ (p : ℕ × ColumnValue). length (parts p) ≡ length (others p)) (λ p is. ap length is) (shown_columns table) same));
        drawn = λ k below. let here = own.drawn k below in (here.0, other_pieces k (shown_columns table) here.0 same here.1, here.2);
      }

-- ---- texts

module _ (table : TableValue) (width : ℕ → ℕ) (cell_lines : ℕ × ColumnValue → CellValue → List Text) (none : table.custom_styling ≡ false)
    (are : EachShownCell (λ row p cell. AreLinesOfCell (width p.0) (cell_delimiter table p.1.delimiter cell) cell (cell_lines p cell)) table) where
  -- the cut lines of a cell
  abbrev cut_of : RowValue → ℕ × ColumnValue → CellValue → List Text
  cut_of row p cell = cut_to_limit (cut_text (width p.0) table.indicator) row.max_height (cell_lines p cell)

  -- the lines of texts are slices
  slices_of : (w d : ℕ) (texts : List Text) (of_texts : List (List Text)) → AllZip (AreLinesOfText w d) texts of_texts → AllZip (AreSlicesOf d) texts of_texts
  slices_of w d [] [] zip = tt
  slices_of w d [] (own ∷ of_texts) zip = absurd zip
  slices_of w d (text ∷ texts) [] zip = absurd zip
  slices_of w d (text ∷ texts) (own ∷ of_texts) zip = (by_test (nat_le (measure text) w) refl, slices_of w d texts of_texts zip.1)
    where
      by_test : (b : Bool) → nat_le (measure text) w ≡ b → AreSlicesOf d text own
      by_test true room = let fits : measure text ≤ w = grind (arith, nat_tests, room) in inl (zip.0.whole fits)
      by_test false wide = let tall : w < measure text = grind (arith, nat_tests, wide) in inr (slices_anywhere _ d text own (zip.0.slices tall))

  -- the cells of a row have these lines
  abbrev HasLinesOf : RowValue → Type 0
  HasLinesOf row = All (λ (p : ℕ × ColumnValue). (cell : CellValue) → slice_get row.cells p.0 ≡ Some cell
      → AreLinesOfCell (width p.0) (cell_delimiter table p.1.delimiter cell) cell (cell_lines p cell)) (shown_columns table)

  shows_row : (borders : ContentLineStyle) (row : RowValue) (block : List Text) → HasLinesOf row → AreContentLines table width cell_lines borders row block → ShowsRow table width borders row block
  shows_row borders row block has own =
      record {
        slices = lines_in table width cell_lines row;
        shown = own.are none;
        are_slices = λ uncut j other below.
            let p = slice_index_or (shown_columns table) j other in
            by_cell uncut p (slice_get row.cells p.0) (λ cell found. has j other below cell found);
      }
    where
      by_cell : row.max_height ≡ None → (p : ℕ × ColumnValue) (o : Option CellValue) → ((cell : CellValue) → o ≡ Some cell → AreLinesOfCell (width p.0) (cell_delimiter table p.1.delimiter cell) cell (cell_lines p cell))
          → MatchOption o (unwrap_or (option_map (cut_of row p) o) ([] ∷ []) ≡ [] ∷ [])
          (λ cell. (of_texts : List (List Text)) × AllZip (AreSlicesOf (cell_delimiter table p.1.delimiter cell)) cell.text_lines of_texts × (unwrap_or (option_map (cut_of row p) o) ([] ∷ []) ≡ flat_map (λ (of_text : List Text). of_text) of_texts))
      by_cell uncut p None each = refl
      by_cell uncut p (Some cell) each =
          let own = each cell refl in
          (own.0, slices_of (width p.0) (cell_delimiter table p.1.delimiter cell) cell.text_lines own.0 own.1, ap (λ (limit : Option ℕ). cut_to_limit (cut_text (width p.0) table.indicator) limit (cell_lines p cell)) uncut ∙ own.2)

  pub all_shown : (lines : List Text) → IsFramedBy (AreContentLines table width cell_lines) table width lines → AreShown (ShowsRow table) table lines
  all_shown lines is = (width, frame_gives HasLinesOf (AreContentLines table width cell_lines) (ShowsRow table width) shows_row table width lines are is)

  -- ---- tables that are as wide as their texts

  -- texts that fit are their own lines
  own_lines : (w d : ℕ) (texts : List Text) (of_texts : List (List Text)) → All (λ text. measure text ≤ w) texts → AllZip (AreLinesOfText w d) texts of_texts → flat_map (λ (of_text : List Text). of_text) of_texts ≡ texts
  own_lines w d [] [] fit zip = refl
  own_lines w d [] (own ∷ of_texts) fit zip = absurd zip
  own_lines w d (text ∷ texts) [] fit zip = absurd zip
  own_lines w d (text ∷ texts) (own ∷ of_texts) fit zip =
      ap₂ (λ (a b : List Text). a ++ b) (zip.0.whole (All-head (λ (t : Text). measure t ≤ w) text texts fit)) (own_lines w d texts of_texts (All-tail (λ (t : Text). measure t ≤ w) text texts fit) zip.1)

  -- the text lines of a row's cell, or one empty text line if it has no cell
  abbrev texts_in : RowValue → ℕ × ColumnValue → List Text
  texts_in row p = unwrap_or (option_map (λ (cell : CellValue). cell.text_lines) (slice_get row.cells p.0)) ([] ∷ [])

  module _ (by_content : All (λ (p : ℕ × ColumnValue). p.1.constraint ≡ None → width p.0 ≡ widest table p.0) (shown_columns table)) (whole : IsShownWhole table) where
    -- a row that nothing cuts, and whose texts fit their columns
    pub record Fits (row : RowValue) : Type 0 where
      pub has : HasLinesOf row
      pub uncut : row.max_height ≡ None
      pub texts : All (λ (p : ℕ × ColumnValue). (cell : CellValue) → slice_get row.cells p.0 ≡ Some cell → All (λ text. measure text ≤ width p.0) cell.text_lines) (shown_columns table)

    abbrev cells_below : ℕ → List CellValue
    cells_below i = filter_map (λ (row : RowValue). slice_get row.cells i) (header_and_rows table)

    contents_at : (i : ℕ) → All (λ (row : RowValue). (cell : CellValue) → slice_get row.cells i ≡ Some cell → cell_content_width cell ≤ greatest (map cell_content_width (cells_below i))) (header_and_rows table)
    contents_at i =
        All-given (λ (c : CellValue). cell_content_width c ≤ greatest (map cell_content_width (cells_below i))) (λ (row : RowValue). slice_get row.cells i) (header_and_rows table)
        (All-from_recursion _ (cells_below i) (every-le-greatest cell_content_width (cells_below i)))

    rows_fit : All Fits (header_and_rows table)
    rows_fit k default under =
        let row = slice_index_or (header_and_rows table) k default in
        record {
          has = are k default under;
          uncut = whole.uncut k default under;
          texts = λ j other below cell found at text inside.
              let p = slice_index_or (shown_columns table) j other in
              let free = placed (λ (column : ColumnValue). not (is_hidden_column column)) (λ column. column.constraint ≡ None) 0 table.columns whole.no_constraint j other below in
              let wide = by_content j other below free in
              let room : cell_content_width cell ≤ greatest (map cell_content_width (cells_below p.0)) = contents_at p.0 k default under cell found in
              let most : measure (slice_index_or cell.text_lines at text) ≤ greatest (map measure cell.text_lines) = All-from_recursion _ cell.text_lines (every-le-greatest measure cell.text_lines) at text inside in
              let short : measure (slice_index_or cell.text_lines at text) ≤ 65535 = All-at (λ (c : CellValue). All (λ line. measure line ≤ 65535) c.text_lines) row.cells p.0 cell (whole.short k default under) found at text inside in
              omega (arith, wide, room, most, short);
        }

    slices_are_texts : (row : RowValue) → Fits row → All (λ (p : ℕ × ColumnValue). lines_in table width cell_lines row p ≡ texts_in row p) (shown_columns table)
    slices_are_texts row fits j other below =
        let q = slice_index_or (shown_columns table) j other in
        by_cell q (slice_get row.cells q.0) (λ cell found. fits.texts j other below cell found) (λ cell found. fits.has j other below cell found)
      where
        by_cell : (p : ℕ × ColumnValue) (o : Option CellValue) → ((cell : CellValue) → o ≡ Some cell → All (λ text. measure text ≤ width p.0) cell.text_lines)
            → ((cell : CellValue) → o ≡ Some cell → AreLinesOfCell (width p.0) (cell_delimiter table p.1.delimiter cell) cell (cell_lines p cell))
            → unwrap_or (option_map (cut_of row p) o) ([] ∷ []) ≡ unwrap_or (option_map (λ (cell : CellValue). cell.text_lines) o) ([] ∷ [])
        by_cell p None texts own = refl
        by_cell p (Some cell) texts own =
            let lines = own cell refl in
            ap (λ (limit : Option ℕ). cut_to_limit (cut_text (width p.0) table.indicator) limit (cell_lines p cell)) fits.uncut ∙ lines.2
            ∙ own_lines (width p.0) (cell_delimiter table p.1.delimiter cell) cell.text_lines lines.0 (texts cell refl) lines.1

    shows_whole : (borders : ContentLineStyle) (row : RowValue) (block : List Text) → Fits row → AreContentLines table width cell_lines borders row block → ShowsWholeRow table width borders row block
    shows_whole borders row block fits own = other_parts (should_style table) table row width (lines_in table width cell_lines row) (texts_in row) borders block (slices_are_texts row fits) (own.are none)

    pub whole_shown : (lines : List Text) → IsFramedBy (AreContentLines table width cell_lines) table width lines → AreShown (ShowsWholeRow table) table lines
    whole_shown lines is = (width, frame_gives Fits (AreContentLines table width cell_lines) (ShowsWholeRow table width) shows_whole table width lines rows_fit is)

-- the texts are in every drawing of a table
module _ (table : TableValue) (lines : List Text) (drawn : IsTableDrawing table lines) (plain : table.custom_styling ≡ false) where
  -- some rows of the table, drawn at the table's widths
  module _ (rows : List RowValue) (within : All (Contains table.rows) rows) where
    abbrev pub part : TableValue
    part = with_other_rows rows table

    -- a property of each row of the table holds of each of these rows
    measured_part : (P : RowValue → Type 0) → All P (measured_rows table) → All P (measured_rows part)
    measured_part P each =
        let both = every-parts P (option_to_list table.header) table.rows (recursion_from_All P _ (subst (All P) (measured_plain table plain) each)) in
        subst (All P) (sym (measured_plain part plain))
        (All-append P (option_to_list table.header) rows (All-from_recursion P _ both.0) (All-weaker (Contains table.rows) P (λ row own. All-contains P table.rows row (All-from_recursion P _ both.1) own) rows within))

    -- the drawing of these rows is framed as that of the table
    pub part_framed : IsFramedTable part (drawing part drawn.widths)
    part_framed =
        let same : unstyled part ≡ bare part = ap bare (measured-plain part plain) in
        framed_table part drawn.widths plain drawn.arranged.one_for_each
        (subst (All (λ (row : RowValue). All (IsWholeAt table row) (shown_columns table))) (measured_plain part plain) (measured_part (λ row. All (IsWholeAt table row) (shown_columns table)) (whole_at table lines drawn)))
        (subst (λ (t : TableValue). AllZip IsStyled (drawing t drawn.widths) (drawing part drawn.widths)) same (styled_lines part drawn.widths (measured_part (λ row. All (λ (cell : CellValue). All IsUtf8 cell.text_lines) row.cells) drawn.texts.whole_texts)))
        (λ none. sym (unstyled_drawing part (infos_of part drawn.widths) none plain) ∙ ap (λ (t : TableValue). drawing t drawn.widths) same)

    pub part_plain : part_framed.plain ≡ drawing (plainly part) drawn.widths
    unfolding part_framed
    part_plain = framed-plain part drawn.widths plain _ _ _ _ ∙ ap (λ (custom : Bool). drawing (record part { custom_styling = custom; no_tty = true; enforce_styling = false }) drawn.widths) (sym plain)

    -- its columns have the table's widths
    pub part_width : (i : ℕ) → part_framed.is_plain.width i ≡ max 1 (slice_index drawn.widths i)
    unfolding part_framed
    part_width i = framed-width part drawn.widths plain _ _ _ _ i

  -- the headline of the table
  is : IsHeadline table lines
  is = headline table lines drawn

  abbrev width_at : ℕ → ℕ
  width_at = is.is_plain.framed.width

  abbrev lines_at : ℕ × ColumnValue → CellValue → List Text
  lines_at = is.is_plain.framed.cell_lines

  its_lines : EachShownCell (λ row p cell. AreLinesOfCell (width_at p.0) (cell_delimiter table p.1.delimiter cell) cell (lines_at p cell)) table
  its_lines =
      subst (λ (t : TableValue). EachShownCell (λ row p cell. AreLinesOfCell (width_at p.0) (cell_delimiter t p.1.delimiter cell) cell (lines_at p cell)) t) (measured-plain table plain) is.is_plain.framed.are_cell_lines

  pub all_texts_are_there : AreShown (ShowsRow table) table lines
  all_texts_are_there = all_shown table width_at lines_at plain its_lines lines is.frame

  pub whole_texts_are_there : table.arrangement ≡ Disabled → IsShownWhole table → AreShown (ShowsWholeRow table) table lines
  whole_texts_are_there disabled whole =
      whole_shown table width_at lines_at plain its_lines
      (subst (λ (t : TableValue). All (λ (p : ℕ × ColumnValue). p.1.constraint ≡ None → width_at p.0 ≡ widest t p.0) (shown_columns t)) (measured-plain table plain) (is.is_plain.by_content (inl disabled))) whole lines is.frame
