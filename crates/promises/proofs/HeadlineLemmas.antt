-- Every drawing consists of frame lines and of rows of padded lines.
use Rattle.std.proofs.Common.{eq-zero-or-pos, ◌≢◌, ◌/◌, ap₂, ◌&&◌, ◌||◌, is_some, ◌≡◌, ◌⊎◌, inl, inr, ◌<◌, ◌≤◌, ℕ, zero, suc, ◌+◌, ◌-◌, Bool, true, false, List, [], ◌∷◌, ◌++◌, Option, Some, None, length, map, flat_map, refl, sym, ap, ◌∙◌, subst, arith, append_assoc, append-nil, length-append, slice_index_or, unwrap_or, max, nat_le, codes, sum, sum_by}
use Rattle.std.specs.Char.{IsScalar}
use Rattle.std.specs.List.{All, AllZip, filter_map, join_by, slice_get}
use Rattle.std.specs.Prelude.{nat_lt, if◌then◌else◌, option_map, slice_index, MatchOption}
use Rattle.std.specs.Str.{IsUtf8}
use Rattle.std.proofs.lemmas.Bool.{cond_both, or_parts}
use Rattle.std.proofs.lemmas.Bool.Decides.{nat_tests}
use Rattle.std.proofs.lemmas.List.{length-map}
use Rattle.std.proofs.lemmas.List.Sums.{sum_by-cons}
use Rattle.std.proofs.lemmas.List.Elements.{All-cons, All-from_recursion, All-head, All-nil, recursion_from_All, All-map, All-tail, All-weaker}
use Rattle.std.proofs.lemmas.Simd.{map-map}
use Rattle.comfy_parts.proofs.CallerLemmas.{All-given, every-parts, All-found, All-same_map, BeginsWithSequence, begins_with_sequence, fitting_characters_fit, front_of, join_by-map, measure-nil, parts-visible, text_lines_fit, wrapped_is_wrapped}
use Rattle.comfy_parts.proofs.LinesFitLemmas.{IsFittingLine}
use Rattle.comfy_parts.proofs.WrappingLemmas.{wrapped_is_one}
use Rattle.comfy_parts.proofs.SequenceLemmas.{sequences_are_taken_out}
use Rattle.comfy_parts.specs.CellValue.{CellValue, ColumnInfo, ColumnValue, RowValue, info_of, info_width}
use Rattle.comfy_parts.specs.Text.{AddsOneColumnEach, Text, greatest, measure, spaces}
use Rattle.comfy_parts.specs.VisibleLines.{CellLine, line_texts}
use Rattle.comfy_parts.specs.VisibleText.{closed, visible_bytes, visible_text}
use Rattle.comfy_parts.specs.Wrapping.{IsWrapped, lines_of_text, wrapped}
use Rattle.comfy_parts.specs.declared.style.cell.CellAlignment.{CellAlignment}
use Rattle.comfy_parts.specs.declared.style.table.ContentArrangement.{ContentArrangement}
use Rattle.comfy_parts.specs.declared.style.table.ContentArrangement.TheVariants as arrangements
use Rattle.comfy_parts.specs.declared.style.table.ContentArrangement.TheVariants.{Disabled}
use Rattle.comfy_parts.specs.declared.style.table_style.ContentLineStyle.{ContentLineStyle}
use Rattle.comfy_table.proofs.CutLemmas.{map-cut}
use Rattle.comfy_table.proofs.DrawnWidthLemmas.{dynamic_widths, fills_width, keeps_to_width, unconstrained_shown}
use Rattle.comfy_table.proofs.KeptDrawingLemmas.{keeps_drawing}
use Rattle.comfy_table.proofs.OneDrawingLemmas.{arranged_is_one}
use Rattle.comfy_table.proofs.SpaceLemmas.{free_before-le, padded-is, spaces-append}
use Rattle.comfy_table.proofs.StyledLemmas.{KeptByDrawing, keeps_style_begin, keeps_style_end}
use Rattle.comfy_table.proofs.TableLemmas.{frame_counts}
use Rattle.comfy_table.proofs.ThreePlacesLemmas.{every-le-greatest}
use Rattle.comfy_table.proofs.UnconstrainedLemmas.{content_room-unconstrained}
use Rattle.comfy_table.specs.Arrangement.{is_full_width, room_beside_borders, width_kept, widths_at}
use Rattle.comfy_table.specs.Drawing.{drawing, drawn_header, drawn_row, infos_of, outer_widths}
use Rattle.comfy_table.specs.Dynamic.{IsDynamicLayout, content_room}
use Rattle.comfy_table.specs.Levels.{IsUnconstrained}
use Rattle.comfy_table.specs.TableLaws.{shown_contents}
use Rattle.comfy_table.specs.Frame.{frame_line, optional_frame_line}
use Rattle.comfy_table.specs.Headline.{IsTableDrawing}
use Rattle.comfy_table.specs.Laws.{NoConstraints, AddsOneColumnEachWhereWritten, HasPrintableCells, IsPrintableCell, IsPrintableTable, count, line_total, unstyled}
use Rattle.comfy_table.specs.Lines.{longest_line, as_measured, cell_delimiter, cell_lines, cut_line, cut_text, cut_to_limit, fitting_indicator, uncut_lines}
use Rattle.comfy_table.specs.Parts.{ArrangedValue, IsArrangedTable}
use Rattle.comfy_table.specs.Pieces.{blank_piece, cell_alignment, free_before, free_places, padded, piece, pieces_of_optional, row_cell_lines, shown_infos}
use Rattle.comfy_table.specs.Styling.{style_begin, style_end, styled}
use Rattle.comfy_table.specs.TableValue.{TableValue, column_content_width, column_cells, header_and_rows, measured_rows, measured_table, should_style, shown_columns, table_width}
use Rattle.comfy_table.specs.Widths.{ColumnNeeds, disabled_width, needs_of, shown_needs}
use Rattle.promises.proofs.DrawnColumnLemmas.{IsWholeAt, columns-drawn, drawn_column, infos-are, whole_at}
use Rattle.promises.proofs.LevelLemmas.{KeepsLevel, contents_keep, level_keeps, zip_maps}
use Rattle.promises.proofs.ResumedLemmas.{resume}
use Rattle.promises.proofs.RowLemmas.{height, line_is, piece_in, width_by_content}
use Rattle.promises.proofs.PieceLemmas.{uncoloured_lines, uncoloured_text}
use Rattle.promises.specs.Headline.{AreColumnsOf, AreContentLines, IsBetweenSpaces, ResumeTheirSequences, AreLinesOfCell, AreLinesOfParts, AreLinesOfRow, AreLinesOfText, AreSpaces, EachShownCell, IsFramedBy, IsFramedDrawing, IsFramedTable, IsHeadline, IsPiece, IsPrintable, framed, lines_in, whole_width, widths_shown, IsUncoloured, is_coloured, is_styled, side_in, side_of, IsAsWide, HasLinesWithin, room_for_texts}
use Rattle.promises.specs.Shown.{IsStyled}
use Rattle.promises.specs.Shown.IsStyled.{nothing, byte, sequence}

-- ---- the lines of a cell

-- the lines of a text line
line_lines : (w d : ℕ) → IsScalar d → (text : Text) → IsUtf8 text → AreLinesOfText w d text (lines_of_text w d text)
line_lines w d scalar text utf8 =
    record {
      whole = λ room. let fits : nat_le (measure text) w ≡ true = grind (arith, nat_tests, room) in ap (λ (b : Bool). if b then text ∷ [] else wrapped w d text) fits;
      slices = λ wide.
          let tall : nat_le (measure text) w ≡ false = grind (arith, nat_tests, wide) in
          subst (λ (b : Bool). IsWrapped w d text (if b then text ∷ [] else wrapped w d text)) (sym tall) (wrapped_is_wrapped w d text scalar utf8);
      fit = λ adds each.
          All-weaker (IsFittingLine w) (λ line. measure line ≤ w) (λ line own. own.fits) (lines_of_text w d text)
          (text_lines_fit w d text scalar utf8 (fitting_characters_fit w d text adds utf8 each));
    }

-- the lines of each text line of a list
all_lines : (w d : ℕ) → IsScalar d → (texts : List Text) → All IsUtf8 texts → AllZip (AreLinesOfText w d) texts (map (lines_of_text w d) texts)
all_lines w d scalar [] utf8 = tt
all_lines w d scalar (text ∷ texts) utf8 =
    (line_lines w d scalar text (All-head IsUtf8 text texts utf8), all_lines w d scalar texts (All-tail IsUtf8 text texts utf8))

-- these lists joined are the lines of the cell, one text line after another
flat : (f : Text → List Text) (texts : List Text) → flat_map f texts ≡ flat_map (λ (of_text : List Text). of_text) (map f texts)
flat f [] = refl
flat f (text ∷ texts) = ap (λ (lines : List Text). f text ++ lines) (flat f texts)

pub lines_of_cell : (w d : ℕ) (cell : CellValue) → IsScalar d → All IsUtf8 cell.text_lines → AreLinesOfCell w d cell (cell_lines w d cell)
lines_of_cell w d cell scalar utf8 = (map (lines_of_text w d) cell.text_lines, all_lines w d scalar cell.text_lines utf8, flat (lines_of_text w d) cell.text_lines)

-- the lines of text lines are unique
lines_are_one : (w d : ℕ) → IsScalar d → (texts : List Text) (of_texts : List (List Text)) → AllZip (AreLinesOfText w d) texts of_texts → of_texts ≡ map (lines_of_text w d) texts
lines_are_one w d scalar [] [] zip = refl
lines_are_one w d scalar [] (own ∷ of_texts) zip = absurd zip
lines_are_one w d scalar (text ∷ texts) [] zip = absurd zip
lines_are_one w d scalar (text ∷ texts) (own ∷ of_texts) zip = ap₂ (λ (a : List Text) (b : List (List Text)). a ∷ b) (by_test (nat_le (measure text) w) refl) (lines_are_one w d scalar texts of_texts zip.1)
  where
    by_test : (b : Bool) → nat_le (measure text) w ≡ b → own ≡ (if b then text ∷ [] else wrapped w d text)
    by_test true room = let fits : measure text ≤ w = grind (arith, nat_tests, room) in zip.0.whole fits
    by_test false wide = let tall : w < measure text = grind (arith, nat_tests, wide) in wrapped_is_one w d text own scalar (zip.0.slices tall)

-- a property of all elements of joined lists holds of the elements of each list
flat_parts : {X Y : Type 0} (P : Y → Type 0) (f : X → List Y) (xs : List X) → All P (flat_map f xs) → All (λ x. All P (f x)) xs
flat_parts P f [] each = All-nil (λ x. All P (f x))
flat_parts P f (x ∷ xs) each =
    let both = every-parts P (f x) (flat_map f xs) (recursion_from_All P (flat_map f (x ∷ xs)) each) in
    All-cons (λ y. All P (f y)) x xs (All-from_recursion P (f x) both.0) (flat_parts P f xs (All-from_recursion P (flat_map f xs) both.1))

-- if the longest line of a column at a width is at most n, so are all its lines
lines_within : (table : TableValue) (p : ℕ × ColumnValue) (b n : ℕ) → longest_line table p.0 p.1.delimiter b ≤ n
    → All (λ (row : RowValue). (cell : CellValue) → slice_get row.cells p.0 ≡ Some cell → IsScalar (cell_delimiter table p.1.delimiter cell)) (measured_rows table) → HasLinesWithin (measured_table table) p b n
lines_within table p b n long scalar k default under cell lines found are =
    let d = cell_delimiter table p.1.delimiter cell in
    let all = All-weaker (λ line. measure line ≤ longest_line table p.0 p.1.delimiter b) (λ line. measure line ≤ n) (λ line own. omega (arith, own, long)) its_lines (All-from_recursion (λ line. measure line ≤ longest_line table p.0 p.1.delimiter b) its_lines (every-le-greatest measure its_lines)) in
    let own = All-given (λ (c : CellValue). All (λ line. measure line ≤ n) (cell_lines b (cell_delimiter table p.1.delimiter c) c)) (λ (row : RowValue). slice_get row.cells p.0) (measured_rows table)
    (flat_parts (λ line. measure line ≤ n) (λ (c : CellValue). cell_lines b (cell_delimiter table p.1.delimiter c) c) (column_cells table p.0) all) k default under cell found in
    let one = are.2 ∙ ap (flat_map (λ (of_text : List Text). of_text)) (lines_are_one b d (scalar k default under cell found) cell.text_lines are.0 are.1) ∙ sym (flat (lines_of_text b d) cell.text_lines) in
    subst (All (λ line. measure line ≤ n)) (sym one) own
  where
    its_lines : List Text
    its_lines = flat_map (λ (c : CellValue). cell_lines b (cell_delimiter table p.1.delimiter c) c) (column_cells table p.0)

-- ---- styles

styled_same : (text : Text) → IsStyled text text
styled_same [] = nothing
styled_same (b ∷ rest) = byte b rest rest (styled_same rest)

styled_both : {xs shown : Text} (other ys : Text) → IsStyled shown xs → IsStyled other ys → IsStyled (shown ++ other) (xs ++ ys)
styled_both other ys nothing back = back
styled_both other ys (byte b line text front) back = byte b (line ++ other) (text ++ ys) (styled_both other ys front back)
styled_both other ys (sequence code line text all front) back =
    subst (λ (t : Text). IsStyled (line ++ other) (0x1B ∷ 0x5B ∷ t)) (sym (append_assoc code (0x6D ∷ text) ys)) (sequence code (line ++ other) (text ++ ys) all (styled_both other ys front back))

-- a text is its visible text with sequences
styled_visible : (n : ℕ) (text : Text) → length text < n → IsStyled (visible_text text) text
styled_visible zero text below = absurd (omega (arith, below))
styled_visible (suc n) [] below = nothing
styled_visible (suc n) (b ∷ rest) below = by_front (front_of (b ∷ rest)) (styled_visible n)
  where
    by_front : BeginsWithSequence (b ∷ rest) ⊎ (begins_with_sequence (b ∷ rest) ≡ false) → ((text : Text) → length text < n → IsStyled (visible_text text) text) → IsStyled (visible_text (b ∷ rest)) (b ∷ rest)
    by_front (inl s) later =
        let gone = sequences_are_taken_out s.code s.rest s.parameters in
        let shorter : length s.rest < n = omega (arith, ap length s.is, length-append s.code (0x6D ∷ s.rest), below) in
        subst (λ (t : Text). IsStyled (visible_text t) t) (sym s.is)
        (subst (λ (shown : Text). IsStyled shown (0x1B ∷ 0x5B ∷ (s.code ++ 0x6D ∷ s.rest))) (sym gone) (sequence s.code (visible_text s.rest) s.rest s.parameters (later s.rest shorter)))
    by_front (inr free) later =
        let seen : visible_text (b ∷ rest) ≡ b ∷ visible_text rest = ap (flat_map visible_bytes) (parts-visible b rest free) in
        subst (λ (shown : Text). IsStyled shown (b ∷ rest)) (sym seen) (byte b (visible_text rest) rest (later rest (omega (arith, below))))

-- any text
abbrev Any : Text → Type 0
Any text = Unit {0}

styled_kept : KeptByDrawing Any IsStyled
styled_kept =
    record {
      joins = record { kind = record { nothing = tt; space = tt; joined = λ xs ys front back. tt; parts = λ xs ys utf8 both. (tt, tt) }; of_kind = λ text any. styled_same text; of_both = λ shown others xs ys front back. styled_both others ys front back };
      of_sequence = λ code all. sequence code [] [] all nothing;
      of_measured = λ text any. styled_visible (suc (length text)) text (omega arith);
      of_closed = λ text any. closed_styled text;
    }
  where
    closed_styled : (text : Text) → IsStyled text (closed text)
    closed_styled text =
        subst (λ (line : Text). IsStyled line (closed text)) (append-nil text)
        (styled_both [] _ (styled_same text) (cond_both _ [] (codes "\u{1b}[0m") (IsStyled []) (λ _. nothing) (λ _. sequence (codes "0") [] [] refl nothing)))

-- ---- rows of a table without styles

-- the table without styles and custom styling
abbrev pub bare : TableValue → TableValue
bare table = record table { custom_styling = false; no_tty = true; enforce_styling = false }

-- a cell that isn't coloured has neither colours nor attributes
uncoloured : (cell : CellValue) → is_coloured (Some cell) ≡ false → IsUncoloured cell
uncoloured cell none =
    let first = or_parts (is_some cell.foreground) (is_some cell.background || nat_lt 0 (length cell.attributes)) none in
    let others = or_parts (is_some cell.background) (nat_lt 0 (length cell.attributes)) first.1 in
    record { no_foreground = nothing_there cell.foreground first.0; no_background = nothing_there cell.background others.0; no_attributes = none_there cell.attributes others.1 }
  where
    nothing_there : {A : Type 0} (o : Option A) → is_some o ≡ false → o ≡ None
    nothing_there None none = refl
    nothing_there (Some x) none = absurd (cc none)

    none_there : {A : Type 0} (xs : List A) → nat_lt 0 (length xs) ≡ false → xs ≡ []
    none_there [] none = refl
    none_there (x ∷ xs) none = absurd (grind (arith, nat_tests, none))

-- spaces are spaces without sequences among them
spaces_alone : (styles : Bool) (n : ℕ) → AreSpaces styles n (spaces n)
spaces_alone true n = styled_same (spaces n)
spaces_alone false n = refl

module _ (table : TableValue) (widths : List ℕ) (long : length widths ≡ length table.columns) where
  -- the content width of the column at a position, at least 1
  abbrev pub content_at : ℕ → ℕ
  content_at i = max 1 (slice_index widths i)

  -- the lines of a cell in a column
  abbrev pub lines_at : ℕ × ColumnValue → CellValue → List Text
  lines_at p cell = cell_lines (content_at p.0) (cell_delimiter table p.1.delimiter cell) cell

  abbrev info_at : ℕ × ColumnValue → ColumnInfo
  info_at p = info_of p.1 (slice_index widths p.0)

  -- ---- pieces

  -- the parts of a piece around the written text of a line
  module _ (p : ℕ × ColumnValue) (cell : CellValue) (line : CellLine) where
    abbrev m : ℕ
    m = measure line.measured

    abbrev left : ℕ
    left = p.1.padding.0 + free_before (cell_alignment cell (info_at p)) (free_places (info_at p) m)

    abbrev right : ℕ
    right = free_places (info_at p) m - free_before (cell_alignment cell (info_at p)) (free_places (info_at p) m) + p.1.padding.1

    abbrev piece_by : Bool → Bool → Text
    piece_by styles text_only = if styles then (if text_only then padded cell (info_at p) m (styled cell line.written) else styled cell (padded cell (info_at p) m line.written)) else padded cell (info_at p) m line.written

    padded_is : (text : Text) → spaces left ++ (text ++ spaces right) ≡ padded cell (info_at p) m text
    padded_is text = padded-is cell (info_at p) m left right refl refl text

    -- these parts are spaces, with the sequences of the cell if styles are written
    record IsAround (before after whole : Text) : Type 0 where
      drawn : whole ≡ before ++ (line.written ++ after)
      front : IsStyled (spaces left) before
      back : IsStyled (spaces right) after

    around : (styles text_only : Bool) → (before : Text) × (after : Text) × IsAround before after (piece_by styles text_only)
    around true true = (
      spaces left ++ style_begin cell,
      style_end cell ++ spaces right,
      record {
        drawn =
            sym (padded_is (styled cell line.written))
            ∙ ap (λ (t : Text). spaces left ++ t) (append_assoc (style_begin cell) (line.written ++ style_end cell) (spaces right) ∙ ap (λ (t : Text). style_begin cell ++ t) (append_assoc line.written (style_end cell) (spaces right)))
            ∙ sym (append_assoc (spaces left) (style_begin cell) (line.written ++ (style_end cell ++ spaces right)));
        front = subst (λ (t : Text). IsStyled t (spaces left ++ style_begin cell)) (append-nil (spaces left)) (styled_both [] (style_begin cell) (styled_same (spaces left)) begin);
        back = styled_both (spaces right) (spaces right) end (styled_same (spaces right));
      },
    )
      where
        begin : IsStyled [] (style_begin cell)
        begin = keeps_style_begin Any IsStyled styled_kept cell

        end : IsStyled [] (style_end cell)
        end = keeps_style_end Any IsStyled styled_kept cell
    around true false = (
      style_begin cell ++ spaces left,
      spaces right ++ style_end cell,
      record {
        drawn =
            ap (styled cell) (sym (padded_is line.written))
            ∙ ap (λ (t : Text). style_begin cell ++ t) (append_assoc (spaces left) (line.written ++ spaces right) (style_end cell) ∙ ap (λ (t : Text). spaces left ++ t) (append_assoc line.written (spaces right) (style_end cell)))
            ∙ sym (append_assoc (style_begin cell) (spaces left) (line.written ++ (spaces right ++ style_end cell)));
        front = styled_both (spaces left) (spaces left) (keeps_style_begin Any IsStyled styled_kept cell) (styled_same (spaces left));
        back = subst (λ (t : Text). IsStyled t (spaces right ++ style_end cell)) (append-nil (spaces right)) (styled_both [] (style_end cell) (styled_same (spaces right)) (keeps_style_end Any IsStyled styled_kept cell));
      },
    )
    around false text_only = (spaces left, spaces right, record { drawn = sym (padded_is line.written); front = styled_same (spaces left); back = styled_same (spaces right) })

  -- the piece of a line
  piece_is : (p : ℕ × ColumnValue) (cell : CellValue) (line : Text) → IsPiece (should_style table && is_coloured (Some cell)) (side_in (Some cell) p.1) p.1 (content_at p.0) line (piece table cell (info_at p) (as_measured line))
  piece_is p cell line = by_tests (should_style table) table.style_text_only (is_coloured (Some cell)) refl
    where
      made : (styles : Bool) (before after whole : Text) → whole ≡ before ++ (line ++ after) → AreSpaces styles (left p cell (as_measured line)) before → AreSpaces styles (right p cell (as_measured line)) after → IsPiece styles (side_in (Some cell) p.1) p.1 (content_at p.0) line whole
      made styles before after whole drawn front_spaces back_spaces =
          let among = free_before-le (cell_alignment cell (info_at p)) (free_places (info_at p) (measure line)) in
          record { left = left p cell (as_measured line); right = right p cell (as_measured line); before = before; after = after; drawn = drawn; are_spaces = (front_spaces, back_spaces); padded = (omega arith, omega arith); wide = omega (arith, among); aligned = refl }

      by_tests : (styles text_only coloured : Bool) → is_coloured (Some cell) ≡ coloured → IsPiece (styles && coloured) (side_in (Some cell) p.1) p.1 (content_at p.0) line (piece_by p cell (as_measured line) styles text_only)
      by_tests true text_only true some =
          let all = around p cell (as_measured line) true text_only in
          made true all.0 all.1 (piece_by p cell (as_measured line) true text_only) all.2.drawn all.2.front all.2.back
      by_tests true true false none =
          made false (spaces (left p cell (as_measured line))) (spaces (right p cell (as_measured line))) (piece_by p cell (as_measured line) true true)
          (sym (ap (padded cell (info_at p) (measure line)) (uncoloured_text cell (uncoloured cell none) line)) ∙ sym (padded_is p cell (as_measured line) line)) refl refl
      by_tests true false false none =
          made false (spaces (left p cell (as_measured line))) (spaces (right p cell (as_measured line))) (piece_by p cell (as_measured line) true false)
          (sym (uncoloured_text cell (uncoloured cell none) (padded cell (info_at p) (measure line) line)) ∙ sym (padded_is p cell (as_measured line) line)) refl refl
      by_tests false text_only coloured some =
          made false (spaces (left p cell (as_measured line))) (spaces (right p cell (as_measured line))) (piece_by p cell (as_measured line) false text_only) (sym (padded_is p cell (as_measured line) line)) refl refl

  -- the piece of a column that has no line
  blank_is : (styles : Bool) (side : CellAlignment) (p : ℕ × ColumnValue) → IsPiece styles side p.1 (content_at p.0) [] (blank_piece (info_at p))
  blank_is styles side p =
      record {
        left = left;
        right = right;
        before = spaces left;
        after = spaces right;
        drawn = sym (spaces-append left right ∙ ap spaces (omega (arith, among)));
        are_spaces = (spaces_alone styles left, spaces_alone styles right);
        padded = (omega arith, omega arith);
        wide = omega (arith, among, measure-nil);
        aligned = refl;
      }
    where
      free : ℕ
      free = content_at p.0 - measure []

      left : ℕ
      left = p.1.padding.0 + free_before side free

      right : ℕ
      right = content_at p.0 - free_before side free + p.1.padding.1

      among : free_before side free ≤ content_at p.0
      among = let within = free_before-le side free in omega (arith, within)

  abbrev infos : List ColumnInfo
  infos = infos_of table widths

  -- without custom styling
  module _ (none : table.custom_styling ≡ false) where
    -- the lines of a cell, cut at the row's height
    abbrev cut_at : RowValue → ℕ × ColumnValue → CellValue → List Text
    cut_at row p cell = cut_to_limit (cut_text (content_at p.0) table.indicator) row.max_height (lines_at p cell)

    row_lines-are : (row : RowValue) (p : ℕ × ColumnValue) (cell : CellValue) → row_cell_lines table row (info_at p) cell ≡ map as_measured (cut_at row p cell)
    row_lines-are row p cell =
        ap (λ (custom : Bool). cut_to_limit (cut_line custom (content_at p.0) table.indicator) row.max_height (uncut_lines custom (content_at p.0) (cell_delimiter table p.1.delimiter cell) cell)) none
        ∙ sym (map-cut as_measured (cut_text (content_at p.0) table.indicator) (cut_line false (content_at p.0) table.indicator) row.max_height _ (λ line. refl))

    -- the cut lines of a cell, or of a missing one
    abbrev cut_of : RowValue → ℕ × ColumnValue → Option CellValue → List Text
    cut_of row p cell = unwrap_or (option_map (cut_at row p) cell) ([] ∷ [])

    piece_at : (row : RowValue) (p : ℕ × ColumnValue) (cell : Option CellValue) (k : ℕ)
        → IsPiece (should_style table && is_coloured cell) (side_in cell p.1) p.1 (content_at p.0) (slice_index_or (cut_of row p cell) k []) (slice_index_or (pieces_of_optional table row (info_at p) cell) k (blank_piece (info_at p)))
    piece_at row p None zero = blank_is (should_style table && false) (side_in None p.1) p
    piece_at row p None (suc k) = blank_is (should_style table && false) (side_in None p.1) p
    piece_at row p (Some cell) k =
        subst (λ (lines : List CellLine). IsPiece (should_style table && is_coloured (Some cell)) (side_in (Some cell) p.1) p.1 (content_at p.0) (slice_index_or (cut_at row p cell) k []) (slice_index_or (map (piece table cell (info_at p)) lines) k (blank_piece (info_at p)))) (sym (row_lines-are row p cell))
        (by_lines (cut_at row p cell) k)
      where
        by_lines : (lines : List Text) (k : ℕ) → IsPiece (should_style table && is_coloured (Some cell)) (side_in (Some cell) p.1) p.1 (content_at p.0) (slice_index_or lines k []) (slice_index_or (map (piece table cell (info_at p)) (map as_measured lines)) k (blank_piece (info_at p)))
        by_lines [] k = blank_is (should_style table && is_coloured (Some cell)) (side_in (Some cell) p.1) p
        by_lines (line ∷ lines) zero = piece_is p cell line
        by_lines (line ∷ lines) (suc k) = by_lines lines k

    -- a cell has as many lines as pieces
    as_many : (row : RowValue) (p : ℕ × ColumnValue) (cell : Option CellValue) → length (pieces_of_optional table row (info_at p) cell) ≡ length (cut_of row p cell)
    as_many row p None = refl
    as_many row p (Some cell) = length-map (row_cell_lines table row (info_at p) cell) (piece table cell (info_at p)) ∙ ap length (row_lines-are row p cell) ∙ length-map (cut_at row p cell) as_measured

    -- the pieces of columns in a line
    pieces_are : (border : ContentLineStyle) (row : RowValue) (k : ℕ) (ps : List (ℕ × ColumnValue))
        → AllZip (λ (p : ℕ × ColumnValue). IsPiece (is_styled (should_style table) row p) (side_of row p) p.1 (content_at p.0) (slice_index_or (lines_in table content_at lines_at row p) k [])) ps (map (piece_in table widths long border row k) ps)
    pieces_are border row k [] = tt
    pieces_are border row k (p ∷ ps) = (piece_at row p (slice_get row.cells p.0) k, pieces_are border row k ps)

    parts_are : (border : ContentLineStyle) (row : RowValue) → AreLinesOfParts (should_style table) table row content_at (lines_in table content_at lines_at row) border (drawn_row table infos border row)
    parts_are border row =
        record {
          as_high = height table widths long border row ∙ (λ i. greatest (map (λ (p : ℕ × ColumnValue). as_many row p (slice_get row.cells p.0) i) (shown_columns table)));
          drawn = λ k below. (map (piece_in table widths long border row k) (shown_columns table), pieces_are border row k (shown_columns table), line_is table widths long border row k below);
        }

  -- ---- written lines

  -- the piece of a written line has spaces around the written text
  written_is : (p : ℕ × ColumnValue) (cell : CellValue) (line : CellLine) → IsBetweenSpaces line.written (piece table cell (info_at p) line)
  written_is p cell line =
      let all = around p cell line (should_style table) table.style_text_only in
      record { left = left p cell line; right = right p cell line; before = all.0; after = all.1; drawn = all.2.drawn; are_spaces = (all.2.front, all.2.back) }

  -- a column that has no line has an empty written text
  nothing_written : (p : ℕ × ColumnValue) → IsBetweenSpaces [] (blank_piece (info_at p))
  nothing_written p =
      record {
        left = p.1.padding.0 + content_at p.0;
        right = p.1.padding.1;
        before = spaces (p.1.padding.0 + content_at p.0);
        after = spaces p.1.padding.1;
        drawn = sym (spaces-append (p.1.padding.0 + content_at p.0) p.1.padding.1);
        are_spaces = (styled_same (spaces (p.1.padding.0 + content_at p.0)), styled_same (spaces p.1.padding.1));
      }

  -- the written texts of a cell, or of a missing one
  abbrev written_of : RowValue → ℕ × ColumnValue → Option CellValue → List Text
  written_of row p cell = unwrap_or (option_map (λ (own : CellValue). map (λ (line : CellLine). line.written) (row_cell_lines table row (info_at p) own)) cell) ([] ∷ [])

  written_at : (row : RowValue) (p : ℕ × ColumnValue) (cell : Option CellValue) (k : ℕ) → IsBetweenSpaces (slice_index_or (written_of row p cell) k []) (slice_index_or (pieces_of_optional table row (info_at p) cell) k (blank_piece (info_at p)))
  written_at row p None zero = nothing_written p
  written_at row p None (suc k) = nothing_written p
  written_at row p (Some cell) k = by_lines (row_cell_lines table row (info_at p) cell) k
    where
      by_lines : (lines : List CellLine) (k : ℕ) → IsBetweenSpaces (slice_index_or (map (λ (line : CellLine). line.written) lines) k []) (slice_index_or (map (piece table cell (info_at p)) lines) k (blank_piece (info_at p)))
      by_lines [] k = nothing_written p
      by_lines (line ∷ lines) zero = written_is p cell line
      by_lines (line ∷ lines) (suc k) = by_lines lines k

  all_written : (borders : ContentLineStyle) (row : RowValue) (k : ℕ) (ps : List (ℕ × ColumnValue)) → AllZip (λ (p : ℕ × ColumnValue). IsBetweenSpaces (slice_index_or (written_of row p (slice_get row.cells p.0)) k [])) ps (map (piece_in table widths long borders row k) ps)
  all_written borders row k [] = tt
  all_written borders row k (p ∷ ps) = (written_at row p (slice_get row.cells p.0) k, all_written borders row k ps)

  -- with custom styling the written texts resume their sequences
  texts_resume : table.custom_styling ≡ true → (row : RowValue) → row.max_height ≡ None → (p : ℕ × ColumnValue) (cell : Option CellValue) → MatchOption cell (written_of row p cell ≡ [] ∷ []) (λ own. ResumeTheirSequences own (written_of row p cell))
  texts_resume custom row uncut p None = refl
  texts_resume custom row uncut p (Some cell) =
      subst (λ (lines : List CellLine). ResumeTheirSequences cell (map (λ (line : CellLine). line.written) lines)) (sym all) (resume (content_at p.0) (cell_delimiter table p.1.delimiter cell) cell)
    where
      all : row_cell_lines table row (info_at p) cell ≡ line_texts (content_at p.0) (cell_delimiter table p.1.delimiter cell) cell.text_lines
      all = ap₂ (λ (b : Bool) (limit : Option ℕ). cut_to_limit (cut_line b (content_at p.0) table.indicator) limit (uncut_lines b (content_at p.0) (cell_delimiter table p.1.delimiter cell) cell)) custom uncut

  -- the lines of a row
  content_is : (borders : ContentLineStyle) (row : RowValue) → AreContentLines table content_at lines_at borders row (drawn_row table infos borders row)
  content_is borders row =
      record {
        written = record {
          texts = λ p. written_of row p (slice_get row.cells p.0);
          drawn = λ k below. (map (piece_in table widths long borders row k) (shown_columns table), all_written borders row k (shown_columns table), line_is table widths long borders row k below);
          resumed = λ custom uncut j other below. let p = slice_index_or (shown_columns table) j other in texts_resume custom row uncut p (slice_get row.cells p.0);
        };
        are = λ none. parts_are none borders row;
      }

  -- ---- the whole drawing

  widths_are : outer_widths infos ≡ widths_shown table content_at
  widths_are =
      ap (map (λ (p : ℕ × ColumnInfo). info_width p.1)) (columns-drawn table widths long)
      ∙ map-map (λ (p : ℕ × ColumnInfo). info_width p.1) (drawn_column widths) (shown_columns table)

  -- the rows are between frame lines, and Shows holds of each if it holds of a row's drawn lines
  module _ (Shows : ContentLineStyle → RowValue → List Text → Type 0) (shows : (borders : ContentLineStyle) (row : RowValue) → Shows borders row (drawn_row table infos borders row)) where
    header_is : (header : Option RowValue) → MatchOption header (drawn_header table infos header ≡ []) (λ row. (block : List Text) × Shows table.style.header_lines row block × (drawn_header table infos header ≡ block ++ framed table content_at table.style.header_separator))
    header_is None = refl
    header_is (Some row) =
        (drawn_row table infos table.style.header_lines row, shows table.style.header_lines row, ap (λ ws. drawn_row table infos table.style.header_lines row ++ optional_frame_line table.style table.style.header_separator ws) widths_are)

    rows_are : (rows : List RowValue) → AllZip (Shows table.style.content_lines) rows (map (drawn_row table infos table.style.content_lines) rows)
    rows_are [] = tt
    rows_are (row ∷ rows) = (shows table.style.content_lines row, rows_are rows)

    pub frame_is : IsFramedBy Shows table content_at (drawing table widths)
    frame_is =
        record {
          header = drawn_header table infos table.header;
          rows = map (drawn_row table infos table.style.content_lines) table.rows;
          is_header = header_is table.header;
          are_rows = rows_are table.rows;
          drawn =
              ap (λ (rows : List Text). optional_frame_line table.style table.style.top_border (outer_widths infos) ++ (drawn_header table infos table.header ++ (rows ++ optional_frame_line table.style table.style.bottom_border (outer_widths infos))))
              (sym (join_by-map (λ (block : List Text). block) (drawn_row table infos table.style.content_lines) (optional_frame_line table.style table.style.row_separator (outer_widths infos)) table.rows))
              ∙ ap (λ ws. optional_frame_line table.style table.style.top_border ws ++ (drawn_header table infos table.header
              ++ (join_by (λ (block : List Text). block) (optional_frame_line table.style table.style.row_separator ws) (map (drawn_row table infos table.style.content_lines) table.rows) ++ optional_frame_line table.style table.style.bottom_border ws)))
              widths_are;
        }

  -- ---- printable ASCII

  -- the cells of a column, row by row
  abbrev cells_below : ℕ → List CellValue
  cells_below i = filter_map (λ (row : RowValue). slice_get row.cells i) (header_and_rows table)

  -- a table whose rows are measured as they are
  module _ (same : measured_rows table ≡ header_and_rows table) where
    cells-are : (i : ℕ) → column_cells table i ≡ cells_below i
    cells-are i = ap (filter_map (λ (row : RowValue). slice_get row.cells i)) same

    printable_cells : IsPrintable table → HasPrintableCells table
    printable_cells printable j other below =
        let p = slice_index_or (shown_columns table) j other in
        subst (All (IsPrintableCell table p.1.delimiter)) (sym (cells-are p.0))
        (All-found (IsPrintableCell table p.1.delimiter) (λ (row : RowValue). slice_get row.cells p.0) (header_and_rows table)
        (λ k default under cell found. printable k default under j other below cell found))

    -- an indicator that adds one terminal column for each character whenever it is written
    even_table : IsPrintable table
        → EachShownCell (λ row p cell. (h : ℕ) → row.max_height ≡ Some h → h < length (lines_at p cell) → AddsOneColumnEach (fitting_indicator (content_at p.0) table.indicator)) table
        → IsPrintableTable table widths
    even_table printable even =
        record {
          printable_cells = printable_cells printable;
          indicator_adds_one_column_each =
              subst (All (λ (row : RowValue). All (AddsOneColumnEachWhereWritten table row) (shown_infos (infos_of table widths)))) (sym same)
              (λ k default under.
              let row = slice_index_or (header_and_rows table) k default in
              subst (All (AddsOneColumnEachWhereWritten table row)) (sym (columns-drawn table widths long))
              (All-map (AddsOneColumnEachWhereWritten table row) (drawn_column widths) (shown_columns table)
              (λ j other below cell h found limit taller. even k default under j other below cell found h limit taller)));
        }

-- ---- the table without styles

module _ (table : TableValue) (widths : List ℕ) (long : length widths ≡ length table.columns) where
  row_is : (borders : ContentLineStyle) (row : RowValue) → AreLinesOfRow table (content_at table widths long) (lines_at table widths long) borders row (drawn_row (bare table) (infos_of table widths) borders row)
  row_is borders row = let own = parts_are (bare table) widths long refl borders row in record { as_high = own.as_high; drawn = own.drawn }

  pub plain_frame_is : IsFramedBy (AreLinesOfRow table (content_at table widths long) (lines_at table widths long)) table (content_at table widths long) (drawing (bare table) widths)
  plain_frame_is =
      let own = frame_is (bare table) widths long (AreLinesOfRow table (content_at table widths long) (lines_at table widths long)) row_is in
      record { header = own.header; rows = own.rows; is_header = own.is_header; are_rows = own.are_rows; drawn = own.drawn }

-- ---- contents that have room

-- the needs of the shown columns add up to their whole widths
needed : (table : TableValue) (ps : List (ℕ × ColumnValue))
    → sum_by (λ (column : ColumnNeeds). max 1 column.content + column.padding) (map (needs_of table) ps) ≡ sum (map (λ (p : ℕ × ColumnValue). whole_width p.1 (max 1 (column_content_width table p.0))) ps)
needed table [] = refl
needed table (p ∷ ps) =
    omega (arith, needed table ps, sum_by-cons (λ (column : ColumnNeeds). max 1 column.content + column.padding) (needs_of table p) (map (needs_of table) ps), sum_by-cons (λ (n : ℕ). n) (whole_width p.1 (max 1 (column_content_width table p.0))) (map (λ (p : ℕ × ColumnValue). whole_width p.1 (max 1 (column_content_width table p.0))) ps))

-- without contents their needs add up to the paddings
sum-paddings : (table : TableValue) (ps : List (ℕ × ColumnValue)) → sum_by (λ (column : ColumnNeeds). column.padding) (map (needs_of table) ps) ≡ sum (map (λ (p : ℕ × ColumnValue). whole_width p.1 0) ps)
sum-paddings table [] = refl
sum-paddings table (p ∷ ps) =
    omega (arith, sum-paddings table ps, sum_by-cons (λ (column : ColumnNeeds). column.padding) (needs_of table p) (map (needs_of table) ps), sum_by-cons (λ (n : ℕ). n) (whole_width p.1 0) (map (λ (q : ℕ × ColumnValue). whole_width q.1 0) ps))

-- ---- the promises of every drawing

module _ (table : TableValue) (widths : List ℕ) where
  -- a table whose texts and delimiters consist of whole characters has framed lines
  pub plain_lines : length widths ≡ length table.columns → All (λ (row : RowValue). All (IsWholeAt table row) (shown_columns table)) (measured_rows table) → IsFramedDrawing (measured_table table) (drawing (unstyled table) widths)
  plain_lines long whole =
      record {
        width = content_at measured widths long;
        cell_lines = lines_at measured widths long;
        are_cell_lines = λ k default under j other below cell found.
            let is = whole k default under j other below cell found in
            lines_of_cell (content_at measured widths long (slice_index_or (shown_columns table) j other).0) (cell_delimiter table (slice_index_or (shown_columns table) j other).1.delimiter cell) cell is.0 is.1;
        frame = plain_frame_is measured widths long;
      }
    where
      measured : TableValue
      measured = measured_table table

  -- the drawn lines are the unstyled lines with sequences
  pub styled_lines : All (λ (row : RowValue). All (λ (cell : CellValue). All IsUtf8 cell.text_lines) row.cells) (measured_rows table) → AllZip IsStyled (drawing (unstyled table) widths) (drawing table widths)
  styled_lines whole = keeps_drawing Any IsStyled styled_kept table (infos_of table widths) tt (λ k default below. tt) whole (λ k default below j other under cell found i text inside. tt)

-- a table without custom styling is framed
pub framed_table : (table : TableValue) (widths : List ℕ) → table.custom_styling ≡ false → length widths ≡ length table.columns → All (λ (row : RowValue). All (IsWholeAt table row) (shown_columns table)) (header_and_rows table) → AllZip IsStyled (drawing (bare table) widths) (drawing table widths)
    → (should_style table ≡ false → drawing table widths ≡ drawing (bare table) widths) → IsFramedTable table (drawing table widths)
framed_table table widths none long whole styled unstyled =
    record {
      plain = drawing (bare table) widths;
      is_plain = record {
        width = content_at table widths long;
        cell_lines = lines_at table widths long;
        are_cell_lines = λ k default under j other below cell found.
            let is = whole k default under j other below cell found in
            lines_of_cell (content_at table widths long (slice_index_or (shown_columns table) j other).0) (cell_delimiter table (slice_index_or (shown_columns table) j other).1.delimiter cell) cell is.0 is.1;
        frame = plain_frame_is table widths long;
      };
      styled = styled;
      unstyled = unstyled;
      frame = frame_is table widths long (AreContentLines table (content_at table widths long) (lines_at table widths long)) (content_is table widths long);
    }

pub framed-plain : (table : TableValue) (widths : List ℕ) (none : table.custom_styling ≡ false) (long : length widths ≡ length table.columns) (whole : All (λ (row : RowValue). All (IsWholeAt table row) (shown_columns table)) (header_and_rows table)) (styled : AllZip IsStyled (drawing (bare table) widths) (drawing table widths))
    (unstyled : should_style table ≡ false → drawing table widths ≡ drawing (bare table) widths) → (framed_table table widths none long whole styled unstyled).plain ≡ drawing (bare table) widths
unfolding framed_table
framed-plain table widths none long whole styled unstyled = refl

-- a column has its own width, at least 1
pub framed-width : (table : TableValue) (widths : List ℕ) (none : table.custom_styling ≡ false) (long : length widths ≡ length table.columns) (whole : All (λ (row : RowValue). All (IsWholeAt table row) (shown_columns table)) (header_and_rows table)) (styled : AllZip IsStyled (drawing (bare table) widths) (drawing table widths))
    (unstyled : should_style table ≡ false → drawing table widths ≡ drawing (bare table) widths) (i : ℕ) → (framed_table table widths none long whole styled unstyled).is_plain.width i ≡ max 1 (slice_index widths i)
unfolding framed_table
framed-width table widths none long whole styled unstyled i = refl

pub headline : (table : TableValue) (lines : List Text) → IsTableDrawing table lines → IsHeadline table lines
unfolding plain_lines
headline table lines drawn =
    record {
      plain = drawing (unstyled table) drawn.widths;
      is_plain = record {
        framed = own;
        by_content = λ none j other below free.
            let p = slice_index_or (shown_columns table) j other in
            let kept : width_kept table.arrangement (table_width table) ≡ None = no_width table.arrangement (table_width table) none in
            let all : widths_at drawn.widths (shown_columns table) ≡ map (disabled_width table) (shown_columns table) =
            subst (λ (o : Option ℕ). MatchOption o (widths_at drawn.widths (shown_columns table) ≡ map (disabled_width table) (shown_columns table)) (λ w. IsDynamicLayout (room_beside_borders table w) (shown_needs table) (is_full_width table.arrangement) (widths_at drawn.widths (shown_columns table))))
            kept drawn.arranged.shown_widths in
            let own : slice_index drawn.widths p.0 ≡ disabled_width table p = All-same_map (λ (q : ℕ × ColumnValue). slice_index drawn.widths q.0) (disabled_width table) (shown_columns table) all j other below in
            let content = own ∙ width_by_content table p.0 p.1 free in omega (arith, content);
        keeps_contents = λ w known free kept room j other below.
            let p = slice_index_or (shown_columns table) j other in
            let needs = needed table (shown_columns table) in
            let all = contents_keep (room_beside_borders table w) (shown_needs table) (is_full_width table.arrangement) (unconstrained_needs free) (shown_contents table drawn.widths) (layout w known kept) (omega (arith, needs, room)) in
            as_drawn (is_full_width table.arrangement) (column_content_width table p.0) (slice_index drawn.widths p.0)
            (zip_maps (λ (column : ColumnNeeds) n. IsAsWide (is_full_width table.arrangement) (max 1 column.content) n) (needs_of table) (λ (q : ℕ × ColumnValue). slice_index drawn.widths q.0) (shown_columns table) all j other below);
        keeps_to_level = λ w known free kept.
            let own = level_keeps (room_beside_borders table w) (shown_needs table) (is_full_width table.arrangement) (unconstrained_needs free) (shown_contents table drawn.widths) (layout w known kept) in (
              own.level,
              subst (λ (n : ℕ). n ≤ own.level) (share w free) own.share,
              λ j other below.
                  let p = slice_index_or (shown_columns table) j other in
                  let column = zip_maps (KeepsLevel (room_beside_borders table w) (shown_needs table) (is_full_width table.arrangement) (unconstrained_needs free) (shown_contents table drawn.widths) (layout w known kept) own.level) (needs_of table) (λ (q : ℕ × ColumnValue). slice_index drawn.widths q.0) (shown_columns table) own.keeps j other below in
                  record {
                    narrow = λ few. as_drawn (is_full_width table.arrangement) (column_content_width table p.0) (slice_index drawn.widths p.0) (column.narrow (omega (arith, few)));
                    wide = λ more. elim (eq-zero-or-pos own.level) [ inl lowest ↦ inl (omega (arith, lowest)) | inr some ↦ by_level own.level j other below (column.wide (omega (arith, more, some))) ];
                  },
            );
        total = line_total table drawn.widths;
        frame_total = λ line. ap (λ ws. count (frame_line table.style line ws)) (sym (widths_are measured drawn.widths long)) ∙ frame_counts table drawn.widths line long;
        plain_total = λ printable even.
            let ascii = even_table measured drawn.widths long refl printable even in
            drawn.edges.equal_counts (record { printable_cells = ascii.printable_cells; indicator_adds_one_column_each = ascii.indicator_adds_one_column_each });
        keeps_to_width = λ w known free dynamic. keeps_to_width table w drawn.widths free dynamic known drawn.arranged;
        fills_width = λ w known free full some. fills_width table w drawn.widths free full known some drawn.arranged;
      };
      styled = subst (AllZip IsStyled (drawing (unstyled table) drawn.widths)) (sym drawn.drawn) (styled_lines table drawn.widths drawn.texts.whole_texts);
      unstyled = drawn.edges.unstyled_lines;
      uncoloured = λ each none. drawn.drawn ∙ uncoloured_lines table drawn.widths each none;
      closed = drawn.sequences.closed_lines;
      frame =
          subst (IsFramedBy (AreContentLines table (content_at table drawn.widths long) (lines_at table drawn.widths long)) table (content_at table drawn.widths long)) (sym drawn.drawn)
          (frame_is table drawn.widths long (AreContentLines table (content_at table drawn.widths long) (lines_at table drawn.widths long)) (content_is table drawn.widths long));
    }
  where
    measured : TableValue
    measured = measured_table table

    long : length drawn.widths ≡ length table.columns
    long = drawn.arranged.one_for_each

    own : IsFramedDrawing measured (drawing (unstyled table) drawn.widths)
    own = plain_lines table drawn.widths long (whole_at table lines drawn)

    unconstrained_needs : NoConstraints table → All IsUnconstrained (shown_needs table)
    unconstrained_needs free = All-from_recursion IsUnconstrained (shown_needs table) (unconstrained_shown table free)

    -- if a width is kept, the widths are dynamic
    layout : (w : ℕ) → table_width table ≡ Some w → table.arrangement ≢ Disabled → IsDynamicLayout (room_beside_borders table w) (shown_needs table) (is_full_width table.arrangement) (shown_contents table drawn.widths)
    layout w known kept = dynamic_widths table table.arrangement w drawn.widths (keeps table.arrangement kept) refl known drawn.arranged
      where
        keeps : (arrangement : ContentArrangement) → arrangement ≢ Disabled → width_kept arrangement (Some w) ≡ Some w
        keeps arrangements.Disabled kept = absurd (kept refl)
        keeps arrangements.Dynamic kept = refl
        keeps arrangements.DynamicFullWidth kept = refl

    -- a width of at least 1 stays as wide
    as_drawn : (full : Bool) (content n : ℕ) → IsAsWide full (max 1 content) n → IsAsWide full (max 1 content) (max 1 n)
    as_drawn true content n wide = omega (arith, wide)
    as_drawn false content n same = omega (arith, same)

    -- a column is as wide as the level, or has room for all its lines at a width of at least the level
    by_level : (level j : ℕ) (other : ℕ × ColumnValue) → j < length (shown_columns table)
        → (level ≤ slice_index drawn.widths (slice_index_or (shown_columns table) j other).0)
        ⊎ ((b : ℕ) × (level ≤ b) × (longest_line table (slice_index_or (shown_columns table) j other).0 (slice_index_or (shown_columns table) j other).1.delimiter b ≤ slice_index drawn.widths (slice_index_or (shown_columns table) j other).0))
        → (level ≤ own.width (slice_index_or (shown_columns table) j other).0)
        ⊎ ((w : ℕ) × (level ≤ w) × HasLinesWithin measured (slice_index_or (shown_columns table) j other) w (own.width (slice_index_or (shown_columns table) j other).0))
    by_level level j other below (inl high) = inl (omega (arith, high))
    by_level level j other below (inr (b, at_least, room)) =
        inr (b, at_least, lines_within table (slice_index_or (shown_columns table) j other) b (max 1 (slice_index drawn.widths (slice_index_or (shown_columns table) j other).0)) (omega (arith, room)) (λ k default under cell found. (whole_at table lines drawn k default under j other below cell found).0))

    -- an even share of the room for texts
    share : (w : ℕ) → NoConstraints table → content_room (room_beside_borders table w) (shown_needs table) / length (shown_needs table) ≡ room_for_texts table w / length (shown_columns table)
    share w free =
        let paddings = sum-paddings table (shown_columns table) in
        let room : content_room (room_beside_borders table w) (shown_needs table) ≡ room_for_texts table w = omega (arith, paddings, content_room-unconstrained (room_beside_borders table w) (shown_needs table) (unconstrained_shown table free)) in
        ap₂ (λ (a b : ℕ). a / b) room (length-map (shown_columns table) (needs_of table))

    no_width : (arrangement : ContentArrangement) (width : Option ℕ) → (arrangement ≡ Disabled) ⊎ (width ≡ None) → width_kept arrangement width ≡ None
    no_width arrangement width (inl disabled) = ap (λ (a : ContentArrangement). width_kept a width) disabled
    no_width arrangements.Disabled width (inr none) = refl
    no_width arrangements.Dynamic width (inr none) = none
    no_width arrangements.DynamicFullWidth width (inr none) = none

-- the columns that are returned with the lines are those of the headline
pub columns_are : (table : TableValue) (arranged : ArrangedValue) → IsArrangedTable table arranged → (lines : List Text) → IsTableDrawing table lines → AreColumnsOf table lines arranged.infos
unfolding headline plain_lines
columns_are table arranged is lines drawn = (
  headline table lines drawn,
  is.infos ∙ ap (infos_of table) (arranged_is_one table is.headline.widths drawn.widths is.headline.arranged drawn.arranged) ∙ infos-are table drawn.widths drawn.arranged.one_for_each,
)
