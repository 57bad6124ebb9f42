-- In a width with room, a text whose characters take at most two terminal columns fits its column.
use Rattle.std.proofs.Common.{◌≡◌, ◌<◌, ◌≤◌, ℕ, ◌+◌, Bool, true, false, not, List, [], ◌∷◌, Option, Some, None, flat_map, length, map, max, min, nat_le, slice_get, slice_index, slice_index_or, unwrap_or, refl, sym, ap, ◌∙◌, subst, arith, ⊎_elim, le_trans}
use Rattle.std.specs.List.{All, AllByRecursion, enumerate_from}
use Rattle.std.specs.Prelude.{if◌then◌else◌}
use Rattle.std.proofs.lemmas.Bool.{le-leb, leb-false, leb-true}
use Rattle.std.proofs.lemmas.List.{map-append}
use Rattle.std.proofs.lemmas.List.Elements.{All-filter, All-from_recursion, All-weaker}
use Rattle.comfy_parts.proofs.CallerLemmas.{All-at, All-given, every-weaker}
use Rattle.comfy_parts.specs.CellValue.{CellValue, ColumnInfo, ColumnValue, RowValue, is_hidden_column}
use Rattle.comfy_parts.specs.Columns.{CharactersFit}
use Rattle.comfy_parts.specs.Text.{Text, greatest, measure}
use Rattle.comfy_parts.specs.Wrapping.{lines_of_text, wrapped}
use Rattle.comfy_table.proofs.ColumnCellLemmas.{greatest-append}
use Rattle.comfy_table.proofs.InfoLemmas.{infos-at}
use Rattle.comfy_table.proofs.ThreePlacesLemmas.{every-le-greatest}
use Rattle.comfy_table.specs.Drawing.{infos_of}
use Rattle.comfy_table.specs.FittingTables.{CharactersFitColumn}
use Rattle.comfy_table.specs.Lines.{cell_delimiter, cell_lines, longest_line}
use Rattle.comfy_table.specs.Pieces.{shown_infos}
use Rattle.comfy_table.specs.Straight.{EachCell}
use Rattle.comfy_table.specs.TableValue.{TableValue, cell_content_width, column_cells, column_content_width, measured_rows}
use Rattle.csv_tables.proofs.BuiltLemmas.{EachShown, each_content}
use Rattle.csv_tables.proofs.FittingLemmas.{content_pointed, each_drawn}
use Rattle.csv_tables.proofs.LineLemmas.{kept_setting}
use Rattle.csv_tables.proofs.SeenLemmas.{printable_fits, wider_column}
use Rattle.csv_tables.proofs.SeparatorLemmas.{separated}
use Rattle.csv_tables.proofs.StraightLemmas.{IsDefaultRowOf, default_rows_of}
use Rattle.csv_tables.proofs.TextTableLemmas.{EachLine, HoldsOfShort, blank, short_drawn, table_of_texts}
use Rattle.csv_tables.proofs.WholeTableLemmas.{IsDrawn, drawn-is, drawn_table-is, rows-drawn}
use Rattle.csv_tables.specs.Drawn.{SelectedValue, is_aligned_in, is_expanded_for, output_table, selected_of, separated_table}
use Rattle.csv_tables.specs.Laws.{CharactersFitEachWidth, EachText, IsDrawnTable}
use Rattle.csv_tables.specs.declared.options.Layout.{Layout}
use Rattle.csv_tables.specs.declared.options.Look.{Look}
use Rattle.csv_promises.proofs.TwoColumnTableLemmas.{HasRoomFor, HasTwoAt, two_or_content}

-- ---- texts

-- a text fits each column of at least two terminal columns, and each column that is as wide as all its lines at some
-- width
pub record FitsTwo (text : Text) : Type 0 where
  pub two : (n : ℕ) → 2 ≤ n → CharactersFit n text
  pub lines : (w n : ℕ) → 1 ≤ n → All (λ (line : Text). measure line ≤ n) (lines_of_text w 0x20 text) → CharactersFit n text

-- so does printable ASCII
printable_two : HoldsOfShort FitsTwo
printable_two text printable few =
    let one = printable_fits text printable in
    record { two = λ n some. wider_column 1 n (omega (arith, some)) text one; lines = λ w n some fit. wider_column 1 n some text one }

empty_two : FitsTwo []
empty_two = let one = printable_fits [] refl in record { two = λ n some. wider_column 1 n (omega (arith, some)) [] one; lines = λ w n some fit. wider_column 1 n some [] one }

-- a text that is at most as wide as a column fits it
narrow-fits : (n : ℕ) (text : Text) → FitsTwo text → 1 ≤ n → measure text ≤ n → CharactersFit n text
narrow-fits n text fits some short =
    let whole : lines_of_text n 0x20 text ≡ text ∷ [] = ap (λ (b : Bool). if b then text ∷ [] else wrapped n 0x20 text) (le-leb (measure text) n short) in
    fits.lines n n some (subst (All (λ (line : Text). measure line ≤ n)) (sym whole) (All-from_recursion (λ (line : Text). measure line ≤ n) (text ∷ []) (short, tt)))

-- ---- the longest line

-- the greatest value of a part is at most the greatest of all parts
parts-within : {X Y : Type 0} (f : Y → ℕ) (g : X → List Y) (xs : List X) → AllByRecursion (λ (x : X). greatest (map f (g x)) ≤ greatest (map f (flat_map g xs))) xs
parts-within f g [] = tt
parts-within {X} f g (x ∷ xs) =
    let all = ap greatest (map-append f (g x) (flat_map g xs)) ∙ greatest-append (map f (g x)) (map f (flat_map g xs)) in (
      omega (arith, all),
      every-weaker (λ (y : X). greatest (map f (g y)) ≤ greatest (map f (flat_map g xs))) (λ (y : X). greatest (map f (g y)) ≤ greatest (map f (flat_map g (x ∷ xs)))) xs (λ y below. omega (arith, all, below)) (parts-within f g xs),
    )

-- no line of a cell's text is wider than the longest line of the cell
lines-within : (b d : ℕ) (texts : List Text) → All (λ (text : Text). All (λ (line : Text). measure line ≤ greatest (map measure (flat_map (lines_of_text b d) texts))) (lines_of_text b d text)) texts
lines-within b d texts =
    All-weaker (λ (text : Text). greatest (map measure (lines_of_text b d text)) ≤ most) (λ (text : Text). All (λ (line : Text). measure line ≤ most) (lines_of_text b d text))
    (λ text within. All-weaker (λ (line : Text). measure line ≤ greatest (map measure (lines_of_text b d text))) (λ (line : Text). measure line ≤ most) (λ line own. le_trans own within) (lines_of_text b d text)
    (All-from_recursion (λ (line : Text). measure line ≤ greatest (map measure (lines_of_text b d text))) (lines_of_text b d text) (every-le-greatest measure (lines_of_text b d text)))) texts
    (All-from_recursion (λ (text : Text). greatest (map measure (lines_of_text b d text)) ≤ most) texts (parts-within measure (lines_of_text b d) texts))
  where
    most : ℕ
    most = greatest (map measure (flat_map (lines_of_text b d) texts))

-- ---- cells

-- positions of columns are less than their count
places-within : (n : ℕ) (columns : List ColumnValue) → AllByRecursion (λ (p : ℕ × ColumnValue). p.0 < n + length columns) (enumerate_from n columns)
places-within n [] = tt
places-within n (column ∷ more) =
    (omega arith, every-weaker (λ (p : ℕ × ColumnValue). p.0 < n + 1 + length more) (λ (p : ℕ × ColumnValue). p.0 < n + length (column ∷ more)) (enumerate_from (n + 1) more) (λ p below. omega (arith, below)) (places-within (n + 1) more))

module _ (table : TableValue) (i width : ℕ) (two : HasTwoAt table i width) (plain : table.delimiter ≡ None) where
  -- the texts of a cell fit the width of its column
  abbrev TextsFitWidth : CellValue → Type 0
  TextsFitWidth cell = cell.delimiter ≡ None → All FitsTwo cell.text_lines → All (CharactersFit (max 1 width)) cell.text_lines

  texts_fit : All TextsFitWidth (column_cells table i)
  texts_fit = ⊎_elim by_content by_lines two
    where
      n : ℕ
      n = max 1 width

      cells : List CellValue
      cells = column_cells table i

      by_content : min 2 (column_content_width table i) ≤ width → All TextsFitWidth cells
      by_content enough =
          All-weaker (λ (cell : CellValue). cell_content_width cell ≤ column_content_width table i) TextsFitWidth
          (λ cell within none fits j other inside.
          let text = slice_index_or cell.text_lines j other in
          let own : FitsTwo text = fits j other inside in
          let most : measure text ≤ greatest (map measure cell.text_lines) = All-from_recursion (λ (line : Text). measure line ≤ greatest (map measure cell.text_lines)) cell.text_lines (every-le-greatest measure cell.text_lines) j other inside in
          by_width text own (nat_le 2 n) refl (λ one. omega (arith, one, enough, within, most)))
          cells (All-from_recursion (λ (cell : CellValue). cell_content_width cell ≤ column_content_width table i) cells (every-le-greatest cell_content_width cells))
        where
          by_width : (text : Text) → FitsTwo text → (b : Bool) → nat_le 2 n ≡ b → (n ≤ 1 → measure text ≤ n) → CharactersFit n text
          by_width text own true wide short = own.two n (leb-true 2 n wide)
          by_width text own false thin short = let one = leb-false 2 n thin in narrow-fits n text own (omega arith) (short (omega (arith, one)))

      by_lines : (b : ℕ) × (longest_line table i None b + 3 ≤ b) × (max 1 (longest_line table i None b) ≤ width) → All TextsFitWidth cells
      by_lines (b, free, long) =
          All-weaker (λ (cell : CellValue). greatest (map measure (lines_of cell)) ≤ longest_line table i None b) TextsFitWidth
          (λ cell within none fits j other inside.
          let text = slice_index_or cell.text_lines j other in
          let d = cell_delimiter table None cell in
          let space : d ≡ 0x20 = ap (λ (o : Option ℕ). unwrap_or o (unwrap_or table.delimiter 0x20)) none ∙ ap (λ (o : Option ℕ). unwrap_or o 0x20) plain in
          let each = All-weaker (λ (line : Text). measure line ≤ greatest (map measure (lines_of cell))) (λ (line : Text). measure line ≤ n) (λ line own. omega (arith, own, within, long)) (lines_of_text b d text) (lines-within b d cell.text_lines j other inside) in
          (fits j other inside).lines b n (omega arith) (subst (λ (e : ℕ). All (λ (line : Text). measure line ≤ n) (lines_of_text b e text)) space each))
          cells (All-from_recursion (λ (cell : CellValue). greatest (map measure (lines_of cell)) ≤ longest_line table i None b) cells (parts-within measure lines_of cells))
        where
          lines_of : CellValue → List Text
          lines_of cell = cell_lines b (cell_delimiter table None cell) cell

-- ---- tables

-- the texts of a drawn table fit if each column has two terminal columns
each_cell_fits : (look : Look) (none : look.has_sequences ≡ false) (content : SelectedValue) (table : TableValue) (widths : List ℕ) → IsDrawn look (IsDefaultRowOf FitsTwo) content table
    → ((i : ℕ) → i < length table.columns → HasTwoAt table i (slice_index widths i)) → EachCell CharactersFitColumn table widths
each_cell_fits look none content table widths known two k default under j other below cell found =
    let row = slice_index_or (measured_rows table) k default in
    let p = slice_index_or (shown_infos (infos_of table widths)) j other in
    let of_row : IsDefaultRowOf FitsTwo row = rows-drawn look (IsDefaultRowOf FitsTwo) content table known none k default under in
    let place : (p.0 < length table.columns) × (p.1.content_width ≡ max 1 (slice_index widths p.0)) =
    infos-at table widths (λ (q : ℕ × ColumnValue). q.0 < 0 + length table.columns) (λ (q : ℕ × ColumnInfo). (q.0 < length table.columns) × (q.1.content_width ≡ max 1 (slice_index widths q.0)))
    (All-filter (λ (q : ℕ × ColumnValue). not (is_hidden_column q.1)) (λ (q : ℕ × ColumnValue). q.0 < 0 + length table.columns) (enumerate_from 0 table.columns) (All-from_recursion (λ (q : ℕ × ColumnValue). q.0 < 0 + length table.columns) (enumerate_from 0 table.columns) (places-within 0 table.columns)))
    (λ i column w is inside. (omega (arith, inside), ap (max 1) is)) j other below in
    let plain : table.delimiter ≡ None = ap (λ (t : TableValue). t.delimiter) (drawn-is look (IsDefaultRowOf FitsTwo) content table known) in
    let fit : TextsFitWidth table p.0 (slice_index widths p.0) (two p.0 place.0) plain cell =
    All-given (TextsFitWidth table p.0 (slice_index widths p.0) (two p.0 place.0) plain) (λ (r : RowValue). slice_get r.cells p.0) (measured_rows table) (texts_fit table p.0 (slice_index widths p.0) (two p.0 place.0) plain) k default under cell found in
    subst (λ (n : ℕ). All (CharactersFit n) cell.text_lines) (sym place.1)
    (fit (All-at (λ (c : CellValue). c.delimiter ≡ None) row.cells p.0 cell of_row.no_delimiters found) (All-at (λ (c : CellValue). All FitsTwo c.text_lines) row.cells p.0 cell of_row.each found))

-- ---- outputs

-- with lines between rows or without
each_separated : (look : Look) (has is_aligned : Bool) (content : SelectedValue) → EachShown (EachLine FitsTwo look) look is_aligned content → EachShown (EachLine FitsTwo (separated has look)) (separated has look) is_aligned content
each_separated look true is_aligned content each = each
each_separated look false is_aligned content each = record { fields = each.fields; shown = each.shown }

-- if the width has room for each table that may be drawn, each character of such fields has room in its column
pub two_fit_each_width : (w : ℕ) (counted : Option ℕ) (layout : Layout) (records : List (List Text)) → layout.look.width ≡ Some w → layout.look.has_sequences ≡ false → EachText FitsTwo layout.look records
    → ((content : SelectedValue) (table : TableValue) → selected_of counted layout records ≡ content → IsDrawnTable layout.look content table → HasRoomFor w layout.look content table) → CharactersFitEachWidth counted layout records
two_fit_each_width w counted layout records wide none each room content table widths is (has, made) arranged =
    each_cell_fits own (kept_setting (λ l. l.has_sequences) look refl has false none) content table widths (subst (IsDrawn own (IsDefaultRowOf FitsTwo) content) (sym made) known)
    (two_or_content w look content wide table widths (has, made) (room content table is (has, made)) arranged)
  where
    look : Look
    look = layout.look

    own : Look
    own = separated has look

    is_aligned : Bool
    is_aligned = is_aligned_in look content

    shown : EachShown (EachLine FitsTwo look) look is_aligned content
    shown =
        each_drawn (EachLine FitsTwo look) (blank FitsTwo empty_two look) (short_drawn FitsTwo printable_two look) look none content (content_pointed counted layout records content is none)
        (each_content (All (EachLine FitsTwo look)) counted layout records content is each) is_aligned

    known : IsDrawn own (IsDefaultRowOf FitsTwo) content (separated_table has (output_table (is_expanded_for look content) look content))
    known =
        drawn_table-is look (IsDefaultRowOf FitsTwo) content (is_expanded_for look content) has
        (table_of_texts FitsTwo empty_two own (short_drawn FitsTwo printable_two own) (IsDefaultRowOf FitsTwo) (default_rows_of FitsTwo empty_two own) content is_aligned (each_separated look has is_aligned content shown) (is_expanded_for look content))
