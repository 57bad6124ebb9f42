-- Drawings that are nearly those of a table, but lose or change a text, or move it.
use Rattle.std.proofs.Common.{◌≡◌, ◌==◌, ◌<◌, ◌≤◌, ◌+◌, inl, inr, ℕ, zero, suc, false, not, List, [], ◌∷◌, ◌++◌, ◌∙◌, Option, Some, None, length, length-append, max, map, filter, flat_map, append-nil, append_assoc, codes, refl, sym, ap, ap₂, subst, arith, slice_index_or, unwrap_or}
use Rattle.std.specs.List.{All, AllZip, join_by, slice_get}
use Rattle.std.specs.Prelude.{slice_index, MatchOption, encode_utf8_all, option_map, replicate}
use lib.Utf8.{encode}
use Rattle.std.proofs.lemmas.List.Elements.{All-from_recursion, filter-append}
use Rattle.std.proofs.lemmas.Str.{encode_ascii}
use Rattle.comfy_parts.proofs.Computing.{wrapping}
use Rattle.comfy_parts.specs.CellValue.{CellValue, ColumnValue, RowValue, new_column, plain_cell, plain_row}
use Rattle.comfy_parts.specs.Presets.{ascii_full}
use Rattle.comfy_parts.specs.Text.{IsOnly, Text, measure, spaces}
use Rattle.comfy_parts.specs.Wrapping.{IsSlicesWhere}
use Rattle.comfy_parts.specs.declared.style.table_style.ContentLineStyle.{ContentLineStyle}
use Rattle.comfy_parts.specs.declared.style.cell.CellAlignment.TheVariants.{Left}
use Rattle.comfy_table.specs.Frame.{content_line, frame_line}
use Rattle.comfy_table.specs.Lines.{cell_delimiter}
use Rattle.comfy_table.specs.TableValue.{TableValue, header_and_rows, new_table, shown_columns, with_rows}
use Rattle.promises.proofs.KeptLemmas.{frame_gives}
use Rattle.promises.specs.Headline.{IsPiece, widths_shown}
use Rattle.promises.specs.Kept.{AreShown, AreSlicesOf, ShowAllTexts, ShowWholeTexts, ShowsRow, ShowsWholeRow}
use Rattle.promises.specs.Tables.{IsShownWhole}

-- ---- texts without their spaces

abbrev pub squeezed : Text → Text
squeezed text = filter (λ b. not (b == 0x20)) text

squeezed-spaces : (n : ℕ) → squeezed (spaces n) ≡ []
squeezed-spaces zero = refl
squeezed-spaces (suc n) = squeezed-spaces n

squeezed-only : (text : Text) → IsOnly 0x20 text → squeezed text ≡ []
squeezed-only text (n, is) = ap squeezed is ∙ by_count n
  where
    by_count : (n : ℕ) → squeezed (encode_utf8_all (replicate n 0x20)) ≡ []
    by_count zero = refl
    by_count (suc n) = ap (λ (t : Text). squeezed (t ++ encode_utf8_all (replicate n 0x20))) (encode_ascii 0x20 (omega arith)) ∙ by_count n

squeezed-three : (xs ys zs : Text) → squeezed (xs ++ (ys ++ zs)) ≡ squeezed xs ++ (squeezed ys ++ squeezed zs)
squeezed-three xs ys zs = filter-append _ xs (ys ++ zs) ∙ ap (λ (t : Text). squeezed xs ++ t) (filter-append _ ys zs)

-- without spaces, a piece is its line
pub squeezed-piece : (column : ColumnValue) (w : ℕ) (line piece : Text) → IsPiece false Left column w line piece → squeezed piece ≡ squeezed line
squeezed-piece column w line piece own =
    ap squeezed own.drawn ∙ squeezed-three own.before line own.after
    ∙ ap₂ (λ (a b : Text). a ++ (squeezed line ++ b)) (ap squeezed own.are_spaces.0 ∙ squeezed-spaces own.left) (ap squeezed own.are_spaces.1 ∙ squeezed-spaces own.right) ∙ append-nil (squeezed line)

-- without spaces, the slices of a text are the text
squeezed-slices : (text : Text) (own : List Text) → IsSlicesWhere (λ line tail. Unit {0}) 0x20 text own → squeezed (flat_map (λ (line : Text). line) own) ≡ squeezed text
squeezed-slices text [] only = sym (squeezed-only text only)
squeezed-slices text (line ∷ own) (tail, slice, ends, more) =
    filter-append _ line (flat_map (λ (line : Text). line) own) ∙ ap (λ (t : Text). squeezed line ++ t) (squeezed-slices tail own more)
    ∙ sym (ap squeezed slice.splits ∙ squeezed-three slice.gap line tail ∙ ap (λ (t : Text). t ++ (squeezed line ++ squeezed tail)) (squeezed-only slice.gap slice.gap_is_delimiters))

squeezed-own : (text : Text) (own : List Text) → AreSlicesOf 0x20 text own → squeezed (flat_map (λ (line : Text). line) own) ≡ squeezed text
squeezed-own text own (inl whole) = ap (λ (ls : List Text). squeezed (flat_map (λ (line : Text). line) ls)) whole ∙ ap squeezed (append-nil text)
squeezed-own text own (inr cut) = squeezed-slices text own cut

-- the slices of a cell of one text line
abbrev AreOfText : Text → List Text → Type 0
AreOfText text slices = (of_texts : List (List Text)) × AllZip (AreSlicesOf 0x20) (text ∷ []) of_texts × (slices ≡ flat_map (λ (of_text : List Text). of_text) of_texts)

one_slice : (text : Text) (slices : List Text) → length slices ≤ 1 → AreOfText text slices → squeezed (slice_index_or slices 0 []) ≡ squeezed text
one_slice text slices few ([], zip, same) = absurd zip
one_slice text slices few (own ∷ other ∷ more, zip, same) = absurd zip.1
one_slice text slices few (own ∷ [], zip, same) = by_length slices few (same ∙ append-nil own)
  where
    all : squeezed (flat_map (λ (line : Text). line) own) ≡ squeezed text
    all = squeezed-own text own zip.0

    by_length : (slices : List Text) → length slices ≤ 1 → slices ≡ own → squeezed (slice_index_or slices 0 []) ≡ squeezed text
    by_length [] few is = ap (λ (ls : List Text). squeezed (flat_map (λ (line : Text). line) ls)) is ∙ all
    by_length (x ∷ []) few is = sym (ap squeezed (append-nil x)) ∙ ap (λ (ls : List Text). squeezed (flat_map (λ (line : Text). line) ls)) is ∙ all
    by_length (x ∷ y ∷ ls) few is = absurd (omega (arith, few))

-- ---- two columns in a frame of `|`, `-`, `+`

abbrev pair : Text → Text → RowValue
pair first second = plain_row (plain_cell first ∷ plain_cell second ∷ [])

abbrev place : ℕ → ℕ × ColumnValue
place i = (i, new_column i)

-- a row of two texts
abbrev row_table : Text → Text → TableValue
row_table first second = with_rows (pair first second ∷ []) (new_table ascii_full)

-- 12.80 is in the second column, and the first is blank
abbrev amount : TableValue
amount = row_table [] (codes "12.80")

-- a line of two pieces, without its spaces
squeezed-line : (line p q first second : Text) → line ≡ content_line ascii_full ascii_full.content_lines (p ∷ q ∷ []) → squeezed p ≡ squeezed first → squeezed q ≡ squeezed second
    → squeezed line ≡ codes "|" ++ (squeezed first ++ (codes "|" ++ (squeezed second ++ codes "|")))
unfolding encode
squeezed-line line p q first second is one other =
    ap squeezed is ∙ ap (λ (t : Text). 0x7C ∷ t) (filter-append _ (p ++ ((0x7C ∷ q) ++ [])) (codes "|")
    ∙ ap (λ (t : Text). t ++ codes "|") (squeezed-three p (0x7C ∷ q) [] ∙ ap₂ (λ (a b : Text). a ++ ((0x7C ∷ b) ++ [])) one other))
    ∙ by_parts (squeezed first) (squeezed second)
  where
    by_parts : (a b : Text) → 0x7C ∷ ((a ++ ((0x7C ∷ b) ++ [])) ++ codes "|") ≡ codes "|" ++ (a ++ (codes "|" ++ (b ++ codes "|")))
    by_parts a b = grind (arith, append_assoc, append-nil)

line_of_parts : (width : ℕ → ℕ) (parts : ℕ × ColumnValue → List Text) (first second line : Text) → squeezed (slice_index_or (parts (place 0)) 0 []) ≡ squeezed first → squeezed (slice_index_or (parts (place 1)) 0 []) ≡ squeezed second → (pieces : List Text)
    → AllZip (λ (p : ℕ × ColumnValue). IsPiece false Left p.1 (width p.0) (slice_index_or (parts p) 0 [])) (place 0 ∷ place 1 ∷ []) pieces → line ≡ content_line ascii_full ascii_full.content_lines pieces
    → squeezed line ≡ codes "|" ++ (squeezed first ++ (codes "|" ++ (squeezed second ++ codes "|")))
line_of_parts width parts first second line one other [] zip is = absurd zip
line_of_parts width parts first second line one other (p ∷ []) zip is = absurd zip.1
line_of_parts width parts first second line one other (p ∷ q ∷ r ∷ pieces) zip is = absurd zip.1.1
line_of_parts width parts first second line one other (p ∷ q ∷ []) zip is =
    squeezed-line line p q first second is (squeezed-piece (new_column 0) (width 0) (slice_index_or (parts (place 0)) 0 []) p zip.0 ∙ one) (squeezed-piece (new_column 1) (width 1) (slice_index_or (parts (place 1)) 0 []) q zip.1.0 ∙ other)

-- two texts of one line
module _ (first second : Text) (one_text : (plain_cell first).text_lines ≡ first ∷ []) (other_text : (plain_cell second).text_lines ≡ second ∷ []) where
  -- both without their spaces, in their columns
  abbrev shown : Text
  shown = codes "|" ++ (squeezed first ++ (codes "|" ++ (squeezed second ++ codes "|")))

  -- a block of one line shows the row's texts, in their columns
  row_line : (width : ℕ → ℕ) (line : Text) → ShowsRow (row_table first second) width ascii_full.content_lines (pair first second) (line ∷ []) → squeezed line ≡ shown
  row_line width line own = let here = own.shown.drawn 0 (omega arith) in line_of_parts width own.slices first second line left right here.0 here.1 here.2
    where
      high : 1 ≡ max (length (own.slices (place 0))) (max (length (own.slices (place 1))) 0)
      high = own.shown.as_high

      of_text : (text : Text) (texts : List Text) → texts ≡ text ∷ [] → (slices : List Text) → (of_texts : List (List Text)) × AllZip (AreSlicesOf 0x20) texts of_texts × (slices ≡ flat_map (λ (of_text : List Text). of_text) of_texts) → AreOfText text slices
      of_text text texts same slices (of_texts, zip, are) = (of_texts, subst (λ (ts : List Text). AllZip (AreSlicesOf 0x20) ts of_texts) same zip, are)

      left : squeezed (slice_index_or (own.slices (place 0)) 0 []) ≡ squeezed first
      left = one_slice first (own.slices (place 0)) (omega (arith, high)) (of_text first (plain_cell first).text_lines one_text (own.slices (place 0)) (own.are_slices refl 0 (place 0) (omega arith)))

      right : squeezed (slice_index_or (own.slices (place 1)) 0 []) ≡ squeezed second
      right = one_slice second (own.slices (place 1)) (omega (arith, high)) (of_text second (plain_cell second).text_lines other_text (own.slices (place 1)) (own.are_slices refl 1 (place 0) (omega arith)))

  -- so does the line between two others
  line_between : (top line bottom : Text) → AreShown (ShowsRow (row_table first second)) (row_table first second) (top ∷ line ∷ bottom ∷ []) → squeezed line ≡ shown
  line_between top line bottom (width, is) = by_rows is.rows is.are_rows (is.drawn ∙ ap (λ (header : List Text). border ∷ (header ++ (join_by (λ (block : List Text). block) (separator ∷ []) is.rows ++ last ∷ []))) is.is_header)
    where
      border : Text
      border = frame_line ascii_full ascii_full.top_border (widths_shown (row_table first second) width)

      separator : Text
      separator = frame_line ascii_full ascii_full.row_separator (widths_shown (row_table first second) width)

      last : Text
      last = frame_line ascii_full ascii_full.bottom_border (widths_shown (row_table first second) width)

      alone : (block : List Text) → line ∷ bottom ∷ [] ≡ (block ++ []) ++ last ∷ [] → block ≡ line ∷ []
      alone [] made = let few : 2 ≡ 1 = ap length made in absurd (omega (arith, few))
      alone (x ∷ []) made = let same : line ≡ x = cc made in ap (λ (t : Text). t ∷ []) (sym same)
      alone (x ∷ y ∷ block) made = let many = ap length made in absurd (omega (arith, many, length-append (block ++ []) (last ∷ [])))

      by_rows : (rows : List (List Text)) → AllZip (ShowsRow (row_table first second) width ascii_full.content_lines) (pair first second ∷ []) rows → top ∷ line ∷ bottom ∷ [] ≡ border ∷ (join_by (λ (block : List Text). block) (separator ∷ []) rows ++ last ∷ []) → squeezed line ≡ shown
      by_rows [] each made = absurd each
      by_rows (block ∷ other ∷ rows) each made = absurd each.1
      by_rows (block ∷ []) each made =
          let own : line ∷ bottom ∷ [] ≡ (block ++ []) ++ last ∷ [] = cc made in
          row_line width line (subst (ShowsRow (row_table first second) width ascii_full.content_lines (pair first second)) (alone block own) each.0)

amount_line : (top line bottom : Text) → AreShown (ShowsRow amount) amount (top ∷ line ∷ bottom ∷ []) → squeezed line ≡ codes "||12.80|"
amount_line top line bottom is = line_between [] (codes "12.80") refl refl top line bottom is

-- texts that are shown whole are shown
whole_row : (table : TableValue) (width : ℕ → ℕ) (borders : ContentLineStyle) (row : RowValue) (block : List Text) → ShowsWholeRow table width borders row block → ShowsRow table width borders row block
whole_row table width borders row block own =
    record {
      slices = λ p. unwrap_or (option_map (λ (cell : CellValue). cell.text_lines) (slice_get row.cells p.0)) ([] ∷ []);
      shown = own;
      are_slices = λ uncut j other below. by_cell (slice_index_or (shown_columns table) j other) (slice_get row.cells (slice_index_or (shown_columns table) j other).0);
    }
  where
    each : (d : ℕ) (texts : List Text) → AllZip (AreSlicesOf d) texts (map (λ (text : Text). text ∷ []) texts)
    each d [] = tt
    each d (text ∷ texts) = (inl refl, each d texts)

    flat : (texts : List Text) → texts ≡ flat_map (λ (of_text : List Text). of_text) (map (λ (text : Text). text ∷ []) texts)
    flat [] = refl
    flat (text ∷ texts) = ap (λ (ts : List Text). text ∷ ts) (flat texts)

    by_cell : (p : ℕ × ColumnValue) (o : Option CellValue) → MatchOption o (unwrap_or (option_map (λ (cell : CellValue). cell.text_lines) o) ([] ∷ []) ≡ [] ∷ [])
        (λ cell. (of_texts : List (List Text)) × AllZip (AreSlicesOf (cell_delimiter table p.1.delimiter cell)) cell.text_lines of_texts × (unwrap_or (option_map (λ (c : CellValue). c.text_lines) o) ([] ∷ []) ≡ flat_map (λ (of_text : List Text). of_text) of_texts))
    by_cell p None = refl
    by_cell p (Some cell) = (map (λ (text : Text). text ∷ []) cell.text_lines, each (cell_delimiter table p.1.delimiter cell) cell.text_lines, flat cell.text_lines)

whole_is_shown : (lines : List Text) → AreShown (ShowsWholeRow amount) amount lines → AreShown (ShowsRow amount) amount lines
whole_is_shown lines (width, is) =
    (width, frame_gives (λ row. Unit {0}) (ShowsWholeRow amount width) (ShowsRow amount width) (λ borders row block any own. whole_row amount width borders row block own) amount width lines (λ k default below. tt) is)

-- another amount, with a `-` before it
other_amount : (top bottom : Text) → ¬ (AreShown (ShowsRow amount) amount (top ∷ codes "|  | -12.80 |" ∷ bottom ∷ []))
other_amount top bottom is = let letter : ◌≡◌ {A = ℕ} 0x2D 0x31 = cc (amount_line top (codes "|  | -12.80 |") bottom is) in absurd (omega (arith, letter))

other_whole_amount : (top bottom : Text) → ¬ (AreShown (ShowsWholeRow amount) amount (top ∷ codes "|  | -12.80 |" ∷ bottom ∷ []))
other_whole_amount top bottom is = other_amount top bottom (whole_is_shown _ is)

-- the amount in the neighbouring column
other_column : (top bottom : Text) → ¬ (AreShown (ShowsRow amount) amount (top ∷ codes "| 12.80 |  |" ∷ bottom ∷ []))
other_column top bottom is = let letter : ◌≡◌ {A = ℕ} 0x31 0x7C = cc (amount_line top (codes "| 12.80 |  |") bottom is) in absurd (omega (arith, letter))

other_whole_column : (top bottom : Text) → ¬ (AreShown (ShowsWholeRow amount) amount (top ∷ codes "| 12.80 |  |" ∷ bottom ∷ []))
other_whole_column top bottom is = other_column top bottom (whole_is_shown _ is)

-- no border between the two
no_border : (top bottom : Text) → ¬ (AreShown (ShowsRow amount) amount (top ∷ codes "|    12.80 |" ∷ bottom ∷ []))
no_border top bottom is = let letter : ◌≡◌ {A = ℕ} 0x31 0x7C = cc (amount_line top (codes "|    12.80 |") bottom is) in absurd (omega (arith, letter))

no_border_between_texts : (top bottom : Text) → ¬ (AreShown (ShowsRow (row_table (codes "7") (codes "12.80"))) (row_table (codes "7") (codes "12.80")) (top ∷ codes "| 7  12.80 |" ∷ bottom ∷ []))
no_border_between_texts top bottom is =
    let same : codes "|712.80|" ≡ codes "|7|12.80|" = line_between (codes "7") (codes "12.80") refl refl top (codes "| 7  12.80 |") bottom is in
    let letter : 0x31 ≡ 0x7C = ap (λ (t : Text). slice_index t 2) same in absurd (omega (arith, letter))

-- a sequence inside the text, or beside it, without styles
coloured_digits : (top bottom : Text) → ¬ (AreShown (ShowsRow amount) amount (top ∷ codes "|  | 12\u{1b}[31m.80 |" ∷ bottom ∷ []))
coloured_digits top bottom is = let letter : ◌≡◌ {A = ℕ} 0x1B 0x2E = cc (amount_line top (codes "|  | 12\u{1b}[31m.80 |") bottom is) in absurd (omega (arith, letter))

coloured_amount : (top bottom : Text) → ¬ (AreShown (ShowsRow amount) amount (top ∷ codes "|  | \u{1b}[31m12.80 |" ∷ bottom ∷ []))
coloured_amount top bottom is = let letter : ◌≡◌ {A = ℕ} 0x1B 0x31 = cc (amount_line top (codes "|  | \u{1b}[31m12.80 |") bottom is) in absurd (omega (arith, letter))

-- ---- two rows

abbrev first_row : RowValue
first_row = pair [] (codes "12.80")

abbrev second_row : RowValue
second_row = pair (codes "7") []

abbrev amounts : TableValue
amounts = with_rows (first_row ∷ second_row ∷ []) (new_table ascii_full)

-- their drawing
abbrev amount_lines : List Text
amount_lines = codes "+---+-------+" ∷ codes "|   | 12.80 |" ∷ codes "|---+-------|" ∷ codes "| 7 |       |" ∷ codes "+---+-------+" ∷ []

amount_width : ℕ → ℕ
amount_width zero = 1
amount_width (suc i) = 5

measures : (measure [] ≡ 0) × (measure (codes "12.80") ≡ 5) × (measure (codes "7") ≡ 1)
unfolding wrapping
measures = (refl, refl, refl)

amounts_are_shown : AreShown (ShowsWholeRow amounts) amounts amount_lines
unfolding amount_width encode
amounts_are_shown = (
  amount_width,
  record {
    header = [];
    rows = (codes "|   | 12.80 |" ∷ []) ∷ (codes "| 7 |       |" ∷ []) ∷ [];
    is_header = refl;
    are_rows = (
      record { as_high = refl; drawn = first },
      (record { as_high = refl; drawn = second }, tt),
    );
    drawn = refl;
  },
)
  where
    -- a text between a space and others
    between : (column : ColumnValue) (w right : ℕ) (text : Text) → column.padding ≡ (1, 1) → 1 ≤ right → 1 + measure text + right ≡ 1 + max w (measure text) + 1 → IsPiece false Left column w text (spaces 1 ++ (text ++ spaces right))
    between column w right text padding some wide =
        let left : column.padding.0 ≡ 1 = ap (λ (p : ℕ × ℕ). p.0) padding in
        let other : column.padding.1 ≡ 1 = ap (λ (p : ℕ × ℕ). p.1) padding in
        record { left = 1; right = right; before = spaces 1; after = spaces right; drawn = refl; are_spaces = (refl, refl); padded = (omega (arith, left), omega (arith, other, some)); wide = omega (arith, left, other, wide); aligned = omega (arith, left) }

    first : (k : ℕ) → k < 1 → (pieces : List Text) × AllZip (λ (p : ℕ × ColumnValue). IsPiece false Left p.1 (amount_width p.0) (slice_index_or (unwrap_or (option_map (λ (cell : CellValue). cell.text_lines) (slice_get first_row.cells p.0)) ([] ∷ [])) k [])) (place 0 ∷ place 1 ∷ []) pieces
        × (slice_index_or (codes "|   | 12.80 |" ∷ []) k [] ≡ content_line ascii_full ascii_full.content_lines pieces)
    first (suc k) below = absurd (omega (arith, below))
    first zero below = (codes "   " ∷ codes " 12.80 " ∷ [], (between (new_column 0) 1 2 [] refl (omega arith) (omega (arith, measures)), (between (new_column 1) 5 1 (codes "12.80") refl (omega arith) (omega (arith, measures)), tt)), refl)

    second : (k : ℕ) → k < 1 → (pieces : List Text) × AllZip (λ (p : ℕ × ColumnValue). IsPiece false Left p.1 (amount_width p.0) (slice_index_or (unwrap_or (option_map (λ (cell : CellValue). cell.text_lines) (slice_get second_row.cells p.0)) ([] ∷ [])) k [])) (place 0 ∷ place 1 ∷ []) pieces
        × (slice_index_or (codes "| 7 |       |" ∷ []) k [] ≡ content_line ascii_full ascii_full.content_lines pieces)
    second (suc k) below = absurd (omega (arith, below))
    second zero below = (codes " 7 " ∷ codes "       " ∷ [], (between (new_column 0) 1 1 (codes "7") refl (omega arith) (omega (arith, measures)), (between (new_column 1) 5 6 [] refl (omega arith) (omega (arith, measures)), tt)), refl)

-- the lines of each drawing of the two rows
pub record IsTwoRows (lines : List Text) : Type 0 where
  pub top : Text
  pub first : Text
  pub separator : Text
  pub second : Text
  pub bottom : Text
  pub are : lines ≡ top ∷ first ∷ separator ∷ second ∷ bottom ∷ []
  pub is_first : squeezed first ≡ codes "||12.80|"
  pub is_second : squeezed second ≡ codes "|7||"

two_rows : (lines : List Text) → AreShown (ShowsWholeRow amounts) amounts lines → IsTwoRows lines
two_rows lines (width, is) = by_rows is.rows is.are_rows (is.drawn ∙ ap (λ (header : List Text). border ∷ (header ++ (join_by (λ (block : List Text). block) (separator ∷ []) is.rows ++ last ∷ []))) is.is_header)
  where
    border : Text
    border = frame_line ascii_full ascii_full.top_border (widths_shown amounts width)

    separator : Text
    separator = frame_line ascii_full ascii_full.row_separator (widths_shown amounts width)

    last : Text
    last = frame_line ascii_full ascii_full.bottom_border (widths_shown amounts width)

    one : (block : List Text) → length block ≡ 1 → (line : Text) × (block ≡ line ∷ [])
    one [] few = absurd (omega (arith, few))
    one (line ∷ []) few = (line, refl)
    one (x ∷ y ∷ block) few = absurd (omega (arith, few))

    row_is : (first second line : Text) (block : List Text) → block ≡ line ∷ [] → (own : ShowsWholeRow amounts width ascii_full.content_lines (pair first second) block) → squeezed (slice_index_or (plain_cell first).text_lines 0 []) ≡ squeezed first → squeezed (slice_index_or (plain_cell second).text_lines 0 []) ≡ squeezed second
        → squeezed line ≡ codes "|" ++ (squeezed first ++ (codes "|" ++ (squeezed second ++ codes "|")))
    row_is first second line block same own one_text other_text =
        let long = ap length same in
        let here = own.drawn 0 (omega (arith, long)) in
        let parts : ℕ × ColumnValue → List Text = λ p. unwrap_or (option_map (λ (cell : CellValue). cell.text_lines) (slice_get (pair first second).cells p.0)) ([] ∷ []) in
        line_of_parts width parts first second line one_text other_text here.0 here.1 (ap (λ (ls : List Text). slice_index_or ls 0 []) (sym same) ∙ here.2)

    by_rows : (rows : List (List Text)) → AllZip (ShowsWholeRow amounts width ascii_full.content_lines) (first_row ∷ second_row ∷ []) rows → lines ≡ border ∷ (join_by (λ (block : List Text). block) (separator ∷ []) rows ++ last ∷ []) → IsTwoRows lines
    by_rows [] each made = absurd each
    by_rows (block ∷ []) each made = absurd each.1
    by_rows (block ∷ other ∷ more ∷ rows) each made = absurd each.1.1
    by_rows (block ∷ other ∷ []) each made =
        let a = one block each.0.as_high in
        let b = one other each.1.0.as_high in
        record {
          top = border;
          first = a.0;
          separator = separator;
          second = b.0;
          bottom = last;
          are = made ∙ ap₂ (λ (x y : List Text). border ∷ (join_by (λ (block : List Text). block) (separator ∷ []) (x ∷ y ∷ []) ++ last ∷ [])) a.1 b.1;
          is_first = row_is [] (codes "12.80") a.0 block a.1 each.0 refl refl;
          is_second = row_is (codes "7") [] b.0 other b.1 each.1.0 refl refl;
        }

-- two rows exchanged
exchanged : (top separator bottom : Text) → ¬ (AreShown (ShowsWholeRow amounts) amounts (top ∷ codes "| 7 |       |" ∷ separator ∷ codes "|   | 12.80 |" ∷ bottom ∷ []))
exchanged top separator bottom is =
    let own = two_rows _ is in
    let line : codes "| 7 |       |" ≡ own.first = cc own.are in
    let letter : ◌≡◌ {A = ℕ} 0x37 0x7C = cc (ap squeezed line ∙ own.is_first) in absurd (omega (arith, letter))

-- the line of a row missing
missing_line : (top separator bottom : Text) → ¬ (AreShown (ShowsWholeRow amounts) amounts (top ∷ codes "|   | 12.80 |" ∷ separator ∷ bottom ∷ []))
missing_line top separator bottom is = let own = two_rows _ is in let few : 4 ≡ 5 = ap length own.are in absurd (omega (arith, few))

-- a blank row added
blank_row : (top separator other bottom : Text) → ¬ (AreShown (ShowsWholeRow amounts) amounts (top ∷ codes "|   | 12.80 |" ∷ separator ∷ codes "|   |       |" ∷ other ∷ codes "| 7 |       |" ∷ bottom ∷ []))
blank_row top separator other bottom is = let own = two_rows _ is in let many : 7 ≡ 5 = ap length own.are in absurd (omega (arith, many))

-- no line between two rows
no_separator : (top bottom : Text) → ¬ (AreShown (ShowsWholeRow amounts) amounts (top ∷ codes "|   | 12.80 |" ∷ codes "| 7 |       |" ∷ bottom ∷ []))
no_separator top bottom is = let own = two_rows _ is in let few : 4 ≡ 5 = ap length own.are in absurd (omega (arith, few))

-- ---- promises

-- false: promises::lines_with_all_texts
other_amount_shown : (top bottom : Text) → ¬ (ShowAllTexts amount (top ∷ codes "|  | -12.80 |" ∷ bottom ∷ []))
other_amount_shown top bottom is = other_amount top bottom (is refl)

amounts_are_whole : IsShownWhole amounts
unfolding wrapping
amounts_are_whole =
    record {
      no_constraint = All-from_recursion (λ (column : ColumnValue). column.constraint ≡ None) amounts.columns (refl, (refl, tt));
      uncut = All-from_recursion (λ (row : RowValue). row.max_height ≡ None) (header_and_rows amounts) (refl, (refl, tt));
      short = All-from_recursion (λ (row : RowValue). All (λ (cell : CellValue). All (λ text. measure text ≤ 65535) cell.text_lines) row.cells) (header_and_rows amounts) (own [] (codes "12.80") (cell [] (omega arith)) (cell (codes "12.80") (omega arith)), (own (codes "7") [] (cell (codes "7") (omega arith)) (cell [] (omega arith)), tt));
    }
  where
    cell : (text : Text) → measure text ≤ 65535 → All (λ text. measure text ≤ 65535) (text ∷ [])
    cell text few = All-from_recursion (λ text. measure text ≤ 65535) (text ∷ []) (few, tt)

    own : (first second : Text) → All (λ text. measure text ≤ 65535) (plain_cell first).text_lines → All (λ text. measure text ≤ 65535) (plain_cell second).text_lines → All (λ (cell : CellValue). All (λ text. measure text ≤ 65535) cell.text_lines) (pair first second).cells
    own first second one other = All-from_recursion (λ (cell : CellValue). All (λ text. measure text ≤ 65535) cell.text_lines) (pair first second).cells (one, (other, tt))

-- false: promises::lines_with_whole_texts
exchanged_rows_shown : (top separator bottom : Text) → ¬ (ShowWholeTexts amounts (top ∷ codes "| 7 |       |" ∷ separator ∷ codes "|   | 12.80 |" ∷ bottom ∷ []))
exchanged_rows_shown top separator bottom is = exchanged top separator bottom (is refl refl amounts_are_whole)
