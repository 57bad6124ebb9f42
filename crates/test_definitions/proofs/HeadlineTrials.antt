-- Lines that differ slightly from a drawing, so that they are none.
use Rattle.std.proofs.Common.{◌≡◌, ◌==◌, ◌<◌, ◌≤◌, ◌-◌, ℕ, suc, ◌+◌, Bool, true, false, List, [], ◌∷◌, ◌++◌, Option, Some, None, zero, codes, nat_le, inr, ◌⊎◌, length, map, max, take, inl, refl, sym, ap, ap₂, ◌∙◌, subst, arith, append-nil, length-append, slice_index_or}
use Rattle.std.specs.Int.{is_in_range}
use Rattle.std.specs.Prelude.{if◌then◌else◌, slice_index}
use Rattle.std.specs.Str.{IsUtf8, chars}
use Rattle.std.proofs.lemmas.Str.{encodes-chars}
use Rattle.std.proofs.lemmas.Bool.Decides.{nat_tests}
use Rattle.promises.proofs.HeadlineLemmas.{lines_of_cell}
use Rattle.std.specs.List.{All, AllZip, flat_map, join_by, list_all, slice_get}
use lib.Utf8.{encode}
use Rattle.std.proofs.lemmas.Bool.{cases_lt, or_parts}
use Rattle.std.proofs.lemmas.List.{length-replicate}
use Rattle.std.proofs.lemmas.List.Elements.{All-from_recursion, All-head, All-tail}
use Rattle.std.proofs.lemmas.Option.{same_Some}
use Rattle.comfy_parts.proofs.CallerLemmas.{frame_adds}
use Rattle.comfy_parts.proofs.Computing.{wrapping}
use Rattle.comfy_parts.proofs.WrappingLemmas.{wrapped_is_one}
use Rattle.comfy_parts.specs.CellValue.{CellValue, ColumnInfo, ColumnValue, RowValue, info_of, new_column, plain_cell, plain_row}
use Rattle.comfy_parts.specs.Columns.{CharactersFit}
use Rattle.comfy_parts.specs.Presets.{ascii_full, nothing}
use Rattle.comfy_parts.specs.Text.{AddsOneColumnEach, HasNo, Text, greatest, is_printable_ascii, measure, spaces}
use Rattle.comfy_parts.specs.VisibleText.{is_parameter}
use Rattle.comfy_parts.specs.Wrapping.{wrapped}
use Rattle.comfy_parts.specs.declared.style.table.ContentArrangement.{ContentArrangement}
use Rattle.comfy_parts.specs.declared.style.table.ContentArrangement.TheVariants.{Disabled, Dynamic, DynamicFullWidth}
use Rattle.comfy_parts.specs.declared.style.cell.CellAlignment.TheVariants.{Center, Left, Right}
use Rattle.comfy_parts.specs.declared.style.cell.CellAlignment.{CellAlignment}
use Rattle.comfy_table.proofs.CountLemmas.{frame_lines_count}
use Rattle.comfy_table.specs.Laws.{LeavesNoneOpen, NoConstraints, count, least_total}
use Rattle.comfy_table.specs.Lines.{cell_delimiter, cell_lines, cut_text, cut_to_limit, fitting_indicator}
use Rattle.comfy_table.specs.Parts.{ArrangedValue, IsArrangedTable}
use Rattle.comfy_table.specs.Pieces.{free_before}
use Rattle.comfy_table.specs.TableValue.{TableValue, ellipsis, header_and_rows, measured_table, new_table, shown_columns, width_or_terminal, with_header, with_rows}
use Rattle.promises.specs.Headline.{AreColumnsOf, AreContentLines, AreLinesOfRow, AreLinesOfText, EachShownCell, AreLinesOfCell, HasLinesWithin, IsFramedBy, IsHeadline, IsPiece, KeepsToLevel, side_in, widest, IsPlainDrawing, IsPrintable, IsUncoloured, lines_in}
use Rattle.promises.specs.Promises.{KeepsPromises}
use Rattle.promises.specs.Shown.{IsStyled}
use Rattle.promises.specs.Straight.{AreStraightWhereCharactersFit}
use Rattle.promises.specs.Widths.{KeepToWidthWhereCharactersFit}
use Rattle.promises.specs.Shown.IsStyled.{nothing as no_byte, byte, sequence}
use Rattle.test_definitions.proofs.ClosedLineTrials.{bold_ends_in_text, bold_letter, bold_stays_open, halves, halves_end_in_texts, torn_letter, torn_stays_open}
use Rattle.test_definitions.proofs.TrialTables.{no_ab_inside}

-- a table of one cell, without a frame
abbrev cell_of : List Text → CellValue
cell_of texts = record (plain_cell []) { text_lines = texts }

abbrev row_of : Option ℕ → List Text → RowValue
row_of limit texts = record { cells = cell_of texts ∷ []; max_height = limit }

abbrev one_cell : Bool → ContentArrangement → Option ℕ → Text → Option ℕ → List Text → TableValue
one_cell enforce arrangement width indicator limit texts = with_rows (row_of limit texts ∷ []) (record (new_table nothing) { arrangement = arrangement; set_width = width; indicator = indicator; enforce_styling = enforce })

-- a table of one cell without a width
abbrev free_cell : Option ℕ → List Text → TableValue
free_cell limit texts = one_cell false Disabled None ellipsis limit texts

-- the same table with a width of w terminal columns
abbrev wide_cell : ℕ → List Text → TableValue
wide_cell w texts = one_cell false DynamicFullWidth (Some w) ellipsis None texts

abbrev place : ℕ × ColumnValue
place = (0, new_column 0)

unconstrained : (enforce : Bool) (arrangement : ContentArrangement) (width : Option ℕ) (indicator : Text) (limit : Option ℕ) (texts : List Text) → NoConstraints (one_cell enforce arrangement width indicator limit texts)
unconstrained enforce arrangement width indicator limit texts = All-from_recursion (λ (p : ℕ × ColumnValue). p.1.constraint ≡ None) (shown_columns (one_cell enforce arrangement width indicator limit texts)) (refl, tt)

-- a text between spaces, as wide as its column of this width
pub record IsPadded (w : ℕ) (text line : Text) : Type 0 where
  pub left : ℕ
  pub right : ℕ
  pub drawn : line ≡ spaces left ++ (text ++ spaces right)
  pub padded : (1 ≤ left) × (1 ≤ right)
  pub wide : left + measure text + right ≡ 1 + max w (measure text) + 1

-- the only piece of a line is such a text
padded_of : (width : ℕ → ℕ) (text line : Text) (pieces : List Text) → AllZip (λ (p : ℕ × ColumnValue). IsPiece false Left p.1 (width p.0) text) (place ∷ []) pieces → line ≡ join_by (λ (piece : Text). piece) [] pieces ++ [] → IsPadded (width 0) text line
padded_of width text line [] zip is_line = absurd zip
padded_of width text line (piece ∷ other ∷ pieces) zip is_line = absurd zip.1
padded_of width text line (piece ∷ []) zip is_line =
    let joined : line ≡ piece = is_line ∙ append-nil (piece ++ []) ∙ append-nil piece in
    record { left = zip.0.left; right = zip.0.right; drawn = joined ∙ zip.0.drawn ∙ ap₂ (λ (a b : Text). a ++ (text ++ b)) zip.0.are_spaces.0 zip.0.are_spaces.1; padded = zip.0.padded; wide = zip.0.wide }

-- lines, each of which is one of these texts, padded
abbrev pub ArePadded : ℕ → List Text → List Text → Type 0
ArePadded w texts lines = AllZip (IsPadded w) texts lines

module _ (enforce : Bool) (arrangement : ContentArrangement) (kept : Option ℕ) (indicator : Text) (limit : Option ℕ) (texts lines : List Text) (is : IsPlainDrawing (one_cell enforce arrangement kept indicator limit texts) lines) where
  -- the lines of the cell, after cutting by height
  abbrev cut_lines : List Text
  cut_lines = lines_in (one_cell enforce arrangement kept indicator limit texts) is.framed.width is.framed.cell_lines (row_of limit texts) place

  abbrev IsBlock : List Text → Type 0
  IsBlock block = AreLinesOfRow (one_cell enforce arrangement kept indicator limit texts) is.framed.width is.framed.cell_lines nothing.content_lines (row_of limit texts) block

  -- without a width the column is as wide as its widest text
  pub width_is : arrangement ≡ Disabled → greatest (map measure texts) ≤ 65535 → is.framed.width 0 ≡ max 1 (greatest (map measure texts))
  width_is disabled short = let own = is.by_content (inl disabled) 0 place (omega arith) refl in omega (arith, own, short)

  -- with full width it fills the width
  pub room_is : (w : ℕ) → arrangement ≡ DynamicFullWidth → kept ≡ Some w → 3 ≤ w → 1 + is.framed.width 0 + 1 ≡ w
  room_is w full known room =
      let all = is.fills_width w (ap (λ (o : Option ℕ). width_or_terminal o false None) known) (unconstrained enforce arrangement kept indicator limit texts) full (omega arith) in
      let least : least_total (one_cell enforce arrangement kept indicator limit texts) ≡ 3 = refl in
      let line = is.frame_total nothing.top_border in
      let counts = frame_lines_count nothing nothing.top_border (record (info_of (new_column 0) 0) { content_width = is.framed.width 0 } ∷ []) in
      omega (arith, all, least, line, counts, room)

  -- each line of the block is one of its texts, padded
  block_is : (block : List Text) → IsBlock block → (cut : List Text) → cut_lines ≡ cut → ArePadded (is.framed.width 0) cut block
  block_is block own cut same = by_lines block cut (own.as_high ∙ ap (λ (ls : List Text). max (length ls) 0) same) (λ k below. at k below)
    where
      at : (k : ℕ) → k < length block → IsPadded (is.framed.width 0) (slice_index_or cut k []) (slice_index_or block k [])
      at k below =
          let here = own.drawn k below in
          subst (λ (ls : List Text). IsPadded (is.framed.width 0) (slice_index_or ls k []) (slice_index_or block k [])) same
          (padded_of is.framed.width (slice_index_or cut_lines k []) (slice_index_or block k []) here.0 here.1 here.2)

      by_lines : (block cut : List Text) → length block ≡ max (length cut) 0 → ((k : ℕ) → k < length block → IsPadded (is.framed.width 0) (slice_index_or cut k []) (slice_index_or block k [])) → ArePadded (is.framed.width 0) cut block
      by_lines [] [] long each = tt
      by_lines [] (x ∷ cut) long each = absurd (omega (arith, long))
      by_lines (line ∷ block) [] long each = absurd (omega (arith, long))
      by_lines (line ∷ block) (x ∷ cut) long each = (each 0 (omega arith), by_lines block cut (omega (arith, long)) (λ k below. each (suc k) (omega (arith, below))))

  -- the lines of the drawing are these texts too
  pub lines_are : (cut : List Text) → cut_lines ≡ cut → ArePadded (is.framed.width 0) cut lines
  lines_are cut same = by_rows is.framed.frame.rows is.framed.frame.are_rows is.framed.frame.drawn
    where
      by_rows : (rows : List (List Text)) → AllZip (AreLinesOfRow (one_cell enforce arrangement kept indicator limit texts) is.framed.width is.framed.cell_lines nothing.content_lines) (row_of limit texts ∷ []) rows → lines ≡ is.framed.frame.header ++ (join_by (λ block. block) [] rows ++ []) → ArePadded (is.framed.width 0) cut lines
      by_rows [] each drawn = absurd each
      by_rows (block ∷ other ∷ rows) each drawn = absurd each.1
      by_rows (block ∷ []) each drawn =
          let all : lines ≡ block = drawn ∙ ap (λ (header : List Text). header ++ ((block ++ []) ++ [])) is.framed.frame.is_header ∙ append-nil (block ++ []) ∙ append-nil block in
          subst (λ (ls : List Text). ArePadded (is.framed.width 0) cut ls) (sym all) (block_is block each.0 cut same)

  -- the lines of texts that all fit are these texts
  pub texts_stay : All (λ text. measure text ≤ is.framed.width 0) texts → is.framed.cell_lines place (cell_of texts) ≡ texts
  texts_stay fit = let own = is.framed.are_cell_lines 0 (row_of limit texts) (omega arith) 0 place (omega arith) (cell_of texts) refl in own.2 ∙ by_texts texts own.0 fit own.1
    where
      by_texts : (texts : List Text) (of_texts : List (List Text)) → All (λ text. measure text ≤ is.framed.width 0) texts → AllZip (AreLinesOfText (is.framed.width 0) 0x20) texts of_texts → flat_map (λ (of_text : List Text). of_text) of_texts ≡ texts
      by_texts [] [] fit zip = refl
      by_texts [] (own ∷ of_texts) fit zip = absurd zip
      by_texts (text ∷ texts) [] fit zip = absurd zip
      by_texts (text ∷ texts) (own ∷ of_texts) fit zip =
          ap₂ (λ (a b : List Text). a ++ b) (zip.0.whole (All-head (λ (t : Text). measure t ≤ is.framed.width 0) text texts fit)) (by_texts texts of_texts (All-tail (λ (t : Text). measure t ≤ is.framed.width 0) text texts fit) zip.1)

-- ---- drawings that are none

-- a text of two bytes that takes two terminal columns
two : measure (codes "ab") ≡ 2
unfolding wrapping
two = refl

-- the drawing of such a text, if nothing cuts it
pub of_two : (enforce : Bool) (text : Text) → measure text ≡ 2 → (limit : Option ℕ) → ((cut : Text → Text) → cut_to_limit {A = Text} cut limit (text ∷ []) ≡ text ∷ []) → (lines : List Text) → IsPlainDrawing (one_cell enforce Disabled None ellipsis limit (text ∷ [])) lines → ArePadded 2 (text ∷ []) lines
of_two enforce text wide limit uncut lines is =
    let width : is.framed.width 0 ≡ 2 = let own = width_is enforce Disabled None ellipsis limit (text ∷ []) lines is refl (omega (arith, wide)) in omega (arith, own, wide) in
    let stay = texts_stay enforce Disabled None ellipsis limit (text ∷ []) lines is (All-from_recursion (λ text. measure text ≤ is.framed.width 0) (text ∷ []) (omega (arith, width, wide), tt)) in
    subst (λ (w : ℕ). ArePadded w (text ∷ []) lines) width
    (lines_are enforce Disabled None ellipsis limit (text ∷ []) lines is (text ∷ []) (ap (cut_to_limit (cut_text (is.framed.width 0) ellipsis) limit) stay ∙ uncut _))

ab_is : (enforce : Bool) (limit : Option ℕ) → ((cut : Text → Text) → cut_to_limit {A = Text} cut limit (codes "ab" ∷ []) ≡ codes "ab" ∷ []) → (lines : List Text) → IsPlainDrawing (one_cell enforce Disabled None ellipsis limit (codes "ab" ∷ [])) lines → ArePadded 2 (codes "ab" ∷ []) lines
ab_is enforce limit uncut lines is = of_two enforce (codes "ab") two limit uncut lines is

-- a padded `ab` is ` ab `
ab_padded : (line : Text) → IsPadded 2 (codes "ab") line → line ≡ codes " ab "
ab_padded line is =
    let wide = is.wide in
    let left : is.left ≡ 1 = omega (arith, is.padded, wide, two) in
    let right : is.right ≡ 1 = omega (arith, is.padded, wide, two) in
    is.drawn ∙ ap (λ n. spaces n ++ (codes "ab" ++ spaces is.right)) left ∙ ap (λ n. spaces 1 ++ (codes "ab" ++ spaces n)) right

-- the drawing is this line
ab_drawn : (enforce : Bool) (limit : Option ℕ) → ((cut : Text → Text) → cut_to_limit {A = Text} cut limit (codes "ab" ∷ []) ≡ codes "ab" ∷ []) → (lines : List Text) → IsPlainDrawing (one_cell enforce Disabled None ellipsis limit (codes "ab" ∷ [])) lines → lines ≡ codes " ab " ∷ []
ab_drawn enforce limit uncut [] is = absurd (ab_is enforce limit uncut [] is)
ab_drawn enforce limit uncut (line ∷ other ∷ lines) is = absurd (ab_is enforce limit uncut (line ∷ other ∷ lines) is).1
ab_drawn enforce limit uncut (line ∷ []) is = ap (λ (t : Text). t ∷ []) (ab_padded line (ab_is enforce limit uncut (line ∷ []) is).0)

-- without styles a headline is that drawing
plain_of : (arrangement : ContentArrangement) (kept : Option ℕ) (indicator : Text) (limit : Option ℕ) (texts lines : List Text) → IsHeadline (one_cell false arrangement kept indicator limit texts) lines → IsPlainDrawing (one_cell false arrangement kept indicator limit texts) lines
plain_of arrangement kept indicator limit texts lines is = subst (IsPlainDrawing (one_cell false arrangement kept indicator limit texts)) (sym (is.unstyled refl refl)) is.is_plain

ab_headline : (limit : Option ℕ) → ((cut : Text → Text) → cut_to_limit {A = Text} cut limit (codes "ab" ∷ []) ≡ codes "ab" ∷ []) → (lines : List Text) → IsHeadline (free_cell limit (codes "ab" ∷ [])) lines → lines ≡ codes " ab " ∷ []
ab_headline limit uncut lines is = ab_drawn false limit uncut lines (plain_of Disabled None ellipsis limit (codes "ab" ∷ []) lines is)

-- the following lines differ from this drawing
abbrev the_drawing : List Text
the_drawing = codes " ab " ∷ []

-- another text, in a row of at most one line
another_text-differs : ¬ (codes " XY " ∷ [] ≡ the_drawing)
another_text-differs same = let own : 88 ≡ 97 = ap (λ (ls : List Text). slice_index (slice_index_or ls 0 []) 1) same in absurd (omega (arith, own))

-- false: promises::headline
another_text : ¬ (IsHeadline (free_cell (Some 1) (codes "ab" ∷ [])) (codes " XY " ∷ []))
another_text is = another_text-differs (ab_headline (Some 1) (λ cut. refl) (codes " XY " ∷ []) is)

-- false: promises::laws::drawings_keep_the_promises
another_text_keeps_nothing : ¬ (KeepsPromises (free_cell (Some 1) (codes "ab" ∷ [])) (codes " XY " ∷ []))
another_text_keeps_nothing kept = another_text kept.headline

-- one character on each line
torn-differs : ¬ (codes " a " ∷ codes " b " ∷ [] ≡ the_drawing)
torn-differs same = cc same

torn : ¬ (IsHeadline (free_cell None (codes "ab" ∷ [])) (codes " a " ∷ codes " b " ∷ []))
torn is = torn-differs (ab_headline None (λ cut. refl) (codes " a " ∷ codes " b " ∷ []) is)

-- a space in the text
spaced-differs : ¬ (codes " a b " ∷ [] ≡ the_drawing)
spaced-differs same = cc same

spaced : ¬ (IsHeadline (free_cell None (codes "ab" ∷ [])) (codes " a b " ∷ []))
spaced is = spaced-differs (ab_headline None (λ cut. refl) (codes " a b " ∷ []) is)

-- blinking on red
blinking-differs : ¬ (codes "\u{1b}[5;41m ab " ∷ [] ≡ the_drawing)
blinking-differs same = cc same

blinking : ¬ (IsHeadline (free_cell None (codes "ab" ∷ [])) (codes "\u{1b}[5;41m ab " ∷ []))
blinking is = blinking-differs (ab_headline None (λ cut. refl) (codes "\u{1b}[5;41m ab " ∷ []) is)

-- without a padding
unpadded-differs : ¬ (codes "ab " ∷ [] ≡ the_drawing)
unpadded-differs same = cc same

-- if styles are written, a cell without styles isn't hidden
hidden_without_colours : ¬ (IsHeadline (one_cell true Disabled None ellipsis None (codes "ab" ∷ [])) (codes "\u{1b}[8m ab " ∷ []))
hidden_without_colours is =
    let each = All-from_recursion (λ (row : RowValue). All IsUncoloured row.cells) (header_and_rows (one_cell true Disabled None ellipsis None (codes "ab" ∷ []))) (All-from_recursion IsUncoloured (cell_of (codes "ab" ∷ []) ∷ []) (record { no_foreground = refl; no_background = refl; no_attributes = refl }, tt), tt) in
    let same : ◌≡◌ {A = List Text} (codes "\u{1b}[8m ab " ∷ []) (codes " ab " ∷ []) = is.uncoloured each refl ∙ ab_drawn true None (λ cut. refl) is.plain is.is_plain in
    let escape : ◌≡◌ {A = ℕ} 0x1B 0x20 = cc same in absurd (omega (arith, escape))

unpadded : ¬ (IsHeadline (free_cell None (codes "ab" ∷ [])) (codes "ab " ∷ []))
unpadded is = unpadded-differs (ab_headline None (λ cut. refl) (codes "ab " ∷ []) is)

-- a space too many
too_wide-differs : ¬ (codes " ab  " ∷ [] ≡ the_drawing)
too_wide-differs same = cc same

too_wide : ¬ (IsHeadline (free_cell None (codes "ab" ∷ [])) (codes " ab  " ∷ []))
too_wide is = too_wide-differs (ab_headline None (λ cut. refl) (codes " ab  " ∷ []) is)

-- the line twice
twice-differs : ¬ (codes " ab " ∷ codes " ab " ∷ [] ≡ the_drawing)
twice-differs same = cc same

twice : ¬ (IsHeadline (free_cell None (codes "ab" ∷ [])) (codes " ab " ∷ codes " ab " ∷ []))
twice is = twice-differs (ab_headline None (λ cut. refl) (codes " ab " ∷ codes " ab " ∷ []) is)

-- below a frame line that the style doesn't have
framed_line-differs : ¬ (codes "----" ∷ codes " ab " ∷ [] ≡ the_drawing)
framed_line-differs same = cc same

framed_line : ¬ (IsHeadline (free_cell None (codes "ab" ∷ [])) (codes "----" ∷ codes " ab " ∷ []))
framed_line is = framed_line-differs (ab_headline None (λ cut. refl) (codes "----" ∷ codes " ab " ∷ []) is)

-- a table with a header, in place of which another one isn't drawn
abbrev headed : TableValue
headed = with_header (row_of None (codes "ab" ∷ [])) (new_table nothing)

other_header : ¬ (IsFramedBy (AreLinesOfRow headed (λ i. 2) (λ p cell. cell.text_lines)) headed (λ i. 2) (codes " XY " ∷ []))
other_header is = by_block is.rows is.are_rows is.is_header.0 is.is_header.1 (is.drawn ∙ ap (λ (header : List Text). header ++ (join_by (λ (block : List Text). block) [] is.rows ++ [])) (is.is_header.2 ∙ append-nil is.is_header.0))
  where
    by_block : (rows : List (List Text)) → AllZip (AreLinesOfRow headed (λ i. 2) (λ p cell. cell.text_lines) nothing.content_lines) [] rows → (block : List Text) → AreLinesOfRow headed (λ i. 2) (λ p cell. cell.text_lines) nothing.header_lines (row_of None (codes "ab" ∷ [])) block
        → ¬ (codes " XY " ∷ [] ≡ block ++ (join_by (λ (block : List Text). block) [] rows ++ []))
    by_block (row ∷ rows) each block own made = each
    by_block [] each block own made =
        let is : codes " XY " ∷ [] ≡ block = made ∙ append-nil block in
        let long = ap length is in
        let here = own.drawn 0 (omega (arith, long)) in
        another_text-differs (ap (λ (t : Text). t ∷ []) (ab_padded (codes " XY ") (padded_of (λ i. 2) (codes "ab") (codes " XY ") here.0 here.1 (ap (λ (ls : List Text). slice_index_or ls 0 []) is ∙ here.2))))

-- no line below the header
no_separator : ¬ (IsHeadline (with_header (plain_row []) (new_table ascii_full)) (codes "++" ∷ codes "++" ∷ []))
no_separator is = let (block, own, made) = is.is_plain.framed.frame.is_header in too_few is.is_plain.framed.frame.header _ block _ _ _ (is.unstyled refl refl ∙ is.is_plain.framed.frame.drawn) made
  where
    too_few : (header rows block : List Text) (top separator bottom : Text) → codes "++" ∷ codes "++" ∷ [] ≡ top ∷ (header ++ (rows ++ bottom ∷ [])) → ¬ (header ≡ block ++ separator ∷ [])
    too_few header rows block top separator bottom made is =
        let two : 2 ≡ suc (length (header ++ (rows ++ bottom ∷ []))) = ap length made in
        let some = ap length is in
        omega (arith, two, some, length-append header (rows ++ bottom ∷ []), length-append rows (bottom ∷ []), length-append block (separator ∷ []))

-- `éa` isn't drawn with one character on each line, blinking on red or not
e_a : Text
e_a = 0xC3 ∷ 0xA9 ∷ 0x61 ∷ []

two_characters : measure e_a ≡ 2
unfolding wrapping e_a
two_characters = refl

in_two_lines : (first second : Text) → ¬ (IsHeadline (free_cell None (e_a ∷ [])) (first ∷ second ∷ []))
in_two_lines first second is = (of_two false e_a two_characters None (λ cut. refl) (first ∷ second ∷ []) (plain_of Disabled None ellipsis None (e_a ∷ []) (first ∷ second ∷ []) is)).1

-- Lines that aren't straight break the promise for any columns, also for those that the table doesn't have: here a
-- column of one terminal column has a character of two.
wide : Text
wide = 0xE5 ∷ 0xB9 ∷ 0xB4 ∷ []

wide_measures_two : measure wide ≡ 2
unfolding wrapping wide
wide_measures_two = refl

crooked : (columns : List ColumnInfo) → ¬ (AreColumnsOf (free_cell None (wide ∷ [])) (codes "abc" ∷ codes "a" ∷ []) columns)
crooked columns (is, are) = (of_two false wide wide_measures_two None (λ cut. refl) (codes "abc" ∷ codes "a" ∷ []) (plain_of Disabled None ellipsis None (wide ∷ []) (codes "abc" ∷ codes "a" ∷ []) is)).1

-- false: promises::straight_fitting_lines
crooked_lines : (columns : List ColumnInfo) → ¬ (AreStraightWhereCharactersFit (free_cell None (wide ∷ [])) columns (codes "abc" ∷ codes "a" ∷ []))
crooked_lines columns is = crooked columns is.0

-- false: promises::fitting_lines_within
crooked_within : (columns : List ColumnInfo) → ¬ (KeepToWidthWhereCharactersFit (free_cell None (wide ∷ [])) columns (codes "abc" ∷ codes "a" ∷ []))
crooked_within columns is = crooked columns is.0

-- so they break the promises for any columns
crooked_keeps_nothing : (arranged : ArrangedValue) → IsArrangedTable (free_cell None (wide ∷ [])) arranged → ¬ (KeepsPromises (free_cell None (wide ∷ [])) (codes "abc" ∷ codes "a" ∷ []))
crooked_keeps_nothing arranged is kept = crooked_lines arranged.infos (kept.straight_fitting arranged is)

crooked_within_keeps_nothing : (arranged : ArrangedValue) → IsArrangedTable (free_cell None (wide ∷ [])) arranged → ¬ (KeepsPromises (free_cell None (wide ∷ [])) (codes "abc" ∷ codes "a" ∷ []))
crooked_within_keeps_nothing arranged is kept = crooked_within arranged.infos (kept.fitting_within arranged is)

-- ---- a row that is cut

a_and_mark : Text
a_and_mark = 0x61 ∷ 0xE2 ∷ 0x80 ∷ 0xA6 ∷ []

two_more : measure (codes "cd") ≡ 2
unfolding wrapping
two_more = refl

-- the first of two lines is cut, with the indicator
cut_of_two : cut_to_limit {A = Text} (cut_text 2 ellipsis) (Some 1) (codes "ab" ∷ codes "cd" ∷ []) ≡ a_and_mark ∷ []
unfolding wrapping a_and_mark
cut_of_two = refl

cut_is : (lines : List Text) → IsHeadline (free_cell (Some 1) (codes "ab" ∷ codes "cd" ∷ [])) lines → ArePadded 2 (a_and_mark ∷ []) lines
cut_is lines headline =
    let texts : List Text = codes "ab" ∷ codes "cd" ∷ [] in
    let is = plain_of Disabled None ellipsis (Some 1) texts lines headline in
    let width : is.framed.width 0 ≡ 2 = let own = width_is false Disabled None ellipsis (Some 1) texts lines is refl (omega (arith, two, two_more)) in omega (arith, own, two, two_more) in
    let stay = texts_stay false Disabled None ellipsis (Some 1) texts lines is (All-from_recursion (λ text. measure text ≤ is.framed.width 0) texts (omega (arith, width, two), (omega (arith, width, two_more), tt))) in
    let cut : cut_lines false Disabled None ellipsis (Some 1) texts lines is ≡ a_and_mark ∷ [] =
    ap (cut_to_limit (cut_text (is.framed.width 0) ellipsis) (Some 1)) stay ∙ ap (λ w. cut_to_limit {A = Text} (cut_text w ellipsis) (Some 1) texts) width ∙ cut_of_two in
    subst (λ (w : ℕ). ArePadded w (a_and_mark ∷ []) lines) width (lines_are false Disabled None ellipsis (Some 1) texts lines is (a_and_mark ∷ []) cut)

-- the row isn't drawn as if nothing were cut
uncut : ¬ (IsHeadline (free_cell (Some 1) (codes "ab" ∷ codes "cd" ∷ [])) (codes " ab " ∷ []))
unfolding a_and_mark
uncut is = by_left own.left own.padded.0 own.drawn
  where
    own : IsPadded 2 a_and_mark (codes " ab ")
    own = (cut_is (codes " ab " ∷ []) is).0

    by_left : (left : ℕ) → 1 ≤ left → ¬ (codes " ab " ≡ spaces left ++ (a_and_mark ++ spaces own.right))
    by_left zero some same = absurd (omega (arith, some))
    by_left (suc zero) some same = let letter : 0x62 ≡ 0xE2 = ap (λ (t : Text). slice_index t 2) same in absurd (omega (arith, letter))
    by_left (suc (suc n)) some same = let letter : 0x61 ≡ 0x20 = ap (λ (t : Text). slice_index t 1) same in absurd (omega (arith, letter))

-- an indicator that is wider than its column isn't drawn
abbrev dots : Text
dots = codes "..."

one : (measure (codes "a") ≡ 1) × (measure (codes "b") ≡ 1)
unfolding wrapping
one = (refl, refl)

cut_of_one : cut_to_limit {A = Text} (cut_text 1 dots) (Some 1) (codes "a" ∷ codes "b" ∷ []) ≡ codes "a" ∷ []
unfolding wrapping
cut_of_one = refl

narrow_is : (lines : List Text) → IsHeadline (one_cell false Disabled None dots (Some 1) (codes "a" ∷ codes "b" ∷ [])) lines → ArePadded 1 (codes "a" ∷ []) lines
narrow_is lines headline =
    let texts : List Text = codes "a" ∷ codes "b" ∷ [] in
    let is = plain_of Disabled None dots (Some 1) texts lines headline in
    let width : is.framed.width 0 ≡ 1 = let own = width_is false Disabled None dots (Some 1) texts lines is refl (omega (arith, one)) in omega (arith, own, one) in
    let stay = texts_stay false Disabled None dots (Some 1) texts lines is (All-from_recursion (λ text. measure text ≤ is.framed.width 0) texts (omega (arith, width, one), (omega (arith, width, one), tt))) in
    let cut : cut_lines false Disabled None dots (Some 1) texts lines is ≡ codes "a" ∷ [] =
    ap (cut_to_limit (cut_text (is.framed.width 0) dots) (Some 1)) stay ∙ ap (λ w. cut_to_limit {A = Text} (cut_text w dots) (Some 1) texts) width ∙ cut_of_one in
    subst (λ (w : ℕ). ArePadded w (codes "a" ∷ []) lines) width (lines_are false Disabled None dots (Some 1) texts lines is (codes "a" ∷ []) cut)

-- nor is a part of the indicator drawn
part_of_an_indicator : ¬ (IsHeadline (one_cell false Disabled None dots (Some 1) (codes "a" ∷ codes "b" ∷ [])) (codes " . " ∷ []))
part_of_an_indicator is = by_left own.left own.padded.0 own.drawn
  where
    own : IsPadded 1 (codes "a") (codes " . ")
    own = (narrow_is (codes " . " ∷ []) is).0

    by_left : (left : ℕ) → 1 ≤ left → ¬ (codes " . " ≡ spaces left ++ (codes "a" ++ spaces own.right))
    by_left zero some same = absurd (omega (arith, some))
    by_left (suc zero) some same = let letter : 0x2E ≡ 0x61 = ap (λ (t : Text). slice_index t 1) same in absurd (omega (arith, letter))
    by_left (suc (suc n)) some same = let letter : 0x2E ≡ 0x20 = ap (λ (t : Text). slice_index t 1) same in absurd (omega (arith, letter))

-- an empty text has a line
nothing_measures : measure [] ≡ 0
unfolding wrapping
nothing_measures = refl

no_line_for_nothing : ¬ (IsHeadline (free_cell None ([] ∷ [])) [])
no_line_for_nothing headline =
    let is = plain_of Disabled None ellipsis None ([] ∷ []) [] headline in
    let stay = texts_stay false Disabled None ellipsis None ([] ∷ []) [] is (All-from_recursion (λ text. measure text ≤ is.framed.width 0) ([] ∷ []) (omega (arith, nothing_measures), tt)) in
    lines_are false Disabled None ellipsis None ([] ∷ []) [] is ([] ∷ []) stay

-- ---- a text that is wider than its column

-- none of its lines is wider, if each character fits
ab_fits : CharactersFit 1 (codes "ab")
unfolding wrapping
ab_fits = refl

wide_line : ¬ (AreLinesOfText 1 0x20 (codes "ab") (codes "ab" ∷ []))
wide_line own = let fits : measure (codes "ab") ≤ 1 = own.fit (frame_adds 0x20 refl) ab_fits 0 [] (omega arith) in omega (arith, fits, two)

-- a text is cut at the ends of wrapped lines
wrapped_text : (w n : ℕ) (text : Text) → w < measure text → n ≡ w → (of_texts : List (List Text)) → AllZip (AreLinesOfText n 0x20) (text ∷ []) of_texts → flat_map (λ (of_text : List Text). of_text) of_texts ≡ wrapped w 0x20 text
wrapped_text w n text wide same [] zip = absurd zip
wrapped_text w n text wide same (own ∷ other ∷ of_texts) zip = absurd zip.1
wrapped_text w n text wide same (own ∷ []) zip = append-nil own ∙ wrapped_is_one n 0x20 text own refl (zip.0.slices (omega (arith, wide, same))) ∙ ap (λ (m : ℕ). wrapped m 0x20 text) same

wrapped_at : (arrangement : ContentArrangement) (kept : Option ℕ) (w : ℕ) (text : Text) (lines : List Text) → w < measure text → (is : IsPlainDrawing (one_cell false arrangement kept ellipsis None (text ∷ [])) lines) → is.framed.width 0 ≡ w → ArePadded w (wrapped w 0x20 text) lines
wrapped_at arrangement kept w text lines wide is width =
    let own = is.framed.are_cell_lines 0 (row_of None (text ∷ [])) (omega arith) 0 place (omega arith) (cell_of (text ∷ [])) refl in
    subst (λ (n : ℕ). ArePadded n (wrapped w 0x20 text) lines) width (lines_are false arrangement kept ellipsis None (text ∷ []) lines is (wrapped w 0x20 text) (own.2 ∙ wrapped_text w (is.framed.width 0) text wide width own.0 own.1))

wrapped_is : (w : ℕ) (text : Text) (lines : List Text) → w < measure text → 1 ≤ w → IsHeadline (wide_cell (w + 2) (text ∷ [])) lines → ArePadded w (wrapped w 0x20 text) lines
wrapped_is w text lines wide some headline =
    let is = plain_of DynamicFullWidth (Some (w + 2)) ellipsis None (text ∷ []) lines headline in
    let room = room_is false DynamicFullWidth (Some (w + 2)) ellipsis None (text ∷ []) lines is (w + 2) refl refl (omega (arith, some)) in
    wrapped_at DynamicFullWidth (Some (w + 2)) w text lines wide is (omega (arith, room))

nine : measure (codes "ab cdefgh") ≡ 9
unfolding wrapping
nine = refl

at_the_space : wrapped 6 0x20 (codes "ab cdefgh") ≡ codes "ab" ∷ codes "cdefgh" ∷ []
unfolding wrapping
at_the_space = refl

-- so it isn't cut elsewhere
cut_elsewhere : ¬ (IsHeadline (wide_cell 8 (codes "ab cdefgh" ∷ [])) (codes " ab cde " ∷ codes " fgh    " ∷ []))
cut_elsewhere is = by_left own.left own.padded.0 own.drawn
  where
    lines : List Text
    lines = codes " ab cde " ∷ codes " fgh    " ∷ []

    own : IsPadded 6 (codes "ab") (codes " ab cde ")
    own = (subst (λ (cut : List Text). ArePadded 6 cut (codes " ab cde " ∷ codes " fgh    " ∷ [])) at_the_space (wrapped_is 6 (codes "ab cdefgh") (codes " ab cde " ∷ codes " fgh    " ∷ []) (omega (arith, nine)) (omega arith) is)).0

    by_left : (left : ℕ) → 1 ≤ left → ¬ (codes " ab cde " ≡ spaces left ++ (codes "ab" ++ spaces own.right))
    by_left zero some same = absurd (omega (arith, some))
    by_left (suc zero) some same = by_right own.right same
      where
        by_right : (right : ℕ) → ¬ (codes " ab cde " ≡ spaces 1 ++ (codes "ab" ++ spaces right))
        by_right zero same = cc same
        by_right (suc zero) same = cc same
        by_right (suc (suc n)) same = let letter : 0x63 ≡ 0x20 = ap (λ (t : Text). slice_index t 4) same in absurd (omega (arith, letter))
    by_left (suc (suc n)) some same = let letter : 0x61 ≡ 0x20 = ap (λ (t : Text). slice_index t 1) same in absurd (omega (arith, letter))

-- a text that has room isn't cut
torn_in_a_wide_table : ¬ (IsHeadline (one_cell false Dynamic (Some 80) ellipsis None (codes "ab" ∷ [])) (codes " a " ∷ codes " b " ∷ []))
torn_in_a_wide_table headline = by_lines.1
  where
    is : IsPlainDrawing (one_cell false Dynamic (Some 80) ellipsis None (codes "ab" ∷ [])) (codes " a " ∷ codes " b " ∷ [])
    is = plain_of Dynamic (Some 80) ellipsis None (codes "ab" ∷ []) (codes " a " ∷ codes " b " ∷ []) headline

    width : is.framed.width 0 ≡ 2
    width = let own = is.keeps_contents 80 refl (unconstrained false Dynamic (Some 80) ellipsis None (codes "ab" ∷ [])) (λ same. cc same) (omega (arith, two)) 0 place (omega arith) in omega (arith, own, two)

    by_lines : ArePadded (is.framed.width 0) (codes "ab" ∷ []) (codes " a " ∷ codes " b " ∷ [])
    by_lines = lines_are false Dynamic (Some 80) ellipsis None (codes "ab" ∷ []) (codes " a " ∷ codes " b " ∷ []) is (codes "ab" ∷ []) (texts_stay false Dynamic (Some 80) ellipsis None (codes "ab" ∷ []) (codes " a " ∷ codes " b " ∷ []) is (All-from_recursion (λ text. measure text ≤ is.framed.width 0) (codes "ab" ∷ []) (omega (arith, width, two), tt)))

-- a text without room isn't drawn with one character on each line, if its column has room for nine
abbrev ten_letters : Text
ten_letters = codes "abcdefghij"

abbrev eleven_wide : TableValue
eleven_wide = one_cell false Dynamic (Some 11) ellipsis None (ten_letters ∷ [])

ten : measure ten_letters ≡ 10
unfolding wrapping
ten = refl

in_two : wrapped 9 0x20 ten_letters ≡ codes "abcdefghi" ∷ codes "j" ∷ []
unfolding wrapping
in_two = refl

in_nine : cell_lines 9 0x20 (cell_of (ten_letters ∷ [])) ≡ codes "abcdefghi" ∷ codes "j" ∷ []
unfolding wrapping
in_nine = refl

nine_of_them : measure (codes "abcdefghi") ≡ 9
unfolding wrapping
nine_of_them = refl

letters_are_text : All IsUtf8 (ten_letters ∷ [])
unfolding wrapping encode
letters_are_text = All-from_recursion IsUtf8 (ten_letters ∷ []) ((ten_letters, (refl, refl)), tt)

a_character_a_line : (lines : List Text) → length lines ≡ 10 → ¬ (IsHeadline eleven_wide lines)
a_character_a_line lines many headline = by_level level.0 level.1 (level.2 0 place (omega arith))
  where
    is : IsPlainDrawing eleven_wide lines
    is = plain_of Dynamic (Some 11) ellipsis None (ten_letters ∷ []) lines headline

    n : ℕ
    n = is.framed.width 0

    free : NoConstraints eleven_wide
    free = unconstrained false Dynamic (Some 11) ellipsis None (ten_letters ∷ [])

    level : (level : ℕ) × (9 ≤ level) × All (KeepsToLevel eleven_wide is.framed.width level) (shown_columns eleven_wide)
    level = is.keeps_to_level 11 refl free (λ same. cc same)

    within : n ≤ 9
    within =
        let all = is.keeps_to_width 11 refl free refl in
        let least : least_total eleven_wide ≡ 3 = refl in
        let line = is.frame_total nothing.top_border in
        let counts = frame_lines_count nothing nothing.top_border (record (info_of (new_column 0) 0) { content_width = is.framed.width 0 } ∷ []) in
        omega (arith, all, least, line, counts)

    -- nine columns make two lines
    nine_wide : ¬ (n ≡ 9)
    nine_wide width = two_lines lines (subst (λ (cut : List Text). ArePadded 9 cut lines) in_two (wrapped_at Dynamic (Some 11) 9 ten_letters lines (omega (arith, ten)) is width)) many
      where
        two_lines : (ls : List Text) → ArePadded 9 (codes "abcdefghi" ∷ codes "j" ∷ []) ls → ¬ (length ls ≡ 10)
        two_lines [] zip long = zip
        two_lines (x ∷ []) zip long = zip.1
        two_lines (x ∷ y ∷ z ∷ ls) zip long = zip.1.1
        two_lines (x ∷ y ∷ []) zip long = absurd (omega (arith, long))

    -- at any width of at least nine, a line is as wide
    lines_at : (w : ℕ) → 9 ≤ w → HasLinesWithin eleven_wide place w n → 9 ≤ n
    lines_at w least each = by_width (cases_lt w 10)
      where
        own : All (λ line. measure line ≤ n) (cell_lines w 0x20 (cell_of (ten_letters ∷ [])))
        own = each 0 (row_of None (ten_letters ∷ [])) (omega arith) (cell_of (ten_letters ∷ [])) (cell_lines w 0x20 (cell_of (ten_letters ∷ []))) refl (lines_of_cell w 0x20 (cell_of (ten_letters ∷ [])) refl letters_are_text)

        by_width : (w < 10) ⊎ (10 ≤ w) → 9 ≤ n
        by_width (inl less) =
            let same : w ≡ 9 = omega (arith, less, least) in
            let first : measure (codes "abcdefghi") ≤ n = subst (λ (ls : List Text). All (λ line. measure line ≤ n) ls) (ap (λ (m : ℕ). cell_lines m 0x20 (cell_of (ten_letters ∷ []))) same ∙ in_nine) own 0 [] (omega arith) in
            omega (arith, first, nine_of_them)
        by_width (inr more) =
            let fits : nat_le (measure ten_letters) w ≡ true = grind (arith, nat_tests, ten, more) in
            let first : measure ten_letters ≤ n = subst (λ (ls : List Text). All (λ line. measure line ≤ n) ls) (ap (λ (b : Bool). (if b then ten_letters ∷ [] else wrapped w 0x20 ten_letters) ++ []) fits) own 0 [] (omega arith) in
            omega (arith, first, ten)

    by_level : (level : ℕ) → 9 ≤ level → ¬ (KeepsToLevel eleven_wide is.framed.width level place)
    by_level level least keeps = by_cases (cases_lt level 10)
      where
        by_cases : ¬ ((level < 10) ⊎ (10 ≤ level))
        by_cases (inr more) = let whole = keeps.narrow (omega (arith, ten, more)) in omega (arith, whole, within, ten)
        by_cases (inl less) = by_wide (keeps.wide (omega (arith, ten, less)))
          where
            by_wide : ¬ ((level ≤ n) ⊎ ((w : ℕ) × (level ≤ w) × HasLinesWithin eleven_wide place w n))
            by_wide (inl high) = nine_wide (omega (arith, high, least, within))
            by_wide (inr (w, high, each)) = let enough = lines_at w (omega (arith, high, least)) each in nine_wide (omega (arith, enough, within))

five_and_one : (measure (codes "hello") ≡ 5) × (measure (codes "x") ≡ 1)
unfolding wrapping
five_and_one = (refl, refl)

-- a narrow column isn't broken beside a long text
abbrev beside_a_long_text : TableValue
beside_a_long_text = with_rows (plain_row (plain_cell (codes "hello") ∷ plain_cell (codes "abcdefghijklmnopqrstuvwxyzabcd") ∷ []) ∷ []) (record (new_table nothing) { arrangement = Dynamic; set_width = Some 30 })

broken_column : (lines : List Text) (is : IsPlainDrawing beside_a_long_text lines) → ¬ (is.framed.width 0 ≡ 1)
broken_column lines is one =
    let level : (level : ℕ) × (13 ≤ level) × All (KeepsToLevel beside_a_long_text is.framed.width level) (shown_columns beside_a_long_text) =
    is.keeps_to_level 30 refl (All-from_recursion (λ (p : ℕ × ColumnValue). p.1.constraint ≡ None) (shown_columns beside_a_long_text) (refl, (refl, tt))) (λ same. cc same) in
    let own = (level.2 0 place (omega arith)).narrow (omega (arith, five_and_one, level.1)) in
    absurd (omega (arith, own, one, five_and_one))

-- a text that has room in a table of full width isn't torn
abbrev greeting : RowValue
greeting = plain_row (plain_cell (codes "hello") ∷ plain_cell (codes "x") ∷ [])

abbrev full_table : TableValue
full_table = with_rows (greeting ∷ []) (record (new_table nothing) { arrangement = DynamicFullWidth; set_width = Some 80 })

torn_at_full_width : (lines : List Text) → length lines ≡ 5 → ¬ (IsHeadline full_table lines)
torn_at_full_width lines many headline = by_rows is.framed.frame.rows is.framed.frame.are_rows (is.framed.frame.drawn ∙ ap (λ (header : List Text). header ++ (join_by (λ (block : List Text). block) [] is.framed.frame.rows ++ [])) is.framed.frame.is_header)
  where
    is : IsPlainDrawing full_table lines
    is = subst (IsPlainDrawing full_table) (sym (headline.unstyled refl refl)) headline.is_plain

    other : ℕ × ColumnValue
    other = (1, new_column 1)

    kept : All (λ (p : ℕ × ColumnValue). widest full_table p.0 ≤ is.framed.width p.0) (shown_columns full_table)
    kept = is.keeps_contents 80 refl (All-from_recursion (λ (p : ℕ × ColumnValue). p.1.constraint ≡ None) (shown_columns full_table) (refl, (refl, tt))) (λ same. cc same) (omega (arith, five_and_one))

    one_line : (w : ℕ) (text : Text) → measure text ≤ w → (own : List Text) → AreLinesOfCell w 0x20 (cell_of (text ∷ [])) own → length own ≡ 1
    one_line w text room own (of_texts, zip, are) = by_texts of_texts zip are
      where
        by_texts : (of_texts : List (List Text)) → AllZip (AreLinesOfText w 0x20) (text ∷ []) of_texts → own ≡ flat_map (λ (of_text : List Text). of_text) of_texts → length own ≡ 1
        by_texts [] zip are = absurd zip
        by_texts (mine ∷ more ∷ of_texts) zip are = absurd zip.1
        by_texts (mine ∷ []) zip are = ap length (are ∙ append-nil mine ∙ zip.0.whole room)

    by_rows : (rows : List (List Text)) → AllZip (AreLinesOfRow full_table is.framed.width is.framed.cell_lines nothing.content_lines) (greeting ∷ []) rows → ¬ (lines ≡ join_by (λ (block : List Text). block) [] rows ++ [])
    by_rows [] each made = each
    by_rows (block ∷ more ∷ rows) each made = each.1
    by_rows (block ∷ []) each made =
        let all = ap length (made ∙ append-nil (block ++ []) ∙ append-nil block) in
        let high = each.0.as_high in
        let room = kept 0 place (omega arith) in
        let room_beside = kept 1 place (omega arith) in
        let first = one_line (is.framed.width 0) (codes "hello") (omega (arith, room, five_and_one.0)) (is.framed.cell_lines place (plain_cell (codes "hello"))) (is.framed.are_cell_lines 0 greeting (omega arith) 0 place (omega arith) (plain_cell (codes "hello")) refl) in
        let second = one_line (is.framed.width 1) (codes "x") (omega (arith, room_beside, five_and_one.1)) (is.framed.cell_lines other (plain_cell (codes "x"))) (is.framed.are_cell_lines 0 greeting (omega arith) 1 place (omega arith) (plain_cell (codes "x")) refl) in
        omega (arith, many, all, high, first, second)

-- a column isn't wider than a set width that has room
abbrev narrow_table : TableValue
narrow_table = one_cell false Dynamic (Some 4) ellipsis None (codes "abcdef" ∷ [])

-- P holds for its only cell
of_its_cell : (P : RowValue → ℕ × ColumnValue → CellValue → Type 0) → P (row_of None (codes "abcdef" ∷ [])) place (cell_of (codes "abcdef" ∷ [])) → EachShownCell P narrow_table
of_its_cell P own =
    All-from_recursion (λ (row : RowValue). All (λ (p : ℕ × ColumnValue). (cell : CellValue) → slice_get row.cells p.0 ≡ Some cell → P row p cell) (shown_columns narrow_table)) (header_and_rows narrow_table) (
      All-from_recursion (λ (p : ℕ × ColumnValue). (cell : CellValue) → slice_get (cell_of (codes "abcdef" ∷ []) ∷ []) p.0 ≡ Some cell → P (row_of None (codes "abcdef" ∷ [])) p cell) (shown_columns narrow_table)
          ((λ cell found. subst (P (row_of None (codes "abcdef" ∷ [])) place) (same_Some (cell_of (codes "abcdef" ∷ [])) cell found) own), tt),
      tt,
    )

eight : count (codes " abcdef ") ≡ 8
unfolding wrapping
eight = refl

beyond_the_width : ¬ (IsHeadline narrow_table (codes " abcdef " ∷ []))
beyond_the_width headline =
    let is = plain_of Dynamic (Some 4) ellipsis None (codes "abcdef" ∷ []) (codes " abcdef " ∷ []) headline in
    let few = is.keeps_to_width 4 refl (unconstrained false Dynamic (Some 4) ellipsis None (codes "abcdef" ∷ [])) refl in
    let least : least_total narrow_table ≡ 3 = refl in
    let counts : count (codes " abcdef ") ≡ is.total = is.plain_total printable
    (of_its_cell (λ row p cell. (h : ℕ) → row.max_height ≡ Some h → h < length (is.framed.cell_lines p cell) → AddsOneColumnEach (fitting_indicator (is.framed.width p.0) narrow_table.indicator)) (λ h cut. absurd (cc cut))) 0 [] (omega arith) in
    omega (arith, few, least, counts, eight)
  where
    printable : IsPrintable narrow_table
    printable =
        of_its_cell (λ row p cell. All (λ text. is_printable_ascii text ≡ true) cell.text_lines × (is_in_range 0x20 0x7E (cell_delimiter narrow_table p.1.delimiter cell) ≡ true))
        (All-from_recursion (λ text. is_printable_ascii text ≡ true) (codes "abcdef" ∷ []) (refl, tt), refl)

-- spaces alone have no line
three : measure (codes "   ") ≡ 3
unfolding wrapping
three = refl

no_line_of_spaces : wrapped 2 0x20 (codes "   ") ≡ []
unfolding wrapping
no_line_of_spaces = refl

blank_line : ¬ (IsHeadline (wide_cell 4 (codes "   " ∷ [])) (codes "    " ∷ []))
blank_line is = subst (λ (cut : List Text). ArePadded 2 cut (codes "    " ∷ [])) no_line_of_spaces (wrapped_is 2 (codes "   ") (codes "    " ∷ []) (omega (arith, three)) (omega arith) is)

-- ---- colours

-- without a sequence a styled line is the line
pub unstyled_same : {line styled : Text} → IsStyled line styled → HasNo 0x1B styled → line ≡ styled
unstyled_same no_byte none = refl
unstyled_same (byte b line styled rest) none = ap (λ (t : Text). b ∷ t) (unstyled_same rest (or_parts (b == 0x1B) _ none).1)
unstyled_same (sequence code line styled all rest) none = absurd (cc none)

-- `2Jm` isn't parameters followed by `m`
pub no_parameters : (code rest : Text) → list_all is_parameter code ≡ true → ¬ (code ++ (0x6D ∷ rest) ≡ codes "2Jm")
no_parameters [] rest all is = let end : ◌≡◌ {A = ℕ} 0x6D 0x32 = cc is in absurd (omega (arith, end))
no_parameters (x ∷ []) rest all is = let end : ◌≡◌ {A = ℕ} 0x6D 0x4A = cc is in absurd (omega (arith, end))
no_parameters (x ∷ y ∷ code) rest all is =
    let none : false ≡ true = subst (λ (t : Text). list_all is_parameter (t ++ code) ≡ true) (ap (take 2) is) all in
    cc none

-- so no sequence that clears the screen styles a line
clears_more : {line styled : Text} → IsStyled line styled → line ≡ [] → ¬ (styled ≡ codes "\u{1b}[2Jm")
clears_more no_byte none is = cc is
clears_more (byte b line styled rest) none is = cc none
clears_more (sequence code line styled all rest) none is = no_parameters code styled all (cc is)

-- a bold text, with custom styling
abbrev bold : Text
bold = codes "\u{1b}[1mab\u{1b}[0m"

abbrev bold_cell : TableValue
bold_cell = record (free_cell None (bold ∷ [])) { custom_styling = true }

-- it is drawn by its visible text, with sequences
bold_measured : measured_table bold_cell ≡ free_cell None (codes "ab" ∷ [])
bold_measured = refl

bold_is : (lines : List Text) → IsHeadline bold_cell lines → AllZip IsStyled (the_drawing) lines
bold_is lines is = subst (λ (plain : List Text). AllZip IsStyled plain lines) (ab_drawn false None (λ cut. refl) is.plain (subst (λ (t : TableValue). IsPlainDrawing t is.plain) bold_measured is.is_plain)) is.styled

bold_drawn : IsStyled (codes " ab ") (codes " \u{1b}[1mab\u{1b}[0m ")
bold_drawn = byte 0x20 _ _ (sequence (codes "1") _ _ refl (byte 0x61 _ _ (byte 0x62 _ _ (sequence (codes "0") _ _ refl (byte 0x20 _ _ no_byte)))))

another_text_in_bold : ¬ (IsHeadline bold_cell (codes " XY " ∷ []))
another_text_in_bold is = let same = unstyled_same (bold_is (codes " XY " ∷ []) is).0 refl in let letter : 0x61 ≡ 0x58 = ap (λ (t : Text). slice_index t 1) same in absurd (omega (arith, letter))

torn_in_bold : ¬ (IsHeadline bold_cell (codes " a " ∷ codes " b " ∷ []))
torn_in_bold is = (bold_is (codes " a " ∷ codes " b " ∷ []) is).1

-- if styles are written, another text isn't drawn, and no colour is inside a text
abbrev styled_cell : List Text → TableValue
styled_cell texts = one_cell true Disabled None ellipsis None texts

another_styled_text : ¬ (IsHeadline (styled_cell (codes "ab" ∷ [])) (codes " XY " ∷ []))
another_styled_text is =
    let drawn = ab_drawn true None (λ cut. refl) is.plain is.is_plain in
    let same = unstyled_same (subst (λ (plain : List Text). AllZip IsStyled plain (codes " XY " ∷ [])) drawn is.styled).0 refl in
    let letter : 0x61 ≡ 0x58 = ap (λ (t : Text). slice_index t 1) same in absurd (omega (arith, letter))

coloured_inside : ¬ (IsHeadline (styled_cell (codes "ab" ∷ [])) (codes " a\u{1b}[31mb " ∷ []))
coloured_inside is = by_rows is.frame.rows is.frame.are_rows (is.frame.drawn ∙ ap (λ (header : List Text). header ++ (join_by (λ (block : List Text). block) [] is.frame.rows ++ [])) is.frame.is_header)
  where
    is_text : lines_in (styled_cell (codes "ab" ∷ [])) is.is_plain.framed.width is.is_plain.framed.cell_lines (row_of None (codes "ab" ∷ [])) place ≡ codes "ab" ∷ []
    is_text =
        let width : is.is_plain.framed.width 0 ≡ 2 = let own = width_is true Disabled None ellipsis None (codes "ab" ∷ []) is.plain is.is_plain refl (omega (arith, two)) in omega (arith, own, two) in
        texts_stay true Disabled None ellipsis None (codes "ab" ∷ []) is.plain is.is_plain (All-from_recursion (λ text. measure text ≤ is.is_plain.framed.width 0) (codes "ab" ∷ []) (omega (arith, width, two), tt))

    by_pieces : (w : ℕ) (pieces : List Text) → AllZip (λ (p : ℕ × ColumnValue). IsPiece false Left p.1 w (codes "ab")) (place ∷ []) pieces → ¬ (codes " a\u{1b}[31mb " ≡ join_by (λ (piece : Text). piece) [] pieces ++ [])
    by_pieces w [] zip made = zip
    by_pieces w (piece ∷ other ∷ pieces) zip made = zip.1
    by_pieces w (piece ∷ []) zip made = no_ab_inside (codes " a\u{1b}[31mb ") refl zip.0.before zip.0.after (made ∙ append-nil (piece ++ []) ∙ append-nil piece ∙ zip.0.drawn)

    by_rows : (rows : List (List Text)) → AllZip (AreContentLines (styled_cell (codes "ab" ∷ [])) is.is_plain.framed.width is.is_plain.framed.cell_lines nothing.content_lines) (row_of None (codes "ab" ∷ []) ∷ []) rows
        → ¬ (codes " a\u{1b}[31mb " ∷ [] ≡ join_by (λ (block : List Text). block) [] rows ++ [])
    by_rows [] each made = each
    by_rows (block ∷ other ∷ rows) each made = each.1
    by_rows (block ∷ []) each made =
        let same : codes " a\u{1b}[31mb " ∷ [] ≡ block = made ∙ append-nil (block ++ []) ∙ append-nil block in
        let long = ap length same in
        let own = (each.0.are refl).drawn 0 (omega (arith, long)) in
        by_pieces (is.is_plain.framed.width 0) own.0 (subst (λ (cut : List Text). AllZip (λ (p : ℕ × ColumnValue). IsPiece false Left p.1 (is.is_plain.framed.width 0) (slice_index_or cut 0 [])) (place ∷ []) own.0) is_text own.1) (ap (λ (ls : List Text). slice_index_or ls 0 []) same ∙ own.2)

-- a width that must be filled is filled
unfilled : ¬ (IsHeadline (wide_cell 8 (codes "ab" ∷ [])) (codes " ab " ∷ []))
unfilled headline = by_line (lines_are false DynamicFullWidth (Some 8) ellipsis None (codes "ab" ∷ []) (codes " ab " ∷ []) is (codes "ab" ∷ []) stay).0
  where
    is : IsPlainDrawing (wide_cell 8 (codes "ab" ∷ [])) (codes " ab " ∷ [])
    is = plain_of DynamicFullWidth (Some 8) ellipsis None (codes "ab" ∷ []) (codes " ab " ∷ []) headline

    room : 1 + is.framed.width 0 + 1 ≡ 8
    room = room_is false DynamicFullWidth (Some 8) ellipsis None (codes "ab" ∷ []) (codes " ab " ∷ []) is 8 refl refl (omega arith)

    stay : is.framed.cell_lines place (cell_of (codes "ab" ∷ [])) ≡ codes "ab" ∷ []
    stay = texts_stay false DynamicFullWidth (Some 8) ellipsis None (codes "ab" ∷ []) (codes " ab " ∷ []) is (All-from_recursion (λ text. measure text ≤ is.framed.width 0) (codes "ab" ∷ []) (omega (arith, room, two), tt))

    by_line : ¬ (IsPadded (is.framed.width 0) (codes "ab") (codes " ab "))
    by_line own =
        let few : 4 ≡ length (spaces own.left ++ (codes "ab" ++ spaces own.right)) = ap length own.drawn in
        let wide = own.wide in
        omega (arith, few, length-append (spaces own.left) (codes "ab" ++ spaces own.right), length-append (codes "ab") (spaces own.right), length-replicate {A = ℕ} own.left 0x20, length-replicate {A = ℕ} own.right 0x20, wide, room, two)

-- other columns than the table's aren't those of its drawing
narrower_column : ¬ (AreColumnsOf (free_cell None (codes "ab" ∷ [])) (codes " ab " ∷ []) (info_of (new_column 0) 1 ∷ []))
narrower_column (is, are) =
    let width = width_is false Disabled None ellipsis None (codes "ab" ∷ []) is.plain is.is_plain refl (omega (arith, two)) in
    let same : 1 ≡ max 1 (is.is_plain.framed.width 0) = ap (λ (columns : List ColumnInfo). (slice_index_or columns 0 (info_of (new_column 0) 0)).content_width) are in
    omega (arith, width, same, two)

one_column_more : ¬ (AreColumnsOf (free_cell None (codes "ab" ∷ [])) (codes " ab " ∷ []) (info_of (new_column 0) 2 ∷ info_of (new_column 1) 2 ∷ []))
one_column_more (is, are) = let few : 2 ≡ 1 = ap length are in absurd (omega (arith, few))

-- no frame line blinks, also if styles are written
blinking_frame : ¬ (IsHeadline (record (new_table ascii_full) { enforce_styling = true }) (codes "\u{1b}[5m++" ∷ codes "++" ∷ []))
unfolding encode
blinking_frame is = let letter : 0x1B ≡ 0x2B = ap (λ (ls : List Text). slice_index (slice_index_or ls 0 []) 0) is.frame.drawn in absurd (omega (arith, letter))

-- with custom styling no line leaves bold open
open_line : ¬ (IsHeadline halves (codes "| \u{1b}[1mab |" ∷ []))
open_line is = bold_stays_open (All-head LeavesNoneOpen (codes "| \u{1b}[1mab |") [] (is.closed refl halves_end_in_texts))

-- no line tears a bold letter apart and conceals the text after it
torn_line : ¬ (IsHeadline bold_letter (torn_letter ∷ []))
torn_line is = torn_stays_open (All-head LeavesNoneOpen torn_letter [] (is.closed refl bold_ends_in_text))

-- no letter is torn by sequences that are closed at once
torn_between : Text
torn_between = codes " \u{1b}[1m" ++ (0xC3 ∷ codes "\u{1b}[0m\u{1b}[1m") ++ (0xA9 ∷ codes "\u{1b}[0m ")

torn_between_sequences : ¬ (All IsUtf8 (torn_between ∷ []))
unfolding torn_between encode chars
torn_between_sequences each = let same = encodes-chars torn_between (All-head IsUtf8 torn_between [] each) in let byte : ◌≡◌ {A = ℕ} 0x80 0x1B = ap (λ (t : Text). slice_index t 6) same in absurd (omega (arith, byte))

-- a text isn't left-aligned if its cell is right-aligned or centred
at_the_left : (side : CellAlignment) → 1 ≤ free_before side 2 → ¬ (IsPiece false side (new_column 0) 3 (codes "a") (codes " a   "))
at_the_left side some is = by_left is.left is.aligned (is.drawn ∙ ap (λ (before : Text). before ++ (codes "a" ++ is.after)) is.are_spaces.0)
  where
    by_left : (left : ℕ) → left ≡ 1 + free_before side (3 - measure (codes "a")) → ¬ (codes " a   " ≡ spaces left ++ (codes "a" ++ is.after))
    by_left zero own made = absurd (omega (arith, own))
    by_left (suc zero) own made =
        let free : 3 - measure (codes "a") ≡ 2 = omega (arith, one.0) in
        let same = ap (free_before side) free in
        absurd (omega (arith, own, same, some))
    by_left (suc (suc left)) own made = let letter : ◌≡◌ {A = ℕ} 0x61 0x20 = cc made in absurd (omega (arith, letter))

right_cell : ¬ (IsPiece false Right (new_column 0) 3 (codes "a") (codes " a   "))
right_cell = at_the_left Right (omega arith)

centred_cell : ¬ (IsPiece false Center (new_column 0) 3 (codes "a") (codes " a   "))
centred_cell = at_the_left Center (omega arith)

-- a cell's alignment overrides its column's
own_sides : map (λ side. side_in (Some (record (cell_of (codes "a" ∷ [])) { alignment = side })) (record (new_column 0) { alignment = Some Center })) (None ∷ Some Right ∷ Some Left ∷ []) ≡ Center ∷ Right ∷ Left ∷ []
own_sides = refl
