-- Tables that meet callers' conditions are straight.
use Rattle.std.proofs.Common.{◌≡◌, ◌≤◌, ◌==◌, ◌+◌, ◌&&◌, ◌||◌, inl, inr, ℕ, Bool, true, false, not, List, [], ◌∷◌, Option, Some, None, unwrap_or, refl, sym, ap, ap₂, ◌∙◌, length, subst, arith, slice_index_or, max, nat_le}
use Rattle.std.specs.List.{All, list_all, slice_get}
use Rattle.std.specs.Prelude.{chars, encode_utf8}
use Rattle.std.proofs.lemmas.Bool.{and_parts, not-true}
use Rattle.std.proofs.lemmas.Bool.Decides.{nat_tests}
use Rattle.std.proofs.lemmas.List.Elements.{All-filter, All-map, All-weaker}
use Rattle.cluster_width.specs.ClusterSums.{is_presentation, selectors_agree}
use Rattle.std.proofs.lemmas.List.Sums.{AllPass-from_list_all, list_all-from_AllPass}
use Rattle.comfy_parts.proofs.CallerLemmas.{All-at, fitting-parts}
use Rattle.comfy_parts.specs.CellValue.{CellValue, ColumnInfo, ColumnValue, RowValue, is_hidden_column}
use Rattle.comfy_parts.specs.Columns.{AddsOneColumn, CharactersFit, IsOneColumn, character_fits, characters_fit}
use Rattle.comfy_parts.specs.Text.{Text, measure}
use Rattle.comfy_parts.specs.declared.style.table.ContentArrangement.{ContentArrangement}
use Rattle.comfy_parts.specs.declared.style.table.ContentArrangement.TheVariants.{Disabled}
use Rattle.comfy_parts.specs.VisibleText.{visible_text}
use Rattle.comfy_table.proofs.ControlLemmas.{free_of_escapes}
use Rattle.comfy_table.proofs.FittingTableLemmas.{fitting_tables_are_straight}
use Rattle.comfy_table.proofs.InfoLemmas.{infos-known}
use Rattle.comfy_table.proofs.MeasuredLemmas.{All-measured}
use Rattle.comfy_table.proofs.OneDrawingLemmas.{arranged_is_one}
use Rattle.comfy_table.proofs.ShownTextLemmas.{drawn_of_shown, shown_of_all}
use Rattle.comfy_table.specs.Arrangement.{width_kept}
use Rattle.comfy_table.specs.Drawing.{infos_of}
use Rattle.comfy_table.specs.FittingTables.{FitsByCharacters}
use Rattle.comfy_table.specs.Headline.{IsTableDrawing}
use Rattle.comfy_table.specs.Laws as laws
use Rattle.comfy_table.specs.Laws.{HasNoControl, NoConstraints, line_total}
use Rattle.comfy_table.specs.NewTables.{AreEquallyWide}
use Rattle.comfy_table.specs.Parts.{ArrangedValue, IsArrangedTable}
use Rattle.comfy_table.specs.Pieces.{shown_infos}
use Rattle.comfy_table.specs.Straight as straight
use Rattle.comfy_table.specs.TableValue.{TableValue, header_and_rows, measured_rows, table_width, visible_cell}
use Rattle.promises.proofs.PlacedLemmas.{measured_plain, placed, standing}
use Rattle.promises.proofs.ShownLemmas.{free_of_controls, line_shows, measured_shown, shown_both, visible_clear}
use Rattle.promises.specs.Shown.{AreShownEquallyWide, HasNoControls}
use Rattle.promises.specs.Tables.{CharactersFitColumns, EachShownText, EachText, HasCharactersWithin, HasPlainFrame, IsPlain, IsShownWhole, IsUnconstrained}

-- ---- characters

-- a character measures at most n terminal columns, and isn't U+FE01
abbrev within : ℕ → ℕ → Bool
within n c = nat_le (measure (encode_utf8 c)) n && not (c == 0xFE01)

more_room : (n w size : ℕ) → n ≤ w → nat_le size n ≡ true → nat_le size w ≡ true
more_room n w size room fits = grind (arith, nat_tests)

each_fits : (n w : ℕ) → n ≤ w → (cs : List ℕ) → list_all (within n) cs ≡ true → list_all (character_fits w) cs ≡ true
each_fits n w room cs all =
    list_all-from_AllPass (character_fits w) cs
    (λ k default below. more_room n w _ room (and_parts (nat_le _ n) _ (AllPass-from_list_all (within n) cs all k default below)).0)

no_clash : (x y : Bool) (p q : Bool) → not x ≡ true → not y ≡ true → ((x && q) || (p && y)) ≡ false
no_clash true y p q is are = absurd (cc is)
no_clash false true p q is are = absurd (cc are)
no_clash false false true q is are = refl
no_clash false false false q is are = refl

agree : (n : ℕ) (cs : List ℕ) → list_all (within n) cs ≡ true → selectors_agree cs ≡ true
agree n [] all = refl
agree n (c ∷ []) all = refl
agree n (c ∷ d ∷ cs) all =
    let both = and_parts (within n c) (list_all (within n) (d ∷ cs)) all in
    let first = and_parts (nat_le (measure (encode_utf8 c)) n) (not (c == 0xFE01)) both.0 in
    let next = and_parts (within n d) (list_all (within n) cs) both.1 in
    let second = and_parts (nat_le (measure (encode_utf8 d)) n) (not (d == 0xFE01)) next.0 in
    ap (λ b. not b && selectors_agree (d ∷ cs)) (no_clash (c == 0xFE01) (d == 0xFE01) (is_presentation c) (is_presentation d) first.1 second.1) ∙ agree n (d ∷ cs) both.1

-- such a text fits each column of at least n terminal columns
pub text_fits : (n w : ℕ) → n ≤ w → (text : Text) → HasCharactersWithin n text → characters_fit w text ≡ true
text_fits n w room text all =
    ap (λ b. b && selectors_agree (chars text)) (each_fits n w room (chars text) all) ∙ agree n (chars text) all

-- characters that fit a column fit a wider one
more : (n w : ℕ) → n ≤ w → (text : Text) → CharactersFit n text → CharactersFit w text
more n w room text fits =
    let both = fitting-parts n text fits in
    let each = AllPass-from_list_all (character_fits n) (chars text) both.0 in
    ap₂ (λ a b. a && b) (list_all-from_AllPass (character_fits w) (chars text) (λ k default below. more_room n w _ room (each k default below))) both.1

-- ---- delimiters

-- the first delimiter that is set adds one terminal column, if each does
first_set : (a b c : Option ℕ) → IsOneColumn a → IsOneColumn b → IsOneColumn c → AddsOneColumn (unwrap_or a (unwrap_or b (unwrap_or c 0x20)))
first_set (Some x) b c one two three = one
first_set None (Some y) c one two three = two
first_set None None c one two three = three

-- ---- tables

-- each character of the cell fits the column
abbrev CellFits : RowValue → ColumnInfo → CellValue → Type 0
CellFits row column cell = All (CharactersFit column.content_width) cell.text_lines

-- no shown column has a constraint
pub unconstrained : (table : TableValue) → IsUnconstrained table → NoConstraints table
unconstrained table free = placed (λ (column : ColumnValue). not (is_hidden_column column)) (λ column. column.constraint ≡ None) 0 table.columns free

-- a property of all texts holds of the measured texts in shown columns
abbrev pub TextsStay : TableValue → Type 1
TextsStay table = (P : Text → Type 0) → EachText P table → laws.EachShownText P table

-- the property holds of the measured texts if `custom_styling` is off
pub plain_stay : (table : TableValue) → table.custom_styling ≡ false → TextsStay table
plain_stay table plain P each = shown_of_all P table (subst (All (λ (row : RowValue). All (λ (cell : CellValue). All P cell.text_lines) row.cells)) (sym (measured_plain table plain)) each)

-- the property holds of the measured texts if shown texts have no control characters
pub free_stay : (table : TableValue) → EachShownText HasNoControl table → TextsStay table
free_stay table free P each =
    measured_shown (λ (text : Text). P text × HasNoControl text) P table (λ text own. (own.0, subst P (sym (visible_clear text own.1)) own.0)) (shown_both P HasNoControl table each free)

module _ (table : TableValue) (frame : HasPlainFrame table) where
  apart : straight.TextsAreApart table
  apart = inr (inl (placed (λ (column : ColumnValue). not (is_hidden_column column)) (λ column. 1 ≤ column.padding.0) 0 table.columns frame.paddings))

  delimiters : (widths : List ℕ) → length widths ≡ length table.columns → All (λ (p : ℕ × ColumnInfo). IsOneColumn p.1.delimiter) (shown_infos (infos_of table widths))
  delimiters widths long =
      infos-known table widths (λ (p : ℕ × ColumnValue). IsOneColumn p.1.delimiter) (λ (p : ℕ × ColumnInfo). IsOneColumn p.1.delimiter) long
      (placed (λ (column : ColumnValue). not (is_hidden_column column)) (λ column. IsOneColumn column.delimiter) 0 table.columns
      (All-filter (λ (column : ColumnValue). not (is_hidden_column column)) (λ (column : ColumnValue). IsOneColumn column.delimiter) table.columns frame.column_delimiters))
      (λ i column w one. one)

  -- the table is straight, if the characters of each cell fit its column
  pub fitting : (lines : List Text) (drawn : IsTableDrawing table lines)
      → straight.EachCell CellFits table drawn.widths → straight.IsStraightTable table drawn.widths
  fitting lines drawn each = fitting_tables_are_straight table lines drawn frame.style apart fits
    where
      fits : straight.EachCell (FitsByCharacters table) table drawn.widths
      fits k default under j other below cell found =
          let p = slice_index_or (shown_infos (infos_of table drawn.widths)) j other in
          let row = slice_index_or (measured_rows table) k default in
          let own = All-measured table (λ (r : RowValue). All (λ (c : CellValue). IsOneColumn c.delimiter) r.cells)
          (λ r all. All-map (λ (c : CellValue). IsOneColumn c.delimiter) visible_cell r.cells all) frame.cell_delimiters k default under in
          record {
            characters = each k default under j other below cell found;
            delimiter = first_set cell.delimiter p.1.delimiter table.delimiter (All-at (λ (c : CellValue). IsOneColumn c.delimiter) row.cells p.0 cell own found) (delimiters drawn.widths drawn.arranged.one_for_each j other below) frame.delimiter;
            indicator = inr frame.indicator;
          }

  -- the table is straight, if each character fits one terminal column
  pub narrow : TextsStay table → (lines : List Text) (drawn : IsTableDrawing table lines)
      → EachText (CharactersFit 1) table → straight.IsStraightTable table drawn.widths
  narrow stay lines drawn each = fitting lines drawn fits
    where
      infos : List (ℕ × ColumnInfo)
      infos = shown_infos (infos_of table drawn.widths)

      some_width : All (λ (p : ℕ × ColumnInfo). 1 ≤ p.1.content_width) infos
      some_width =
          infos-known table drawn.widths (λ (p : ℕ × ColumnValue). Unit {0})
          (λ (p : ℕ × ColumnInfo). 1 ≤ p.1.content_width) drawn.arranged.one_for_each
          (λ k default below. tt)
          (λ i column w known. let some : 1 ≤ max 1 w = omega arith in some)

      fits : straight.EachCell CellFits table drawn.widths
      fits k default under j other below cell found =
          let w = (slice_index_or infos j other).1.content_width in
          All-weaker (CharactersFit 1) (CharactersFit w)
          (more 1 w (some_width j other below)) cell.text_lines
          (drawn_of_shown (CharactersFit 1) table drawn.widths drawn.arranged.one_for_each
          (stay (CharactersFit 1) each) k default under j other below cell found)

  -- the table is straight, if the characters fit the columns that are returned
  pub as_returned : table.custom_styling ≡ false
      → (arranged : ArrangedValue) → IsArrangedTable table arranged
      → (lines : List Text) (drawn : IsTableDrawing table lines)
      → CharactersFitColumns table arranged.infos → straight.IsStraightTable table drawn.widths
  as_returned plain arranged is lines drawn each =
      fitting lines drawn (subst (All Fits) (sym (measured_plain table plain)) fits)
    where
      infos : List ColumnInfo
      infos = infos_of table drawn.widths

      Fits : RowValue → Type 0
      Fits row = All (λ (p : ℕ × ColumnInfo). (cell : CellValue)
          → slice_get row.cells p.0 ≡ Some cell → CellFits row p.1 cell) (shown_infos infos)

      same : is.headline.widths ≡ drawn.widths
      same =
          arranged_is_one table is.headline.widths drawn.widths is.headline.arranged drawn.arranged

      known : CharactersFitColumns table infos
      known = subst (CharactersFitColumns table) (is.infos ∙ ap (infos_of table) same) each

      fits : All Fits (header_and_rows table)
      fits k default under j other below cell found =
          let p = slice_index_or (shown_infos infos) j other in
          let at = standing (λ (column : ColumnInfo). not column.is_hidden) infos 0 infos
          (λ i. let same : 0 + i ≡ i = omega arith in ap (slice_get infos) same) j other below in
          known k default under p.0 p.1 at.0 (not-true p.1.is_hidden at.1) cell found

  -- the table is straight, if it is as wide as its texts
  pub whole : (widths : List ℕ) → measured_rows table ≡ header_and_rows table → table.arrangement ≡ Disabled → IsShownWhole table → straight.IsStraightTable table widths
  whole widths same disabled is =
      record {
        characters = frame.style;
        apart = apart;
        fits = inr (inr (record {
          no_width = ap (λ (a : ContentArrangement). width_kept a (table_width table)) disabled;
          no_constraints = unconstrained table is.no_constraint;
          uncut = subst (All (λ (row : RowValue). row.max_height ≡ None)) (sym same) is.uncut;
          short = subst (All (λ (row : RowValue). All (λ (cell : CellValue). All (λ line. measure line ≤ 65535) cell.text_lines) row.cells)) (sym same) is.short;
        }));
      }

-- the lines of a straight table are equally wide
pub equally_wide : (table : TableValue) (plain : IsPlain table) (lines : List Text) (drawn : IsTableDrawing table lines) → straight.IsStraightTable table drawn.widths → AreEquallyWide lines
equally_wide table plain lines drawn is =
    (line_total table drawn.widths, subst (All (λ line. measure line ≡ line_total table drawn.widths)) (sym (drawn.edges.unstyled_lines plain.no_styles plain.no_sequences)) (drawn.edges.straight is))

-- with styles, the lines of a straight table show equally many terminal columns
pub shown_equally_wide : (table : TableValue) (lines : List Text) (drawn : IsTableDrawing table lines) → HasNoControls table → straight.IsStraightTable table drawn.widths → AreShownEquallyWide lines
shown_equally_wide table lines drawn free is =
    let clear = free_of_controls table free in (
      line_total table drawn.widths,
      λ k line below.
          (visible_text (slice_index_or lines k line), line_shows (slice_index_or lines k line) (drawn.controls.without_controls clear k line below), drawn.sequences.straight_without_sequences (free_of_escapes table clear) is k line below),
    )
