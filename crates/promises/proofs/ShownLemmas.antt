-- The shown part of a text has no ESC, so it is the text without exactly its sequences.
use Rattle.std.proofs.Common.{◌≡◌, ◌⊎◌, inl, inr, ◌<◌, ◌==◌, ◌&&◌, ℕ, zero, suc, Bool, true, false, not, List, [], ◌∷◌, ◌++◌, Option, Some, None, flat_map, length, map, refl, sym, ap, ◌∙◌, subst, arith, append_assoc, length-append, slice_index_or}
use Rattle.std.specs.Char.{is_control}
use Rattle.std.specs.List.{All, cons_option, filter_map, slice_get}
use Rattle.std.specs.Prelude.{option_map}
use Rattle.std.specs.Str.{NoCharPasses, NonePass}
use Rattle.std.proofs.lemmas.Bool.{or_parts}
use Rattle.std.proofs.lemmas.List.Elements.{All-cons, All-head, All-map, All-nil, All-tail, All-weaker}
use Rattle.std.proofs.lemmas.Str.{NoCharPasses-append, NoCharPasses-nil}
use lib.Utf8.{encode}
use Rattle.comfy_parts.proofs.CallerLemmas.{All-at, BeginsWithSequence, Shows-clear, front_of, none_by_characters, parts-visible, visible_text-is}
use Rattle.comfy_parts.proofs.SequenceLemmas.{begins_with_sequence, sequences_are_taken_out}
use Rattle.comfy_parts.specs.CellValue.{CellValue, ColumnValue, RowValue}
use Rattle.comfy_parts.specs.Text.{Text}
use Rattle.comfy_parts.specs.VisibleText.{visible_bytes, visible_text}
use Rattle.comfy_table.proofs.MeasuredLemmas.{cell_measured, get_measured, measured_rows-is, row_measured}
use Rattle.comfy_table.specs.Drawing.{text_of}
use Rattle.comfy_table.specs.Headline.{JoinsLines}
use Rattle.comfy_table.specs.Laws as laws
use Rattle.comfy_table.specs.Laws.{HasNoControl, HasNoEscape, IsFreeOfControls}
use Rattle.comfy_table.specs.TableValue.{TableValue, column_cells, header_and_rows, shown_columns}
use Rattle.promises.specs.Tables.{EachShownText, EachText}
use Rattle.promises.specs.Shown.{HasNoControls, IsHarmless, Shows}
use Rattle.promises.specs.Shown.Shows.{nothing, byte, sequence}

-- a text shows its visible text, if that has no ESC
pub shows_visible : (n : ℕ) (text : Text) → length text < n → HasNoEscape (visible_text text) → Shows text (visible_text text)
shows_visible zero text below clear = absurd (omega (arith, below))
shows_visible (suc n) [] below clear = nothing
shows_visible (suc n) (b ∷ rest) below clear = by_front (front_of (b ∷ rest)) (shows_visible n)
  where
    by_front : BeginsWithSequence (b ∷ rest) ⊎ (begins_with_sequence (b ∷ rest) ≡ false) → ((text : Text) → length text < n → HasNoEscape (visible_text text) → Shows text (visible_text text)) → Shows (b ∷ rest) (visible_text (b ∷ rest))
    by_front (inl s) later =
        let gone = sequences_are_taken_out s.code s.rest s.parameters in
        let shorter : length s.rest < n = omega (arith, ap length s.is, length-append s.code (0x6D ∷ s.rest), below) in
        let clear_rest : HasNoEscape (visible_text s.rest) = subst HasNoEscape (ap visible_text s.is ∙ gone) clear in
        subst (λ (t : Text). Shows t (visible_text t)) (sym s.is)
        (subst (Shows (0x1B ∷ 0x5B ∷ (s.code ++ 0x6D ∷ s.rest))) (sym gone) (sequence s.code s.rest (visible_text s.rest) s.parameters (later s.rest shorter clear_rest)))
    by_front (inr free) later =
        let seen : visible_text (b ∷ rest) ≡ b ∷ visible_text rest = ap (flat_map visible_bytes) (parts-visible b rest free) in
        let both = or_parts (b == 0x1B) _ (subst HasNoEscape seen clear) in
        subst (Shows (b ∷ rest)) (sym seen) (byte b rest (visible_text rest) both.0 (later rest (omega (arith, below)) both.1))

-- two joined texts show the joined texts that they show
pub shows_both : {xs shown : Text} (ys other : Text) → Shows xs shown → Shows ys other → Shows (xs ++ ys) (shown ++ other)
shows_both ys other nothing back = back
shows_both ys other (byte b text shown clear front) back = byte b (text ++ ys) (shown ++ other) clear (shows_both ys other front back)
shows_both ys other (sequence code text shown all front) back =
    subst (λ (t : Text). Shows (0x1B ∷ 0x5B ∷ t) (shown ++ other)) (sym (append_assoc code (0x6D ∷ text) ys)) (sequence code (text ++ ys) (shown ++ other) all (shows_both ys other front back))

-- ---- lines

-- a control character other than a line feed
abbrev is_stray : ℕ → Bool
is_stray c = is_control c && not (c == 0x0A)

weaker : (cs : List ℕ) → NonePass is_control cs → NonePass is_stray cs
weaker [] none = tt
weaker (c ∷ cs) (own, more) = (rw own refl, weaker cs more)

pub tidy : (text : Text) → HasNoControl text → NoCharPasses is_stray text
tidy text none = (none.0, none.1, weaker none.0 none.2)

line_feed : NoCharPasses is_stray (0x0A ∷ [])
unfolding encode
line_feed = (0x0A ∷ [], refl, (refl, tt))

-- a line shows its visible text, if that has no control character
pub line_shows : (line : Text) → HasNoControl (visible_text line) → Shows line (visible_text line)
line_shows line none = shows_visible (suc (length line)) line (omega arith) (none_by_characters is_control 0x1B (omega arith) refl (visible_text line) none)

-- lines joined by line feeds are harmless
joined : (lines : List Text) → All (λ line. HasNoControl (visible_text line)) lines → IsHarmless (text_of lines)
joined [] none = ([], nothing, NoCharPasses-nil is_stray)
joined (line ∷ []) none =
    let own = All-head (λ (l : Text). HasNoControl (visible_text l)) line [] none in
    (visible_text line, line_shows line own, tidy (visible_text line) own)
joined (line ∷ next ∷ lines) none =
    let own = All-head (λ (l : Text). HasNoControl (visible_text l)) line (next ∷ lines) none in
    let rest : IsHarmless (text_of (next ∷ lines)) = joined (next ∷ lines) (All-tail (λ (l : Text). HasNoControl (visible_text l)) line (next ∷ lines) none) in (
      visible_text line ++ (0x0A ∷ rest.0),
      shows_both (0x0A ∷ text_of (next ∷ lines)) (0x0A ∷ rest.0) (line_shows line own) (byte 0x0A (text_of (next ∷ lines)) rest.0 refl rest.1),
      NoCharPasses-append is_stray (visible_text line) (0x0A ∷ rest.0) (tidy (visible_text line) own) (NoCharPasses-append is_stray (0x0A ∷ []) rest.0 line_feed rest.2),
    )

-- ---- tables

-- the visible text of a text without control characters is the text
pub visible_clear : (text : Text) → HasNoControl text → visible_text text ≡ text
visible_clear text none = visible_text-is text text (Shows-clear text (none_by_characters is_control 0x1B (omega arith) refl text none))

-- a property that two properties make together
pub shown_both : (P Q : Text → Type 0) (table : TableValue) → EachText P table → EachShownText Q table → EachShownText (λ text. P text × Q text) table
shown_both P Q table each shown =
    All-weaker (λ (p : ℕ × ColumnValue). All (λ (row : RowValue). (cell : CellValue) → slice_get row.cells p.0 ≡ Some cell → All Q cell.text_lines) (header_and_rows table))
    (λ (p : ℕ × ColumnValue). All (λ (row : RowValue). (cell : CellValue) → slice_get row.cells p.0 ≡ Some cell → All (λ text. P text × Q text) cell.text_lines) (header_and_rows table))
    (λ p own k default under cell found j text below.
    (All-at (λ (c : CellValue). All P c.text_lines) (slice_index_or (header_and_rows table) k default).cells p.0 cell (each k default under) found j text below, own k default under cell found j text below))
    (shown_columns table) shown

-- a property of shown texts and of their visible texts holds of the measured texts
module _ (P Q : Text → Type 0) (table : TableValue) (gives : (text : Text) → P text → Q text × Q (visible_text text)) where
  abbrev Has : CellValue → Type 0
  Has cell = All Q cell.text_lines

  abbrev HasAt : ℕ → RowValue → Type 0
  HasAt i row = (cell : CellValue) → slice_get row.cells i ≡ Some cell → All P cell.text_lines

  cell_has : (custom : Bool) (cell : CellValue) → All P cell.text_lines → Has (cell_measured custom cell)
  cell_has true cell each = All-map Q visible_text cell.text_lines (All-weaker P (λ (t : Text). Q (visible_text t)) (λ text own. (gives text own).1) cell.text_lines each)
  cell_has false cell each = All-weaker P Q (λ text own. (gives text own).0) cell.text_lines each

  rows_have : (i : ℕ) (rows : List RowValue) → All (HasAt i) rows → All Has (filter_map (λ (row : RowValue). slice_get row.cells i) (map (row_measured table.custom_styling) rows))
  rows_have i [] each = All-nil Has
  rows_have i (row ∷ rows) each =
      subst (λ (o : Option CellValue). All Has (cons_option o (filter_map (λ (r : RowValue). slice_get r.cells i) (map (row_measured table.custom_styling) rows)))) (sym (get_measured table.custom_styling row.cells i))
      (by_cell (slice_get row.cells i) (All-head (HasAt i) row rows each) (rows_have i rows (All-tail (HasAt i) row rows each)))
    where
      by_cell : (o : Option CellValue) → ((cell : CellValue) → o ≡ Some cell → All P cell.text_lines) → All Has (filter_map (λ (r : RowValue). slice_get r.cells i) (map (row_measured table.custom_styling) rows))
          → All Has (cons_option (option_map (cell_measured table.custom_styling) o) (filter_map (λ (r : RowValue). slice_get r.cells i) (map (row_measured table.custom_styling) rows)))
      by_cell None own rest = rest
      by_cell (Some cell) own rest =
          All-cons Has (cell_measured table.custom_styling cell) (filter_map (λ (r : RowValue). slice_get r.cells i) (map (row_measured table.custom_styling) rows)) (cell_has table.custom_styling cell (own cell refl)) rest

  pub measured_shown : EachShownText P table → laws.EachShownText Q table
  measured_shown each =
      All-weaker (λ (p : ℕ × ColumnValue). All (HasAt p.0) (header_and_rows table)) (λ (p : ℕ × ColumnValue). All Has (column_cells table p.0))
      (λ p own. subst (λ (rows : List RowValue). All Has (filter_map (λ (row : RowValue). slice_get row.cells p.0) rows)) (sym (measured_rows-is table)) (rows_have p.0 (header_and_rows table) own))
      (shown_columns table) each

pub free_of_controls : (table : TableValue) → HasNoControls table → IsFreeOfControls table
free_of_controls table free =
    record {
      text_lines = measured_shown HasNoControl HasNoControl table (λ text none. (none, subst HasNoControl (sym (visible_clear text none)) none)) free.texts;
      indicator = free.indicator;
      characters = free.style;
    }

pub harmless : (table : TableValue) (text : Text) → JoinsLines table text → HasNoControls table → IsHarmless text
harmless table text (lines, drawn, is) free = subst IsHarmless (sym is) (joined lines (drawn.controls.without_controls (free_of_controls table free)))
