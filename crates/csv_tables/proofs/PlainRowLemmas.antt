-- Rows and cells that aren't made before they are drawn.
use Rattle.std.proofs.Common.{◌≡◌, ◌+◌, ◌<◌, ◌==◌, length, get_or, inl, inr, ℕ, Bool, true, false, ◌&&◌, ◌||◌, List, [], ◌∷◌, ◌++◌, Option, Some, None, map, decimal, zero, suc, refl, ap, ap₂, subst, sym, ◌∙◌, append-nil, arith}
use Rattle.std.proofs.Math.Seq.{drop-append-add, get_or-append_seam, take-append_seam}
use Rattle.std.proofs.lemmas.Bool.{or_parts}
use Rattle.std.proofs.lemmas.List.{length-append, map-append}
use Rattle.std.proofs.lemmas.List.Folds.{list_all-append, list_any-append}
use Rattle.std.proofs.lemmas.List.Splits.{join_with_byte-slice_split}
use Rattle.std.proofs.lemmas.Option.{slice_get-map}
use Rattle.std.proofs.lemmas.Str.{IsCharBoundary-after_ascii, IsCharBoundary-before_ascii, IsUtf8-drop, IsUtf8-take, chars-append, chars-nil}
use Rattle.std.specs.List.{join_with_byte, list_any, slice_index_or, slice_split}
use Rattle.std.specs.Prelude.{option_map, slice_get, if◌then◌else◌}
use Rattle.std.specs.Str.{IsUtf8, chars}
use Rattle.comfy_parts.proofs.CallerLemmas.{IsUtf8-printable}
use Rattle.comfy_parts.specs.CellValue.{CellValue, plain_cell}
use Rattle.comfy_parts.specs.Text.{Text, is_printable_ascii, spaces}
use Rattle.comfy_parts.specs.declared.style.cell.CellAlignment.{CellAlignment}
use Rattle.comfy_parts.specs.declared.style.cell.CellAlignment.TheVariants.{Right}
use Rattle.csv_records.proofs.CleaningLemmas.{drawn_so, harmless_so, none_harmful, none_replaced}
use Rattle.csv_records.specs.Cleaning.{cleaned, is_harmful, is_replaced}
use Rattle.csv_tables.proofs.BuiltLemmas.{blank_drawn}
use Rattle.csv_tables.proofs.ShownLemmas.{shown_after, spaces_printable}
use Rattle.csv_tables.specs.Cells.{Shown, cell_for, columns_within, field_text, is_blank, marked, number_of, shown_cells, shown_fields, shown_number, text_in, unless_blank, with_weight}
use Rattle.csv_tables.proofs.MarkedLemmas.{marked_stays}
use Rattle.csv_tables.specs.Contents.{IsKept, plain_by, shown_by}
use Rattle.csv_tables.specs.Markdown.{may_be_escaped}
use Rattle.csv_tables.specs.declared.options.ColumnPlan.{ColumnPlan}
use Rattle.csv_tables.specs.declared.options.Look.{Look}
use Rattle.csv_tables.specs.declared.rows.RecordRows.{RecordRows}

-- ---- texts that are what their cells have

-- a text without replaced characters is the text of its cell, if it is kept
stays_if : (look : Look) (field : Text) (n : ℕ) → IsKept look field n → IsUtf8 (field ++ spaces n) → list_any is_replaced (chars (field ++ spaces n)) ≡ false → field_text look (field ++ spaces n) ≡ field ++ spaces n
stays_if look field n kept utf8 clean = by_kind kept
  where
    text : Text
    text = field ++ spaces n

    drawn : Bool → Text
    drawn b = if b then marked (cleaned false text) else unless_blank (cleaned look.has_sequences text)

    filled : is_blank field ≡ false → is_blank text ≡ false
    filled own = list_all-append _ field (spaces n) ∙ ap (λ b. b && is_blank (spaces n)) own

    by_kind : IsKept look field n → field_text look text ≡ text
    by_kind (inl (unmarked, inl own)) = ap drawn unmarked ∙ ap unless_blank (sym (drawn_so look.has_sequences text utf8 clean)) ∙ ap (λ (b : Bool). if b then [] else text) (filled own)
    by_kind (inl (unmarked, inr empty)) = ap (field_text look) empty ∙ blank_drawn look ∙ sym empty
    by_kind (inr (is, none, own)) =
        let same : text ≡ field = ap (λ k. field ++ spaces k) none ∙ append-nil field in
        ap drawn is ∙ ap marked (sym (drawn_so false text utf8 clean)) ∙ marked_stays text utf8 (ap (λ (t : Text). list_any may_be_escaped (chars t)) same ∙ own)

pub spaced_stays : (look : Look) (field : Text) (n : ℕ) → IsKept look field n → is_printable_ascii field ≡ true → field_text look (field ++ spaces n) ≡ field ++ spaces n
spaced_stays look field n kept printable =
    let text = field ++ spaces n in
    let all : is_printable_ascii text ≡ true = list_all-append _ field (spaces n) ∙ ap₂ (λ a b. a && b) printable (spaces_printable n) in
    stays_if look field n kept (IsUtf8-printable text all) (none_replaced text all)

pub clean_stays : (look : Look) (field : Text) → IsKept look field 0 → IsUtf8 field → list_any is_replaced (chars field) ≡ false → field_text look field ≡ field
clean_stays look field kept utf8 clean =
    let same : field ++ [] ≡ field = append-nil field in
    sym (ap (field_text look) same) ∙ stays_if look field 0 kept (subst IsUtf8 (sym same) utf8) (ap (λ (t : Text). list_any is_replaced (chars t)) same ∙ clean) ∙ same

-- ---- texts of several lines that are what their cells have

-- a text without harmful characters is the text of its cell, if it isn't blank
pub harmless_stays : (look : Look) (field : Text) → look.is_markdown ≡ false → is_blank field ≡ false → IsUtf8 field → list_any is_harmful (chars field) ≡ false → field_text look field ≡ field
harmless_stays look field unmarked filled utf8 harmless =
    ap (λ (b : Bool). if b then marked (cleaned false field) else unless_blank (cleaned look.has_sequences field)) unmarked
    ∙ ap unless_blank (sym (harmless_so look.has_sequences field utf8 harmless))
    ∙ ap (λ (b : Bool). if b then [] else field) filled

-- a line has a replaced character
abbrev pub is_replaced_in : Text → Bool
is_replaced_in line = list_any is_replaced (chars line)

-- the texts before and after a line feed are UTF-8
around_feed : (front back : Text) → IsUtf8 (front ++ 0x0A ∷ back) → IsUtf8 front × IsUtf8 back
around_feed front back utf8 =
    let text = front ++ 0x0A ∷ back in
    let within : length front < length text = omega (arith, length-append front (0x0A ∷ back)) in
    let feed : get_or text (length front) 0 ≡ 0x0A = get_or-append_seam front 0x0A back 0 in
    let ascii : get_or text (length front) 0 < 128 = omega (arith, feed) in (
      subst IsUtf8 (take-append_seam front (0x0A ∷ back)) (IsUtf8-take text (length front) utf8 (IsCharBoundary-before_ascii text (length front) within ascii)),
      subst IsUtf8 (drop-append-add front (0x0A ∷ back) 1) (IsUtf8-drop text (length front + 1) utf8 (IsCharBoundary-after_ascii text (length front) utf8 within ascii)),
    )

feed_first : (rest : Text) → chars (0x0A ∷ rest) ≡ 0x0A ∷ chars rest
unfolding chars
feed_first [] = refl
feed_first (b ∷ bs) = refl

joined_harmless : (lines : List Text) → IsUtf8 (join_with_byte 0x0A lines) → list_any is_replaced_in lines ≡ false → list_any is_harmful (chars (join_with_byte 0x0A lines)) ≡ false
joined_harmless [] utf8 none = ap (list_any is_harmful) chars-nil
joined_harmless (line ∷ []) utf8 none = none_harmful (chars line) (or_parts (is_replaced_in line) false none).0
joined_harmless (line ∷ (next ∷ lines)) utf8 none =
    let rest = join_with_byte 0x0A (next ∷ lines) in
    let whole = around_feed line rest utf8 in
    let each = or_parts (is_replaced_in line) (list_any is_replaced_in (next ∷ lines)) none in
    let others = joined_harmless (next ∷ lines) whole.1 each.1 in
    ap (list_any is_harmful) (chars-append line (0x0A ∷ rest) whole.0 ∙ ap (λ (cs : List ℕ). chars line ++ cs) (feed_first rest))
    ∙ list_any-append is_harmful (chars line) (0x0A ∷ chars rest)
    ∙ ap₂ (λ a b. a || b) (none_harmful (chars line) each.0) others

-- a text has no harmful character if its lines have no replaced one
pub harmless_lines : (text : Text) → IsUtf8 text → list_any is_replaced_in (slice_split (λ b. b == 0x0A) text) ≡ false → list_any is_harmful (chars text) ≡ false
harmless_lines text utf8 none =
    let same = join_with_byte-slice_split 0x0A text in
    sym (ap (λ (t : Text). list_any is_harmful (chars t)) same) ∙ joined_harmless (slice_split (λ b. b == 0x0A) text) (subst IsUtf8 (sym same) utf8) none

-- ---- cells

-- the cell of a column
abbrev pub cell_of_column : RecordRows → List Text → ColumnPlan → CellValue
cell_of_column rows fields column = cell_for rows.look column.alignment (text_in rows.look rows.is_aligned column fields)

-- the cell of a column, after the cell of the number
pub cell_after : (rows : RecordRows) (fields : List Text) (column : ColumnPlan) (at position place : ℕ) → position ≡ place + (if rows.selected.is_numbered then 1 else 0)
    → slice_get (columns_within fields rows.selected.columns) place ≡ Some column → slice_get (plain_by rows at fields).cells position ≡ Some (cell_of_column rows fields column)
cell_after rows fields column at position place is_at found =
    slice_get-map (λ (s : Shown). cell_for rows.look s.alignment s.text) (shown_by rows at fields) position
    ∙ ap (option_map (λ (s : Shown). cell_for rows.look s.alignment s.text)) (shown_after rows fields column at position place is_at found)

-- rows are numbered if one of them has a number
pub some_number : (is_numbered : Bool) (n number : ℕ) → Some (decimal number) ≡ number_of is_numbered n → is_numbered ≡ true
some_number true n number is = refl
some_number false n number is = absurd (cc is)

pub no_number : (is_numbered : Bool) (n : ℕ) → None ≡ number_of is_numbered n → is_numbered ≡ false
no_number true n is = absurd (cc is)
no_number false n is = refl

-- the cell of a number, at the start of its row
pub cell_of_number : (rows : RecordRows) (fields : List Text) (at number : ℕ) → Some (decimal number) ≡ number_of rows.selected.is_numbered (at + 1)
    → slice_get (plain_by rows at fields).cells 0 ≡ Some (cell_for rows.look (Some Right) (decimal number))
cell_of_number rows fields at number is =
    ap (λ (text : Option Text). slice_get (shown_cells rows.look false (shown_number text ++ shown_fields rows.look rows.is_aligned (columns_within fields rows.selected.columns) fields)) 0) (sym is)

-- an element of a list is the one at its position
pub inside : {X : Type 0} (xs : List X) (i : ℕ) (d : X) → i < length xs → slice_get xs i ≡ Some (slice_index_or xs i d)
inside [] i d within = absurd (omega (arith, within))
inside (x ∷ xs) zero d within = refl
inside (x ∷ xs) (suc i) d within = inside xs i d (omega (arith, within))

-- one cell more in a list of cells
pub pushed_cell : {X : Type 0} (cell : X → CellValue) (new old : List X) (x : X) → new ≡ old ++ x ∷ [] → map cell new ≡ map cell old ++ cell x ∷ []
pushed_cell cell new old x is = ap (map cell) is ∙ map-append cell old (x ∷ [])

-- the cell of a text, in bold or as it is
pub weighted : (is_bold : Bool) (alignment : Option CellAlignment) (text : Text) (styled : CellValue) → styled ≡ with_weight is_bold (plain_cell [])
    → record styled {
      text_lines = (plain_cell text).text_lines;
      alignment = alignment;
    } ≡ with_weight is_bold (record (plain_cell text) { alignment = alignment })
weighted is_bold alignment text styled is = ap with_text is ∙ by_weight is_bold
  where
    with_text : CellValue → CellValue
    with_text cell = record cell {
      text_lines = (plain_cell text).text_lines;
      alignment = alignment;
    }

    by_weight : (b : Bool) → with_text (with_weight b (plain_cell [])) ≡ with_weight b (record (plain_cell text) { alignment = alignment })
    by_weight true = refl
    by_weight false = refl
