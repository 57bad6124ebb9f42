-- Rows of UTF-8 fields have the properties of all rows.
use Rattle.std.proofs.Common.{◌≡◌, ◌≤◌, ℕ, ◌+◌, Bool, true, false, ◌==◌, List, [], ◌∷◌, ◌++◌, Option, Some, None, IfSome, chars, codes, cond, max, arith, append-nil, decimal, ◌&&◌, encode_utf8, encode_utf8_all, eqb-true, refl, ap, ap₂, ◌||◌, sym, subst, ◌∙◌}
use Rattle.std.proofs.lemmas.Bool.{and_parts}
use Rattle.std.proofs.lemmas.List.Elements.{All-append, All-cons, All-head, All-map, All-nil, All-tail, All-weaker}
use Rattle.std.proofs.lemmas.List.Folds.{list_any-append}
use Rattle.std.proofs.lemmas.Str.{IsUtf8-append, IsUtf8-nil}
use Rattle.std.specs.List.{All, list_any, slice_get}
use Rattle.std.specs.Prelude.{option_map, unwrap_or, if◌then◌else◌}
use Rattle.std.specs.Str.{IsUtf8, all_scalars}
use lib.Utf8.{encode, scalar, scalars}
use Rattle.csv_tables.proofs.CleanCharacterLemmas.{scalars-append}
use Rattle.csv_tables.specs.Markdown.{escaped, escaped_after, escaped_character, is_marked_at, is_special}
use Rattle.std.proofs.lemmas.Str.{scalars-chars}
use Rattle.comfy_parts.proofs.CallerLemmas.{All-every, IsUtf8-printable, encoded_clear}
use Rattle.comfy_parts.proofs.PrintableLineLemmas.{some_parts}
use Rattle.comfy_parts.specs.CellValue.{HasTextLines, IsCell, IsRow}
use Rattle.comfy_parts.specs.Text.{Text}
use Rattle.comfy_parts.specs.declared.style.cell.CellAlignment.{CellAlignment}
use Rattle.comfy_parts.specs.declared.style.cell.CellAlignment.TheVariants.{Right}
use Rattle.csv.specs.Records.{AllText}
use Rattle.csv_records.proofs.ControlLemmas.{cleaned_whole}
use Rattle.csv_records.specs.Cleaning.{cleaned}
use Rattle.csv_tables.proofs.BuiltLemmas.{each_field, each_name, number_each}
use Rattle.csv_tables.proofs.DressedLemmas.{cells_made, dressed-keeps, height_made}
use Rattle.csv_tables.proofs.FieldLemmas.{IsShortPrintable}
use Rattle.csv_tables.proofs.FittingLemmas.{text_drawn}
use Rattle.csv_tables.proofs.FieldControlLemmas.{text_fields}
use Rattle.csv_tables.proofs.TextLineLemmas.{lines-front, lines_of, text_lines}
use Rattle.csv_tables.specs.Cells.{cell_for, columns_within, field_text, is_blank, marked, number_of, pair_for, shown_cells, shown_number, text_in, with_weight}
use Rattle.csv_tables.specs.Columns.{name_at}
use Rattle.csv_tables.specs.Contents.{field_cell, field_cells, made_by, pairs_by, rows_at, rows_from, settings_by}
use Rattle.csv_tables.specs.Settings.{CellSettingsValue, cell_settings, limit_by}
use Rattle.csv_tables.specs.Fields.{field_or_blank}
use Rattle.csv_tables.specs.declared.options.ColumnPlan.{ColumnPlan}
use Rattle.csv_tables.specs.declared.options.Look.{Look}
use Rattle.csv_tables.specs.declared.rows.RecordRows.{RecordRows}

-- ---- text lines

-- UTF-8 without a line feed
abbrev IsLine : Text → Type 0
IsLine text = IsUtf8 text × (list_any (λ b. b == 0x0A) text ≡ false)

empty_line : IsLine []
empty_line = (IsUtf8-nil, refl)

feed_first : (text : Text) → All IsLine (text_lines text) → All IsLine (text_lines (encode_utf8 0x0A ++ text))
unfolding encode
feed_first text each = All-cons IsLine [] (text_lines text) empty_line each

character_first : (c : ℕ) (text : Text) → IsLine (encode_utf8 c) → (c == 0x0A) ≡ false → All IsLine (text_lines text) → All IsLine (text_lines (encode_utf8 c ++ text))
character_first c text one other each =
    let lines = lines_of text in
    let own : All IsLine (lines.first ∷ lines.others) = subst (All IsLine) lines.are each in
    let first = All-head IsLine lines.first lines.others own in
    subst (All IsLine) (sym (lines-front (encode_utf8 c) text (encoded_clear 0x0A c (omega arith) other) lines.first lines.others lines.are))
    (All-cons IsLine (encode_utf8 c ++ lines.first) lines.others
    (IsUtf8-append (encode_utf8 c) lines.first one.0 first.0, list_any-append (λ b. b == 0x0A) (encode_utf8 c) lines.first ∙ ap₂ (λ a b. a || b) one.1 first.1)
    (All-tail IsLine lines.first lines.others own))

encoded_lines : (cs : List ℕ) → scalars cs ≡ true → All IsLine (text_lines (encode_utf8_all cs))
encoded_lines [] all = All-cons IsLine [] [] empty_line (All-nil IsLine)
encoded_lines (c ∷ cs) all =
    let both = and_parts (scalar c) (scalars cs) all in
    let one : IsUtf8 (encode_utf8 c) = (c ∷ [], (ap (λ b. b && true) both.0, append-nil (encode_utf8 c))) in
    by_test one (c == 0x0A) refl (encoded_lines cs both.1)
  where
    by_test : IsUtf8 (encode_utf8 c) → (t : Bool) → (c == 0x0A) ≡ t → All IsLine (text_lines (encode_utf8_all cs)) → All IsLine (text_lines (encode_utf8 c ++ encode_utf8_all cs))
    by_test one true is rest = subst (λ (n : ℕ). All IsLine (text_lines (encode_utf8 n ++ encode_utf8_all cs))) (sym (eqb-true c 0x0A is)) (feed_first (encode_utf8_all cs) rest)
    by_test one false is rest = character_first c (encode_utf8_all cs) (one, encoded_clear 0x0A c (omega arith) is) is rest

pub has_lines : (text : Text) → IsUtf8 text → HasTextLines (text_lines text)
has_lines text utf8 =
    let each : All IsLine (text_lines text) = subst (λ (t : Text). All IsLine (text_lines t)) utf8.1.1 (encoded_lines utf8.0 utf8.1.0) in
    record {
      some_line = some_parts (λ b. b == 0x0A) text;
      no_breaks = All-weaker IsLine (λ (line : Text). list_any (λ b. b == 0x0A) line ≡ false) (λ line own. own.1) (text_lines text) each;
      whole = All-weaker IsLine IsUtf8 (λ line own. own.0) (text_lines text) each;
    }

-- ---- cells

-- the escaped characters are scalar values
escaped_scalars : (is_marked : Bool) (before : Option ℕ) (cs : List ℕ) → all_scalars cs ≡ true → all_scalars (escaped_after is_marked before cs) ≡ true
escaped_scalars is_marked before [] all = refl
escaped_scalars is_marked before (c ∷ cs) all =
    scalars-append (escaped_character special c) (escaped_after here (Some c) cs) (by_tests (c == 0x0A) special) (escaped_scalars here (Some c) cs both.1)
  where
    both : (scalar c ≡ true) × (all_scalars cs ≡ true)
    both = and_parts (scalar c) (all_scalars cs) all

    here : Bool
    here = is_marked_at is_marked before (c ∷ cs)

    special : Bool
    special = is_special here before c cs

    by_tests : (feed special : Bool) → all_scalars (cond feed (codes "<br>") (cond special (0x5C ∷ c ∷ []) (c ∷ []))) ≡ true
    by_tests true special = refl
    by_tests false true = ap (λ b. b && true) both.0
    by_tests false false = ap (λ b. b && true) both.0

marked_whole : (text : Text) → IsUtf8 text → IsUtf8 (marked text)
marked_whole text utf8 = (escaped (chars text), (escaped_scalars false None (chars text) (scalars-chars text utf8), refl))

module _ (look : Look) where
  pub text_whole : (field : Text) → IsUtf8 field → IsUtf8 (field_text look field)
  text_whole field utf8 = by_markdown look.is_markdown (is_blank (cleaned look.has_sequences field))
    where
      by_markdown : (is_markdown blank : Bool) → IsUtf8 (if is_markdown then marked (cleaned false field) else (if blank then [] else cleaned look.has_sequences field))
      by_markdown true blank = marked_whole (cleaned false field) (cleaned_whole false field utf8)
      by_markdown false true = IsUtf8-nil
      by_markdown false false = cleaned_whole look.has_sequences field utf8

  cell_whole : (is_bold : Bool) (alignment : Option CellAlignment) (field : Text) → IsUtf8 field → IsCell (with_weight is_bold (cell_for look alignment field))
  cell_whole true alignment field utf8 = record { text_lines = has_lines (field_text look field) (text_whole field utf8); delimiter = tt }
  cell_whole false alignment field utf8 = record { text_lines = has_lines (field_text look field) (text_whole field utf8); delimiter = tt }

  pub high : (limit : Option ℕ) → IfSome (option_map (max 1) limit) (λ h. 1 ≤ h)
  high None = tt
  high (Some h) = omega arith

-- ---- rows

short_whole : (text : Text) → IsShortPrintable 64 text → IsUtf8 text
short_whole text short = IsUtf8-printable text short.0

module _ (rows : RecordRows) where
  row_whole : (at : ℕ) (fields : List Text) → All IsUtf8 fields → IsRow (made_by rows at fields)
  row_whole at fields utf8 =
      record {
        cells = subst (All IsCell) (sym (cells_made rows at fields)) (All-append IsCell (shown_cells rows.look false (shown_number (number_of rows.selected.is_numbered (at + 1)))) _ (number rows.selected.is_numbered) of_fields);
        some_height = subst (λ (limit : Option ℕ). IfSome limit (λ h. 1 ≤ h)) (sym (height_made rows at fields)) (high rows.look (limit_by (settings_by rows at) rows.look));
      }
    where
      settings : List CellSettingsValue
      settings = cell_settings (settings_by rows at)

      of_fields : All IsCell (field_cells rows.look false rows.is_aligned settings (columns_within fields rows.selected.columns) fields)
      of_fields =
          All-map IsCell (field_cell rows.look false rows.is_aligned settings fields) (columns_within fields rows.selected.columns)
          (All-every (λ (column : ColumnPlan). IsCell (field_cell rows.look false rows.is_aligned settings fields column)) (columns_within fields rows.selected.columns)
          (λ column. dressed-keeps (slice_get settings column.position) _ (cell_whole rows.look false column.alignment (text_in rows.look rows.is_aligned column fields) (text_drawn rows.look rows.is_aligned column fields utf8))))

      number : (b : Bool) → All IsCell (shown_cells rows.look false (shown_number (if b then Some (decimal (at + 1)) else None)))
      number true = All-cons IsCell _ [] (cell_whole rows.look false (Some Right) (decimal (at + 1)) (number_each IsUtf8 IsUtf8-nil short_whole (at + 1))) (All-nil IsCell)
      number false = All-nil IsCell

  pair_whole : (name field : Text) → IsUtf8 name → IsUtf8 field → IsRow (pair_for rows.look name field)
  pair_whole name field whole utf8 =
      let label = with_weight rows.look.has_bold_header (cell_for rows.look None name) in
      record {
        cells = All-cons IsCell label (cell_for rows.look None field ∷ []) (cell_whole rows.look rows.look.has_bold_header None name whole) (All-cons IsCell (cell_for rows.look None field) [] (cell_whole rows.look false None field utf8) (All-nil IsCell));
        some_height = high rows.look rows.look.max_height;
      }

  pairs_whole : All IsUtf8 (unwrap_or rows.selected.names []) → (fields : List Text) → All IsUtf8 fields → All IsRow (pairs_by rows fields)
  pairs_whole names fields utf8 =
      All-map IsRow (λ (column : ColumnPlan). pair_for rows.look (name_at (unwrap_or rows.selected.names []) column.position) (field_or_blank fields column.position)) _
      (All-every (λ (column : ColumnPlan). IsRow (pair_for rows.look (name_at (unwrap_or rows.selected.names []) column.position) (field_or_blank fields column.position))) _
      (λ column. pair_whole (name_at (unwrap_or rows.selected.names []) column.position) (field_or_blank fields column.position)
      (each_name IsUtf8 (unwrap_or rows.selected.names []) column.position (number_each IsUtf8 IsUtf8-nil short_whole (column.position + 1)) names)
      (each_field IsUtf8 IsUtf8-nil fields column.position utf8)))

  -- all rows of records
  pub rows_whole : AllText (unwrap_or rows.selected.names []) → (at : ℕ) (left : List (List Text)) → All AllText left → All IsRow (rows_from rows at left)
  rows_whole names at [] texts = All-nil IsRow
  rows_whole names at (fields ∷ left) texts =
      let utf8 = text_fields fields (All-head AllText fields left texts) in
      All-append IsRow (rows_at rows at fields) (rows_from rows (at + 1) left) (by_kind utf8 rows.is_expanded) (rows_whole names (at + 1) left (All-tail AllText fields left texts))
    where
      by_kind : All IsUtf8 fields → (b : Bool) → All IsRow (if b then pairs_by rows fields else made_by rows at fields ∷ [])
      by_kind utf8 true = pairs_whole (text_fields (unwrap_or rows.selected.names []) names) fields utf8
      by_kind utf8 false = All-cons IsRow (made_by rows at fields) [] (row_whole at fields utf8) (All-nil IsRow)
