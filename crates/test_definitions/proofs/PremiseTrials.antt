-- Bytes that aren't UTF-8: without this premise, the laws of equal counts and of styling are false.
use Rattle.std.proofs.Common.{◌≡◌, ℕ, true, false, List, [], ◌∷◌, Option, Some, None, refl, sym, ap, ◌∙◌, arith, append-nil, map, subst}
use Rattle.std.specs.List.{All}
use Rattle.unicode_width.specs.Width.{str_width}
use Rattle.std.specs.Str.{chars}
use Rattle.std.proofs.lemmas.List.Elements.{All-cons, All-from_recursion, All-nil, All-head}
use Rattle.std.proofs.lemmas.Str.{chars-append}
use Rattle.comfy_parts.proofs.Computing.{wrapping}
use Rattle.comfy_parts.proofs.CallerLemmas.{All-every, IsUtf8-printable}
use Rattle.comfy_parts.proofs.CallerLemmas.{measure-printable}
use Rattle.comfy_parts.specs.CellValue.{CellValue, RowValue, ColumnValue, new_column}
use Rattle.comfy_parts.specs.Text.{Text, AddsOneColumnEach, is_printable_ascii}
use Rattle.comfy_parts.specs.declared.style.table_style.LineStyle.{LineStyle}
use Rattle.comfy_parts.specs.declared.style.table_style.TableStyle.{TableStyle}
use Rattle.comfy_table.specs.Arrangement.{IsArranged}
use Rattle.comfy_table.specs.Drawing.{drawing, infos_of}
use Rattle.comfy_table.specs.Laws.{count, line_total, unstyled, IsPrintableTable, IsPrintableCell, AddsOneColumnEachWhereWritten, HasNoEscape, IsFreeOfEscapes}
use Rattle.comfy_table.specs.TableValue.{TableValue, new_table, column_cells, header_and_rows, shown_columns}
use Rattle.comfy_table.specs.Pieces.{shown_infos}
use Rattle.comfy_parts.specs.VisibleText.{visible_text}

abbrev no_line : LineStyle
no_line = record { left = None; fill = None; junction = None; right = None }

-- only a right border of this character is drawn
abbrev style_with : Option ℕ → TableStyle
style_with right =
    record { top_border = no_line; header_lines = record { left = None; junction = None; right = None }; header_separator = no_line; content_lines = record { left = None; junction = None; right = right }; row_separator = no_line; bottom_border = no_line }

-- one cell of these text lines, cut to one line
abbrev table_with : Option ℕ → Text → List Text → TableValue
table_with right indicator lines =
    record (new_table (style_with right)) { columns = record (new_column 0) { padding = (0, 0) } ∷ []; rows = record { cells = record { text_lines = lines; delimiter = None; alignment = None; foreground = None; background = None; attributes = [] } ∷ []; max_height = Some 1 } ∷ []; indicator = indicator }

-- ---- an indicator that ends inside a character

abbrev torn : TableValue
torn = table_with (Some 0x2502) (0xC3 ∷ []) ((0x61 ∷ []) ∷ (0x61 ∷ []) ∷ [])

-- the indicator adds its characters: it has none, and takes no terminal column
torn_is_even : AddsOneColumnEach (0xC3 ∷ [])
unfolding wrapping chars
torn_is_even p printable =
    ap measure_of (chars-append p (0xC3 ∷ []) (IsUtf8-printable p printable) ∙ append-nil (chars p)) ∙ measure-printable p printable ∙ omega arith
  where
    measure_of : List ℕ → ℕ
    measure_of cs = str_width false cs

-- the table is plain
torn_is_printable : IsPrintableTable torn (1 ∷ [])
unfolding wrapping chars
torn_is_printable =
    record {
      printable_cells = All-cons (λ (p : ℕ × ColumnValue). All (IsPrintableCell torn p.1.delimiter) (column_cells torn p.0)) _ [] (All-cons (IsPrintableCell torn None) _ [] (printable, refl) (All-nil (IsPrintableCell torn None))) (All-nil (λ (p : ℕ × ColumnValue). All (IsPrintableCell torn p.1.delimiter) (column_cells torn p.0)));
      indicator_adds_one_column_each = All-every (λ (row : RowValue). All (AddsOneColumnEachWhereWritten torn row) (shown_infos (infos_of torn (1 ∷ [])))) (header_and_rows torn) (λ row. All-cons (AddsOneColumnEachWhereWritten torn row) _ [] (λ cell h found height cut. torn_is_even) (All-nil (AddsOneColumnEachWhereWritten torn row)));
    }
  where
    printable : All (λ line. is_printable_ascii line ≡ true) ((0x61 ∷ []) ∷ (0x61 ∷ []) ∷ [])
    printable =
        All-cons (λ line. is_printable_ascii line ≡ true) (0x61 ∷ []) ((0x61 ∷ []) ∷ []) refl (All-cons (λ line. is_printable_ascii line ≡ true) (0x61 ∷ []) [] refl (All-nil (λ line. is_printable_ascii line ≡ true)))

-- its only column has the width 1
torn_is_arranged : IsArranged torn (1 ∷ [])
unfolding wrapping chars
torn_is_arranged = record { one_for_each = refl; hidden_widths = refl; shown_widths = refl }

-- the indicator precedes the border
torn_lines : drawing (unstyled torn) (1 ∷ []) ≡ (0x61 ∷ 0xC3 ∷ 0xE2 ∷ 0x94 ∷ 0x82 ∷ []) ∷ []
unfolding wrapping chars
torn_lines = refl

-- the bytes of both are read as two characters
torn_counts : (count (0x61 ∷ 0xC3 ∷ 0xE2 ∷ 0x94 ∷ 0x82 ∷ []) ≡ 3) × (line_total torn (1 ∷ []) ≡ 2)
unfolding wrapping chars
torn_counts = (refl, refl)

-- its only line has three characters instead of two
torn_is_not_equal : ¬ (All (λ line. count line ≡ line_total torn (1 ∷ [])) (drawing (unstyled torn) (1 ∷ [])))
torn_is_not_equal equal =
    let each = All-head (λ line. count line ≡ line_total torn (1 ∷ [])) _ [] (subst (All (λ line. count line ≡ line_total torn (1 ∷ []))) torn_lines equal) in
    omega (arith, each, torn_counts.0, torn_counts.1)

-- ---- ESC in two bytes

abbrev overlong : TableValue
overlong = table_with None [] ((0xC0 ∷ 0x9B ∷ 0x5B ∷ 0x6D ∷ []) ∷ (0x61 ∷ []) ∷ [])

-- the head of the two bytes is read as ESC
overlong_lines : drawing (unstyled overlong) (3 ∷ []) ≡ (0x1B ∷ 0x5B ∷ 0x6D ∷ []) ∷ []
unfolding wrapping chars
overlong_lines = refl

-- no text line has the byte ESC
overlong_is_free : IsFreeOfEscapes overlong
overlong_is_free =
    record {
      text_lines =
          All-from_recursion (λ (p : ℕ × ColumnValue). All (λ (cell : CellValue). All HasNoEscape cell.text_lines) (column_cells overlong p.0)) (shown_columns overlong)
          (All-from_recursion (λ (cell : CellValue). All HasNoEscape cell.text_lines) (column_cells overlong 0) (lines, tt), tt);
      style = record { indicator = refl; characters = refl };
    }
  where
    lines : All HasNoEscape ((0xC0 ∷ 0x9B ∷ 0x5B ∷ 0x6D ∷ []) ∷ (0x61 ∷ []) ∷ [])
    lines =
        All-cons HasNoEscape (0xC0 ∷ 0x9B ∷ 0x5B ∷ 0x6D ∷ []) ((0x61 ∷ []) ∷ []) refl (All-cons HasNoEscape (0x61 ∷ []) [] refl (All-nil HasNoEscape))

-- the line is a sequence
overlong_shows_nothing : map visible_text (drawing overlong (3 ∷ [])) ≡ [] ∷ []
unfolding wrapping chars
overlong_shows_nothing = refl

-- its only line becomes a sequence, which is taken out
overlong_is_not_left : ¬ (map visible_text (drawing overlong (3 ∷ [])) ≡ drawing (unstyled overlong) (3 ∷ []))
overlong_is_not_left left =
    let same : [] ∷ [] ≡ (0x1B ∷ 0x5B ∷ 0x6D ∷ []) ∷ [] = sym overlong_shows_nothing ∙ left ∙ overlong_lines in
    cc same
