-- Bytes of a table of rows that break a promise to a caller in C.
use Rattle.std.proofs.Common.{◌≡◌, ◌==◌, ◌∙◌, ◌^◌, ◌-◌, ℕ, Bool, false, true, List, [], ◌∷◌, ◌++◌, None, Option, Some, append-nil, ap, arith, codes, inl, refl, reverse, slice_index_or, subst, sym}
use Rattle.std.specs.Fmt.{digits}
use Rattle.std.specs.List.{All, slice_split}
use Rattle.std.specs.Str.{NoCharPasses, chars, is_utf8}
use lib.Utf8.{encode}
use Rattle.std.proofs.lemmas.Bool.{or_parts}
use Rattle.std.proofs.lemmas.List.{reverse-append}
use Rattle.std.proofs.lemmas.List.Elements.{All-from_recursion, All-head, All-tail}
use Rattle.std.proofs.lemmas.Option.{same_Some}
use Rattle.std.proofs.lemmas.Str.{NoCharPasses-byte, is_utf8-from_IsUtf8}
use Rattle.comfy_parts.proofs.Computing.{wrapping}
use Rattle.comfy_parts.specs.Presets.{nothing as no_frame}
use Rattle.comfy_parts.specs.Text.{HasNo, Text, measure}
use Rattle.comfy_table.proofs.BreakLemmas.{terminated_lines}
use Rattle.comfy_table.specs.Drawing.{terminated_text_of}
use Rattle.comfy_table.specs.Laws.{AreLinesOf}
use Rattle.csv_promises.specs.Counted.{DrawsLines, HasEachLine}
use Rattle.csv_promises.specs.Width.{KeepsTo, frame_room, framed_columns_in}
use Rattle.csv_records.specs.Cleaning.{is_harmful}
use Rattle.csv_tables.specs.Drawn.{drawn_rows, note_for}
use Rattle.csv_tables.specs.declared.options.Expansion.TheVariants.{Never}
use Rattle.csv_tables.specs.declared.options.Layout.{Layout}
use Rattle.csv_tables.specs.declared.options.RowSeparators.TheVariants.{Styled}
use Rattle.csv_tables.specs.declared.selection.Noun.TheVariants.{Row}
use Rattle.promises.specs.Shown.{Shows, ShowsColumns}
use Rattle.promises.specs.Shown.Shows.{byte, nothing, sequence}
use Rattle.promises.specs.Tables.{HasCharactersWithin}
use Rattle.comfy_c.specs.Calls.{limit_of, width_of}
use Rattle.comfy_c.specs.Frames.{own_number}
use Rattle.comfy_c.specs.PromisedRows.{AreStraightLines, EachRowsLine, HasHarmlessFrame, HasOneColumnFrame, KeepTablePromises, KeepToWidth, ShowRows}
use Rattle.comfy_c.specs.Looks.{table_settings}
use Rattle.comfy_c.specs.RowCalls.{layout_for}
use Rattle.comfy_c.specs.declared.frame.ContentLineNumbers.{ContentLineNumbers}
use Rattle.comfy_c.specs.declared.frame.FrameNumbers.{FrameNumbers}
use Rattle.comfy_c.specs.declared.frame.LineNumbers.{LineNumbers}
use Rattle.comfy_c.specs.declared.rows_columns.RowsColumn.{RowsColumn}
use Rattle.comfy_c.specs.declared.rows_settings.RowsSettings.{RowsSettings}

-- ---- two rows of a text each without a frame, which takes five terminal columns at most

abbrev the_rows : List (List Text)
the_rows = (codes "a" ∷ []) ∷ (codes "b" ∷ []) ∷ []

abbrev no_line : LineNumbers
no_line = record { left = 0; fill = 0; junction = 0; right = 0 }

abbrev no_content_line : ContentLineNumbers
no_content_line = record { left = 0; junction = 0; right = 0 }

abbrev no_lines : FrameNumbers
no_lines = record { top_border = no_line; header_lines = no_content_line; header_separator = no_line; content_lines = no_content_line; row_separator = no_line; bottom_border = no_line }

-- settings with this width, and this limit of rows
abbrev settings : ℕ → ℕ → RowsSettings
settings width limit =
    record {
      max_height = 2 ^ 64 - 1;
      limit = limit;
      style = 12;
      width = width;
      fills_width = 0;
      row_lines = 0;
      expansion = 0;
      has_header = 0;
      has_bold_header = 0;
      is_numbered = 0;
      aligns_decimals = 0;
      has_sequences = 0;
      is_markdown = 0;
      frame = no_lines;
    }

-- the frame isn't the caller's own
no_own : (width limit : ℕ) → ¬ ((settings width limit).style ≡ own_number)
no_own width limit own = cc own

harmless : (width limit : ℕ) → HasHarmlessFrame (settings width limit)
harmless width limit own = absurd (no_own width limit own)

narrow : (width limit : ℕ) → HasOneColumnFrame (settings width limit)
narrow width limit own = absurd (no_own width limit own)

abbrev Drawn : ℕ → ℕ → Text → Type 0
Drawn width limit bytes = ShowRows (codes "ab") (1 ∷ 1 ∷ []) (1 ∷ 1 ∷ []) [] [] [] (settings width limit) bytes

abbrev the_layout : ℕ → ℕ → Layout
the_layout width limit =
    record {
      selection = record { has_header = false; limit = limit_of limit; is_numbered = false; noun = Row };
      columns = record { drawn = 0 ∷ []; right = []; left = [] };
      look =
          record {
            style = no_frame;
            separators = Styled;
            expansion = Never;
            width = width_of width;
            fills_width = false;
            max_height = None;
            has_bold_header = false;
            aligns_decimals = false;
            has_sequences = false;
            is_markdown = false;
          };
    }

abbrev all : ℕ
all = 2 ^ 64 - 1

abbrev no_width : ℕ
no_width = 65536

is_chosen : (width limit : ℕ) → layout_for (settings width limit) [] [] [] the_rows ≡ Some (the_layout width limit) → (bytes : Text) (is : Drawn width limit bytes) → is.layout ≡ the_layout width limit
is_chosen width limit chosen bytes is = same_Some _ _ (sym is.is_layout ∙ chosen)

are_narrow : All (All (HasCharactersWithin 1)) the_rows
unfolding wrapping encode
are_narrow =
    All-from_recursion (All (HasCharactersWithin 1)) the_rows
    (All-from_recursion (HasCharactersWithin 1) (codes "a" ∷ []) (refl, tt), (All-from_recursion (HasCharactersWithin 1) (codes "b" ∷ []) (refl, tt), tt))

-- all lines are drawn ones if no row is left out
drawn_lines : (P : Text → Type 0) (width : ℕ) (bytes : Text) → EachRowsLine P (the_layout width all) the_rows bytes → HasEachLine P bytes
drawn_lines P width bytes is =
    subst (HasEachLine P) (sym (is.joined ∙ append-nil is.drawn)) (subst (λ (b : Bool). DrawsLines P Row (drawn_rows (the_layout width all).selection the_rows) b is.count is.drawn) is.expansion is.draws)

-- the lines of a text are the parts between its line feeds
found : (text : Text) (lines : List Text) → AreLinesOf text lines → slice_split (λ b. b == 0x0A) text ≡ lines ++ [] ∷ []
found text lines are = ap (slice_split (λ b. b == 0x0A)) are.joined ∙ terminated_lines lines are.unbroken

one_line : (line : Text) (lines : List Text) → line ∷ [] ∷ [] ≡ lines ++ [] ∷ [] → lines ≡ line ∷ []
one_line line [] is = absurd (cc is)
one_line line (x ∷ []) is = cc is
one_line line (x ∷ y ∷ []) is = absurd (cc is)
one_line line (x ∷ y ∷ z ∷ more) is = absurd (cc is)

two_lines : (first second : Text) (lines : List Text) → first ∷ second ∷ [] ∷ [] ≡ lines ++ [] ∷ [] → lines ≡ first ∷ second ∷ []
two_lines first second [] is = absurd (cc is)
two_lines first second (x ∷ []) is = absurd (cc is)
two_lines first second (x ∷ y ∷ []) is = cc is
two_lines first second (x ∷ y ∷ z ∷ []) is = absurd (cc is)
two_lines first second (x ∷ y ∷ z ∷ t ∷ more) is = absurd (cc is)

-- a text without ESC is its own visible text
shows_itself : {text shown : Text} → Shows text shown → HasNo 0x1B text → shown ≡ text
shows_itself nothing none = refl
shows_itself (byte b text shown clear rest) none = ap (λ (t : Text). b ∷ t) (shows_itself rest (or_parts (b == 0x1B) _ none).1)
shows_itself (sequence code text shown passes rest) none = absurd (cc none)

-- it shows the terminal columns that it takes
shown_columns : (n : ℕ) (line : Text) → HasNo 0x1B line → ShowsColumns n line → n ≡ measure line
shown_columns n line clear shows = sym shows.2 ∙ ap measure (shows_itself shows.1 clear)

-- ---- bytes that don't show them

-- not UTF-8
-- false: comfy_c::drawn_rows
no_text : ¬ (Drawn no_width all (0xFF ∷ []))
unfolding chars is_utf8
no_text is = let wrong : false ≡ true = is_utf8-from_IsUtf8 (0xFF ∷ []) is.are_text in cc wrong

-- a control character
bell : ¬ (Drawn no_width all (0x07 ∷ []))
bell is =
    let own = (is.keep refl).harmless (harmless no_width all) in
    let none : NoCharPasses is_harmful (0x07 ∷ []) = subst (NoCharPasses is_harmful) (shows_itself own.shows refl) own.harmless in
    let isnt : is_harmful 0x07 ≡ false = NoCharPasses-byte is_harmful (0x07 ∷ []) 0 none (omega arith) (omega arith) in
    cc isnt

two_columns : measure (codes " a") ≡ 2
unfolding wrapping encode
two_columns = refl

three_columns : measure (codes " b ") ≡ 3
unfolding wrapping encode
three_columns = refl

-- a line that is one terminal column too short
uneven : ¬ (Drawn no_width all (codes " a\n b \n"))
uneven is =
    let kept = subst (λ (layout : Layout). AreStraightLines layout the_rows (codes " a\n b \n")) (is_chosen no_width all refl (codes " a\n b \n") is) ((is.keep refl).straight (harmless no_width all) (narrow no_width all)) (record { unmarked = refl; unkept = refl }) (inl (inl (inl are_narrow))) in
    let own = drawn_lines (ShowsColumns kept.0) no_width (codes " a\n b \n") kept.1 in
    let each : All (ShowsColumns kept.0) (codes " a" ∷ codes " b " ∷ []) = subst (All (ShowsColumns kept.0)) (two_lines (codes " a") (codes " b ") own.lines (found (codes " a\n b \n") own.lines own.are)) own.each in
    let first = shown_columns kept.0 (codes " a") refl (All-head (ShowsColumns kept.0) (codes " a") (codes " b " ∷ []) each) in
    let second = shown_columns kept.0 (codes " b ") refl (All-head (ShowsColumns kept.0) (codes " b ") [] (All-tail (ShowsColumns kept.0) (codes " a") (codes " b " ∷ []) each)) in
    absurd (omega (arith, first, second, two_columns, three_columns))

ten : measure (codes "0123456789") ≡ 10
unfolding wrapping encode
ten = refl

-- a line of ten terminal columns under a width of eight
too_wide : ¬ (Drawn 8 all (codes "0123456789\n"))
too_wide is =
    let P = KeepsTo 8 (frame_room (framed_columns_in (the_layout 8 all) the_rows)) false in
    let kept : EachRowsLine P (the_layout 8 all) the_rows (codes "0123456789\n") = subst (λ (layout : Layout). KeepToWidth layout the_rows (codes "0123456789\n")) (is_chosen 8 all refl (codes "0123456789\n") is) ((is.keep refl).width (harmless 8 all) (narrow 8 all)) 8 refl (record { unmarked = refl; unkept = refl }) (inl are_narrow) in
    let own = drawn_lines P 8 (codes "0123456789\n") kept in
    let line = All-head P (codes "0123456789") [] (subst (All P) (one_line (codes "0123456789") own.lines (found (codes "0123456789\n") own.lines own.are)) own.each) in
    let wide = shown_columns line.columns (codes "0123456789") refl line.shows in
    absurd (omega (arith, line.within, wide, ten))

-- a line that counts three rows of two
three_rows : ¬ (Drawn no_width 1 (codes " a \n1 of 3 rows\n"))
unfolding digits
three_rows is =
    let kept = subst (λ (layout : Layout). AreStraightLines layout the_rows (codes " a \n1 of 3 rows\n")) (is_chosen no_width 1 refl (codes " a \n1 of 3 rows\n") is) ((is.keep refl).straight (harmless no_width 1) (narrow no_width 1)) (record { unmarked = refl; unkept = refl }) (inl (inl (inl are_narrow))) in
    let noted = kept.1 in
    let made : codes " a \n1 of 3 rows\n" ≡ noted.drawn ++ note_for Row false (Some 1) (Some 2) = noted.joined ∙ ap (λ (count : Option ℕ). noted.drawn ++ note_for Row false (Some 1) count) noted.is_count in
    let letter : ◌≡◌ {A = ℕ} 0x33 0x32 = ap (λ (t : Text). slice_index_or t 6 0) (ap reverse made ∙ reverse-append noted.drawn (note_for Row false (Some 1) (Some 2))) in
    absurd (omega (arith, letter))

-- a line that calls rows records
called_records : ¬ (Drawn no_width 1 (codes " a \n1 of 2 records\n"))
unfolding digits
called_records is =
    let kept = subst (λ (layout : Layout). AreStraightLines layout the_rows (codes " a \n1 of 2 records\n")) (is_chosen no_width 1 refl (codes " a \n1 of 2 records\n") is) ((is.keep refl).straight (harmless no_width 1) (narrow no_width 1)) (record { unmarked = refl; unkept = refl }) (inl (inl (inl are_narrow))) in
    let noted = kept.1 in
    let made : codes " a \n1 of 2 records\n" ≡ noted.drawn ++ note_for Row false (Some 1) (Some 2) = noted.joined ∙ ap (λ (count : Option ℕ). noted.drawn ++ note_for Row false (Some 1) count) noted.is_count in
    let letter : ◌≡◌ {A = ℕ} 0x64 0x77 = ap (λ (t : Text). slice_index_or t 2 0) (ap reverse made ∙ reverse-append noted.drawn (note_for Row false (Some 1) (Some 2))) in
    absurd (omega (arith, letter))

-- ---- the same rows, in a column with paddings of two

abbrev wide_column : RowsColumn
wide_column = record { left_padding = 2; right_padding = 2; side = 0; least = 0; greatest = 0 }

abbrev Padded : ℕ → Text → Type 0
Padded limit bytes = ShowRows (codes "ab") (1 ∷ 1 ∷ []) (1 ∷ 1 ∷ []) [] [] (wide_column ∷ []) (settings no_width limit) bytes

padded_layout : (limit : ℕ) → layout_for (settings no_width limit) [] [] (wide_column ∷ []) the_rows ≡ Some (the_layout no_width limit) → (bytes : Text) (is : Padded limit bytes) → is.layout ≡ the_layout no_width limit
padded_layout limit chosen bytes is = same_Some _ _ (sym is.is_layout ∙ chosen)

-- a line that counts three rows of two
padded_three_rows : ¬ (Padded 1 (codes "  a  \n1 of 3 rows\n"))
unfolding digits
padded_three_rows is =
    let bytes = codes "  a  \n1 of 3 rows\n" in
    let own = table_settings false (1 ∷ 1 ∷ []) [] [] (wide_column ∷ []) in
    let kept = subst (λ (layout : Layout). KeepTablePromises own layout the_rows bytes) (padded_layout 1 refl bytes is) (is.keep_table refl (omega arith)) in
    let made : bytes ≡ terminated_text_of kept.lines ++ note_for Row false (Some 1) (Some 2) = kept.written in
    let letter : ◌≡◌ {A = ℕ} 0x33 0x32 = ap (λ (t : Text). slice_index_or t 6 0) (ap reverse made ∙ reverse-append (terminated_text_of kept.lines) (note_for Row false (Some 1) (Some 2))) in
    absurd (omega (arith, letter))

-- a line that calls rows records
padded_called_records : ¬ (Padded 1 (codes "  a  \n1 of 2 records\n"))
unfolding digits
padded_called_records is =
    let bytes = codes "  a  \n1 of 2 records\n" in
    let own = table_settings false (1 ∷ 1 ∷ []) [] [] (wide_column ∷ []) in
    let kept = subst (λ (layout : Layout). KeepTablePromises own layout the_rows bytes) (padded_layout 1 refl bytes is) (is.keep_table refl (omega arith)) in
    let made : bytes ≡ terminated_text_of kept.lines ++ note_for Row false (Some 1) (Some 2) = kept.written in
    let letter : ◌≡◌ {A = ℕ} 0x64 0x77 = ap (λ (t : Text). slice_index_or t 2 0) (ap reverse made ∙ reverse-append (terminated_text_of kept.lines) (note_for Row false (Some 1) (Some 2))) in
    absurd (omega (arith, letter))

-- lines of a table end with a line feed
last_is_feed : (lines : List Text) → slice_index_or (reverse (terminated_text_of lines)) 0 0x0A ≡ 0x0A
last_is_feed [] = refl
last_is_feed (line ∷ lines) =
    ap (λ (t : Text). slice_index_or t 0 0x0A) (reverse-append (line ++ 0x0A ∷ []) (terminated_text_of lines))
    ∙ by_rest (reverse (terminated_text_of lines)) (last_is_feed lines)
  where
    by_rest : (back : Text) → slice_index_or back 0 0x0A ≡ 0x0A → slice_index_or (back ++ reverse (line ++ 0x0A ∷ [])) 0 0x0A ≡ 0x0A
    by_rest [] is = ap (λ (t : Text). slice_index_or t 0 0x0A) (reverse-append line (0x0A ∷ []))
    by_rest (b ∷ back) is = is

-- a last line without its line feed
padded_unended : ¬ (Padded all (codes "  a  \n  b  "))
padded_unended is =
    let bytes = codes "  a  \n  b  " in
    let own = table_settings false (1 ∷ 1 ∷ []) [] [] (wide_column ∷ []) in
    let kept = subst (λ (layout : Layout). KeepTablePromises own layout the_rows bytes) (padded_layout all refl bytes is) (is.keep_table refl (omega arith)) in
    let made : bytes ≡ terminated_text_of kept.lines = kept.written ∙ append-nil (terminated_text_of kept.lines) in
    let space : ◌≡◌ {A = ℕ} 0x20 0x0A = ap (λ (t : Text). slice_index_or t 0 0x0A) (ap reverse made) ∙ last_is_feed kept.lines in
    absurd (omega (arith, space))
