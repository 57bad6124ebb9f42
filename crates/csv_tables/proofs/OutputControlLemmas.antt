-- Nothing harmful is visible of an output: its fields, its style, its indicator and its last line hold no control character, and none that turns the direction of text.
use Rattle.std.proofs.Common.{◌≡◌, ◌<◌, ◌==◌, ◌&&◌, ℕ, zero, suc, ◌+◌, Bool, true, false, List, [], ◌∷◌, ◌++◌, Contains, Option, Some, None, arith, codes, decimal, flat_map, length, refl, unwrap_or, sym, ap, ap₂, ◌∙◌, subst, tests, append_assoc, append-nil, zip}
use Rattle.std.proofs.lemmas.Bool.{and_parts, or_parts}
use Rattle.std.proofs.lemmas.List.Folds.{list_all-append, list_any_none}
use Rattle.std.proofs.lemmas.List.Elements.{All-cons, All-contains, All-from_recursion, All-head, All-map, All-nil, All-tail, All-weaker}
use Rattle.std.proofs.lemmas.Str.{IsUtf8-nil, NoCharPasses-append, NoCharPasses-nil, encode_ascii}
use Rattle.std.specs.Char.{is_control}
use Rattle.std.specs.Int.{is_in_range}
use Rattle.std.specs.List.{All, list_any, range_with_len, repeat}
use Rattle.std.specs.Prelude.{if◌then◌else◌}
use Rattle.std.specs.Str.{IsUtf8, NoCharPasses, NonePass}
use lib.Utf8.{encode}
use Rattle.comfy_parts.proofs.CallerLemmas.{All-every, All-of_map, IsUtf8-printable, Shows-byte, Shows-visible, every-first, none_by_characters, unlike}
use Rattle.comfy_parts.specs.CellValue.{CellValue, RowValue}
use Rattle.comfy_parts.specs.Columns.{style_characters}
use Rattle.comfy_parts.specs.Text.{Text, is_printable_ascii}
use Rattle.comfy_parts.specs.declared.style.table_style.TableStyle.{TableStyle}
use Rattle.comfy_parts.specs.VisibleText.{visible_text}
use Rattle.comfy_table.proofs.ControlLemmas.{free_of_escapes}
use Rattle.comfy_table.proofs.KeptDrawingLemmas.{keeps_drawing}
use Rattle.comfy_table.proofs.ShownTextLemmas.{drawn_of_shown, shown_of_all}
use Rattle.comfy_table.proofs.StyledLemmas.{KeptByDrawing}
use Rattle.comfy_table.proofs.TextKindLemmas.{character_kind, character_style}
use Rattle.comfy_table.proofs.MeasuredLemmas.{IsRowOf, row_measured}
use Rattle.comfy_table.specs.Drawing.{drawing, infos_of, terminated_text_of}
use Rattle.comfy_table.specs.Headline.{IsTableDrawing}
use Rattle.comfy_table.specs.Laws.{AreLinesOf, HasNoBreak, HasNoControl, IsFreeOfControls, IsStyleWithout, unstyled}
use Rattle.comfy_table.specs.TableValue.{TableValue, ellipsis, measured_rows, visible_cell}
use Rattle.csv.specs.Records.{AllText}
use Rattle.csv_tables.specs.declared.options.ColumnPlan.{ColumnPlan}
use Rattle.csv_tables.proofs.FieldControlLemmas.{field-harmless, text_fields, visible_whole}
use Rattle.csv_tables.proofs.TextLineLemmas.{lines_without_replaced}
use Rattle.csv_tables.proofs.WholeRowLemmas.{has_lines, text_whole}
use Rattle.csv_tables.specs.Cells.{field_text, text_in}
use Rattle.csv_records.specs.Cleaning.{is_harmful, is_replaced, turns_direction, visible_of}
use Rattle.csv_tables.specs.Controls.{HasNothingHarmful, IsHarmlessStyle}
use Rattle.csv_tables.specs.Markdown.{is_right, rule_line, rule_part}
use Rattle.comfy_parts.specs.declared.style.cell.CellAlignment.{CellAlignment}
use Rattle.csv_tables.specs.declared.options.Look.{Look}
use Rattle.csv_tables.specs.declared.options.Layout.{Layout}
use Rattle.csv_tables.proofs.BuiltLemmas.{Built, EachColumn, EachOf, EachShown, each_content, plain_table}
use Rattle.csv_tables.proofs.FieldLemmas.{IsShortPrintable, number_is_printable, printable_unbroken}
use Rattle.csv_tables.proofs.FittingLemmas.{text_drawn}
use Rattle.csv_tables.proofs.LineLemmas.{drawn, never_expanded, with_lines}
use Rattle.csv_tables.proofs.OutputLemmas.{each_markdown_line, markdown_unbroken}
use Rattle.csv_tables.proofs.SeparatorLemmas.{condensed-all, separated}
use Rattle.csv_tables.proofs.TextTableLemmas.{EachLine, MakesRows, cells_each, pair_each, rows_of_texts, table_of_texts}
use Rattle.csv_tables.proofs.WholeTableLemmas.{IsDrawn, drawn-is, drawn_plain, drawn_table-is, measured-drawn}
use Rattle.csv_tables.specs.Drawn.{SelectedValue, RendersAsMarkdown, RendersRecords, RendersAsTable, RendersContent, are_more, condensed_style, markdown_content, markdown_lines, markdown_look, markdown_rule, markdown_table, note_for, one_of, output_table, record_line, rows_table, separated_table, several_of, sides, is_aligned_in, note_text, record_heading}
use Rattle.csv_tables.specs.declared.selection.Noun.{Noun}
use Rattle.csv_tables.specs.declared.selection.Noun.TheVariants.{Record, Row}
use Rattle.csv_tables.specs.Laws.{HasLines, IsOutputWith}

-- ---- rows

-- no character of a text is replaced: none is a control character, and none turns the direction of text
abbrev pub HasNoneReplaced : Text → Type 0
HasNoneReplaced text = NoCharPasses is_replaced text

-- a text of UTF-8 in which no character is replaced
abbrev pub IsClearText : Text → Type 0
IsClearText text = IsUtf8 text × HasNoneReplaced text

-- the visible part of a text line is UTF-8, and no character of it is replaced
abbrev IsClearLine : Bool → Text → Type 0
IsClearLine keeps line = IsClearText (visible_of keeps line)

-- this holds for the visible part of each text line of a row
abbrev IsClearRow : Bool → RowValue → Type 0
IsClearRow keeps row = All (λ (cell : CellValue). All (IsClearLine keeps) cell.text_lines) row.cells

empty_line : (keeps : Bool) → IsClearLine keeps []
empty_line true = (IsUtf8-nil, NoCharPasses-nil is_replaced)
empty_line false = (IsUtf8-nil, NoCharPasses-nil is_replaced)

clear_rows : (look : Look) → MakesRows (IsClearLine look.has_sequences) (empty_line look.has_sequences) look (IsClearRow look.has_sequences)
clear_rows look =
    let keeps = look.has_sequences in
    record {
      header = λ shown each. cells_each (IsClearLine keeps) (empty_line keeps) look look.has_bold_header shown each;
      row = λ shown each. cells_each (IsClearLine keeps) (empty_line keeps) look false shown each;
      pair = λ name field own other. pair_each (IsClearLine keeps) (empty_line keeps) look name field own other;
    }

clear_field : (look : Look) (field : Text) → IsUtf8 field → EachLine (IsClearLine look.has_sequences) look field
clear_field look field utf8 =
    let whole = (has_lines (field_text look field) (text_whole look field utf8)).whole in
    let clear = lines_without_replaced look.has_sequences (field_text look field) (field-harmless look field utf8) in
    λ k default below. (visible_whole look.has_sequences _ (whole k default below), clear k default below)

clear_fields : (look : Look) (fields : List Text) → AllText fields → All (EachLine (IsClearLine look.has_sequences) look) fields
clear_fields look fields text = All-weaker IsUtf8 (EachLine (IsClearLine look.has_sequences) look) (clear_field look) fields (text_fields fields text)

-- such a row has no replaced character as it is measured
clear_measured : (keeps : Bool) (row : RowValue) → IsClearRow keeps row → IsRowOf IsClearText (row_measured keeps row)
clear_measured true row own =
    All-map (λ (cell : CellValue). All IsClearText cell.text_lines) visible_cell row.cells
    (All-weaker (λ (cell : CellValue). All (IsClearLine true) cell.text_lines) (λ (cell : CellValue). All IsClearText (visible_cell cell).text_lines) (λ cell. All-map IsClearText visible_text cell.text_lines) row.cells own)
clear_measured false row own = own

-- ---- the table

none_each : (p : Option ℕ → Bool) (cs : List (Option ℕ)) → list_any p cs ≡ false → All (λ c. p c ≡ false) cs
none_each p [] none = All-nil (λ c. p c ≡ false)
none_each p (c ∷ cs) none =
    let each = or_parts (p c) (list_any p cs) none in
    All-cons (λ x. p x ≡ false) c cs each.0 (none_each p cs each.1)

condensed_without : (style : TableStyle) → IsHarmlessStyle style → IsHarmlessStyle (condensed_style style)
condensed_without style none =
    let p = λ (c : Option ℕ). is_replaced (unwrap_or c 0x20) in
    list_any_none p (style_characters (condensed_style style)) (condensed-all (λ c. p c ≡ false) refl style (none_each p (style_characters style) none))

ellipsis_is_plain : HasNoneReplaced ellipsis
unfolding encode
ellipsis_is_plain = (0x2026 ∷ [], refl, (refl, tt))

-- a style without control characters has no line feed
pub unbroken_without : (style : TableStyle) → IsHarmlessStyle style → IsStyleWithout 0x0A style
unbroken_without style none =
    list_any_none (λ (c : Option ℕ). unwrap_or c 0x20 == 0x0A) (style_characters style)
    (All-weaker (λ (c : Option ℕ). is_replaced (unwrap_or c 0x20) ≡ false) (λ (c : Option ℕ). (unwrap_or c 0x20 == 0x0A) ≡ false)
    (λ c fails. unlike is_replaced (unwrap_or c 0x20) 0x0A refl (λ _. fails)) (style_characters style)
    (none_each (λ c. is_replaced (unwrap_or c 0x20)) (style_characters style) none))

separated_without : (has : Bool) (look : Look) → IsHarmlessStyle look.style → IsHarmlessStyle (separated has look).style
separated_without true look is = is
separated_without false look is = condensed_without look.style is

-- ---- tables without replaced characters

-- no replaced character is visible in the texts of the table, and none is in its indicator and style
pub record IsHarmlessTable (table : TableValue) : Type 0 where
  pub rows : All (IsRowOf IsClearText) (measured_rows table)
  pub indicator : HasNoneReplaced table.indicator
  pub style : IsHarmlessStyle table.style

each_row : (P Q : Text → Type 0) → ((text : Text) → P text → Q text) → (rows : List RowValue) → All (IsRowOf P) rows → All (IsRowOf Q) rows
each_row P Q weaker rows own = All-weaker (IsRowOf P) (IsRowOf Q) (λ row cells. All-weaker (λ (cell : CellValue). All P cell.text_lines) (λ (cell : CellValue). All Q cell.text_lines) (λ cell lines. All-weaker P Q weaker cell.text_lines lines) row.cells cells) rows own

-- a text without replaced characters has no control characters
pub no_controls : (text : Text) → HasNoneReplaced text → HasNoControl text
no_controls text none = (none.0, none.1, unreplaced none.0 none.2)
  where
    unreplaced : (cs : List ℕ) → NonePass is_replaced cs → NonePass is_control cs
    unreplaced [] none = tt
    unreplaced (c ∷ cs) (own, more) = ((or_parts (is_control c) (turns_direction c) own).0, unreplaced cs more)

pub style_without_controls : (style : TableStyle) → IsHarmlessStyle style → list_any (λ (c : Option ℕ). is_control (unwrap_or c 0x20)) (style_characters style) ≡ false
style_without_controls style none =
    list_any_none (λ (c : Option ℕ). is_control (unwrap_or c 0x20)) (style_characters style)
    (All-weaker (λ (c : Option ℕ). is_replaced (unwrap_or c 0x20) ≡ false) (λ (c : Option ℕ). is_control (unwrap_or c 0x20) ≡ false)
    (λ c fails. (or_parts (is_control (unwrap_or c 0x20)) (turns_direction (unwrap_or c 0x20)) fails).0) (style_characters style)
    (none_each (λ c. is_replaced (unwrap_or c 0x20)) (style_characters style) none))

free_of_controls : (table : TableValue) → IsHarmlessTable table → IsFreeOfControls table
free_of_controls table is =
    record {
      text_lines = shown_of_all HasNoControl table (each_row IsClearText HasNoControl (λ text own. no_controls text own.1) (measured_rows table) is.rows);
      indicator = no_controls table.indicator is.indicator;
      characters = style_without_controls table.style is.style;
    }

-- the visible part of a text without replaced characters has none, however it is drawn
replaced_kept : KeptByDrawing HasNoneReplaced (λ shown text. HasNoneReplaced shown)
replaced_kept =
    record {
      joins = record { kind = character_kind is_replaced refl; of_kind = λ text none. none; of_both = λ shown others xs ys. NoCharPasses-append is_replaced shown others };
      of_sequence = λ code all. NoCharPasses-nil is_replaced;
      of_measured = λ text none. none;
      of_closed = λ text none. none;
    }

-- a line that is drawn without styling has none
pub unstyled_lines : (table : TableValue) (widths : List ℕ) → length widths ≡ length table.columns → IsHarmlessTable table → All HasNoneReplaced (drawing (unstyled table) widths)
unstyled_lines table widths long is =
    All-from_recursion HasNoneReplaced (drawing (unstyled table) widths)
    (every-first HasNoneReplaced (drawing (unstyled table) widths) (drawing table widths)
    (keeps_drawing HasNoneReplaced (λ shown text. HasNoneReplaced shown) replaced_kept table (infos_of table widths) is.indicator (character_style is_replaced table.style is.style)
    (each_row IsClearText IsUtf8 (λ text own. own.0) (measured_rows table) is.rows)
    (drawn_of_shown HasNoneReplaced table widths long (shown_of_all HasNoneReplaced table (each_row IsClearText HasNoneReplaced (λ text own. own.1) (measured_rows table) is.rows)))))

-- in a line that is drawn with styling, none is visible
pub harmless_lines : (table : TableValue) (lines : List Text) → IsTableDrawing table lines → IsHarmlessTable table → All (λ (line : Text). HasNoneReplaced (visible_text line)) lines
harmless_lines table lines drawn is =
    All-of_map HasNoneReplaced visible_text lines
    (subst (All HasNoneReplaced) (sym (drawn.sequences.without_sequences (free_of_escapes table (free_of_controls table is)))) (unstyled_lines table drawn.widths drawn.arranged.one_for_each is))

module _ (look : Look) (is : IsHarmlessStyle look.style) (content : SelectedValue) (text : EachOf AllText content) where
  harmless : (table : TableValue) → IsDrawn look (IsClearRow look.has_sequences) content table → IsHarmlessTable table
  harmless table known =
      record {
        rows = measured-drawn look (IsClearRow look.has_sequences) content table known (IsRowOf IsClearText) (clear_measured look.has_sequences);
        indicator = subst HasNoneReplaced (sym (ap (λ (t : TableValue). t.indicator) (drawn-is look (IsClearRow look.has_sequences) content table known))) ellipsis_is_plain;
        style = subst IsHarmlessStyle (sym (ap (λ (t : TableValue). t.style) (drawn-is look (IsClearRow look.has_sequences) content table known))) is;
      }

  each : (is_aligned : Bool) → EachShown (EachLine (IsClearLine look.has_sequences) look) look is_aligned content
  each is_aligned =
      record {
        fields =
            record {
              names = λ names at. clear_fields look names (text.names names at);
              rows = All-weaker AllText (All (EachLine (IsClearLine look.has_sequences) look)) (clear_fields look) content.rows text.rows;
            };
        shown =
            All-weaker AllText (EachColumn (EachLine (IsClearLine look.has_sequences) look) look is_aligned content.columns)
            (λ fields own. All-every (λ (column : ColumnPlan). EachLine (IsClearLine look.has_sequences) look (text_in look is_aligned column fields)) content.columns
            (λ column. clear_field look (text_in look is_aligned column fields) (text_drawn look is_aligned column fields (text_fields fields own)))) content.rows text.rows;
      }

  clear_short : (text : Text) → IsShortPrintable 64 text → EachLine (IsClearLine look.has_sequences) look text
  clear_short text short = clear_field look text (IsUtf8-printable text short.0)

  pub harmless_rows : IsHarmlessTable (rows_table look false content)
  harmless_rows = harmless (rows_table look false content) (drawn_plain look (IsClearRow look.has_sequences) content (rows_table look false content) (rows_of_texts (IsClearLine look.has_sequences) (empty_line look.has_sequences) look clear_short (IsClearRow look.has_sequences) (clear_rows look) content false (each false)))

  built_output : (is_expanded is_aligned : Bool) → Built look (IsClearRow look.has_sequences) content (plain_table is_expanded is_aligned look content)
  built_output is_expanded is_aligned =
      table_of_texts (IsClearLine look.has_sequences) (empty_line look.has_sequences) look clear_short (IsClearRow look.has_sequences) (clear_rows look) content is_aligned (each is_aligned) is_expanded

pub harmless_table : (look : Look) → IsHarmlessStyle look.style → (content : SelectedValue) → EachOf AllText content → (is_expanded has : Bool) → IsHarmlessTable (separated_table has (output_table is_expanded look content))
harmless_table look is content text is_expanded has =
    let own = separated has look in
    let clear = separated_without has look is in
    let known = drawn_table-is look (IsClearRow own.has_sequences) content is_expanded has (built_output own clear content text is_expanded (is_aligned_in look content)) in
    harmless own clear content text (separated_table has (output_table is_expanded look content)) known

pub free_output : (look : Look) → IsHarmlessStyle look.style → (content : SelectedValue) → EachOf AllText content → (is_expanded has : Bool) → IsFreeOfControls (separated_table has (output_table is_expanded look content))
free_output look is content text is_expanded has = free_of_controls _ (harmless_table look is content text is_expanded has)

-- ---- lines of our own

-- printable ASCII is ASCII, is never replaced, and isn't ESC
printable_is_plain : (c : ℕ) → is_in_range 0x20 0x7E c ≡ true → (c < 128) × (is_replaced c ≡ false) × ((c == 0x1B) ≡ false)
printable_is_plain c is = (grind (arith, tests), grind (arith, tests), grind (arith, tests))

pub printable_is_clear : (text : Text) → is_printable_ascii text ≡ true → HasNoneReplaced text
printable_is_clear [] all = NoCharPasses-nil is_replaced
printable_is_clear (c ∷ cs) all =
    let both = and_parts (is_in_range 0x20 0x7E c) (is_printable_ascii cs) all in
    let own = printable_is_plain c both.0 in
    NoCharPasses-append is_replaced (c ∷ []) cs (c ∷ [], append-nil _ ∙ encode_ascii c own.0, (own.1, tt)) (printable_is_clear cs both.1)

-- printable ASCII is visible unchanged
shown_before : (text rest : Text) → is_printable_ascii text ≡ true → visible_text (text ++ rest) ≡ text ++ visible_text rest
shown_before [] rest all = refl
shown_before (c ∷ cs) rest all =
    let both = and_parts (is_in_range 0x20 0x7E c) (is_printable_ascii cs) all in
    (Shows-byte c (printable_is_plain c both.0).2).shows (cs ++ rest) ∙ ap (λ (t : Text). c ∷ t) (shown_before cs rest both.1)

pub printable_is_seen : (text : Text) → is_printable_ascii text ≡ true → visible_text text ≡ text
printable_is_seen text all = ap visible_text (sym (append-nil text)) ∙ shown_before text [] all ∙ append-nil text

both_printable : (xs ys : Text) → is_printable_ascii xs ≡ true → is_printable_ascii ys ≡ true → is_printable_ascii (xs ++ ys) ≡ true
both_printable xs ys one other = list_all-append (is_in_range 0x20 0x7E) xs ys ∙ ap₂ (λ a b. a && b) one other

one_is_printable : (noun : Noun) → is_printable_ascii (one_of noun) ≡ true
one_is_printable Record = refl
one_is_printable Row = refl

several_is_printable : (noun : Noun) → is_printable_ascii (several_of noun) ≡ true
several_is_printable Record = refl
several_is_printable Row = refl

pub heading_is_printable : (noun : Noun) (n : ℕ) (m : Option ℕ) → is_printable_ascii (record_heading noun n m) ≡ true
heading_is_printable noun n m = by_count m
  where
    word : Text
    word = one_of noun ++ codes " "

    front : is_printable_ascii (word ++ decimal n) ≡ true
    front = both_printable word (decimal n) (both_printable (one_of noun) (codes " ") (one_is_printable noun) refl) (number_is_printable n)

    by_count : (m : Option ℕ) → is_printable_ascii (record_heading noun n m) ≡ true
    by_count None = front
    by_count (Some m) =
        both_printable ((word ++ decimal n) ++ codes " of ") (decimal m)
        (both_printable (word ++ decimal n) (codes " of ") front refl) (number_is_printable m)

pub note_is_printable : (noun : Noun) (n : ℕ) (m : Option ℕ) → is_printable_ascii (note_text noun n m) ≡ true
note_is_printable noun n None = by_noun (n == 1)
  where
    front : Text
    front = (codes "first " ++ decimal n) ++ codes " "

    first : is_printable_ascii front ≡ true
    first = both_printable (codes "first " ++ decimal n) (codes " ") (both_printable (codes "first ") (decimal n) refl (number_is_printable n)) refl

    by_noun : (b : Bool) → is_printable_ascii ((front ++ (if b then one_of noun else several_of noun)) ++ codes "; there are more") ≡ true
    by_noun true = both_printable (front ++ one_of noun) (codes "; there are more") (both_printable front (one_of noun) first (one_is_printable noun)) refl
    by_noun false = both_printable (front ++ several_of noun) (codes "; there are more") (both_printable front (several_of noun) first (several_is_printable noun)) refl
note_is_printable noun n (Some m) =
    both_printable (((decimal n ++ codes " of ") ++ decimal m) ++ codes " ") (several_of noun)
    (both_printable ((decimal n ++ codes " of ") ++ decimal m) (codes " ")
    (both_printable (decimal n ++ codes " of ") (decimal m) (both_printable (decimal n) (codes " of ") (number_is_printable n) refl) (number_is_printable m)) refl)
    (several_is_printable noun)

-- ---- outputs of good lines

-- G holds for a text whose lines have L and end with line feeds, and L holds for printable lines
pub record IsOfLines (L G : Text → Type 0) : Type 0 where
  pub nothing : G []
  pub before : (line rest : Text) → L line → G rest → G (line ++ 0x0A ∷ rest)
  pub printable : (line : Text) → is_printable_ascii line ≡ true → L line

module _ (L G : Text → Type 0) (good : IsOfLines L G) where
  after_lines : (lines : List Text) (rest : Text) → All L lines → G rest → G (terminated_text_of lines ++ rest)
  after_lines [] rest none more = more
  after_lines (line ∷ lines) rest none more =
      let joined : (line ++ 0x0A ∷ []) ++ (terminated_text_of lines ++ rest) ≡ line ++ 0x0A ∷ (terminated_text_of lines ++ rest) = append_assoc line (0x0A ∷ []) (terminated_text_of lines ++ rest) in
      subst G (sym (append_assoc (line ++ 0x0A ∷ []) (terminated_text_of lines) rest ∙ joined))
      (good.before line (terminated_text_of lines ++ rest) (All-head L line lines none) (after_lines lines rest (All-tail L line lines none) more))

  after_record_line : (noun : Noun) (n : ℕ) (m : Option ℕ) (rest : Text) → G rest → G (record_line noun n m ++ rest)
  after_record_line noun n m rest more =
      let line = record_heading noun n m in
      subst G (sym (append_assoc line (codes "\n") rest)) (good.before line rest (good.printable line (heading_is_printable noun n m)) more)

  -- the note about records that aren't drawn
  note_is_good : (noun : Noun) (is_markdown : Bool) (limit : Option ℕ) (count : Option ℕ) → G (note_for noun is_markdown limit count)
  note_is_good noun is_markdown None count = good.nothing
  note_is_good noun is_markdown (Some limit) count = by_test (are_more limit count)
    where
      note : Text
      note = note_text noun limit count ++ codes "\n"

      seen : G note
      seen = good.before (note_text noun limit count) [] (good.printable (note_text noun limit count) (note_is_printable noun limit count)) good.nothing

      by_markdown : (b : Bool) → G ((if b then codes "\n" else []) ++ note)
      by_markdown true = good.before [] note (good.printable [] refl) seen
      by_markdown false = seen

      by_test : (b : Bool) → G (if b then (if is_markdown then codes "\n" else []) ++ note else [])
      by_test true = by_markdown is_markdown
      by_test false = good.nothing

  -- G holds for a text of lines for which L holds, followed by a text for which G holds
  after_text : (is_expanded : Bool) (content : SelectedValue) (lines : List Text) (text rest : Text) → HasLines is_expanded content lines text → All L lines → G rest → G (text ++ rest)
  after_text false content lines text rest are none more = subst (λ (t : Text). G (t ++ rest)) (sym are.joined) (after_lines lines rest none more)
  after_text true content lines text rest (parts, within, unbroken, is) none more =
      subst (λ (t : Text). G (t ++ rest)) (sym is) (records (range_with_len 0 (length content.rows)))
    where
      one : ℕ → Text
      one at = record_line content.noun (at + 1) content.count ++ terminated_text_of (parts at)

      records : (places : List ℕ) → G (flat_map one places ++ rest)
      records [] = more
      records (at ∷ places) =
          let line = record_line content.noun (at + 1) content.count in
          let part = terminated_text_of (parts at) in
          subst G (sym (append_assoc (one at) (flat_map one places) rest ∙ append_assoc line part (flat_map one places ++ rest)))
          (after_record_line content.noun (at + 1) content.count (part ++ (flat_map one places ++ rest))
          (after_lines (parts at) (flat_map one places ++ rest) (All-weaker (Contains lines) L (λ l in_lines. All-contains L lines l none in_lines) (parts at) (within at)) (records places)))

  -- G holds for an output of lines for which L holds
  pub output_of_lines : (counted : Option ℕ) (layout : Layout) (records : List (List Text)) (output : Text) (lines : List Text) → IsOutputWith counted layout records output lines → All L lines → G output
  output_of_lines counted layout records output lines made none =
      subst G (sym made.joined)
      (after_text made.is_expanded made.content lines made.text _ made.has_lines none (note_is_good made.content.noun layout.look.is_markdown layout.selection.limit made.content.count))

-- ---- lines without replaced characters

abbrev IsClear : Text → Type 0
IsClear line = HasNoneReplaced (visible_text line)

weaker : (cs : List ℕ) → NonePass is_replaced cs → NonePass is_harmful cs
weaker [] none = tt
weaker (c ∷ cs) (own, more) = (rw own refl, weaker cs more)

pub line_feed : HasNothingHarmful (0x0A ∷ [])
unfolding encode
line_feed = (0x0A ∷ [], refl, (refl, tt))

-- a line without replaced characters, a line feed, and the text after them
pub harmless_before : (line rest : Text) → HasNoneReplaced line → HasNothingHarmful rest → HasNothingHarmful (line ++ 0x0A ∷ rest)
harmless_before line rest none more =
    NoCharPasses-append is_harmful line (0x0A ∷ rest) (none.0, none.1, weaker none.0 none.2) (NoCharPasses-append is_harmful (0x0A ∷ []) rest line_feed more)

clear_of_lines : IsOfLines IsClear (λ (text : Text). HasNothingHarmful (visible_text text))
clear_of_lines =
    record {
      nothing = NoCharPasses-nil is_harmful;
      before = λ line rest none more.
          let clear = none_by_characters is_replaced 0x1B (omega arith) refl (visible_text line) none in
          let shown : visible_text (line ++ 0x0A ∷ rest) ≡ visible_text line ++ 0x0A ∷ visible_text rest =
          (Shows-visible line clear).shows (0x0A ∷ rest) ∙ ap (λ (t : Text). visible_text line ++ t) ((Shows-byte 0x0A refl).shows rest) in
          subst HasNothingHarmful (sym shown) (harmless_before (visible_text line) (visible_text rest) none more);
      printable = λ line all. subst HasNoneReplaced (sym (printable_is_seen line all)) (printable_is_clear line all);
    }

-- the line below a header for Markdown is printable ASCII
part_is_printable : (column : Option CellAlignment) (width : ℕ) → is_printable_ascii (rule_part (column, width)) ≡ true
part_is_printable column width = both_printable (repeat (width + 1) (codes "-")) _ (dashes (width + 1)) (by_side (is_right column))
  where
    dashes : (n : ℕ) → is_printable_ascii (repeat n (codes "-")) ≡ true
    dashes zero = refl
    dashes (suc n) = dashes n

    by_side : (b : Bool) → is_printable_ascii (if b then codes ":|" else codes "-|") ≡ true
    by_side true = refl
    by_side false = refl

pub rule_is_printable : (columns : List (Option CellAlignment)) (widths : List ℕ) → is_printable_ascii (rule_line columns widths) ≡ true
rule_is_printable columns widths = parts columns widths
  where
    parts : (columns : List (Option CellAlignment)) (widths : List ℕ) → is_printable_ascii (flat_map rule_part (zip columns widths)) ≡ true
    parts [] widths = refl
    parts (column ∷ columns) [] = refl
    parts (column ∷ columns) (width ∷ widths) = both_printable (rule_part (column, width)) (flat_map rule_part (zip columns widths)) (part_is_printable column width) (parts columns widths)

-- no replaced character is visible in that line
pub rule_is_clear : (columns : List (Option CellAlignment)) (widths : List ℕ) → HasNoneReplaced (visible_text (rule_line columns widths))
rule_is_clear columns widths =
    let printable = rule_is_printable columns widths in
    subst HasNoneReplaced (sym (printable_is_seen (rule_line columns widths) printable)) (printable_is_clear (rule_line columns widths) printable)

-- the lines of a text for Markdown
pub markdown_lines_of : (look : Look) (content : SelectedValue) (text : Text) (drawn : RendersAsMarkdown look content text)
    → AreLinesOf text (markdown_lines (markdown_rule look content) drawn.arranged)
markdown_lines_of look content text drawn =
    record {
      joined = drawn.is;
      unbroken = each_markdown_line HasNoBreak look content drawn.arranged (markdown_rule look content) drawn.is_arranged (drawn.is_arranged.headline.controls.without_breaks (markdown_unbroken look content))
          (λ some. printable_unbroken (markdown_rule look content) (rule_is_printable (sides content) _));
    }

-- the drawn records have names, which may be blank
pub titled : (content : SelectedValue) → EachOf AllText content → EachOf AllText (markdown_content content)
unfolding AllText
titled content own = record { names = λ names is. by_names content.names own.names names is; rows = own.rows }
  where
    by_names : (known : Option (List Text)) → ((n : List Text) → known ≡ Some n → AllText n) → (names : List Text) → Some (unwrap_or known []) ≡ Some names → AllText names
    by_names None own names is = let same : [] ≡ names = cc is in subst AllText same tt
    by_names (Some n) own names is = let same : n ≡ names = cc is in subst AllText same (own n refl)

-- the table for Markdown has no visible replaced characters
pub harmless_markdown : (look : Look) (content : SelectedValue) → EachOf AllText content → IsHarmlessTable (markdown_table look content)
harmless_markdown look content text = harmless_rows (markdown_look look) refl (markdown_content content) (titled content text)

pub free_markdown : (look : Look) (content : SelectedValue) → EachOf AllText content → IsFreeOfControls (markdown_table look content)
free_markdown look content text = free_of_controls (markdown_table look content) (harmless_markdown look content text)

markdown_is_clear : (counted : Option ℕ) (layout : Layout) (records : List (List Text)) (output : Text) → IsHarmlessStyle layout.look.style → All AllText records → (made : RendersRecords counted layout records output) → RendersAsMarkdown layout.look made.content made.text → layout.look.is_markdown ≡ true → HasNothingHarmful (visible_text output)
markdown_is_clear counted layout records output look text made drawn is =
    let rule = markdown_rule layout.look made.content in
    let own = each_content AllText counted layout records made.content made.is_content text in
    output_of_lines IsClear (λ (text : Text). HasNothingHarmful (visible_text text)) clear_of_lines counted layout records output (markdown_lines rule drawn.arranged) (record { content = made.content; is_content = made.is_content; is_expanded = false; expansion = never_expanded layout.look made.content is; text = made.text; has_lines = markdown_lines_of layout.look made.content made.text drawn; joined = made.joined })
    (each_markdown_line IsClear layout.look made.content drawn.arranged rule drawn.is_arranged (harmless_lines (markdown_table layout.look made.content) _ drawn.is_arranged.headline (harmless_markdown layout.look made.content own))
    (λ some. rule_is_clear (sides made.content) _))

table_is_clear : (counted : Option ℕ) (layout : Layout) (records : List (List Text)) (output : Text) → IsHarmlessStyle layout.look.style → All AllText records → (made : RendersRecords counted layout records output) → RendersAsTable layout.look made.content made.text → layout.look.is_markdown ≡ false → HasNothingHarmful (visible_text output)
table_is_clear counted layout records output look text made drawn_text none =
    let has = drawn_text.drawn.has_separators in
    let own = each_content AllText counted layout records made.content made.is_content text in
    output_of_lines IsClear (λ (text : Text). HasNothingHarmful (visible_text text)) clear_of_lines counted layout records output (drawn counted layout records output made drawn_text none) (with_lines counted layout records output made drawn_text none (unbroken_without layout.look.style look))
    (harmless_lines (separated_table has (output_table drawn_text.is_expanded layout.look made.content)) _ drawn_text.drawn.is_arranged.headline (harmless_table layout.look look made.content own drawn_text.is_expanded has))

-- no harmful character is visible in an output for records of UTF-8
pub output_without_controls : (counted : Option ℕ) (layout : Layout) (records : List (List Text)) (output : Text) → IsHarmlessStyle layout.look.style → All AllText records → RendersRecords counted layout records output → HasNothingHarmful (visible_text output)
output_without_controls counted layout records output look text made = by_markdown layout.look.is_markdown refl made.is_text
  where
    by_markdown : (b : Bool) → layout.look.is_markdown ≡ b → RendersContent b layout.look made.content made.text → HasNothingHarmful (visible_text output)
    by_markdown true is drawn = markdown_is_clear counted layout records output look text made drawn is
    by_markdown false none drawn = table_is_clear counted layout records output look text made drawn none
