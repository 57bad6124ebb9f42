-- An output sends a terminal only text, and, without colours of fields, only the sequences of bold.
use Rattle.std.proofs.Common.{◌≡◌, ◌⊎◌, ◌≤◌, ◌||◌, ◌==◌, inl, inr, append_assoc, ℕ, Bool, true, false, List, [], ◌∷◌, ◌++◌, Option, Some, None, append-nil, arith, codes, length, refl, suc, sym, unwrap_or, ap, ◌∙◌, subst}
use Rattle.std.specs.List.{All, AllZip}
use Rattle.std.specs.Prelude.{option_to_list}
use Rattle.std.proofs.lemmas.List.Elements.{All-append, All-cons, All-head, All-map, All-nil, All-tail, All-weaker}
use Rattle.std.proofs.lemmas.List.Folds.{list_any_none}
use Rattle.std.proofs.lemmas.Str.{NoCharPasses-nil}
use Rattle.comfy_parts.proofs.CallerLemmas.{All-every, All-none, HasNo-parts, none-after, opens-clear, unlike, Shows, Shows-append, Shows-clear, Shows-nil, Shows-sequence, none_by_characters, visible_text-is}
use Rattle.comfy_parts.specs.CellValue.{CellValue, ColumnValue, RowValue}
use Rattle.comfy_parts.specs.Columns.{style_characters}
use Rattle.comfy_parts.specs.declared.style.table_style.TableStyle.{TableStyle}
use Rattle.comfy_parts.specs.Text.{HasNo, Text}
use Rattle.comfy_parts.specs.VisibleText.{visible_text}
use Rattle.comfy_table.specs.Drawing.{drawing, drawing_of_infos}
use Rattle.comfy_table.specs.Headline.{IsTableDrawing}
use Rattle.comfy_table.specs.Laws.{EndsItsStyling, HasNoBreak, HasNoEscape, HasSequencesInTextsAlone, IsStyleWithout, LeavesNoneOpen, unstyled}
use Rattle.comfy_table.specs.TableValue.{TableValue, header_and_rows, column_cells, is_tty, max_content_widths, measured_table, should_style, shown_columns}
use Rattle.csv.specs.Records.{AllText}
use Rattle.csv_command.specs.Arguments.{IsParsed}
use Rattle.csv_command.specs.Drawn.{IsDrawnOf, RendersChosen, RendersCounted, layout_with}
use Rattle.csv_command.specs.declared.arguments.Invocation.{Invocation}
use Rattle.csv_command.specs.declared.arguments.Options.{Options}
use Rattle.csv_command.specs.declared.arguments.OutputContext.{OutputContext}
use Rattle.csv_command.proofs.StyleLemmas.{parsed_style_without_controls}
use Rattle.csv_records.specs.Cleaning.{is_harmful, is_replaced}
use Rattle.csv_tables.proofs.BuiltLemmas.{Built, EachOf, built, each_content, plain_table}
use Rattle.csv_tables.proofs.FieldLemmas.{printable_unbroken}
use Rattle.csv_tables.proofs.LineLemmas.{any_built, drawn, drawn_table, is_table_text, kept_setting, never_expanded, unbroken, with_lines}
use Rattle.csv_tables.proofs.OutputControlLemmas.{HasNoneReplaced, IsOfLines, harmless_before, harmless_markdown, harmless_table, markdown_lines_of, output_of_lines, output_without_controls, printable_is_clear, rule_is_printable, unbroken_without, unstyled_lines}
use Rattle.csv_tables.proofs.OutputLemmas.{each_markdown_line}
use Rattle.csv_tables.proofs.SeparatorLemmas.{separated}
use Rattle.csv_tables.proofs.WholeColumnLemmas.{IsPaddedColumn}
use Rattle.csv_tables.proofs.WholeTableLemmas.{IsDrawn, columns-drawn, drawn-is, drawn_table-is}
use Rattle.csv_tables.specs.Cells.{Shown, cell_for, cells_for, counted_from, held, pair_for, row_for, with_weight}
use Rattle.csv_tables.specs.Columns.{name_at}
use Rattle.csv_tables.specs.Fields.{field_or_blank}
use Rattle.csv_tables.specs.declared.options.ColumnPlan.{ColumnPlan}
use Rattle.csv_tables.specs.Controls.{HasNothingHarmful, IsHarmlessStyle}
use Rattle.csv_tables.specs.Drawn.{SelectedValue, RendersAsMarkdown, RendersAsTable, RendersContent, RendersRecords, count_below, empty_table, is_aligned_in, markdown_content, markdown_lines, markdown_look, markdown_rule, markdown_table, output_table, pairs_in, separated_table, sides}
use Rattle.csv_tables.specs.declared.options.Layout.{Layout}
use Rattle.csv_tables.specs.declared.options.Look.{Look}
use Rattle.promises.proofs.PieceLemmas.{measured-plain, plainly}
use Rattle.promises.proofs.ShownLemmas.{shows_visible}
use Rattle.csv_promises.proofs.BoldLemmas.{IsWeighted, bold_both, bold_same, weighted_lines}
use Rattle.csv_promises.specs.Counted.{HasEachLine}
use Rattle.csv_promises.specs.Harmless.{IsHarmlessFor, IsInBold}
use Rattle.csv_promises.specs.Harmless.IsInBold.{nothing, plain, bold}

-- ---- what is shown of a text with parts in bold

shows_bold : {line styled : Text} → IsInBold line styled → HasNo 0x1B line → Shows line styled
shows_bold nothing clear = Shows-nil
shows_bold (plain part line styled own) clear =
    let both = HasNo-parts 0x1B part line clear in
    Shows-append part line part styled (Shows-clear part both.0) (shows_bold own both.1)
shows_bold (bold part line styled own) clear =
    let both = HasNo-parts 0x1B part line clear in
    let begin = codes "\u{1b}[1m" in
    let end = codes "\u{1b}[0m" in
    Shows-append part line (begin ++ (part ++ end)) styled
    (Shows-append [] part begin (part ++ end) (Shows-sequence (codes "1") refl)
    (subst (λ (t : Text). Shows t (part ++ end)) (append-nil part) (Shows-append part [] part end (Shows-clear part both.0) (Shows-sequence (codes "0") refl))))
    (shows_bold own both.1)

-- ---- lines of outputs

-- lines without replaced characters make a text without harmful ones
plain_of_lines : IsOfLines HasNoneReplaced HasNothingHarmful
plain_of_lines = record { nothing = NoCharPasses-nil is_harmful; before = harmless_before; printable = printable_is_clear }

-- a line of which parts may be in bold
abbrev IsBoldLine : Text → Type 0
IsBoldLine line = (own : Text) × IsInBold own line × HasNoneReplaced own

-- a text of such lines
abbrev IsBoldText : Text → Type 0
IsBoldText text = (own : Text) × IsInBold own text × HasNothingHarmful own

bold_of_lines : IsOfLines IsBoldLine IsBoldText
bold_of_lines =
    record {
      nothing = ([], nothing, NoCharPasses-nil is_harmful);
      before = λ line rest own more. (own.0 ++ 0x0A ∷ more.0, bold_both (0x0A ∷ more.0) (0x0A ∷ rest) own.1 (plain (0x0A ∷ []) more.0 rest more.1), harmless_before own.0 more.0 own.2 more.2);
      printable = λ line all. (line, bold_same line, printable_is_clear line all);
    }

-- a line without ESC leaves no sequence open
leaves_none : (line : Text) → HasNoneReplaced line → LeavesNoneOpen line
leaves_none line none = none-after line (opens-clear line (none_by_characters is_replaced 0x1B (omega arith) refl line none))

-- a line that leaves no sequence open
abbrev IsClosedLine : Text → Type 0
IsClosedLine line = HasNoBreak line × LeavesNoneOpen line

closed_of_lines : IsOfLines IsClosedLine (HasEachLine LeavesNoneOpen)
closed_of_lines =
    record {
      nothing = record { lines = []; are = record { joined = refl; unbroken = All-nil HasNoBreak }; each = All-nil LeavesNoneOpen };
      before = λ line rest own more. record {
        lines = line ∷ more.lines;
        are = record { joined = sym (append_assoc line (0x0A ∷ []) rest) ∙ ap (λ (t : Text). (line ++ 0x0A ∷ []) ++ t) more.are.joined; unbroken = All-cons HasNoBreak line more.lines own.0 more.are.unbroken };
        each = All-cons LeavesNoneOpen line more.lines own.1 more.each;
      };
      printable = λ line all. (printable_unbroken line all, leaves_none line (printable_is_clear line all));
    }

zipped : (lines written : List Text) → AllZip IsInBold lines written → All HasNoneReplaced lines → All IsBoldLine written
zipped [] [] zip none = All-nil IsBoldLine
zipped [] (line ∷ written) zip none = absurd zip
zipped (own ∷ lines) [] zip none = absurd zip
zipped (own ∷ lines) (line ∷ written) zip none = All-cons IsBoldLine line written (own, zip.0, All-head HasNoneReplaced own lines none) (zipped lines written zip.1 (All-tail HasNoneReplaced own lines none))

-- ---- texts

no_escape : (text : Text) → HasNothingHarmful text → HasNo 0x1B text
no_escape = none_by_characters is_harmful 0x1B (omega arith) refl

-- a style without replaced characters has no ESC
no_escape_in : (style : TableStyle) → IsHarmlessStyle style → IsStyleWithout 0x1B style
no_escape_in style none =
    list_any_none (λ (c : Option ℕ). unwrap_or c 0x20 == 0x1B) (style_characters style)
    (All-weaker (λ (c : Option ℕ). is_replaced (unwrap_or c 0x20) ≡ false) (λ (c : Option ℕ). (unwrap_or c 0x20 == 0x1B) ≡ false)
    (λ c fails. unlike is_replaced (unwrap_or c 0x20) 0x1B refl (λ _. fails)) (style_characters style)
    (All-none (λ (c : Option ℕ). is_replaced (unwrap_or c 0x20)) (style_characters style) none))

-- the output is harmless: no harmful character of it is visible, and its only sequences are those of bold, if it has
-- any
harmless_for : (look : Look) (output : Text) → HasNothingHarmful (visible_text output) → ((look.has_sequences ≡ false) ⊎ (look.is_markdown ≡ true) → IsBoldText output) → (((look.has_sequences ≡ false) × (look.has_bold_header ≡ false)) ⊎ (look.is_markdown ≡ true) → HasNothingHarmful output)
    → (look.has_sequences ≡ true → HasEachLine LeavesNoneOpen output) → IsHarmlessFor look output
harmless_for look output none in_bold unstyled closed =
    record {
      visible = visible_text output;
      shows = shows_visible (suc (length output)) output (omega arith) (no_escape (visible_text output) none);
      harmless = none;
      in_bold = λ tested. let own = in_bold tested in subst (λ (t : Text). IsInBold t output) (sym (visible_text-is own.0 output (shows_bold own.1 (no_escape own.0 own.2)))) own.1;
      plain = λ tested. sym (visible_text-is output output (Shows-clear output (no_escape output (unstyled tested))));
      closed = closed;
    }

-- ---- tables whose cells are in bold, or aren't

abbrev IsWeightedRow : RowValue → Type 0
IsWeightedRow row = All IsWeighted row.cells

weighted_cell : (look : Look) (is_bold : Bool) (s : Shown) → IsWeighted (with_weight is_bold (cell_for look s.alignment s.text))
weighted_cell look true s = record { no_foreground = refl; no_background = refl; attributes = inr refl }
weighted_cell look false s = record { no_foreground = refl; no_background = refl; attributes = inl refl }

weighted_row : (look : Look) (is_bold : Bool) (shown : List Shown) → IsWeightedRow (cells_for look is_bold shown)
weighted_row look is_bold shown = All-map IsWeighted (λ (s : Shown). with_weight is_bold (cell_for look s.alignment s.text)) shown (All-every (λ (s : Shown). IsWeighted (with_weight is_bold (cell_for look s.alignment s.text))) shown (weighted_cell look is_bold))

weighted_pair : (look : Look) (name field : Text) → IsWeightedRow (pair_for look name field)
weighted_pair look name field =
    All-cons IsWeighted (with_weight look.has_bold_header (cell_for look None name)) (cell_for look None field ∷ []) (weighted_cell look look.has_bold_header (record { alignment = None; text = name }))
    (All-cons IsWeighted (cell_for look None field) [] (weighted_cell look false (record { alignment = None; text = field })) (All-nil IsWeighted))

weighted_built : (is_expanded is_aligned : Bool) (look : Look) (content : SelectedValue) → Built look IsWeightedRow content (plain_table is_expanded is_aligned look content)
weighted_built is_expanded is_aligned look content =
    built look IsWeightedRow content is_expanded is_aligned (λ n is. weighted_row look look.has_bold_header _)
    (All-every (λ row. IsWeightedRow (row_for look is_aligned content.is_numbered content.columns row)) (counted_from 1 content.rows) (λ row. weighted_row look false _))
    (All-every (λ fields. All IsWeightedRow (pairs_in look content fields)) content.rows (λ fields.
    let pair = λ (column : ColumnPlan). pair_for look (name_at (unwrap_or content.names []) column.position) (field_or_blank fields column.position) in
    All-map IsWeightedRow pair (held fields content.columns) (All-every (λ (column : ColumnPlan). IsWeightedRow (pair column)) (held fields content.columns) (λ column. weighted_pair look _ _))))

module _ (look : Look) (content : SelectedValue) (is_expanded has : Bool) (clear : IsHarmlessStyle look.style) (text : EachOf AllText content) where
  abbrev table : TableValue
  table = separated_table has (output_table is_expanded look content)

  known : IsDrawn (separated has look) IsWeightedRow content table
  known = drawn_table-is look IsWeightedRow content is_expanded has (weighted_built is_expanded (is_aligned_in look content) (separated has look) content)

  looks : table ≡ record (empty_table (separated has look)) { columns = table.columns; header = table.header; rows = table.rows }
  looks = drawn-is (separated has look) IsWeightedRow content table known

  weighted : All IsWeightedRow (header_and_rows table)
  weighted =
      subst (λ (t : TableValue). All IsWeightedRow (header_and_rows t)) (sym known.is_plain)
      (All-append IsWeightedRow (option_to_list known.plain.header) known.plain.rows known.known.header known.known.rows)

  -- ---- fields whose colours are kept

  pub closed_lines : (lines : List Text) → IsTableDrawing table lines → look.has_sequences ≡ true → All HasNoBreak lines → All IsClosedLine lines
  closed_lines lines drawn kept unbroken =
      let none = drawn.sequences.closed_lines (ap (λ (t : TableValue). t.custom_styling) looks ∙ kept_setting (λ l. l.has_sequences) look refl has true kept) alone in
      λ k default below. (unbroken k default below, none k default below)
    where
      alone : HasSequencesInTextsAlone table
      alone =
          record {
            styling = inr (All-weaker IsWeightedRow (λ (row : RowValue). All EndsItsStyling row.cells) (λ row each. All-weaker IsWeighted EndsItsStyling (λ cell own. inl (own.no_background, own.no_foreground)) row.cells each) (header_and_rows table) weighted);
            style = record {
              indicator = subst (HasNo 0x1B) (sym (ap (λ (t : TableValue). t.indicator) looks)) refl;
              characters = no_escape_in table.style (harmless_table look clear content text is_expanded has).style;
            };
            ends = All-weaker (λ (p : ℕ × ColumnValue). IsPaddedColumn p.1) (λ (p : ℕ × ColumnValue). (1 ≤ p.1.padding.1) ⊎ All (λ (cell : CellValue). All HasNoEscape cell.text_lines) (column_cells table p.0))
                (λ p own. inl (omega (arith, ap (λ (x : ℕ × ℕ). x.1) own.padding))) (shown_columns table) (columns-drawn (separated has look) IsWeightedRow content table known);
          }

  -- ---- fields without colours

  module _ (unkept : look.has_sequences ≡ false) where
    no_sequences : table.custom_styling ≡ false
    no_sequences = ap (λ (t : TableValue). t.custom_styling) looks ∙ kept_setting (λ l. l.has_sequences) look refl has false unkept

    measured : measured_table table ≡ table
    measured = measured-plain table no_sequences

    module _ (lines : List Text) (drawn : IsTableDrawing table lines) where
      none : All HasNoneReplaced (drawing (plainly table) drawn.widths)
      none =
          subst (λ (t : TableValue). All HasNoneReplaced (drawing (plainly t) drawn.widths)) measured
          (unstyled_lines table drawn.widths drawn.arranged.one_for_each (harmless_table look clear content text is_expanded has))

      pub bold_lines : All IsBoldLine lines
      bold_lines =
          subst (All IsBoldLine) (sym drawn.drawn)
          (zipped (drawing (plainly table) drawn.widths) (drawing table drawn.widths) (weighted_lines table (ap (λ (t : TableValue). t.style_text_only) looks) drawn.widths weighted) none)

      pub plain_lines : look.has_bold_header ≡ false → All HasNoneReplaced lines
      plain_lines unbold =
          subst (All HasNoneReplaced) (sym (drawn.edges.unstyled_lines unstyled_table no_sequences))
          (unstyled_lines table drawn.widths drawn.arranged.one_for_each (harmless_table look clear content text is_expanded has))
        where
          unstyled_table : should_style table ≡ false
          unstyled_table = ap should_style looks ∙ ap (λ (b : Bool). b || is_tty (empty_table (separated has look))) (kept_setting (λ l. l.has_bold_header) look refl has false unbold)

-- no line for Markdown has a sequence
markdown_none : (look : Look) (content : SelectedValue) (text : Text) (drawn : RendersAsMarkdown look content text) → EachOf AllText content → All HasNoneReplaced (markdown_lines (markdown_rule look content) drawn.arranged)
markdown_none look content text drawn own =
    each_markdown_line HasNoneReplaced look content drawn.arranged (markdown_rule look content) drawn.is_arranged
    (subst (All HasNoneReplaced) (sym (headline.edges.unstyled_lines (ap should_style looks) (ap (λ (t : TableValue). t.custom_styling) looks)))
    (unstyled_lines (markdown_table look content) headline.widths headline.arranged.one_for_each (harmless_markdown look content own)))
    (λ some. printable_is_clear (markdown_rule look content) (rule_is_printable (sides content) (max_content_widths (markdown_table look content))))
  where
    headline : IsTableDrawing (markdown_table look content) (drawing_of_infos (markdown_table look content) drawn.arranged.infos)
    headline = drawn.is_arranged.headline

    looks : markdown_table look content ≡ record (empty_table (markdown_look look)) { columns = (markdown_table look content).columns; header = (markdown_table look content).header; rows = (markdown_table look content).rows }
    looks = (any_built false false (markdown_look look) (markdown_content content)).is

-- ---- outputs

module _ (counted : Option ℕ) (layout : Layout) (records : List (List Text)) (output : Text) (clear : IsHarmlessStyle layout.look.style) (text : All AllText records) (made : RendersRecords counted layout records output) where
  abbrev look : Look
  look = layout.look

  own : EachOf AllText made.content
  own = each_content AllText counted layout records made.content made.is_content text

  markdown_output : look.is_markdown ≡ true → HasNothingHarmful output
  markdown_output is =
      let drawn : RendersAsMarkdown look made.content made.text = subst (λ b. RendersContent b look made.content made.text) is made.is_text in
      output_of_lines HasNoneReplaced HasNothingHarmful plain_of_lines counted layout records output (markdown_lines (markdown_rule look made.content) drawn.arranged)
      (record { content = made.content; is_content = made.is_content; is_expanded = false; expansion = never_expanded look made.content is; text = made.text; has_lines = markdown_lines_of look made.content made.text drawn; joined = made.joined })
      (markdown_none look made.content made.text drawn own)

  module _ (none : look.is_markdown ≡ false) (unkept : look.has_sequences ≡ false) where
    table_text_is : RendersAsTable look made.content made.text
    table_text_is = is_table_text counted layout records output made none

    abbrev lines : List Text
    lines = drawn counted layout records output made table_text_is none

    abbrev headline : IsTableDrawing (drawn_table counted layout records output made table_text_is none) lines
    headline = table_text_is.drawn.is_arranged.headline

    bold_output : IsBoldText output
    bold_output =
        output_of_lines IsBoldLine IsBoldText bold_of_lines counted layout records output lines (with_lines counted layout records output made table_text_is none (unbroken_without look.style clear))
        (bold_lines look made.content table_text_is.is_expanded table_text_is.drawn.has_separators clear own unkept lines headline)

    plain_output : look.has_bold_header ≡ false → HasNothingHarmful output
    plain_output unbold =
        output_of_lines HasNoneReplaced HasNothingHarmful plain_of_lines counted layout records output lines (with_lines counted layout records output made table_text_is none (unbroken_without look.style clear))
        (plain_lines look made.content table_text_is.is_expanded table_text_is.drawn.has_separators clear own unkept lines headline unbold)

  -- if colours of fields are kept, no line leaves a sequence open
  closed_output : look.has_sequences ≡ true → HasEachLine LeavesNoneOpen output
  closed_output kept = by_markdown look.is_markdown refl
    where
      by_markdown : (b : Bool) → look.is_markdown ≡ b → HasEachLine LeavesNoneOpen output
      by_markdown true is =
          let drawn : RendersAsMarkdown look made.content made.text = subst (λ b. RendersContent b look made.content made.text) is made.is_text in
          let lines = markdown_lines_of look made.content made.text drawn in
          let clear_lines = markdown_none look made.content made.text drawn own in
          output_of_lines IsClosedLine (HasEachLine LeavesNoneOpen) closed_of_lines counted layout records output (markdown_lines (markdown_rule look made.content) drawn.arranged)
          (record { content = made.content; is_content = made.is_content; is_expanded = false; expansion = never_expanded look made.content is; text = made.text; has_lines = lines; joined = made.joined })
          (λ k default below. (lines.unbroken k default below, leaves_none _ (clear_lines k default below)))
      by_markdown false none =
          let table_is = is_table_text counted layout records output made none in
          let style = unbroken_without look.style clear in
          let lines = drawn counted layout records output made table_is none in
          output_of_lines IsClosedLine (HasEachLine LeavesNoneOpen) closed_of_lines counted layout records output lines (with_lines counted layout records output made table_is none style)
          (closed_lines look made.content table_is.is_expanded table_is.drawn.has_separators clear own lines table_is.drawn.is_arranged.headline kept (unbroken counted layout records output made table_is none style))

  pub harmless_output : IsHarmlessFor look output
  harmless_output = harmless_for look output (output_without_controls counted layout records output clear text made) (by_kind look.is_markdown refl) (by_look look.is_markdown refl) closed_output
    where
      by_kind : (b : Bool) → look.is_markdown ≡ b → (look.has_sequences ≡ false) ⊎ (look.is_markdown ≡ true) → IsBoldText output
      by_kind true is unkept = (output, bold_same output, markdown_output is)
      by_kind false none (inl unkept) = bold_output none unkept
      by_kind false none (inr is) = absurd (cc (none, is))

      by_look : (b : Bool) → look.is_markdown ≡ b → ((look.has_sequences ≡ false) × (look.has_bold_header ≡ false)) ⊎ (look.is_markdown ≡ true) → HasNothingHarmful output
      by_look true is unkept = markdown_output is
      by_look false none (inl (unkept, unbold)) = plain_output none unkept unbold
      by_look false none (inr is) = absurd (cc (none, is))

-- an empty output is harmless
pub nothing_is_harmless : (look : Look) → IsHarmlessFor look []
nothing_is_harmless look = harmless_for look [] (NoCharPasses-nil is_harmful) (λ any. ([], bold_same [], NoCharPasses-nil is_harmful)) (λ any. NoCharPasses-nil is_harmful) (λ kept. closed_of_lines.nothing)

-- ---- what is written for options

module _ (options : Options) (clear : IsHarmlessStyle options.look.style) where
  chosen : (known : Option ℕ) (records : List (List Text)) (output : Text) → All AllText records → RendersChosen known options records output → IsHarmlessFor options.look output
  chosen known records output text made = harmless_output known (layout_with options made.columns) records output clear text made.is_output

  pub drawn_harmless : (input output : Text) → IsDrawnOf options input output → IsHarmlessFor options.look output
  drawn_harmless input output (inl (before, made)) = any made.records made.are_records.are_records.are_records.are_text made.is_output
    where
      any : (records : List (List Text)) → All AllText records → RendersCounted options records output → IsHarmlessFor options.look output
      any [] text is = subst (IsHarmlessFor options.look) (sym is) (nothing_is_harmless options.look)
      any (first ∷ rest) text is = chosen (Some (count_below options.selection (first ∷ rest))) (first ∷ rest) output text is
  drawn_harmless input output (inr (n, tested, made)) = chosen None made.records output made.are_enough.are.are_records.are_records.are_text made.is_output

pub written_harmless : (arguments : List Text) (context : OutputContext) (invocation : Invocation) (input output : Text) → IsParsed arguments context invocation → IsDrawnOf invocation.options input output → IsHarmlessFor invocation.options.look output
written_harmless arguments context invocation input output is drawn = drawn_harmless invocation.options (parsed_style_without_controls arguments context invocation is) input output drawn
