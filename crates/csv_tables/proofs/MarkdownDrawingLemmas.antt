-- The lines of an output for Markdown give back its records.
use Rattle.std.proofs.Common.{◌≡◌, ◌<◌, ◌≤◌, ℕ, ◌+◌, Bool, true, false, List, [], ◌∷◌, ◌++◌, Option, Some, arith, flat_map, length, map, max, append-nil, refl, slice_get, ap, ap₂, sym, ◌∙◌, subst, unwrap_or, None, ◌⊎◌, inl, inr}
use Rattle.std.specs.List.{All, AllZip, enumerate_from, range_with_len}
use Rattle.std.specs.Str.{IsUtf8}
use Rattle.std.proofs.lemmas.List.Elements.{All-head, All-nil, All-tail, All-weaker}
use Rattle.std.proofs.lemmas.Str.{IsUtf8-nil}
use Rattle.comfy_parts.proofs.CallerLemmas.{All-of_map, IsUtf8-printable}
use Rattle.comfy_parts.specs.CellValue.{ColumnInfo, RowValue, CellValue}
use Rattle.comfy_parts.specs.Text.{Text, measure}
use Rattle.comfy_parts.specs.declared.style.table_style.ContentLineStyle.{ContentLineStyle}
use Rattle.comfy_parts.specs.declared.style.table_style.TableStyle.{TableStyle}
use Rattle.comfy_table.proofs.MeasuredLemmas.{row_measured}
use Rattle.comfy_table.specs.Arrangement.{IsArranged, widths_at}
use Rattle.comfy_table.specs.Drawing.{drawing_of_infos, drawn_header, drawn_row, further_rows, infos_of, outer_widths, part_of_drawing, terminated_text_of}
use Rattle.comfy_table.specs.Frame.{content_line, optional_frame_line}
use Rattle.comfy_table.specs.Laws.{HasNoBreak}
use Rattle.comfy_table.specs.Pieces.{row_height, row_line, shown_infos}
use Rattle.comfy_table.specs.TableValue.{TableValue, column_content_width, max_content_widths, measured_rows, should_style}
use Rattle.csv.specs.Records.{AllText}
use Rattle.csv_tables.specs.Cells.{Shown, counted_from, field_text, row_for, cell_for, columns_within, shown_in, shown_names}
use Rattle.csv_tables.specs.declared.options.Look.{Look}
use Rattle.csv_tables.specs.declared.options.Layout.{Layout}
use Rattle.csv_tables.proofs.BuiltLemmas.{each_content, each_counted, names-length, names_each, row-length, row_each, plain_columns}
use Rattle.csv_tables.proofs.MarkdownLineLemmas.{GivesBack, IsWhole, gives_back}
use Rattle.csv_tables.proofs.MarkdownRowLemmas.{FitsAmong, IsOnly, all_fit, first_line, height_of, infos_placed, markdown_row, one_high, one_text_line, only_pieces, pieces_of, placed, IsCellAt, IsShortAt}
use Rattle.csv_tables.proofs.MarkdownWidthLemmas.{all_columns, by_contents, drawn_for_markdown, headed, header, known, rows_measured, sides-length, table, with_names}
use Rattle.csv_tables.proofs.FieldControlLemmas.{text_fields}
use Rattle.csv_tables.proofs.OutputLemmas.{markdown_parts, markdown_unbroken}
use Rattle.csv_tables.proofs.RowLemmas.{with_rows-rows}
use Rattle.csv_tables.proofs.StraightLemmas.{IsShort, empty_is_short, short_printable}
use Rattle.csv_tables.proofs.TextTableLemmas.{EachLine, blank, short_drawn}
use Rattle.csv_tables.specs.Laws.{EachText}
use Rattle.csv_tables.specs.Markdown.{rule_line}
use Rattle.csv_tables.specs.Drawn.{SelectedValue, RendersAsMarkdown, RendersContent, RendersRecords, selected_of, below_first, headed_table, markdown_look, markdown_rule, markdown_style, markdown_table, note_for, sides}
use Rattle.csv_tables.proofs.ReachedLemmas.{mapped_at, shown-at, unmapped_at}

module _ (look : Look) (content : SelectedValue) (widths : List ℕ) (arranged : IsArranged (markdown_table look content) widths) where
  abbrev drawn : TableValue
  drawn = table look content

  abbrev infos : List ColumnInfo
  infos = infos_of drawn widths

  abbrev names : List Text
  names = unwrap_or content.names []

  own_style : drawn.style ≡ markdown_style
  own_style = ap (λ (t : TableValue). t.style) (known look content).is

  -- ---- rows

  abbrev row_made : ℕ × List Text → RowValue
  row_made = row_for (markdown_look look) false content.is_numbered content.columns

  abbrev counted : List (ℕ × List Text)
  counted = counted_from 1 content.rows

  own_rows : drawn.rows ≡ map row_made counted
  own_rows = with_rows-rows (map row_made counted) (headed_table (markdown_look look) content.is_numbered content.columns (Some names))

  -- the texts that a row shows: its cells are those of the first texts, and the other texts are blank
  record Line : Type 0 where
    given : List Shown
    all : List Shown

  abbrev header_line : Line
  header_line = record { given = shown_names look content.is_numbered content.columns names; all = shown_names look content.is_numbered content.columns names }

  abbrev line : ℕ × List Text → Line
  line row = record { given = shown_in look false content.is_numbered (columns_within row.1 content.columns) row; all = shown_in look false content.is_numbered content.columns row }

  abbrev row_of : Line → RowValue
  row_of l = markdown_row look l.given

  measured : measured_rows drawn ≡ row_of header_line ∷ map (λ row. row_of (line row)) counted
  measured = rows_measured look content ∙ ap (λ (rows : List RowValue). header look content ∷ map (row_measured false) rows) own_rows ∙ ap (λ (rows : List RowValue). header look content ∷ rows) (same counted)
    where
      same : (rows : List (ℕ × List Text)) → map (row_measured false) (map row_made rows) ≡ map (λ row. row_of (line row)) rows
      same [] = refl
      same (row ∷ rows) = ap (λ (more : List RowValue). row_of (line row) ∷ more) (same rows)

  -- a row whose cells fit, and whose texts are short and UTF-8
  record IsFitting (l : Line) : Type 0 where
    fits : FitsAmong (measured_rows drawn) (row_of l)
    short : All (IsShortAt drawn look l.given) l.all
    whole : All IsWhole l.all
    count : length l.all ≡ length (sides content)
    cells : (k : ℕ) (d : Shown) → slice_get l.all k ≡ Some d → IsCellAt drawn look l.given d (slice_get (row_of l).cells k)

  all_fit_so : All (FitsAmong (measured_rows drawn)) (row_of header_line ∷ map (λ row. row_of (line row)) counted)
  all_fit_so = subst (All (FitsAmong (measured_rows drawn))) measured (all_fit (measured_rows drawn))

  -- texts are short as they are drawn if their lines are
  shorts : (given shown : List Shown) → All (λ (s : Shown). EachLine IsShort (markdown_look look) s.text) shown → All (IsShortAt drawn look given) shown
  shorts given shown each =
      All-weaker (λ (s : Shown). EachLine IsShort (markdown_look look) s.text) (IsShortAt drawn look given)
      (λ s own. All-head IsShort (field_text (markdown_look look) s.text) [] (subst (All IsShort) (one_text_line _) own)) shown each

  abbrev cell_of : Shown → CellValue
  cell_of s = cell_for (markdown_look look) s.alignment s.text

  names_fitting : All (EachLine IsShort (markdown_look look)) names → AllText names → IsFitting header_line
  names_fitting short text =
      record {
        fits = All-head (FitsAmong (measured_rows drawn)) (row_of header_line) (map (λ row. row_of (line row)) counted) all_fit_so;
        short = shorts header_line.given header_line.all (names_each (EachLine IsShort (markdown_look look)) (blank IsShort empty_is_short (markdown_look look)) (short_drawn IsShort short_printable (markdown_look look)) look content.is_numbered content.columns names short);
        whole = names_each IsUtf8 IsUtf8-nil (λ t is. IsUtf8-printable t is.0) look content.is_numbered content.columns names (text_fields names text);
        count = names-length look content.is_numbered content.columns names ∙ sym (sides-length content);
        cells = λ k d found. subst (IsCellAt drawn look header_line.given d) (sym (mapped_at cell_of header_line.given k d found)) refl;
      }

  row_fitting : (row : ℕ × List Text) → FitsAmong (measured_rows drawn) (row_of (line row)) → All (EachLine IsShort (markdown_look look)) row.1 → AllText row.1 → IsFitting (line row)
  row_fitting row fits short text =
      record {
        fits = fits;
        short = shorts (line row).given (line row).all (row_each (EachLine IsShort (markdown_look look)) (blank IsShort empty_is_short (markdown_look look)) (short_drawn IsShort short_printable (markdown_look look)) look false content.is_numbered content.columns row (plain_columns (EachLine IsShort (markdown_look look)) (blank IsShort empty_is_short (markdown_look look)) look content.columns row.1 short));
        whole = row_each IsUtf8 IsUtf8-nil (λ t is. IsUtf8-printable t is.0) look false content.is_numbered content.columns row (plain_columns IsUtf8 IsUtf8-nil look content.columns row.1 (text_fields row.1 text));
        count = row-length look false content.is_numbered content.columns row ∙ sym (sides-length content);
        cells = λ k d found. by_shown k d (shown-at look false content.is_numbered content.columns row k d found);
      }
    where
      by_shown : (k : ℕ) (d : Shown) → (slice_get (line row).given k ≡ Some d) ⊎ ((slice_get (line row).given k ≡ None) × (d.text ≡ [])) → IsCellAt drawn look (line row).given d (slice_get (row_of (line row)).cells k)
      by_shown k d (inl some) = subst (IsCellAt drawn look (line row).given d) (sym (mapped_at cell_of (line row).given k d some)) refl
      by_shown k d (inr (none, empty)) = subst (IsCellAt drawn look (line row).given d) (sym (unmapped_at cell_of (line row).given k none)) empty

  rows_fitting : All (All (EachLine IsShort (markdown_look look))) content.rows → All AllText content.rows → All (λ row. IsFitting (line row)) counted
  rows_fitting short text k default below =
      row_fitting _
      (All-of_map (FitsAmong (measured_rows drawn)) (λ row. row_of (line row)) counted (All-tail (FitsAmong (measured_rows drawn)) (row_of header_line) (map (λ row. row_of (line row)) counted) all_fit_so) k default below)
      (each_counted (All (EachLine IsShort (markdown_look look))) 1 content.rows short k default below)
      (each_counted AllText 1 content.rows text k default below)

  -- ---- columns

  abbrev width_at : ℕ → ℕ
  width_at i = max 1 (column_content_width drawn i)

  abbrev places : List (ℕ × ColumnInfo)
  places = map (placed width_at) (enumerate_from 0 drawn.columns)

  placed_columns : shown_infos infos ≡ places
  placed_columns = infos_placed drawn width_at widths arranged.one_for_each (known look content).columns (sym (ap (widths_at widths) (all_columns look content)) ∙ by_contents look content widths arranged)

  only : (l : Line) → IsFitting l → AllZip (IsOnly drawn look l.given) l.all places
  only l own =
      only_pieces drawn look l.given (measured_rows drawn) (ap (λ (t : TableValue). t.custom_styling) (known look content).is) (ap should_style (known look content).is) own.fits 0 l.all drawn.columns own.short
      ((headed look content).count ∙ sym own.count)
      (λ k d found. let moved : k ≡ 0 + k = omega arith in subst (λ (i : ℕ). IsCellAt drawn look l.given d (slice_get (row_of l).cells i)) moved (own.cells k d found))

  -- ---- lines

  -- the line of such a row
  abbrev line_of : Line → Text
  line_of l = content_line markdown_style markdown_style.content_lines (first_line drawn look l.given places)

  -- a row that fits has only this line
  one_line : (style : ContentLineStyle) (l : Line) → 0 < length (sides content) → IsFitting l → drawn_row drawn infos style (row_of l) ≡ content_line drawn.style style (first_line drawn look l.given places) ∷ []
  one_line style l some own =
      let height : row_height drawn infos (row_of l) ≡ 1 = ap (height_of drawn look l.given) placed_columns ∙ one_high drawn look l.given l.all places (omega (arith, some, own.count)) (only l own) in
      ap (λ (n : ℕ). map (content_line drawn.style style) (map (row_line drawn infos (row_of l)) (range_with_len 0 n))) height
      ∙ ap (λ (ps : List (ℕ × ColumnInfo)). content_line drawn.style style (first_line drawn look l.given ps) ∷ []) placed_columns

  module _ (some : 0 < length (sides content)) where
    names_line : IsFitting header_line → drawn_header drawn infos drawn.header ≡ line_of header_line ∷ []
    names_line own =
        ap (drawn_header drawn infos) (headed look content).has_header
        ∙ ap₂ (λ (a b : List Text). a ++ b)
        (one_line drawn.style.header_lines header_line some own ∙ ap (λ (style : TableStyle). content_line style style.header_lines (first_line drawn look header_line.given places) ∷ []) own_style)
        (ap (λ (style : TableStyle). optional_frame_line style style.header_separator (outer_widths infos)) own_style)

    row_line_is : (row : ℕ × List Text) → IsFitting (line row) → drawn_row drawn infos drawn.style.content_lines (row_of (line row)) ≡ line_of (line row) ∷ []
    row_line_is row own = one_line drawn.style.content_lines (line row) some own ∙ ap (λ (style : TableStyle). content_line style style.content_lines (first_line drawn look (line row).given places) ∷ []) own_style

    others : (rows : List (ℕ × List Text)) → All (λ row. IsFitting (line row)) rows
        → flat_map (λ (row : RowValue). optional_frame_line drawn.style drawn.style.row_separator (outer_widths infos) ++ drawn_row drawn infos drawn.style.content_lines row) (map row_made rows) ≡ map (λ row. line_of (line row)) rows
    others [] each = refl
    others (row ∷ rows) each =
        ap₂ (λ (a b : List Text). a ++ b)
        (ap₂ (λ (a b : List Text). a ++ b) (ap (λ (style : TableStyle). optional_frame_line style style.row_separator (outer_widths infos)) own_style) (row_line_is row (All-head (λ row. IsFitting (line row)) row rows each)))
        (others rows (All-tail (λ row. IsFitting (line row)) row rows each))

    header_lines : IsFitting header_line → part_of_drawing drawn infos true false [] ≡ line_of header_line ∷ []
    header_lines first =
        ap₂ (λ (a b : List Text). ((a ++ b) ++ []) ++ []) (ap (λ (style : TableStyle). optional_frame_line style style.top_border (outer_widths infos)) own_style) (names_line first)

    record_lines : All (λ row. IsFitting (line row)) counted → part_of_drawing drawn infos false true drawn.rows ≡ map (λ row. line_of (line row)) counted
    record_lines each =
        ap₂ (λ (a b : List Text). a ++ b) (ap (further_rows drawn infos) own_rows ∙ others counted each) (ap (λ (style : TableStyle). optional_frame_line style style.bottom_border (outer_widths infos)) own_style)
        ∙ append-nil (map (λ row. line_of (line row)) counted)

    line_gives_back : (l : Line) → IsFitting l → GivesBack l.all (line_of l)
    line_gives_back l own =
        gives_back look l.all (first_line drawn look l.given places) (omega (arith, some, own.count)) own.whole (pieces_of drawn look l.given l.all places (only l own))

    lines_give_back : (rows : List (ℕ × List Text)) → All (λ row. IsFitting (line row)) rows → AllZip (λ row text. GivesBack (shown_in look false content.is_numbered content.columns row) text) rows (map (λ row. line_of (line row)) rows)
    lines_give_back [] each = tt
    lines_give_back (row ∷ rows) each = (line_gives_back (line row) (All-head (λ row. IsFitting (line row)) row rows each), lines_give_back rows (All-tail (λ row. IsFitting (line row)) row rows each))

-- ---- outputs

-- an output for Markdown gives back the names, and, below its second line, each drawn record in one line
pub record GivesRecordsBack (counted : Option ℕ) (layout : Layout) (records : List (List Text))
    (output : Text) : Type 0 where
  pub content : SelectedValue
  pub is_content : selected_of counted layout records ≡ content
  pub header : Text
  pub lines : List Text
  pub is :
      output ≡ terminated_text_of (header
      ∷ rule_line (sides content)
      (max_content_widths (markdown_table layout.look content))
      ∷ lines) ++ note_for content.noun true layout.selection.limit content.count
  pub unbroken : All HasNoBreak (header ∷ lines)
  pub names :
      GivesBack (shown_names layout.look content.is_numbered content.columns
      (unwrap_or content.names [])) header
  pub rows :
      AllZip (λ row line. GivesBack
      (shown_in layout.look false content.is_numbered content.columns row) line)
      (counted_from 1 content.rows) lines

none : AllText []
unfolding AllText
none = tt

-- it does so if a column is drawn, for fields of every script up to 65535 terminal columns
pub records_are_given_back : (counted : Option ℕ) (layout : Layout) (records : List (List Text)) (output : Text) → layout.look.is_markdown ≡ true → EachText (λ text. measure text ≤ 65535) layout.look records → All AllText records → (made : RendersRecords counted layout records output) → 0 < length (sides made.content) → GivesRecordsBack counted layout records output
records_are_given_back counted layout records output is short text made some =
    let look = layout.look in
    let content = made.content in
    let Short = All (EachLine IsShort (markdown_look look)) in
    let drawn : RendersAsMarkdown look content made.text = subst (λ b. RendersContent b look content made.text) is made.is_text in
    let fields : All Short records = All-weaker (All (EachLine IsShort look)) Short (λ fields. All-weaker (EachLine IsShort look) (EachLine IsShort (markdown_look look)) (drawn_for_markdown look is) fields) records short in
    let each = with_names Short (All-nil (EachLine IsShort (markdown_look look))) content (each_content Short counted layout records content made.is_content fields) in
    let texts = with_names AllText none content (each_content AllText counted layout records content made.is_content text) in
    let names = unwrap_or content.names [] in
    let own = drawn.is_arranged in
    let table = drawn.arranged.table in
    let infos = drawn.arranged.infos in
    let widths = own.headline.widths in
    let arranged = own.headline.arranged in
    let first = names_fitting look content widths arranged (each.names names refl) (texts.names names refl) in
    let others = rows_fitting look content widths arranged each.rows texts.rows in
    let header = line_of look content widths arranged (header_line look content widths arranged) in
    let lines = map (λ row. line_of look content widths arranged (line look content widths arranged row)) (counted_from 1 content.rows) in
    let above : part_of_drawing table infos true false [] ≡ header ∷ [] =
    ap₂ (λ (t : TableValue) (is : List ColumnInfo). part_of_drawing t is true false []) own.of_table own.infos ∙ header_lines look content widths arranged some first in
    let below : part_of_drawing table infos false true table.rows ≡ lines =
    ap₂ (λ (t : TableValue) (is : List ColumnInfo). part_of_drawing t is false true t.rows) own.of_table own.infos ∙ record_lines look content widths arranged some others in
    let rule = markdown_rule look content in
    let whole : drawing_of_infos (markdown_table look content) infos ≡ header ∷ lines =
    ap (λ (t : TableValue). drawing_of_infos t infos) (sym own.of_table) ∙ sym (markdown_parts look content drawn.arranged own.of_table) ∙ ap₂ (λ (a b : List Text). a ++ b) above below in
    record {
      content = content;
      is_content = made.is_content;
      header = header;
      lines = lines;
      is =
          made.joined
          ∙ ap₂ (λ (t : Text) (b : Bool). t ++ note_for content.noun b layout.selection.limit content.count) (drawn.is ∙ ap₂ (λ (a b : List Text). terminated_text_of (below_first rule a ++ b)) above below) is;
      unbroken = subst (All HasNoBreak) whole (own.headline.controls.without_breaks (markdown_unbroken look content));
      names = line_gives_back look content widths arranged some (header_line look content widths arranged) first;
      rows = lines_give_back look content widths arranged some (counted_from 1 content.rows) others;
    }
