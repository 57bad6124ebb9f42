-- The visible lines of an output are equally wide.
use Rattle.std.proofs.Common.{◌≡◌, ℕ, ◌≤◌, ◌⊎◌, Bool, true, false, List, [], ◌∷◌, Option, Some, None, All, arith, inl, inr, max, option_map, slice_index_or, unwrap_or, ap, refl, subst, sym, ◌∙◌}
use Rattle.std.proofs.lemmas.List.Elements.{All-cons, All-map, All-nil, All-weaker}
use Rattle.std.proofs.lemmas.Str.{chars-nil}
use Rattle.cluster_width.specs.ClusterSums.{selectors_agree}
use Rattle.comfy_parts.proofs.CallerLemmas.{All-at, All-every, frame_adds, measure-nil, measure-printable}
use Rattle.comfy_parts.specs.CellValue.{CellValue, ColumnInfo, ColumnValue, RowValue, plain_cell}
use Rattle.comfy_parts.specs.Columns.{AddsOneColumn, CharactersFit, IsApart, IsOneColumnStyle, SelectorsAgree}
use Rattle.comfy_parts.specs.Text.{Text, measure}
use Rattle.comfy_parts.specs.VisibleText.{visible_text}
use Rattle.comfy_table.proofs.ControlLemmas.{free_of_escapes}
use Rattle.comfy_table.proofs.FittingTableLemmas.{fitting_tables_are_straight}
use Rattle.comfy_table.proofs.InfoLemmas.{infos-known}
use Rattle.comfy_table.proofs.WholeTableLemmas.{whole_lines_fit}
use Rattle.comfy_table.specs.Arrangement.{width_kept}
use Rattle.comfy_table.specs.Drawing.{drawing as drawn_over, infos_of}
use Rattle.comfy_table.specs.FittingTables.{CharactersFitColumn, FitsByCharacters}
use Rattle.comfy_table.specs.Headline.{IsTableDrawing, LineWidthsSatisfy}
use Rattle.comfy_table.specs.Laws.{HasNoControl, IsFreeOfControls, line_total, unstyled}
use Rattle.comfy_table.specs.Lines.{cell_delimiter}
use Rattle.comfy_table.specs.NewTables.{AreEquallyWide, IsShortRow}
use Rattle.comfy_table.specs.Pieces.{shown_infos}
use Rattle.comfy_table.specs.Straight.{EachCell, IsStraightTable, TextsFit}
use Rattle.comfy_table.specs.TableValue.{TableValue, measured_rows, should_style, table_width}
use Rattle.csv_tables.specs.declared.options.ColumnPlan.{ColumnPlan}
use Rattle.csv_tables.proofs.BuiltLemmas.{EachColumn, EachShown, each_content}
use Rattle.csv_tables.proofs.FittingLemmas.{content_pointed, each_drawn}
use Rattle.csv_tables.proofs.LineLemmas.{drawn, drawn_table, expansion, is_table_text, kept_setting, with_lines}
use Rattle.csv_tables.proofs.OutputControlLemmas.{free_output}
use Rattle.csv_tables.proofs.SeenLemmas.{ellipsis_is_apart, fitting_agree, printable_fits, wider_column}
use Rattle.csv_tables.proofs.SeparatorLemmas.{separated_is_one_column, separated}
use Rattle.csv_tables.proofs.TextTableLemmas.{EachLine, MakesRows, cells_each, pair_each, table_of_texts, HoldsOfShort, short_drawn, blank}
use Rattle.csv_tables.proofs.WholeColumnLemmas.{IsPaddedColumn}
use Rattle.csv_tables.proofs.WholeTableLemmas.{IsDrawn, columns-drawn, drawn-is, drawn_table-is, padded-drawn, rows-drawn, unconstrained-drawn}
use Rattle.csv_tables.specs.Cells.{cell_for, field_text, with_weight, Shown, shown_cells, text_in}
use Rattle.csv_records.specs.Cleaning.{visible_of}
use Rattle.csv_tables.specs.Drawn.{SelectedValue, RendersRecords, RendersAsTable, selected_of, output_table, separated_table, is_aligned_in}
use Rattle.csv_tables.specs.Laws.{ArePlainLines, AreSeen, CanBeCut, CharactersFitEachWidth, EachText, FittingOutputIsStraight, IsStraightOutput, NarrowOutputIsStraight, WholeOutputIsStraight, seen_lines}
use Rattle.csv_tables.specs.declared.options.Look.{Look}
use Rattle.csv_tables.specs.declared.options.Layout.{Layout}
use Rattle.csv.specs.Records.{AllText}

-- ---- texts

abbrev pub IsShort : Text → Type 0
IsShort text = measure text ≤ 65535

pub empty_is_short : IsShort []
empty_is_short = rw measure-nil (omega arith)

-- a short text; its variation selectors agree if texts are cut by height
abbrev IsWholeText : Option ℕ → Text → Type 0
IsWholeText limit text = IsShort text × ((limit ≡ None) ⊎ SelectorsAgree text)

empty_is_whole : (limit : Option ℕ) → IsWholeText limit []
empty_is_whole limit = (empty_is_short, inr (ap selectors_agree chars-nil))

-- any text
abbrev pub IsAny : Text → Type 0
IsAny text = Unit {0}

pub any_line : (look : Look) (field : Text) → EachLine IsAny look field
any_line look field = All-every IsAny (plain_cell (field_text look field)).text_lines (λ line. tt)

any_content : (look : Look) (is_aligned : Bool) (content : SelectedValue) → EachShown (EachLine IsAny look) look is_aligned content
any_content look is_aligned content =
    record { fields = record { names = λ names is. All-every (EachLine IsAny look) names (any_line look); rows = All-every (All (EachLine IsAny look)) content.rows (λ fields. All-every (EachLine IsAny look) fields (any_line look)) }; shown = All-every (EachColumn (EachLine IsAny look) look is_aligned content.columns) content.rows (λ fields. All-every (λ (column : ColumnPlan). EachLine IsAny look (text_in look is_aligned column fields)) content.columns (λ column. any_line look (text_in look is_aligned column fields))) }

pub short_printable : HoldsOfShort IsShort
short_printable text printable few = rw (measure-printable text printable) (omega (arith, few))

whole_printable : (limit : Option ℕ) → HoldsOfShort (IsWholeText limit)
whole_printable limit text printable few = (short_printable text printable few, inr (fitting_agree 1 text (printable_fits text printable)))

-- ---- rows

pub short_rows : (look : Look) → look.max_height ≡ None → MakesRows IsShort empty_is_short look IsShortRow
short_rows look uncut =
    record {
      header = λ shown each. record { uncut = refl; short = cells_each IsShort empty_is_short look look.has_bold_header shown each };
      row = λ shown each. record { uncut = rw uncut refl; short = cells_each IsShort empty_is_short look false shown each };
      pair = λ name field own other. record { uncut = rw uncut refl; short = pair_each IsShort empty_is_short look name field own other };
    }

abbrev EachCellText : (Text → Type 0) → RowValue → Type 0
EachCellText P row = All (λ (cell : CellValue). All P cell.text_lines) row.cells

-- a row of short texts; their variation selectors agree if the row has a greatest height
record IsWholeRow (row : RowValue) : Type 0 where
  short : EachCellText IsShort row
  agree : (h : ℕ) → row.max_height ≡ Some h → EachCellText SelectorsAgree row

each_cell : (P R : Text → Type 0) → ((text : Text) → P text → R text) → (cells : List CellValue) → All (λ (cell : CellValue). All P cell.text_lines) cells → All (λ (cell : CellValue). All R cell.text_lines) cells
each_cell P R gives = All-weaker (λ (cell : CellValue). All P cell.text_lines) (λ (cell : CellValue). All R cell.text_lines) (λ cell. All-weaker P R gives cell.text_lines)

whole_rows : (limit : Option ℕ) (look : Look) → look.max_height ≡ limit → MakesRows (IsWholeText limit) (empty_is_whole limit) look IsWholeRow
whole_rows limit look same =
    let Whole = IsWholeText limit in
    let empty = empty_is_whole limit in
    record {
      header = λ shown each. made _ (cells_each Whole empty look look.has_bold_header shown each) (λ h tall. absurd (cc tall));
      row = λ shown each. made _ (cells_each Whole empty look false shown each) limited;
      pair = λ name field own other. made _ (pair_each Whole empty look name field own other) limited;
    }
  where
    -- the limit is set if a row has a greatest height
    limited : (h : ℕ) → option_map (max 1) look.max_height ≡ Some h → (text : Text) → IsWholeText limit text → SelectorsAgree text
    limited h tall text (short, inr agrees) = agrees
    limited h tall text (short, inl none) = let gone : option_map (max 1) look.max_height ≡ None = ap (option_map (max 1)) (same ∙ none) in absurd (cc (gone, tall))

    made : (row : RowValue) → EachCellText (IsWholeText limit) row → ((h : ℕ) → row.max_height ≡ Some h → (text : Text) → IsWholeText limit text → SelectorsAgree text) → IsWholeRow row
    made row each agrees =
        record {
          short = each_cell (IsWholeText limit) IsShort (λ text own. own.0) row.cells each;
          agree = λ h tall. each_cell (IsWholeText limit) SelectorsAgree (agrees h tall) row.cells each;
        }

-- a row whose cells have no delimiter of their own
abbrev pub IsDefaultRow : RowValue → Type 0
IsDefaultRow row = All (λ (cell : CellValue). cell.delimiter ≡ None) row.cells

weighted : (is_bold : Bool) (cell : CellValue) → cell.delimiter ≡ None → (with_weight is_bold cell).delimiter ≡ None
weighted true cell none = none
weighted false cell none = none

undelimited : (is_bold : Bool) (look : Look) (shown : List Shown) → All (λ (cell : CellValue). cell.delimiter ≡ None) (shown_cells look is_bold shown)
undelimited is_bold look shown =
    All-map (λ (cell : CellValue). cell.delimiter ≡ None) (λ (s : Shown). with_weight is_bold (cell_for look s.alignment s.text)) shown
    (All-every (λ (s : Shown). (with_weight is_bold (cell_for look s.alignment s.text)).delimiter ≡ None) shown (λ s. weighted is_bold (cell_for look s.alignment s.text) refl))

pub default_rows : (look : Look) → MakesRows IsAny tt look IsDefaultRow
default_rows look =
    record {
      header = λ shown each. undelimited look.has_bold_header look shown;
      row = λ shown each. undelimited false look shown;
      pair = λ name field own other. both name field;
    }
  where
    both : (name field : Text) → All (λ (cell : CellValue). cell.delimiter ≡ None) (with_weight look.has_bold_header (cell_for look None name) ∷ cell_for look None field ∷ [])
    both name field =
        All-cons (λ (cell : CellValue). cell.delimiter ≡ None) (with_weight look.has_bold_header (cell_for look None name)) (cell_for look None field ∷ []) (weighted look.has_bold_header (cell_for look None name) refl)
        (All-cons (λ (cell : CellValue). cell.delimiter ≡ None) (cell_for look None field) [] refl (All-nil (λ (cell : CellValue). cell.delimiter ≡ None)))

-- a row whose cells have no delimiter of their own, with a property P of its texts
pub record IsDefaultRowOf (P : Text → Type 0) (row : RowValue) : Type 0 where
  pub no_delimiters : IsDefaultRow row
  pub each : EachCellText P row

pub default_rows_of : (P : Text → Type 0) (empty : P []) (look : Look) → MakesRows P empty look (IsDefaultRowOf P)
default_rows_of P empty look =
    let default = default_rows look in
    record {
      header = λ shown each. record { no_delimiters = undelimited look.has_bold_header look shown; each = cells_each P empty look look.has_bold_header shown each };
      row = λ shown each. record { no_delimiters = undelimited false look shown; each = cells_each P empty look false shown each };
      pair = λ name field own other. record { no_delimiters = default.pair name field (any_line look name) (any_line look field); each = pair_each P empty look name field own other };
    }

-- ---- tables

-- nothing is bold, or control characters occur only in sequences
abbrev pub IsSeenTable : Bool → Look → TableValue → Type 0
IsSeenTable false look table = look.has_bold_header ≡ false
IsSeenTable true look table = IsFreeOfControls table

-- no control character is visible in the lines of a table for which `IsSeenTable` holds
pub clear_lines : (visible : Bool) (look : Look) (table : TableValue) (lines : List Text) → IsTableDrawing table lines → IsSeenTable visible look table → visible ≡ true → All HasNoControl (seen_lines visible lines)
clear_lines true look table lines drawing free is = All-map HasNoControl visible_text lines (drawing.controls.without_controls free)
clear_lines false look table lines drawing plain is = absurd (cc is)

module _ (look : Look) (no_sequences : look.has_sequences ≡ false) (content : SelectedValue) (table : TableValue) (lines : List Text) (drawing : IsTableDrawing table lines) where
  -- a property of the lines without styling is one of the visible lines
  pub seen_all : (Q : RowValue → Type 0) → IsDrawn look Q content table → (visible : Bool) → IsSeenTable visible look table → (R : Text → Type 0) → All R (drawn_over (unstyled table) drawing.widths) → All R (seen_lines visible lines)
  seen_all Q known true free R each = subst (All R) (sym (drawing.sequences.without_sequences (free_of_escapes table free))) each
  seen_all Q known false plain R each =
      let looks = drawn-is look Q content table known in
      All-map R (visible_of false) lines
      (subst (All R) (sym (drawing.edges.unstyled_lines (ap should_style looks ∙ rw plain refl) (ap (λ (t : TableValue). t.custom_styling) looks ∙ no_sequences))) each)

module _ (look : Look) (no_sequences : look.has_sequences ≡ false) (characters : IsOneColumnStyle look.style) (content : SelectedValue) (table : TableValue) (lines : List Text) (drawing : IsTableDrawing table lines) where
  -- the visible lines are equally wide if the table is straight
  equally_wide : (Q : RowValue → Type 0) → IsDrawn look Q content table → (visible : Bool) → IsSeenTable visible look table → IsStraightTable table drawing.widths → AreEquallyWide (seen_lines visible lines)
  equally_wide Q known visible seen is = (line_total table drawing.widths, seen_all look no_sequences content table lines drawing Q known visible seen (λ line. measure line ≡ line_total table drawing.widths) (drawing.edges.straight is))

  module _ (Q : RowValue → Type 0) (known : IsDrawn look Q content table) where
    -- the characters of the style are those of the look
    characters_known : IsOneColumnStyle table.style
    characters_known = subst IsOneColumnStyle (sym (ap (λ (t : TableValue). t.style) (drawn-is look Q content table known))) characters

    -- the indicator is that of a new table
    apart_indicator : IsApart table.indicator
    apart_indicator = subst IsApart (sym (ap (λ (t : TableValue). t.indicator) (drawn-is look Q content table known))) ellipsis_is_apart

    -- a table whose characters fit its columns is straight
    fitting : ((row : RowValue) → Q row → IsDefaultRow row) → EachCell CharactersFitColumn table drawing.widths → IsStraightTable table drawing.widths
    fitting gives each = fitting_tables_are_straight table lines drawing characters_known (inr (inl (padded-drawn look Q content table known))) fits
      where
        fits : EachCell (FitsByCharacters table) table drawing.widths
        fits k default under j other below cell found =
            let row = slice_index_or (measured_rows table) k default in
            let p = slice_index_or (shown_infos (infos_of table drawing.widths)) j other in
            let of_row = gives row (rows-drawn look Q content table known no_sequences k default under) in
            let of_cell = All-at (λ (c : CellValue). c.delimiter ≡ None) row.cells p.0 cell of_row found in
            let of_column : p.1.delimiter ≡ None =
            infos-known table drawing.widths (λ (q : ℕ × ColumnValue). IsPaddedColumn q.1) (λ (q : ℕ × ColumnInfo). q.1.delimiter ≡ None) drawing.arranged.one_for_each (columns-drawn look Q content table known) (λ i column w own. own.no_delimiter) j other below in
            let space : cell_delimiter table p.1.delimiter cell ≡ 0x20 =
            ap (λ o. unwrap_or o (unwrap_or p.1.delimiter (unwrap_or table.delimiter 0x20))) of_cell ∙ ap (λ o. unwrap_or o (unwrap_or table.delimiter 0x20)) of_column
            ∙ ap (λ (t : TableValue). unwrap_or t.delimiter 0x20) (drawn-is look Q content table known) in
            record {
              characters = each k default under j other below cell found;
              delimiter = subst AddsOneColumn (sym space) (frame_adds 0x20 refl);
              indicator = inr apart_indicator;
            }

  -- a table whose characters take one terminal column each is straight
  narrow : IsDrawn look (IsDefaultRowOf (CharactersFit 1)) content table → IsStraightTable table drawing.widths
  narrow known = fitting (IsDefaultRowOf (CharactersFit 1)) known (λ row own. own.no_delimiters) each
    where
      some_room : All (λ (p : ℕ × ColumnInfo). 1 ≤ p.1.content_width) (shown_infos (infos_of table drawing.widths))
      some_room = infos-known table drawing.widths (λ (p : ℕ × ColumnValue). Unit {0}) (λ (p : ℕ × ColumnInfo). 1 ≤ p.1.content_width) drawing.arranged.one_for_each (λ k default below. tt) (λ i column w any. omega arith)

      each : EachCell CharactersFitColumn table drawing.widths
      each k default under j other below cell found =
          let row = slice_index_or (measured_rows table) k default in
          let p = slice_index_or (shown_infos (infos_of table drawing.widths)) j other in
          let of_row = rows-drawn look (IsDefaultRowOf (CharactersFit 1)) content table known no_sequences k default under in
          All-weaker (CharactersFit 1) (CharactersFit p.1.content_width) (wider_column 1 p.1.content_width (some_room j other below)) cell.text_lines
          (All-at (λ (c : CellValue). All (CharactersFit 1) c.text_lines) row.cells p.0 cell of_row.each found)

  -- a table of short texts without a set width is straight
  whole : IsDrawn look IsWholeRow content table → look.width ≡ None → IsStraightTable table drawing.widths
  whole known no_width =
      record { characters = characters_known IsWholeRow known; apart = inr (inl (padded-drawn look IsWholeRow content table known)); fits = inr (inl fits) }
    where
      rows : All IsWholeRow (measured_rows table)
      rows = rows-drawn look IsWholeRow content table known no_sequences

      kept : width_kept table.arrangement (table_width table) ≡ None
      kept = ap (λ (t : TableValue). width_kept t.arrangement (table_width t)) (drawn-is look IsWholeRow content table known) ∙ rw no_width refl

      short : All (EachCellText IsShort) (measured_rows table)
      short = All-weaker IsWholeRow (EachCellText IsShort) (λ row own. own.short) (measured_rows table) rows

      fits : EachCell (TextsFit table) table drawing.widths
      fits k default under j other below cell found =
          let row = slice_index_or (measured_rows table) k default in
          let p = slice_index_or (shown_infos (infos_of table drawing.widths)) j other in
          record {
            fit = λ i text inside.
                inl (whole_lines_fit table drawing.widths kept (unconstrained-drawn look IsWholeRow content table known (known.no_width no_width)) short drawing.arranged k default under j other below cell found i text inside);
            cut = λ h tall more. (All-at (λ (c : CellValue). All SelectorsAgree c.text_lines) row.cells p.0 cell ((rows k default under).agree h tall) found, apart_indicator IsWholeRow known);
          }

-- ---- outputs

-- texts of one kind make a selection of that kind, with lines between rows or without
each_separated : (P : Text → Type 0) (look : Look) (has is_aligned : Bool) (content : SelectedValue) → EachShown (EachLine P look) look is_aligned content → EachShown (EachLine P (separated has look)) (separated has look) is_aligned content
each_separated P look true is_aligned content each = each
each_separated P look false is_aligned content each = record { fields = each.fields; shown = each.shown }

-- the drawn table is seen as its lines are
pub seen_table : (counted : Option ℕ) (layout : Layout) (records : List (List Text)) (content : SelectedValue) → selected_of counted layout records ≡ content → (is_expanded has visible : Bool) → AreSeen visible layout.look records
    → IsSeenTable visible (separated has layout.look) (separated_table has (output_table is_expanded layout.look content))
seen_table counted layout records content is is_expanded true false plain = plain
seen_table counted layout records content is is_expanded false false plain = plain
seen_table counted layout records content is is_expanded has true (clear, text) = free_output layout.look clear content (each_content AllText counted layout records content is text) is_expanded has

-- short texts, whose variation selectors agree if texts are cut
whole_texts : (look : Look) (records : List (List Text)) → EachText IsShort look records → CanBeCut look records → EachText (IsWholeText look.max_height) look records
whole_texts look records short (inl uncut) k fields under j field below i text inside = (short k fields under j field below i text inside, inl uncut)
whole_texts look records short (inr agree) k fields under j field below i text inside = (short k fields under j field below i text inside, inr (agree k fields under j field below i text inside))

module _ (visible : Bool) (counted : Option ℕ) (layout : Layout) (records : List (List Text)) (output : Text) (none : layout.look.is_markdown ≡ false) (characters : IsOneColumnStyle layout.look.style) (plain : ArePlainLines visible layout.look records) (made : RendersRecords counted layout records output) where
  abbrev look : Look
  look = layout.look

  abbrev text : RendersAsTable look made.content made.text
  text = is_table_text counted layout records output made none

  abbrev has : Bool
  has = text.drawn.has_separators

  abbrev own : Look
  own = separated has look

  abbrev table : TableValue
  table = drawn_table counted layout records output made text none

  abbrev lines : List Text
  lines = drawn counted layout records output made text none

  abbrev headline : IsTableDrawing table lines
  headline = text.drawn.is_arranged.headline

  unkept : own.has_sequences ≡ false
  unkept = kept_setting (λ l. l.has_sequences) look refl has false plain.no_sequences

  seen : IsSeenTable visible own table
  seen = seen_table counted layout records made.content made.is_content text.is_expanded has visible plain.seen

  -- the drawn table, with a property Q of its rows
  of_texts : (P : Text → Type 0) (empty : P []) (Q : RowValue → Type 0) → MakesRows P empty own Q → EachText P look records → HoldsOfShort P → IsDrawn own Q made.content table
  of_texts P empty Q makes each gives =
      let fields = each_content (All (EachLine P look)) counted layout records made.content made.is_content each in
      let pointed = content_pointed counted layout records made.content made.is_content plain.no_sequences in
      let is_aligned = is_aligned_in look made.content in
      let shown = each_drawn (EachLine P look) (blank P empty look) (short_drawn P gives look) look plain.no_sequences made.content pointed fields is_aligned in
      drawn_table-is look Q made.content text.is_expanded has
      (table_of_texts P empty own (short_drawn P gives own) Q makes made.content is_aligned (each_separated P look has is_aligned made.content shown) text.is_expanded)

  -- no control character is visible in its lines
  pub clear : visible ≡ true → All HasNoControl (seen_lines visible lines)
  clear = clear_lines visible own table lines headline seen

  -- the output is straight if its table is
  straight : (Q : RowValue → Type 0) → IsDrawn own Q made.content table → IsStraightTable table headline.widths → IsStraightOutput visible counted layout records output
  straight Q known is =
      record {
        lines = lines;
        is_output = with_lines counted layout records output made text none plain.unbroken;
        equally_wide = equally_wide own unkept (separated_is_one_column has look characters) made.content table lines headline Q known visible seen is;
        clear = clear;
      }

  -- if no character takes more than one terminal column
  module _ (each : EachText (CharactersFit 1) layout.look records) where
    narrow_known : IsDrawn own (IsDefaultRowOf (CharactersFit 1)) made.content table
    narrow_known =
        let empty : CharactersFit 1 [] = printable_fits [] refl in
        of_texts (CharactersFit 1) empty (IsDefaultRowOf (CharactersFit 1)) (default_rows_of (CharactersFit 1) empty own) each (λ text printable few. printable_fits text printable)

    narrow_table : IsStraightTable table headline.widths
    narrow_table = narrow own unkept (separated_is_one_column has look characters) made.content table lines headline narrow_known

    -- its lines are counted in terminal columns
    pub narrow_lines : (P : ℕ → Type 0) → LineWidthsSatisfy P table headline.widths → All (λ line. P (measure line)) (seen_lines visible lines)
    narrow_lines P counts = seen_all own unkept made.content table lines headline (IsDefaultRowOf (CharactersFit 1)) narrow_known visible seen (λ line. P (measure line)) (counts.straight_lines narrow_table)

  -- if each character has room in its column
  module _ (fits : CharactersFitEachWidth counted layout records) where
    fitting_known : IsDrawn own IsDefaultRow made.content table
    fitting_known =
        drawn_table-is look IsDefaultRow made.content text.is_expanded has
        (table_of_texts IsAny tt own (λ field short. any_line own field) IsDefaultRow (default_rows own) made.content (is_aligned_in look made.content) (any_content own (is_aligned_in look made.content) made.content) text.is_expanded)

    fitting_table : IsStraightTable table headline.widths
    fitting_table =
        fitting own unkept (separated_is_one_column has look characters) made.content table lines headline IsDefaultRow fitting_known (λ row is. is)
        (fits made.content table headline.widths made.is_content (has, ap (λ e. separated_table has (output_table e look made.content)) (expansion counted layout records output made text none)) headline.arranged)

    -- its lines are counted in terminal columns too
    pub fitting_lines : (P : ℕ → Type 0) → LineWidthsSatisfy P table headline.widths → All (λ line. P (measure line)) (seen_lines visible lines)
    fitting_lines P counts = seen_all own unkept made.content table lines headline IsDefaultRow fitting_known visible seen (λ line. P (measure line)) (counts.straight_lines fitting_table)

pub rows_are_straight : (visible : Bool) (counted : Option ℕ) (layout : Layout) (records : List (List Text)) (output : Text) → layout.look.is_markdown ≡ false → WholeOutputIsStraight visible counted layout records output
rows_are_straight visible counted layout records output none characters plain no_width cut short made =
    let separators = has visible counted layout records output none characters plain made in
    let limit = layout.look.max_height in
    let own = separated separators layout.look in
    let known =
    of_texts visible counted layout records output none characters plain made (IsWholeText limit) (empty_is_whole limit) IsWholeRow (whole_rows limit own (kept_setting (λ l. l.max_height) layout.look refl separators limit refl))
    (whole_texts layout.look records short cut) (whole_printable limit) in
    straight visible counted layout records output none characters plain made IsWholeRow known
    (whole own (unkept visible counted layout records output none characters plain made) (separated_is_one_column separators layout.look characters) made.content _ _ (headline visible counted layout records output none characters plain made) known
    (kept_setting (λ l. l.width) layout.look refl separators None no_width))

pub narrow_is_straight : (visible : Bool) (counted : Option ℕ) (layout : Layout) (records : List (List Text)) (output : Text) → NarrowOutputIsStraight visible counted layout records output
narrow_is_straight visible counted layout records output none characters plain each made =
    straight visible counted layout records output none characters plain made (IsDefaultRowOf (CharactersFit 1)) (narrow_known visible counted layout records output none characters plain made each) (narrow_table visible counted layout records output none characters plain made each)

pub fitting_is_straight : (visible : Bool) (counted : Option ℕ) (layout : Layout) (records : List (List Text)) (output : Text) → FittingOutputIsStraight visible counted layout records output
fitting_is_straight visible counted layout records output none characters plain fits made =
    straight visible counted layout records output none characters plain made IsDefaultRow (fitting_known visible counted layout records output none characters plain made fits) (fitting_table visible counted layout records output none characters plain made fits)
