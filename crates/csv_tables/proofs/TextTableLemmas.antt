-- Tables of records whose texts are of one kind.
use Rattle.std.proofs.Common.{◌≡◌, ℕ, Bool, true, false, List, [], ◌∷◌, Option, Some, None, ◌+◌, ◌≤◌, length, refl, sym, subst}
use Rattle.std.specs.List.{All}
use Rattle.std.specs.Prelude.{unwrap_or}
use Rattle.std.proofs.lemmas.List.Elements.{All-cons, All-map, All-nil, All-weaker}
use Rattle.comfy_parts.proofs.CallerLemmas.{All-every}
use Rattle.comfy_parts.specs.CellValue.{CellValue, RowValue, plain_cell}
use Rattle.comfy_parts.specs.Text.{Text, is_printable_ascii}
use Rattle.csv_tables.proofs.BuiltLemmas.{Built, EachColumn, EachShown, MakesHeader, MakesRow, blank_drawn, built, built_rows, each_counted, each_field, each_name, names_each, number_each, plain_table, row_each}
use Rattle.csv_tables.proofs.FieldLemmas.{IsShortPrintable, short_lines}
use Rattle.csv_tables.specs.Cells.{Shown, text_in, cell_for, cells_for, counted_from, cut, field_text, held, pair_for, columns_within, shown_cells, with_weight}
use Rattle.csv_tables.specs.Fields.{field_or_blank}
use Rattle.csv_tables.specs.Columns.{name_at}
use Rattle.csv_tables.proofs.ReachedLemmas.{All-reached}
use Rattle.csv_tables.specs.Drawn.{SelectedValue, pairs_in, rows_table}
use Rattle.csv_tables.specs.declared.options.Look.{Look}
use Rattle.csv_tables.specs.declared.options.ColumnPlan.{ColumnPlan}

-- P holds for each text line of a field as it is drawn
abbrev pub EachLine : (Text → Type 0) → Look → Text → Type 0
EachLine P look field = All P (plain_cell (field_text look field)).text_lines

-- P holds for each short text of printable ASCII
abbrev pub HoldsOfShort : (Text → Type 0) → Type 0
HoldsOfShort P = (text : Text) → is_printable_ascii text ≡ true → length text ≤ 128 → P text

-- P holds for the text lines of a short field
pub short_drawn : (P : Text → Type 0) → HoldsOfShort P → (look : Look) (field : Text) → IsShortPrintable 64 field → EachLine P look field
short_drawn P gives look field short = All-weaker (IsShortPrintable 128) P (λ text is. gives text is.0 is.1) (plain_cell (field_text look field)).text_lines (short_lines look field short)

module _ (P : Text → Type 0) (empty : P []) (look : Look) where
  -- a cell's weight doesn't change its text lines
  weighted : (is_bold : Bool) (cell : CellValue) → All P cell.text_lines → All P (with_weight is_bold cell).text_lines
  weighted true cell own = own
  weighted false cell own = own

  pub blank : EachLine P look []
  blank = subst (λ (text : Text). All P (plain_cell text).text_lines) (sym (blank_drawn look)) (All-cons P [] [] empty (All-nil P))

  -- P holds for each text line that a row shows in a column
  abbrev pub Shows : Shown → Type 0
  Shows shown = EachLine P look shown.text

  -- P holds for the text lines of each cell of a row
  pub cells_each : (is_bold : Bool) (shown : List Shown) → All Shows shown → All (λ (cell : CellValue). All P cell.text_lines) (shown_cells look is_bold shown)
  cells_each is_bold shown each =
      All-map (λ (cell : CellValue). All P cell.text_lines) (λ (s : Shown). with_weight is_bold (cell_for look s.alignment s.text)) shown
      (All-weaker Shows (λ (s : Shown). All P (with_weight is_bold (cell_for look s.alignment s.text)).text_lines) (λ s own. weighted is_bold (cell_for look s.alignment s.text) own) shown each)

  -- P holds for the text lines of the row of a name and a field
  pub pair_each : (name field : Text) → EachLine P look name → EachLine P look field → All (λ (cell : CellValue). All P cell.text_lines) (pair_for look name field).cells
  pair_each name field own other =
      let Each = λ (cell : CellValue). All P cell.text_lines in
      All-cons Each (with_weight look.has_bold_header (cell_for look None name)) (cell_for look None field ∷ []) (weighted look.has_bold_header (cell_for look None name) own) (All-cons Each (cell_for look None field) [] other (All-nil Each))

  -- Q holds for rows that are made of such texts
  pub record MakesRows (Q : RowValue → Type 0) : Type 0 where
    pub header : (shown : List Shown) → All Shows shown → Q (cells_for look look.has_bold_header shown)
    pub row : (shown : List Shown) → All Shows shown → Q (cut look (cells_for look false shown))
    pub pair : (name field : Text) → EachLine P look name → EachLine P look field → Q (pair_for look name field)

  -- P holds for short texts of printable ASCII, such as numbers and the name above them
  module _ (short : (text : Text) → IsShortPrintable 64 text → EachLine P look text) where
    module _ (Q : RowValue → Type 0) (makes : MakesRows Q) (content : SelectedValue) (is_aligned : Bool) (each : EachShown (EachLine P look) look is_aligned content) where
      header : MakesHeader look Q content
      header names is = makes.header _ (names_each (EachLine P look) blank short look content.is_numbered content.columns names (each.fields.names names is))

      rows : All (MakesRow look Q content is_aligned) (counted_from 1 content.rows)
      rows =
          All-weaker (λ (row : ℕ × List Text). EachColumn (EachLine P look) look is_aligned content.columns row.1) (MakesRow look Q content is_aligned)
          (λ row own. makes.row _ (row_each (EachLine P look) blank short look is_aligned content.is_numbered (columns_within row.1 content.columns) row (All-reached (λ (column : ColumnPlan). EachLine P look (text_in look is_aligned column row.1)) row.1 content.columns own)))
          (counted_from 1 content.rows) (each_counted (EachColumn (EachLine P look) look is_aligned content.columns) 1 content.rows each.shown)

      -- Q holds for the rows of the table
      pub rows_of_texts : Built look Q content (rows_table look is_aligned content)
      rows_of_texts = built_rows look Q content is_aligned header rows

      named : (names : Option (List Text)) → ((n : List Text) → names ≡ Some n → All (EachLine P look) n) → (at : ℕ) → EachLine P look (name_at (unwrap_or names []) at)
      named None own at = each_name (EachLine P look) [] at (number_each (EachLine P look) blank short (at + 1)) (All-nil (EachLine P look))
      named (Some n) own at = each_name (EachLine P look) n at (number_each (EachLine P look) blank short (at + 1)) (own n refl)

      pairs : (fields : List Text) → All (EachLine P look) fields → All Q (pairs_in look content fields)
      pairs fields own =
          let names = unwrap_or content.names [] in
          All-map Q (λ (column : ColumnPlan). pair_for look (name_at names column.position) (field_or_blank fields column.position)) (held fields content.columns)
          (All-every (λ (column : ColumnPlan). Q (pair_for look (name_at names column.position) (field_or_blank fields column.position))) (held fields content.columns)
          (λ column. makes.pair (name_at names column.position) (field_or_blank fields column.position) (named content.names each.fields.names column.position) (each_field (EachLine P look) blank fields column.position own)))

      -- Q holds for the rows of expanded records
      pub table_of_texts : (is_expanded : Bool) → Built look Q content (plain_table is_expanded is_aligned look content)
      table_of_texts is_expanded =
          built look Q content is_expanded is_aligned header rows
          (All-weaker (All (EachLine P look)) (λ fields. All Q (pairs_in look content fields)) pairs content.rows each.fields.rows)
