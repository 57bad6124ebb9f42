-- The output for Markdown is a table whose lines give back the names and the drawn records.
use Rattle.std.proofs.Common.{ap, ap₂, arith, decimal, length, ◌≡◌, ◌≤◌, ◌<◌, ◌⊎◌, inl, inr, ℕ, ◌+◌, Bool, true, false, List, [], ◌∷◌, ◌++◌, map, Option, Some, None, unwrap_or, refl, sym, ◌∙◌, subst}
use Rattle.std.specs.List.{All, AllZip}
use Rattle.std.specs.Prelude.{chars, if◌then◌else◌}
use Rattle.std.proofs.lemmas.List.{length-map}
use Rattle.std.proofs.lemmas.List.Elements.{All-cons, All-head, All-nil, All-tail}
use Rattle.std.proofs.lemmas.List.FromFn.{length-map-range_with_len}
use Rattle.comfy_parts.specs.CellValue.{plain_cell}
use Rattle.comfy_parts.specs.Text.{Text, is_printable_ascii, measure}
use Rattle.comfy_table.specs.Drawing.{terminated_text_of}
use Rattle.comfy_table.specs.Laws.{HasNoBreak}
use Rattle.comfy_table.specs.TableValue.{column_content_width, max_content_widths}
use Rattle.csv_command.specs.Drawn.{layout_with}
use Rattle.csv_command.specs.declared.arguments.Invocation.{Invocation}
use Rattle.csv_command.specs.declared.arguments.Options.{Options}
use Rattle.csv_command.specs.declared.arguments.OutputContext.{OutputContext}
use Rattle.csv_records.proofs.CleaningLemmas.{cleaned-printable}
use Rattle.csv_records.specs.Cleaning.{cleaned}
use Rattle.csv_tables.proofs.FieldLemmas.{number_is_printable, printable_unbroken}
use Rattle.csv_tables.proofs.MarkdownDrawingLemmas.{GivesRecordsBack, records_are_given_back}
use Rattle.csv_tables.proofs.MarkdownLineLemmas.{GivesBack, read_field}
use Rattle.csv_tables.proofs.MarkdownWidthLemmas.{headed, sides-length}
use Rattle.csv_tables.proofs.OutputControlLemmas.{rule_is_printable}
use Rattle.csv_tables.specs.Cells.{Shown, counted_from, field_text, number_name, shown_fields, shown_in, shown_names, shown_number}
use Rattle.csv_tables.specs.Drawn.{SelectedValue, columns_of, drawn_rows, markdown_table, names_of, note_for, selected_of, sides}
use Rattle.csv_tables.specs.Fields.{field_or_blank}
use Rattle.csv_tables.specs.Laws.{EachText}
use Rattle.csv_tables.specs.Markdown.{rule_line}
use Rattle.csv_tables.specs.MarkdownLines.{without_outer_spaces}
use Rattle.csv_tables.specs.declared.options.ColumnPlan.{ColumnPlan}
use Rattle.csv_tables.specs.declared.options.Layout.{Layout}
use Rattle.csv_tables.specs.declared.options.Look.{Look}
use Rattle.csv_promises.proofs.ColumnLemmas.{chosen_positions, some_column}
use Rattle.csv_promises.proofs.WrittenLemmas.{IsDrawnBy, by_extent, own_fields}
use Rattle.csv_promises.specs.Fields.{all_rows, fields_at, no_marks, positions_in, row_after_number, rows_from}
use Rattle.csv_promises.specs.MarkdownTable.{HasFields, IsMarkdownTable, IsRule, IsWrittenAsMarkdown}
use Rattle.csv_promises.specs.Written.{IsWritten}

-- ---- fields that are read

abbrev read_shown : Shown → List ℕ
read_shown s = read_field s.text

abbrev as_read : Text → List ℕ
as_read field = without_outer_spaces (chars field)

abbrev positions_of : List ColumnPlan → List ℕ
positions_of columns = map (λ (column : ColumnPlan). column.position) columns

module _ (look : Look) where
  -- a shown field is read back cleaned
  fields_read : (columns : List ColumnPlan) (fields : List Text) → map read_shown (shown_fields look false columns fields) ≡ map as_read (fields_at no_marks (positions_of columns) fields)
  fields_read [] fields = refl
  fields_read (column ∷ columns) fields = ap (λ (rest : List (List ℕ)). as_read (cleaned false (field_or_blank fields column.position)) ∷ rest) (fields_read columns fields)

  -- so is a number
  row_read : (is_numbered : Bool) (number : Text) → is_printable_ascii number ≡ true → (shown : List Shown) (fields : List Text) → map read_shown shown ≡ map as_read fields
      → map read_shown (shown_number (if is_numbered then Some number else None) ++ shown) ≡ map as_read (row_after_number is_numbered number fields)
  row_read true number printable shown fields own = ap₂ (λ (a : List ℕ) (rest : List (List ℕ)). a ∷ rest) (ap as_read (cleaned-printable false number printable)) own
  row_read false number printable shown fields own = own

  has_fields : (shown : List Shown) (fields : List Text) (line : Text) → map read_shown shown ≡ map as_read fields → GivesBack shown line → HasFields fields line
  has_fields shown fields line same back = back ∙ ap (λ (own : List (List ℕ)). [] ∷ (own ++ [] ∷ [])) same

  name_is_printable : (names : List Text) → is_printable_ascii (number_name names) ≡ true
  name_is_printable [] = refl
  name_is_printable (name ∷ names) = refl

  header_has : (is_numbered : Bool) (columns : List ColumnPlan) (names : List Text) (line : Text) → GivesBack (shown_names look is_numbered columns names) line → HasFields (row_after_number is_numbered (number_name names) (fields_at no_marks (positions_of columns) names)) line
  header_has is_numbered columns names line =
      has_fields (shown_names look is_numbered columns names) (row_after_number is_numbered (number_name names) (fields_at no_marks (positions_of columns) names)) line
      (row_read is_numbered (number_name names) (name_is_printable names) (shown_fields look false columns names) (fields_at no_marks (positions_of columns) names) (fields_read columns names))

  rows_have : (is_numbered : Bool) (columns : List ColumnPlan) (n : ℕ) (rows : List (List Text)) (lines : List Text) → AllZip (λ row line. GivesBack (shown_in look false is_numbered columns row) line) (counted_from n rows) lines
      → AllZip HasFields (rows_from is_numbered no_marks (positions_of columns) n rows) lines
  rows_have is_numbered columns n [] [] each = tt
  rows_have is_numbered columns n [] (line ∷ lines) each = absurd each
  rows_have is_numbered columns n (fields ∷ rows) [] each = absurd each
  rows_have is_numbered columns n (fields ∷ rows) (line ∷ lines) (own, more) = (
    has_fields (shown_in look false is_numbered columns (n, fields)) (row_after_number is_numbered (decimal n) (fields_at no_marks (positions_of columns) fields)) line
        (row_read is_numbered (decimal n) (number_is_printable n) (shown_fields look false columns fields) (fields_at no_marks (positions_of columns) fields) (fields_read columns fields)) own,
    rows_have is_numbered columns (n + 1) rows lines more,
  )

-- ---- rows of as many fields

abbrev count_in : Bool → List ℕ → ℕ
count_in is_numbered positions = (if is_numbered then 1 else 0) + length positions

abbrev HasCount : Bool → List ℕ → List Text → Type 0
HasCount is_numbered positions fields = length fields ≡ count_in is_numbered positions

one_count : (is_numbered : Bool) (positions : List ℕ) (number : Text) (fields : List Text) → HasCount is_numbered positions (row_after_number is_numbered number (fields_at no_marks positions fields))
one_count true positions number fields = let own : length (fields_at no_marks positions fields) ≡ length positions = length-map positions (λ position. cleaned false (field_or_blank fields position)) in omega (arith, own)
one_count false positions number fields = let own : length (fields_at no_marks positions fields) ≡ length positions = length-map positions (λ position. cleaned false (field_or_blank fields position)) in omega (arith, own)

rows_count : (is_numbered : Bool) (positions : List ℕ) (n : ℕ) (rows : List (List Text)) → All (HasCount is_numbered positions) (rows_from is_numbered no_marks positions n rows)
rows_count is_numbered positions n [] = All-nil (HasCount is_numbered positions)
rows_count is_numbered positions n (fields ∷ rows) =
    All-cons (HasCount is_numbered positions) (row_after_number is_numbered (decimal n) (fields_at no_marks positions fields)) (rows_from is_numbered no_marks positions (n + 1) rows) (one_count is_numbered positions (decimal n) fields) (rows_count is_numbered positions (n + 1) rows)

-- ---- what is written for arguments

module _ (arguments : List Text) (context : OutputContext) (invocation : Invocation) (input : Text) (records : List (List Text)) (output : Text) (is : IsWritten true arguments context invocation input records output) where
  abbrev options : Options
  options = invocation.options

  abbrev is_numbered : Bool
  is_numbered = options.selection.is_numbered

  -- the names and the rows of these records
  abbrev rows_for : Option (List Text) → List (List Text) → List (List Text)
  rows_for names rows = all_rows is_numbered no_marks (positions_in options (unwrap_or names []) rows) (Some (unwrap_or names [])) rows

  module _ (known : Option ℕ) (rs : List (List Text)) (by : IsDrawnBy true arguments context invocation input records output is known rs) where
    abbrev layout : Layout
    layout = layout_with options by.made.columns

    abbrev look : Look
    look = options.look

    abbrev own : SelectedValue
    own = selected_of known layout rs

    abbrev columns : List ColumnPlan
    columns = columns_of layout rs

    positions : positions_of columns ≡ positions_in options (unwrap_or (names_of options.selection.has_header rs) []) (drawn_rows options.selection rs)
    positions = chosen_positions options rs by.made.columns by.made.are_chosen known own refl

    module _ (back : GivesRecordsBack known layout rs output) where
      same : back.content ≡ own
      same = sym back.is_content

      -- the lines have the fields of the drawn records
      have : AllZip HasFields (rows_for (names_of options.selection.has_header records) (drawn_rows options.selection records)) (back.header ∷ back.lines)
      have =
          subst (λ (names : Option (List Text)). AllZip HasFields (rows_for names (drawn_rows options.selection records)) (back.header ∷ back.lines)) by.names
          (subst (λ (rows : List (List Text)). AllZip HasFields (rows_for (names_of options.selection.has_header rs) rows) (back.header ∷ back.lines)) by.rows
          (subst (λ (ps : List ℕ). AllZip HasFields (all_rows is_numbered no_marks ps (Some (unwrap_or (names_of options.selection.has_header rs) [])) (drawn_rows options.selection rs)) (back.header ∷ back.lines)) positions (
            header_has look is_numbered columns (unwrap_or (names_of options.selection.has_header rs) []) back.header
                (subst (λ (c : SelectedValue). GivesBack (shown_names look c.is_numbered c.columns (unwrap_or c.names [])) back.header) same back.names),
            rows_have look is_numbered columns 1 (drawn_rows options.selection rs) back.lines
                (subst (λ (c : SelectedValue). AllZip (λ row line. GivesBack (shown_in look false c.is_numbered c.columns row) line) (counted_from 1 c.rows) back.lines) same back.rows),
          )))

      -- the rule has a part for each column
      abbrev rule : Text
      rule = rule_line (sides back.content) (max_content_widths (markdown_table look back.content))

      abbrev all : ℕ
      all = length (sides back.content)

      is_rule : IsRule all rule
      is_rule =
          let table = markdown_table look back.content in
          let counted : length (max_content_widths table) ≡ length table.columns = length-map-range_with_len (column_content_width table) 0 (length table.columns) in
          record { sides = sides back.content; widths = max_content_widths table; one_for_each = (refl, counted ∙ (headed look back.content).count); is = refl }

      -- there are as many columns as a row has fields
      counted : count_in is_numbered (positions_in options (unwrap_or (names_of options.selection.has_header records) []) (drawn_rows options.selection records)) ≡ all
      counted =
          sym (ap₂ (λ (names : Option (List Text)) (rows : List (List Text)). count_in is_numbered (positions_in options (unwrap_or names []) rows)) by.names by.rows)
          ∙ sym (ap (count_in is_numbered) positions) ∙ omega (arith, length-map columns (λ (column : ColumnPlan). column.position))
          ∙ sym (sides-length own) ∙ sym (ap (λ (c : SelectedValue). length (sides c)) same)

      each_count : All (λ (fields : List Text). length fields ≡ all) (rows_for (names_of options.selection.has_header records) (drawn_rows options.selection records))
      each_count =
          let ps = positions_in options (unwrap_or (names_of options.selection.has_header records) []) (drawn_rows options.selection records) in
          let names = unwrap_or (names_of options.selection.has_header records) [] in
          subst (λ (n : ℕ). All (λ (fields : List Text). length fields ≡ n) (rows_for (names_of options.selection.has_header records) (drawn_rows options.selection records))) counted
          (All-cons (HasCount is_numbered ps) (row_after_number is_numbered (number_name names) (fields_at no_marks ps names)) (rows_from is_numbered no_marks ps 1 (drawn_rows options.selection records)) (one_count is_numbered ps (number_name names) names)
          (rows_count is_numbered ps 1 (drawn_rows options.selection records)))

      table : IsMarkdownTable options records output
      table =
          record {
            count = known;
            is_count = by.counted;
            columns = all;
            header = back.header;
            rule = rule;
            lines = back.lines;
            is = back.is ∙ ap (λ (c : SelectedValue). terminated_text_of (back.header ∷ rule ∷ back.lines) ++ note_for c.noun true options.selection.limit c.count) same;
            unbroken = All-cons HasNoBreak back.header (rule ∷ back.lines) (All-head HasNoBreak back.header back.lines back.unbroken) (All-cons HasNoBreak rule back.lines (printable_unbroken rule (rule_is_printable (sides back.content) _)) (All-tail HasNoBreak back.header back.lines back.unbroken));
            is_rule = is_rule;
            as_many = each_count;
            have_fields = have;
          }

    made : EachText (λ line. measure line ≤ 65535) look records → IsMarkdownTable options records output
    made short =
        table
        (records_are_given_back known layout rs output is.kind
        (own_fields true arguments context invocation input records output is known rs by (λ (field : Text). All (λ line. measure line ≤ 65535) (plain_cell (field_text look field)).text_lines) short)
        by.text by.made.is_output some)
      where
        some : 0 < length (sides by.made.is_output.content)
        some =
            let one = some_column options rs by.made.columns by.made.are_chosen known by.made.is_output.content by.made.is_output.is_content in
            omega (arith, one, sides-length by.made.is_output.content)

  pub markdown_for : IsWrittenAsMarkdown options records output
  markdown_for short =
      by_extent true arguments context invocation input records output is (((records ≡ []) × (output ≡ [])) ⊎ IsMarkdownTable options records output) (λ none empty. inl (none, empty)) (λ known rs by. inr (made known rs by short))
