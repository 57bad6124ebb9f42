-- The tables of some records are built from an empty one.
use Rattle.std.proofs.Common.{◌≡◌, ℕ, zero, suc, Bool, true, false, List, [], ◌∷◌, Option, Some, None, arith, codes, decimal, encode_utf8_all, flat_map, length, map, ◌+◌, ap, refl, subst, ◌∙◌}
use Rattle.std.proofs.lemmas.List.{length-map}
use Rattle.std.specs.List.{All}
use Rattle.std.specs.Prelude.{if◌then◌else◌, unwrap_or}
use Rattle.std.proofs.lemmas.List.Elements.{All-cons, All-head, All-map, All-nil, All-tail, All-take, All-weaker}
use Rattle.std.proofs.lemmas.Str.{chars-nil}
use Rattle.comfy_parts.proofs.CallerLemmas.{All-every, All-flat_map}
use Rattle.comfy_parts.specs.CellValue.{RowValue}
use Rattle.comfy_parts.specs.Text.{Text}
use Rattle.comfy_table.proofs.BuiltTableLemmas.{IsBuilt, IsNewColumn, built-header, built-rows}
use Rattle.comfy_table.specs.TableValue.{TableValue}
use Rattle.csv.specs.Records.{field_at}
use Rattle.csv_records.proofs.CleaningLemmas.{Stays-nil, stays_cleaned}
use Rattle.comfy_parts.specs.declared.style.cell.CellAlignment.TheVariants.{Right}
use Rattle.csv_tables.proofs.FieldLemmas.{IsShortPrintable, number_is_printable, number_is_short}
use Rattle.csv_tables.specs.declared.options.ColumnPlan.{ColumnPlan}
use Rattle.csv_tables.specs.Cells.{Shown, counted_from, text_in, shown_fields, shown_in, shown_names, field_text, header_for, marked, row_for, unless_blank, number_name}
use Rattle.csv_tables.specs.Fields.{field_or_blank}
use Rattle.csv_records.specs.Cleaning.{cleaned}
use Rattle.csv_tables.specs.Columns.{name_at}
use Rattle.csv_tables.specs.Drawn.{SelectedValue, selected_of, empty_table, headed_table, limited, names_of, pairs_in, pairs_table, records_below, rows_table}
use Rattle.csv_tables.specs.Markdown.{escaped}
use Rattle.csv_tables.specs.declared.options.Look.{Look}
use Rattle.csv_tables.specs.declared.options.Layout.{Layout}

all_limited : {A : Type 0} (P : A → Type 0) (limit : Option ℕ) (xs : List A) → All P xs → All P (limited limit xs)
all_limited P None xs each = each
all_limited P (Some n) xs each = All-take P n xs each

all_below : (P : List Text → Type 0) (has_header : Bool) (records : List (List Text)) → All P records → All P (records_below has_header records)
all_below P true [] each = each
all_below P true (names ∷ rows) each = All-tail P names rows each
all_below P false records each = each

-- a property of all fields and of the empty text is one of the field at any position
pub each_field : (P : Text → Type 0) → P [] → (fields : List Text) (i : ℕ) → All P fields → P (field_or_blank fields i)
unfolding field_at
each_field P empty [] i each = empty
each_field P empty (f ∷ fs) zero each = All-head P f fs each
each_field P empty (f ∷ fs) (suc i) each = each_field P empty fs i (All-tail P f fs each)

-- a property of all names, and of the number in place of a missing one, is one of the name at any position
pub each_name : (P : Text → Type 0) (names : List Text) (i : ℕ) → P (decimal (i + 1)) → All P names → P (name_at names i)
unfolding field_at
each_name P names i number each = by_field names i each
  where
    by_field : (fields : List Text) (j : ℕ) → All P fields → P (unwrap_or (field_at fields j) (decimal (i + 1)))
    by_field [] j each = number
    by_field (f ∷ fs) zero each = All-head P f fs each
    by_field (f ∷ fs) (suc j) each = by_field fs j (All-tail P f fs each)

-- P holds for the texts that columns show of a record
abbrev pub EachColumn : (Text → Type 0) → Look → Bool → List ColumnPlan → List Text → Type 0
EachColumn P look is_aligned columns fields = All (λ (column : ColumnPlan). P (text_in look is_aligned column fields)) columns

pub plain_columns : (P : Text → Type 0) → P [] → (look : Look) (columns : List ColumnPlan) (fields : List Text) → All P fields → EachColumn P look false columns fields
plain_columns P empty look columns fields each = All-every (λ (column : ColumnPlan). P (text_in look false column fields)) columns (λ column. each_field P empty fields column.position each)

-- P holds for each text that a row shows, if it holds for its fields, for the empty text, and for short texts of
-- printable ASCII
module _ (P : Text → Type 0) (empty : P []) (short : (text : Text) → IsShortPrintable 64 text → P text) where
  abbrev pub OfShown : Shown → Type 0
  OfShown shown = P shown.text

  pub fields_each : (look : Look) (is_aligned : Bool) (columns : List ColumnPlan) (fields : List Text) → EachColumn P look is_aligned columns fields → All OfShown (shown_fields look is_aligned columns fields)
  fields_each look is_aligned columns fields each = All-map OfShown (λ (column : ColumnPlan). record { alignment = column.alignment; text = text_in look is_aligned column fields }) columns each

  pub number_each : (number : ℕ) → P (decimal number)
  number_each number = short (decimal number) (number_is_printable number, number_is_short number)

  pub row_each : (look : Look) (is_aligned is_numbered : Bool) (columns : List ColumnPlan) (row : ℕ × List Text) → EachColumn P look is_aligned columns row.1 → All OfShown (shown_in look is_aligned is_numbered columns row)
  row_each look is_aligned true columns row each =
      All-cons OfShown (record { alignment = Some Right; text = decimal row.0 }) (shown_fields look is_aligned columns row.1) (number_each row.0) (fields_each look is_aligned columns row.1 each)
  row_each look is_aligned false columns row each = fields_each look is_aligned columns row.1 each

  name_each : (names : List Text) → P (number_name names)
  name_each [] = empty
  name_each (name ∷ names) = short (codes "#") (refl, omega arith)

  pub names_each : (look : Look) (is_numbered : Bool) (columns : List ColumnPlan) (names : List Text) → All P names → All OfShown (shown_names look is_numbered columns names)
  names_each look true columns names each =
      All-cons OfShown (record { alignment = Some Right; text = number_name names }) (shown_fields look false columns names) (name_each names) (fields_each look false columns names (plain_columns P empty look columns names each))
  names_each look false columns names each = fields_each look false columns names (plain_columns P empty look columns names each)

-- a row shows a text in each column
pub row-length : (look : Look) (is_aligned is_numbered : Bool) (columns : List ColumnPlan) (row : ℕ × List Text) → length (shown_in look is_aligned is_numbered columns row) ≡ (if is_numbered then 1 else 0) + length columns
row-length look is_aligned true columns row = let own : length (shown_fields look is_aligned columns row.1) ≡ length columns = length-map columns _ in omega (arith, own)
row-length look is_aligned false columns row = let own : length (shown_fields look is_aligned columns row.1) ≡ length columns = length-map columns _ in omega (arith, own)

pub names-length : (look : Look) (is_numbered : Bool) (columns : List ColumnPlan) (names : List Text) → length (shown_names look is_numbered columns names) ≡ (if is_numbered then 1 else 0) + length columns
names-length look true columns names = let own : length (shown_fields look false columns names) ≡ length columns = length-map columns _ in omega (arith, own)
names-length look false columns names = let own : length (shown_fields look false columns names) ≡ length columns = length-map columns _ in omega (arith, own)

blank_cleaned : (keeps : Bool) → cleaned keeps [] ≡ []
blank_cleaned keeps = stays_cleaned keeps [] (Stays-nil keeps)

-- the empty field is drawn as it is
pub blank_drawn : (look : Look) → field_text look [] ≡ []
blank_drawn look = by_markdown look.is_markdown
  where
    none_escaped : marked [] ≡ []
    none_escaped = ap (λ (cs : List ℕ). encode_utf8_all (escaped cs)) chars-nil

    by_markdown : (is_markdown : Bool) → (if is_markdown then marked (cleaned false []) else unless_blank (cleaned look.has_sequences [])) ≡ []
    by_markdown true = ap marked (blank_cleaned false) ∙ none_escaped
    by_markdown false = ap unless_blank (blank_cleaned look.has_sequences)

-- ---- what is drawn

-- P holds for the names, if there are any, and for each row
pub record EachOf (P : List Text → Type 0) (content : SelectedValue) : Type 0 where
  pub names : (names : List Text) → content.names ≡ Some names → P names
  pub rows : All P content.rows

pub each_content : (P : List Text → Type 0) → (counted : Option ℕ) (layout : Layout) (records : List (List Text)) (content : SelectedValue) → selected_of counted layout records ≡ content → All P records → EachOf P content
each_content P counted layout records content is each =
    subst (EachOf P) is
    (record {
      names = λ names is. first layout.selection.has_header records names is each;
      rows = all_limited P layout.selection.limit _ (all_below P layout.selection.has_header records each);
    })
  where
    first : (has_header : Bool) (records : List (List Text)) (names : List Text) → names_of has_header records ≡ Some names → All P records → P names
    first true [] names is each = absurd (cc is)
    first true (record_ ∷ records) names is each =
        let same : record_ ≡ names = cc is in
        subst P same (All-head P record_ records each)
    first false records names is each = absurd (cc is)

-- P holds for the names and the fields of a selection, and for the texts that its columns show of them
pub record EachShown (P : Text → Type 0) (look : Look) (is_aligned : Bool) (content : SelectedValue) : Type 0 where
  pub fields : EachOf (All P) content
  pub shown : All (EachColumn P look is_aligned content.columns) content.rows

pub plain_shown : (P : Text → Type 0) → P [] → (look : Look) (content : SelectedValue) → EachOf (All P) content → EachShown P look false content
plain_shown P empty look content each =
    record { fields = each; shown = All-weaker (All P) (EachColumn P look false content.columns) (λ fields own. plain_columns P empty look content.columns fields own) content.rows each.rows }

-- P holds for each row with its number
pub each_counted : (P : List Text → Type 0) (number : ℕ) (rows : List (List Text)) → All P rows → All (λ (row : ℕ × List Text). P row.1) (counted_from number rows)
each_counted P number [] each = All-nil (λ (row : ℕ × List Text). P row.1)
each_counted P number (fields ∷ rows) each =
    All-cons (λ (row : ℕ × List Text). P row.1) (number, fields) (counted_from (number + 1) rows) (All-head P fields rows each) (each_counted P (number + 1) rows (All-tail P fields rows each))

-- ---- tables

-- the table of expanded records, or of rows
abbrev pub plain_table : Bool → Bool → Look → SelectedValue → TableValue
plain_table true is_aligned look content = pairs_table look content
plain_table false is_aligned look content = rows_table look is_aligned content

module _ (look : Look) (Q : RowValue → Type 0) (content : SelectedValue) where
  abbrev pub Built : TableValue → Type 0
  Built = IsBuilt (empty_table look) Q

  -- Q holds for the row that is made of these fields and their number
  abbrev pub MakesRow : Bool → ℕ × List Text → Type 0
  MakesRow is_aligned row = Q (row_for look is_aligned content.is_numbered content.columns row)

  -- Q holds for the header
  abbrev pub MakesHeader : Type 0
  MakesHeader = (names : List Text) → content.names ≡ Some names → Q (header_for look content.is_numbered content.columns names)

  -- Q holds for the rows of an expanded record
  abbrev pub MakesPairs : List Text → Type 0
  MakesPairs fields = All Q (pairs_in look content fields)

  empty : Built (empty_table look)
  empty = record { is = refl; columns = All-nil IsNewColumn; header = All-nil Q; rows = All-nil Q }

  headed : (names : Option (List Text)) → ((n : List Text) → names ≡ Some n → Q (header_for look content.is_numbered content.columns n)) → Built (headed_table look content.is_numbered content.columns names)
  headed None makes = empty
  headed (Some names) makes = built-header (empty_table look) Q (header_for look content.is_numbered content.columns names) (empty_table look) (makes names refl) empty

  pub built_rows : (is_aligned : Bool) → MakesHeader → All (MakesRow is_aligned) (counted_from 1 content.rows) → Built (rows_table look is_aligned content)
  built_rows is_aligned head each =
      let row = row_for look is_aligned content.is_numbered content.columns in
      built-rows (empty_table look) Q (map row (counted_from 1 content.rows)) (headed_table look content.is_numbered content.columns content.names) (All-map Q row (counted_from 1 content.rows) each) (headed content.names head)

  pub built_pairs : All MakesPairs content.rows → Built (pairs_table look content)
  built_pairs each = built-rows (empty_table look) Q (flat_map (pairs_in look content) content.rows) (empty_table look) (All-flat_map Q (pairs_in look content) content.rows each) empty

  pub built : (is_expanded is_aligned : Bool) → MakesHeader → All (MakesRow is_aligned) (counted_from 1 content.rows) → All MakesPairs content.rows → Built (plain_table is_expanded is_aligned look content)
  built true is_aligned head rows pairs = built_pairs pairs
  built false is_aligned head rows pairs = built_rows is_aligned head rows
