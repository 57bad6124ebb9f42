-- Fields of records in rows of cells, and in the lines that show them.
use Rattle.std.proofs.Common.{◌≡◌, ◌⊎◌, ◌<◌, ◌≤◌, inl, inr, ℕ, zero, suc, ◌+◌, Bool, true, false, List, [], ◌∷◌, Option, Some, None, cond, filter, length, map, max, get_or, nat_lt, refl, unwrap_or, sym, ap, ap₂, ◌∙◌, subst, arith, decimal, ◌++◌}
use Rattle.std.specs.List.{All, AllZip, slice_get}
use Rattle.std.specs.Prelude.{MatchOption, option_map, if◌then◌else◌}
use Rattle.std.specs.Str.{IsUtf8, chars}
use Rattle.std.proofs.lemmas.List.Elements.{All-cons, All-head, All-map, All-nil, All-tail}
use Rattle.std.proofs.lemmas.Option.{slice_get_cases, slice_get_past}
use Rattle.std.proofs.lemmas.Str.{IsUtf8-nil}
use Rattle.comfy_parts.specs.CellValue.{CellValue, RowValue, plain_cell}
use Rattle.comfy_parts.specs.Text.{Text, is_printable_ascii, spaces}
use Rattle.comfy_parts.specs.declared.style.cell.CellAlignment.{CellAlignment}
use Rattle.csv.specs.Records.{field_at}
use Rattle.csv_records.specs.Cleaning.{cleaned, visible_of}
use Rattle.csv_records.specs.Decimals.{trailing_spaces}
use Rattle.csv_records.specs.Number.{is_neutral}
use Rattle.csv_records.specs.declared.decimals.Points.{Points}
use Rattle.csv_tables.specs.Decimals.{spaced}
use Rattle.csv_records.proofs.CleaningLemmas.{cleaned-printable}
use Rattle.comfy_parts.specs.declared.style.cell.CellAlignment.TheVariants.{Left, Right}
use Rattle.csv_tables.proofs.FieldLemmas.{number_is_printable}
use Rattle.csv_tables.proofs.BuiltLemmas.{each_field}
use Rattle.csv_tables.proofs.ReachedLemmas.{mapped_at, reached-at, reached-length, unmapped_at}
use Rattle.csv_tables.specs.Columns.{name_at}
use Rattle.csv_tables.specs.Cells.{shown_in, shown_names, field_text, marked, unless_blank, cell_for, cells_for, header_for, held, pair_for, columns_within, row_for, with_weight, Shown, counted_from, shown_fields, shown_number, text_in, number_name}
use Rattle.csv_tables.specs.Fields.{field_or_blank}
use Rattle.csv_tables.specs.Drawn.{pairs_of}
use Rattle.csv_tables.specs.declared.options.ColumnPlan.{ColumnPlan}
use Rattle.csv_tables.specs.declared.options.Look.{Look}
use Rattle.comfy_parts.proofs.CallerLemmas.{All-every}
use Rattle.csv_promises.proofs.BoldLemmas.{IsWeighted}
use Rattle.csv_promises.proofs.SpacedLemmas.{cleaned-spaced}
use Rattle.csv_promises.specs.Fields.{HoldsField, HoldsFields, fields_at, lined_up, no_marks, pairs_at, row_after_number, rows_from, side_at, sides_after_number}

-- ---- fields at positions

-- a row of these fields, each of which may be in bold
pub record IsRowFor (sides : List CellAlignment) (fields : List Text) (row : RowValue) : Type 0 where
  pub hold : HoldsFields sides fields row
  pub weighted : All IsWeighted row.cells

-- the alignment of a column
abbrev pub own_side : ColumnPlan → CellAlignment
own_side column = unwrap_or column.alignment Left

abbrev pub own_sides : List ColumnPlan → List CellAlignment
own_sides columns = map own_side columns

own_side_at : (columns : List ColumnPlan) (i : ℕ) (d : ColumnPlan) → slice_get columns i ≡ Some d → side_at (own_sides columns) i ≡ own_side d
own_side_at [] i d found = absurd (cc found)
own_side_at (column ∷ columns) zero d found = let same : column ≡ d = cc found in ap own_side same
own_side_at (column ∷ columns) (suc i) d found = own_side_at columns i d found

abbrev pub positions_of : List ColumnPlan → List ℕ
positions_of columns = map (λ (column : ColumnPlan). column.position) columns

module _ (f : ℕ → Text) where
  at_column : (columns : List ColumnPlan) (i : ℕ) (d : ColumnPlan) → slice_get columns i ≡ Some d → field_or_blank (map f (positions_of columns)) i ≡ f d.position
  unfolding field_at
  at_column [] i d found = absurd (cc found)
  at_column (column ∷ columns) zero d found = let same : column ≡ d = cc found in ap (λ (c : ColumnPlan). f c.position) same
  at_column (column ∷ columns) (suc i) d found = at_column columns i d found

  past_columns : (columns : List ColumnPlan) (i : ℕ) → slice_get columns i ≡ None → field_or_blank (map f (positions_of columns)) i ≡ []
  unfolding field_at
  past_columns [] i none = refl
  past_columns (column ∷ columns) zero none = absurd (cc none)
  past_columns (column ∷ columns) (suc i) none = past_columns columns i none

-- a blank field needs no spaces
blank_lined_up : (mark : Option Points) → lined_up mark [] ≡ []
unfolding is_neutral chars
blank_lined_up None = cleaned-printable false [] refl
blank_lined_up (Some points) = ap (λ (t : Text). t ++ []) (cleaned-printable false [] refl)

module _ (look : Look) (unkept : look.has_sequences ≡ false) (none : look.is_markdown ≡ false) where
  abbrev cell_of : Bool → Shown → CellValue
  cell_of is_bold s = with_weight is_bold (cell_for look s.alignment s.text)

  abbrev show : Bool → List Text → ColumnPlan → Shown
  show is_aligned fields column = record { alignment = column.alignment; text = text_in look is_aligned column fields }

  -- the text of a field is cleaned, and empty if it is blank
  same_text : (text : Text) → field_text look text ≡ unless_blank (cleaned false text)
  same_text text = ap₂ (λ (m keeps : Bool). if m then marked (cleaned false text) else unless_blank (cleaned keeps text)) none unkept

  -- a cell holds its cleaned text
  cell_holds : (is_bold : Bool) (alignment : Option CellAlignment) (text field : Text) → cleaned false text ≡ field → HoldsField (unwrap_or alignment Left) field (with_weight is_bold (cell_for look alignment text))
  cell_holds true alignment text field is = record { at_side = refl; texts = ap (λ (t : Text). (plain_cell t).text_lines) (same_text text ∙ ap unless_blank is); no_delimiter = refl }
  cell_holds false alignment text field is = record { at_side = refl; texts = ap (λ (t : Text). (plain_cell t).text_lines) (same_text text ∙ ap unless_blank is); no_delimiter = refl }

  -- the cell may be in bold
  weighted_cell : (is_bold : Bool) (alignment : Option CellAlignment) (text : Text) → IsWeighted (with_weight is_bold (cell_for look alignment text))
  weighted_cell true alignment text = record { no_foreground = refl; no_background = refl; attributes = inr refl }
  weighted_cell false alignment text = record { no_foreground = refl; no_background = refl; attributes = inl refl }

  weighted_cells : (is_bold : Bool) (shown : List Shown) → All IsWeighted (cells_for look is_bold shown).cells
  weighted_cells is_bold shown =
      All-map IsWeighted (λ (s : Shown). with_weight is_bold (cell_for look s.alignment s.text)) shown
      (All-every (λ (s : Shown). IsWeighted (with_weight is_bold (cell_for look s.alignment s.text))) shown (λ s. weighted_cell is_bold s.alignment s.text))

  -- the cells of a row are those of its columns; the fields of missing cells are blank
  abbrev Reaches : List Text → List ColumnPlan → List ColumnPlan → Type 0
  Reaches fields columns own = (i : ℕ) → MatchOption (slice_get columns i) (slice_get own i ≡ None) (λ d. (slice_get own i ≡ Some d) ⊎ ((slice_get own i ≡ None) × (field_or_blank fields d.position ≡ [])))

  -- the cells of a row hold these fields
  abbrev HoldEach : List CellAlignment → List Text → RowValue → Type 0
  HoldEach sides fields row = (i : ℕ) → MatchOption (slice_get row.cells i) (field_or_blank fields i ≡ []) (HoldsField (side_at sides i) (field_or_blank fields i))

  -- a text has the spaces that align the mark of its column
  text_is : (mark : Option Points) (field : Text) → IsUtf8 field → cleaned false (spaced look.has_sequences mark field) ≡ lined_up mark field
  text_is None field utf8 = refl
  text_is (Some points) field utf8 = ap (λ (keeps : Bool). cleaned false (field ++ spaces (trailing_spaces points (visible_of keeps field)))) unkept ∙ cleaned-spaced field (trailing_spaces points field) utf8

  -- the marks of columns are those at their positions
  abbrev HaveMarks : (ℕ → Option Points) → Bool → List ColumnPlan → Type 0
  HaveMarks marks is_aligned columns = (i : ℕ) (d : ColumnPlan) → slice_get columns i ≡ Some d → (if is_aligned then d.points else None) ≡ marks d.position

  cells_are : (is_bold is_aligned : Bool) (marks : ℕ → Option Points) (columns own : List ColumnPlan) → HaveMarks marks is_aligned columns → (fields : List Text) → Reaches fields columns own → All IsUtf8 fields → HoldEach (own_sides columns) (fields_at marks (positions_of columns) fields) (cells_for look is_bold (shown_fields look is_aligned own fields))
  cells_are is_bold is_aligned marks columns own have fields reaches utf8 i = by_column (slice_get columns i) refl (reaches i)
    where
      field : Text
      field = field_or_blank (fields_at marks (positions_of columns) fields) i

      Is : Option CellValue → Type 0
      Is o = MatchOption o (field ≡ []) (HoldsField (side_at (own_sides columns) i) field)

      drawn_at : ℕ → Text
      drawn_at position = lined_up (marks position) (field_or_blank fields position)

      by_column : (o : Option ColumnPlan) → slice_get columns i ≡ o → MatchOption o (slice_get own i ≡ None) (λ d. (slice_get own i ≡ Some d) ⊎ ((slice_get own i ≡ None) × (field_or_blank fields d.position ≡ []))) → Is (slice_get (map (cell_of is_bold) (map (show is_aligned fields) own)) i)
      by_column None is gone = subst Is (sym (unmapped_at (cell_of is_bold) (map (show is_aligned fields) own) i (unmapped_at (show is_aligned fields) own i gone))) (past_columns drawn_at columns i is)
      by_column (Some d) is (inl found) =
          let same =
          text_is (if is_aligned then d.points else None) (field_or_blank fields d.position) (each_field IsUtf8 IsUtf8-nil fields d.position utf8)
          ∙ ap (λ (mark : Option Points). lined_up mark (field_or_blank fields d.position)) (have i d is) ∙ sym (at_column drawn_at columns i d is) in
          subst Is (sym (mapped_at (cell_of is_bold) (map (show is_aligned fields) own) i (show is_aligned fields d) (mapped_at (show is_aligned fields) own i d found)))
          (subst (λ (side : CellAlignment). HoldsField side field (cell_of is_bold (show is_aligned fields d))) (sym (own_side_at columns i d is)) (cell_holds is_bold d.alignment (text_in look is_aligned d fields) field same))
      by_column (Some d) is (inr (gone, blank)) =
          subst Is (sym (unmapped_at (cell_of is_bold) (map (show is_aligned fields) own) i (unmapped_at (show is_aligned fields) own i gone)))
          (at_column drawn_at columns i d is ∙ ap (lined_up (marks d.position)) blank ∙ blank_lined_up (marks d.position))

  -- a row has cells up to the last field of its record
  reaches : (drawn : List Text) (columns : List ColumnPlan) → Reaches drawn columns (columns_within drawn columns)
  reaches drawn columns i = by_column (slice_get columns i) refl
    where
      by_column : (o : Option ColumnPlan) → slice_get columns i ≡ o → MatchOption o (slice_get (columns_within drawn columns) i ≡ None) (λ d. (slice_get (columns_within drawn columns) i ≡ Some d) ⊎ ((slice_get (columns_within drawn columns) i ≡ None) × (field_or_blank drawn d.position ≡ [])))
      by_column None is = by_place (slice_get_cases columns i).1
        where
          by_place : ((x : ColumnPlan) × (i < length columns) × (slice_get columns i ≡ Some x) × (get_or columns i x ≡ x)) ⊎ ((length columns ≤ i) × (slice_get columns i ≡ None)) → slice_get (columns_within drawn columns) i ≡ None
          by_place (inl (x, below, found, at)) = absurd (cc (sym is ∙ found))
          by_place (inr (past, gone)) = let short = reached-length drawn columns in slice_get_past (columns_within drawn columns) i (omega (arith, past, short))
      by_column (Some d) is = reached-at drawn columns i d is

  -- the header has a cell for each column
  all_own : (drawn : List Text) (columns : List ColumnPlan) → Reaches drawn columns columns
  all_own drawn columns i = by_column (slice_get columns i) refl
    where
      by_column : (o : Option ColumnPlan) → slice_get columns i ≡ o → MatchOption o (slice_get columns i ≡ None) (λ d. (slice_get columns i ≡ Some d) ⊎ ((slice_get columns i ≡ None) × (field_or_blank drawn d.position ≡ [])))
      by_column None is = is
      by_column (Some d) is = inl is

  -- fields after a number, or without one
  after : (is_bold is_numbered : Bool) (number : Text) → is_printable_ascii number ≡ true → (sides : List CellAlignment) (fields : List Text) (shown : List Shown) → HoldEach sides fields (cells_for look is_bold shown)
      → HoldEach (sides_after_number is_numbered sides) (row_after_number is_numbered number fields) (cells_for look is_bold (shown_number (if is_numbered then Some number else None) ++ shown))
  unfolding field_at
  after is_bold true number printable sides fields shown own zero = cell_holds is_bold (Some Right) number number (cleaned-printable false number printable)
  after is_bold true number printable sides fields shown own (suc i) = own i
  after is_bold false number printable sides fields shown own i = own i

  -- ---- rows of a table

  module _ (whole : look.max_height ≡ None) (columns : List ColumnPlan) where
    name_is_printable : (names : List Text) → is_printable_ascii (number_name names) ≡ true
    name_is_printable [] = refl
    name_is_printable (name ∷ names) = refl

    pub is_header : (is_numbered : Bool) (names : List Text) → All IsUtf8 names → IsRowFor (sides_after_number is_numbered (own_sides columns)) (row_after_number is_numbered (number_name names) (fields_at no_marks (positions_of columns) names)) (header_for look is_numbered columns names)
    is_header is_numbered names utf8 =
        record {
          hold = record {
            each = after look.has_bold_header is_numbered (number_name names) (name_is_printable names) (own_sides columns) (fields_at no_marks (positions_of columns) names) (shown_fields look false columns names)
                (cells_are look.has_bold_header false no_marks columns columns (λ i d found. refl) names (all_own names columns) utf8);
            uncut = refl;
          };
          weighted = weighted_cells look.has_bold_header (shown_names look is_numbered columns names);
        }

    pub are_rows : (is_aligned is_numbered : Bool) (marks : ℕ → Option Points) → HaveMarks marks is_aligned columns → (n : ℕ) (rows : List (List Text)) → All (All IsUtf8) rows → AllZip (IsRowFor (sides_after_number is_numbered (own_sides columns))) (rows_from is_numbered marks (positions_of columns) n rows) (map (row_for look is_aligned is_numbered columns) (counted_from n rows))
    are_rows is_aligned is_numbered marks have n [] utf8 = tt
    are_rows is_aligned is_numbered marks have n (fields ∷ rows) utf8 = (
      record {
        hold = record {
          each = after false is_numbered (decimal n) (number_is_printable n) (own_sides columns) (fields_at marks (positions_of columns) fields) (shown_fields look is_aligned (columns_within fields columns) fields)
              (cells_are false is_aligned marks columns (columns_within fields columns) have fields (reaches fields columns) (All-head (All IsUtf8) fields rows utf8));
          uncut = ap (option_map (max 1)) whole;
        };
        weighted = weighted_cells false (shown_in look is_aligned is_numbered (columns_within fields columns) (n, fields));
      },
      are_rows is_aligned is_numbered marks have (n + 1) rows (All-tail (All IsUtf8) fields rows utf8),
    )

    -- the row of a name and a field
    is_pair : (name field : Text) → IsRowFor [] (cleaned false name ∷ cleaned false field ∷ []) (pair_for look name field)
    unfolding field_at
    is_pair name field =
        record {
          hold = record { each = each; uncut = ap (option_map (max 1)) whole };
          weighted = All-cons IsWeighted (with_weight look.has_bold_header (cell_for look None name)) (cell_for look None field ∷ []) (weighted_cell look.has_bold_header None name) (All-cons IsWeighted (cell_for look None field) [] (weighted_cell false None field) (All-nil IsWeighted));
        }
      where
        each : HoldEach [] (cleaned false name ∷ cleaned false field ∷ []) (pair_for look name field)
        each zero = cell_holds look.has_bold_header None name (cleaned false name) refl
        each (suc zero) = cell_holds false None field (cleaned false field) refl
        each (suc (suc i)) = refl

    -- the rows of an expanded record
    pub are_pairs : (names fields : List Text) (own : List ColumnPlan) → AllZip (IsRowFor []) (pairs_at names (positions_of own) fields) (pairs_of look own names fields)
    are_pairs names fields [] = tt
    are_pairs names fields (column ∷ own) = by_test (nat_lt column.position (length fields)) (are_pairs names fields own)
      where
        pair_at : ℕ → List Text
        pair_at position = cleaned false (name_at names position) ∷ cleaned false (field_or_blank fields position) ∷ []

        row_of : ColumnPlan → RowValue
        row_of c = pair_for look (name_at names c.position) (field_or_blank fields c.position)

        by_test : (b : Bool) → AllZip (IsRowFor []) (pairs_at names (positions_of own) fields) (pairs_of look own names fields)
            → AllZip (IsRowFor []) (map pair_at (cond b (column.position ∷ filter (λ position. nat_lt position (length fields)) (positions_of own)) (filter (λ position. nat_lt position (length fields)) (positions_of own))))
            (map row_of (cond b (column ∷ held fields own) (held fields own)))
        by_test true rest = (is_pair (name_at names column.position) (field_or_blank fields column.position), rest)
        by_test false rest = rest
