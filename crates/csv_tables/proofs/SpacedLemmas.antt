-- Fields with spaces after them, and columns whose fields need no spaces.
use Rattle.std.proofs.Common.{◌≡◌, ◌&&◌, ◌||◌, not, ◌++◌, ℕ, Bool, true, false, List, [], ◌∷◌, Option, Some, None, is_some, map, refl, sym, ap, ap₂, ◌∙◌}
use Rattle.std.specs.List.{list_any}
use Rattle.std.specs.Prelude.{if◌then◌else◌}
use Rattle.std.specs.Str.{chars}
use Rattle.std.proofs.lemmas.Bool.{and_parts, or_parts}
use Rattle.comfy_parts.specs.CellValue.{RowValue}
use Rattle.comfy_parts.specs.Text.{Text, spaces}
use Rattle.comfy_table.specs.TableValue.{with_rows}
use Rattle.csv_records.specs.Cleaning.{visible_of}
use Rattle.csv_records.specs.Decimals.{trailing_spaces}
use Rattle.csv_records.specs.Number.{is_neutral}
use Rattle.csv_records.specs.declared.decimals.Points.{Points}
use Rattle.csv_tables.specs.Cells.{Shown, cells_for, counted_from, cut, has_field, number_of, columns_within, row_for, shown_fields, shown_number, text_in}
use Rattle.csv_tables.specs.Decimals.{has_points, spaced}
use Rattle.csv_tables.specs.Drawn.{SelectedValue, headed_table, rows_table}
use Rattle.csv_tables.specs.Fields.{field_or_blank}
use Rattle.csv_tables.specs.declared.options.ColumnPlan.{ColumnPlan}
use Rattle.csv_tables.specs.declared.options.Look.{Look}

-- ---- no spaces

unseen : (keeps : Bool) → visible_of keeps [] ≡ []
unseen true = refl
unseen false = refl

-- an empty field needs no spaces
no_spaces : (points : Points) → trailing_spaces points [] ≡ 0
unfolding chars is_neutral
no_spaces points = refl

-- an empty field stays empty
pub spaced-blank : (keeps : Bool) (mark : Option Points) → spaced keeps mark [] ≡ []
spaced-blank keeps None = refl
spaced-blank keeps (Some points) = ap spaces (ap (trailing_spaces points) (unseen keeps) ∙ no_spaces points)

-- a column shows nothing of an empty field
pub blank_text : (look : Look) (is_aligned : Bool) (column : ColumnPlan) (fields : List Text) → field_or_blank fields column.position ≡ [] → text_in look is_aligned column fields ≡ []
blank_text look is_aligned column fields blank =
    ap (spaced look.has_sequences (if is_aligned then column.points else None)) blank ∙ spaced-blank look.has_sequences (if is_aligned then column.points else None)

-- ---- columns without marks

no_points : (column : ColumnPlan) → is_some column.points ≡ false → column.points ≡ None
no_points column none = by_points column.points refl none
  where
    by_points : (o : Option Points) → column.points ≡ o → is_some o ≡ false → column.points ≡ None
    by_points None is none = is
    by_points (Some points) is none = absurd (cc none)

and_false : (b : Bool) → (b && false) ≡ false
and_false true = refl
and_false false = refl

module _ (look : Look) where
  same_fields : (columns : List ColumnPlan) → has_points columns ≡ false → (fields : List Text) → shown_fields look true columns fields ≡ shown_fields look false columns fields
  same_fields [] none fields = refl
  same_fields (column ∷ columns) none fields =
      let parts = or_parts (is_some column.points) (has_points columns) none in
      ap₂ (λ (mark : Option Points) (rest : List Shown). record { alignment = column.alignment; text = spaced look.has_sequences mark (field_or_blank fields column.position) } ∷ rest)
      (no_points column parts.0) (same_fields columns parts.1 fields)

  -- no column that is reached has a decimal mark either
  none_reached : (fields : List Text) (columns : List ColumnPlan) → has_points columns ≡ false → has_points (columns_within fields columns) ≡ false
  none_reached fields [] none = refl
  none_reached fields (column ∷ columns) none = by_any (list_any (has_field fields) (column ∷ columns)) refl (none_reached fields columns parts.1)
    where
      parts : (is_some column.points ≡ false) × (has_points columns ≡ false)
      parts = or_parts (is_some column.points) (has_points columns) none

      by_any : (b : Bool) → list_any (has_field fields) (column ∷ columns) ≡ b → has_points (columns_within fields columns) ≡ false → has_points (columns_within fields (column ∷ columns)) ≡ false
      by_any true is rest = rw (is, parts.0) rest
      by_any false is rest = rw is refl

  module _ (content : SelectedValue) (none : has_points content.columns ≡ false) where
    same_rows : (rows : List (ℕ × List Text)) → map (row_for look true content.is_numbered content.columns) rows ≡ map (row_for look false content.is_numbered content.columns) rows
    same_rows [] = refl
    same_rows (row ∷ rows) =
        ap₂ (λ (shown : List Shown) (rest : List RowValue). cut look (cells_for look false (shown_number (number_of content.is_numbered row.0) ++ shown)) ∷ rest)
        (same_fields (columns_within row.1 content.columns) (none_reached row.1 content.columns none) row.1) (same_rows rows)

    pub same_table : rows_table look true content ≡ rows_table look false content
    same_table = ap (λ (rows : List RowValue). with_rows rows (headed_table look content.is_numbered content.columns content.names)) (same_rows (counted_from 1 content.rows))

  -- for any test for room
  module _ (room : Bool → Bool) where
    -- if marks aren't aligned, or there are none, the table is the one without spaces
    unaligned_by : (content : SelectedValue) → look.aligns_decimals && has_points content.columns ≡ false → rows_table look false content ≡ rows_table look (look.aligns_decimals && room true) content
    unaligned_by content none = by_tests look.aligns_decimals refl
      where
        by_tests : (aligns : Bool) → look.aligns_decimals ≡ aligns → rows_table look false content ≡ rows_table look (aligns && room true) content
        by_tests false is = refl
        by_tests true is = by_room (room true)
          where
            by_room : (b : Bool) → rows_table look false content ≡ rows_table look b content
            by_room true = sym (same_table content (ap (λ (a : Bool). a && has_points content.columns) (sym is) ∙ none))
            by_room false = refl

    -- marks aren't aligned if there is no room for the spaces
    pub without_room : room true ≡ false → look.aligns_decimals && room true ≡ false
    without_room none = ap (λ (b : Bool). look.aligns_decimals && b) none ∙ and_false look.aligns_decimals

    -- the table that is drawn if there is room, or no marks are aligned
    pub fits : (content : SelectedValue) (aligns has : Bool) → aligns ≡ look.aligns_decimals && has_points content.columns → has ≡ room aligns → has || not aligns ≡ true
        → rows_table look aligns content ≡ rows_table look (look.aligns_decimals && room true) content
    fits content false has is own drawn = unaligned_by content (sym is)
    fits content true true is own drawn =
        ap (λ (b : Bool). rows_table look b content) (sym (ap₂ (λ a b. a && b) (and_parts look.aligns_decimals (has_points content.columns) (sym is)).0 (sym own)))
    fits content true false is own drawn = absurd (cc drawn)

    -- the test for room gives the same for the table that is drawn
    pub fits_in : (content : SelectedValue) (aligns has : Bool) → aligns ≡ look.aligns_decimals && has_points content.columns → has ≡ room aligns → has || not aligns ≡ true → (has_points content.columns ≡ false → room true ≡ room false)
        → room aligns ≡ room (look.aligns_decimals && room true)
    fits_in content true true is own drawn same = ap room (sym (ap₂ (λ a b. a && b) (and_parts look.aligns_decimals (has_points content.columns) (sym is)).0 (sym own)))
    fits_in content true false is own drawn same = absurd (cc drawn)
    fits_in content false has is own drawn same = by_tests look.aligns_decimals (sym is)
      where
        by_room : (b : Bool) → room true ≡ b → (room true ≡ room false) → room false ≡ room b
        by_room true is alike = sym alike
        by_room false is alike = refl

        by_tests : (aligns : Bool) → aligns && has_points content.columns ≡ false → room false ≡ room (aligns && room true)
        by_tests false none = refl
        by_tests true none = by_room (room true) refl (same none)
