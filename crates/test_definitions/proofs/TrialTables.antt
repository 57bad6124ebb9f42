-- Definitions from which trials build their tables.
use Rattle.std.specs.Prelude.{◌≡◌, ◌==◌, ◌&&◌, ◌||◌, ◌++◌, ℕ, Bool, true, false, List, [], ◌∷◌, Option, Some, length, map, max, codes, encode_utf8_all}
use Rattle.std.proofs.Common.{refl, ap, ◌∙◌}
use Prim.Native.String.{String}
use Rattle.comfy_parts.specs.CellValue.{CellValue, RowValue, ColumnValue, plain_cell, plain_row, with_max_height}
use Rattle.comfy_parts.specs.Presets.{utf8_full}
use Rattle.comfy_parts.specs.StyleModifiers.{with_rounded_corners}
use Rattle.comfy_parts.specs.Text.{Text}
use Rattle.comfy_parts.specs.declared.style.cell.CellAlignment.{CellAlignment}
use Rattle.comfy_parts.specs.declared.style.column.ColumnConstraint.{ColumnConstraint}
use Rattle.comfy_parts.specs.declared.style.table.ContentArrangement.{ContentArrangement}
use Rattle.comfy_parts.specs.declared.style.table_style.TableStyle.{TableStyle}
use Rattle.comfy_table.specs.Arrangement.{AreShownWidths, IsArranged, hidden_columns, widths_at}
use Rattle.comfy_table.specs.Dynamic.{IsDynamicLayout, IsLevel, IsTakenInOrder, Steps, content_room, lower_offer, others, room_of_others, room_of_unsettled, shrunk_offer, undecided, unsettled, widened}
use Rattle.comfy_table.specs.TableValue.{TableValue, column_content_width, new_table, shown_columns, with_header, with_rows}
use Rattle.comfy_table.specs.Widths.{ColumnNeeds}

-- the UTF-8 of a text
abbrev pub utf8 : String → Text
utf8 s = encode_utf8_all (codes s)

abbrev pub texts : List String → List Text
texts lines = map utf8 lines

abbrev pub cells_of : List String → List CellValue
cells_of cells = map (λ (s : String). plain_cell (utf8 s)) cells

abbrev pub row_of : List String → RowValue
row_of cells = plain_row (cells_of cells)

-- true if a text contains `ab`
abbrev pub has_ab : Text → Bool
has_ab [] = false
has_ab (x ∷ []) = false
has_ab (x ∷ y ∷ rest) = ((x == 0x61) && (y == 0x62)) || has_ab (y ∷ rest)

either_way : (b : Bool) → (b || true) ≡ true
either_way true = refl
either_way false = refl

ab_inside : (before after : Text) → has_ab (before ++ (0x61 ∷ 0x62 ∷ after)) ≡ true
ab_inside [] after = refl
ab_inside (x ∷ []) after = either_way ((x == 0x61) && (0x61 == 0x62))
ab_inside (x ∷ y ∷ before) after =
    ap (λ b. ((x == 0x61) && (y == 0x62)) || b) (ab_inside (y ∷ before) after)
    ∙ either_way ((x == 0x61) && (y == 0x62))

-- if a text doesn't contain `ab`, it isn't made of `ab` and other texts
pub no_ab_inside : (text : Text) → has_ab text ≡ false → (before after : Text)
    → ¬ (text ≡ before ++ (0x61 ∷ 0x62 ∷ after))
no_ab_inside text none before after made = cc (none, ap has_ab made, ab_inside before after)

-- rows appended to a table
abbrev pub with_texts : List (List String) → TableValue → TableValue
with_texts rows table = with_rows (map row_of rows) table

abbrev pub table_of : TableStyle → List String → List (List String) → TableValue
table_of style header rows = with_texts rows (with_header (row_of header) (new_table style))

-- a table without a header
abbrev pub rows_of : TableStyle → List (List String) → TableValue
rows_of style rows = with_texts rows (new_table style)

abbrev pub arranged : ContentArrangement → ℕ → TableValue → TableValue
arranged arrangement width table = record table { arrangement = arrangement; set_width = Some width }

-- the constraints of columns in list order; further columns keep theirs
abbrev pub constrained : List (Option ColumnConstraint) → List ColumnValue → List ColumnValue
constrained [] columns = columns
constrained (c ∷ cs) [] = []
constrained (c ∷ cs) (column ∷ columns) = record column { constraint = c } ∷ constrained cs columns

abbrev pub with_constraints : List (Option ColumnConstraint) → TableValue → TableValue
with_constraints constraints table = record table { columns = constrained constraints table.columns }

-- each row gets this greatest height
abbrev pub with_heights : ℕ → TableValue → TableValue
with_heights h table = record table { rows = map (with_max_height h) table.rows }

-- the paddings and the alignments of columns in list order; further columns keep theirs
abbrev pub padded_by : List (ℕ × ℕ) → List ColumnValue → List ColumnValue
padded_by [] columns = columns
padded_by (p ∷ ps) [] = []
padded_by (p ∷ ps) (column ∷ columns) = record column { padding = p } ∷ padded_by ps columns

abbrev pub with_paddings : List (ℕ × ℕ) → TableValue → TableValue
with_paddings paddings table = record table { columns = padded_by paddings table.columns }

abbrev pub aligned_by : List CellAlignment → List ColumnValue → List ColumnValue
aligned_by [] columns = columns
aligned_by (a ∷ more) [] = []
aligned_by (a ∷ more) (column ∷ columns) = record column { alignment = Some a } ∷ aligned_by more columns

abbrev pub with_alignments : List CellAlignment → TableValue → TableValue
with_alignments alignments table = record table { columns = aligned_by alignments table.columns }

abbrev pub aligned_cell : CellAlignment → String → CellValue
aligned_cell a s = record (plain_cell (utf8 s)) { alignment = Some a }

abbrev pub rounded_utf8 : TableStyle
rounded_utf8 = with_rounded_corners utf8_full

abbrev pub with_indicator : String → TableValue → TableValue
with_indicator indicator table = record table { indicator = utf8 indicator }

abbrev pub with_delimiter : ℕ → TableValue → TableValue
with_delimiter delimiter table = record table { delimiter = Some delimiter }

-- the widths of a table, with their facts computed
pub at_widths : {table : TableValue} {widths : List ℕ} → length widths ≡ length table.columns
    → widths_at widths (hidden_columns table) ≡ map (λ (p : ℕ × ColumnValue). max 1 (column_content_width table p.0)) (hidden_columns table) → AreShownWidths table (widths_at widths (shown_columns table)) → IsArranged table widths
at_widths one hidden visible = record { one_for_each = one; hidden_widths = hidden; shown_widths = visible }

-- the widths of the shown columns, by the steps of a dynamic arrangement
pub by_steps : {room : ℕ} {columns : List ColumnNeeds} {full : Bool} {widths : List ℕ} (steps : Steps) → IsTakenInOrder (undecided room columns) (lower_offer (content_room room columns) (undecided room columns)) steps.lower
    → IsLevel (room_of_others room columns steps.lower) (others room columns steps.lower) steps.level
    → IsTakenInOrder (unsettled room columns steps) (shrunk_offer (room_of_unsettled room columns steps) (unsettled room columns steps)) steps.shrunk → widths ≡ widened room columns full steps → IsDynamicLayout room columns full widths
by_steps steps lower level shrunk are = (steps, record { lower_taken = lower; level_found = level; shrunk_taken = shrunk; widths_are = are })
