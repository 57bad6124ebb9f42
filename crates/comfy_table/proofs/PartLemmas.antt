-- Parts of a table: the drawing of some of its rows.
use Rattle.std.proofs.Common.{◌≡◌, ℕ, zero, suc, Bool, true, false, List, [], ◌∷◌, ◌++◌, drop, flat_map, map, take, refl, ap, ◌∙◌, sym, subst}
use Rattle.std.proofs.lemmas.List.{drop-map, take-map, take_all}
use Rattle.std.specs.List.{All, AllByRecursion, Contains, join_by}
use Rattle.std.specs.Prelude.{if◌then◌else◌}
use Rattle.std.proofs.lemmas.List.Elements.{All-contains_itself, All-from_recursion, recursion_from_All}
use Rattle.comfy_parts.proofs.CallerLemmas.{every-append, every-parts}
use Rattle.comfy_parts.specs.CellValue.{ColumnInfo, RowValue}
use Rattle.comfy_parts.specs.Text.{Text}
use Rattle.comfy_table.proofs.OtherRowLemmas.{header_same, row_same}
use Rattle.comfy_table.specs.Drawing.{drawing_of_infos, drawn_header, drawn_row, drawn_rows, outer_widths}
use Rattle.comfy_table.specs.Frame.{optional_frame_line}
use Rattle.comfy_table.specs.Laws.{unstyled}
use Rattle.comfy_table.specs.Parts.{AllRowsAreTheTable, PartHasLinesOfTable, PartIsUnstyled, with_rows_alone}
use Rattle.comfy_table.specs.TableValue.{TableValue, visible_row, with_other_rows}

-- ---- parts of joined lists

module _ {X Y : Type 0} (P : Y → Type 0) (f : X → List Y) (separator : List Y) where
  -- a property of each element of joined lists holds without the first list
  without_first : (x : X) (xs : List X) → AllByRecursion P (join_by f separator (x ∷ xs)) → AllByRecursion P (join_by f separator xs)
  without_first x [] each = tt
  without_first x (y ∷ ys) each =
      let others = (every-parts P (f x) (flat_map (λ z. separator ++ f z) (y ∷ ys)) each).1 in
      let both = every-parts P (separator ++ f y) (flat_map (λ z. separator ++ f z) ys) others in
      every-append P (f y) (flat_map (λ z. separator ++ f z) ys) (every-parts P separator (f y) both.0).1 both.1

  -- a property of each element of joined lists holds from a list on
  joined_from : (n : ℕ) (xs : List X) → AllByRecursion P (join_by f separator xs) → AllByRecursion P (join_by f separator (drop n xs))
  joined_from zero xs each = each
  joined_from (suc n) [] each = tt
  joined_from (suc n) (x ∷ xs) each = joined_from n xs (without_first x xs each)

  -- a property of each element of joined lists holds up to a list
  front_of : (g : X → List Y) (n : ℕ) (xs : List X) → AllByRecursion P (flat_map g xs) → AllByRecursion P (flat_map g (take n xs))
  front_of g zero xs each = tt
  front_of g (suc n) [] each = tt
  front_of g (suc n) (x ∷ xs) each =
      let both = every-parts P (g x) (flat_map g xs) each in
      every-append P (g x) (flat_map g (take n xs)) both.0 (front_of g n xs both.1)

  joined_to : (n : ℕ) (xs : List X) → AllByRecursion P (join_by f separator xs) → AllByRecursion P (join_by f separator (take n xs))
  joined_to zero xs each = tt
  joined_to (suc n) [] each = tt
  joined_to (suc n) (x ∷ xs) each =
      let both = every-parts P (f x) (flat_map (λ y. separator ++ f y) xs) each in
      every-append P (f x) (flat_map (λ y. separator ++ f y) (take n xs)) both.0 (front_of (λ y. separator ++ f y) n xs both.1)

-- ---- lines of parts

-- the drawing of a table with other rows, with the same borders and header
pub other_rows_drawn : (table : TableValue) (rows : List RowValue) (infos : List ColumnInfo)
    → drawing_of_infos (with_other_rows rows table) infos
    ≡ optional_frame_line table.style table.style.top_border (outer_widths infos) ++ (drawn_header table infos table.header ++ (drawn_rows table infos rows ++ optional_frame_line table.style table.style.bottom_border (outer_widths infos)))
other_rows_drawn table rows infos = λ i. framed (header_same table rows infos table.header i) (λ row. row_same table rows infos table.style.content_lines row i)
  where
    framed : List Text → (RowValue → List Text) → List Text
    framed header drawn =
        optional_frame_line table.style table.style.top_border (outer_widths infos)
        ++ (header ++ (join_by drawn (optional_frame_line table.style table.style.row_separator (outer_widths infos)) rows ++ optional_frame_line table.style table.style.bottom_border (outer_widths infos)))

-- a property of each line of a table holds of each line of a part
part_keeps_lines : (P : Text → Type 0) (table : TableValue) (infos : List ColumnInfo) (first count : ℕ) → All P (drawing_of_infos table infos) → All P (drawing_of_infos (with_rows_alone first count table) infos)
part_keeps_lines P table infos first count all =
    All-from_recursion P _ (subst (AllByRecursion P) (sym (other_rows_drawn table (take count (drop first table.rows)) infos))
    (every-append P top _ one.0 (every-append P header _ two.0 (every-append P _ bottom rows three.1))))
  where
    top : List Text
    top = optional_frame_line table.style table.style.top_border (outer_widths infos)

    bottom : List Text
    bottom = optional_frame_line table.style table.style.bottom_border (outer_widths infos)

    separator : List Text
    separator = optional_frame_line table.style table.style.row_separator (outer_widths infos)

    header : List Text
    header = drawn_header table infos table.header

    one : AllByRecursion P top × AllByRecursion P (header ++ (drawn_rows table infos table.rows ++ bottom))
    one = every-parts P top _ (recursion_from_All P _ all)

    two : AllByRecursion P header × AllByRecursion P (drawn_rows table infos table.rows ++ bottom)
    two = every-parts P header _ one.1

    three : AllByRecursion P (drawn_rows table infos table.rows) × AllByRecursion P bottom
    three = every-parts P (drawn_rows table infos table.rows) bottom two.1

    rows : AllByRecursion P (drawn_rows table infos (take count (drop first table.rows)))
    rows =
        joined_to P (drawn_row table infos table.style.content_lines) separator count (drop first table.rows)
        (joined_from P (drawn_row table infos table.style.content_lines) separator first table.rows three.0)

-- so each line of a part is a line of the table
pub part_has_lines_of_table : (table : TableValue) (infos : List ColumnInfo) (first count : ℕ) → PartHasLinesOfTable table infos first count
part_has_lines_of_table table infos first count =
    part_keeps_lines (Contains (drawing_of_infos table infos)) table infos first count (All-contains_itself (drawing_of_infos table infos))

-- ---- parts without styling, and all rows

pub part_is_unstyled : (table : TableValue) (first count : ℕ) → PartIsUnstyled table first count
part_is_unstyled table first count = ap (λ (rows : List RowValue). with_other_rows rows (unstyled table)) (measured table.custom_styling)
  where
    measured : (b : Bool) → (if b then map visible_row (take count (drop first table.rows)) else take count (drop first table.rows)) ≡ take count (drop first (if b then map visible_row table.rows else table.rows))
    measured true = sym (take-map visible_row count (drop first table.rows)) ∙ ap (take count) (sym (drop-map visible_row first table.rows))
    measured false = refl

pub all_rows_are_the_table : (table : TableValue) (count : ℕ) → AllRowsAreTheTable table count
all_rows_are_the_table table count all = ap (λ (rows : List RowValue). with_other_rows rows table) (take_all count table.rows all)
