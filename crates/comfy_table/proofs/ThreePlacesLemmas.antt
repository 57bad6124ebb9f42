-- No column of a printable table without constraints is more than three terminal columns wider than its content.
use Rattle.std.proofs.Common.{◌≡◌, ◌≤◌, ℕ, ◌+◌, Bool, true, false, List, [], ◌∷◌, length, map, flat_map, min, max, Option, Some, None, unwrap_or, nat_le, MatchOption, refl, sym, ap, ◌∙◌, subst, arith, length-append, le_trans}
use Rattle.std.specs.Prelude.{if◌then◌else◌}
use Rattle.std.specs.Int.{is_in_range}
use Rattle.std.specs.List.{All, AllByRecursion, AllZip}
use Rattle.std.proofs.lemmas.List.Elements.{recursion_from_All}
use Rattle.comfy_parts.proofs.CallerLemmas.{IsUtf8-printable, every-both, every-flat_map, every-weaker, measure-printable, scalar-printable, slices-printable, wrapped_is_wrapped}
use Rattle.comfy_parts.specs.CellValue.{CellValue, ColumnValue, column_padding}
use Rattle.comfy_parts.specs.Text.{Text, measure, greatest, is_printable_ascii}
use Rattle.comfy_parts.specs.Wrapping.{IsSlicesWhere, IsWrapped, wrapped, lines_of_text}
use Rattle.comfy_parts.specs.declared.style.column.ColumnConstraint.{ColumnConstraint}
use Rattle.comfy_parts.specs.declared.style.table.ContentArrangement.{ContentArrangement}
use Rattle.comfy_parts.specs.declared.style.table.ContentArrangement.TheVariants.{Dynamic}
use Rattle.comfy_table.specs.Arrangement.{AreShownWidths, width_kept, is_full_width, room_beside_borders}
use Rattle.comfy_table.specs.Dynamic.{Claim, IsArrangedBy, IsDynamicLayout, contents_after, content_room}
use Rattle.comfy_table.specs.Laws.{IsPrintableCell, NoConstraints, HasPrintableCells}
use Rattle.comfy_table.specs.TableLaws.{IsAtMostThreeOver, shown_contents}
use Rattle.comfy_table.specs.Levels.{IsUnconstrained}
use Rattle.comfy_table.specs.Lines.{cell_delimiter, cell_lines, longest_line}
use Rattle.comfy_table.specs.TableValue.{TableValue, table_width, shown_columns, column_cells, column_content_width, cell_content_width}
use Rattle.comfy_table.specs.Widths.{ColumnNeeds, needs_of, shown_needs, shown_count, disabled_width, capped_content, fixed_by_constraint, upper_boundary}
use Rattle.comfy_table.proofs.ContentLemmas.{steps_with, each_content, each_content_short}
use Rattle.comfy_table.proofs.DrawnWidthLemmas.{unconstrained_shown}

-- ---- lines are no longer than their text

-- slices are no longer than their text
slices-short : (Ends : Text → Text → Type 0) (d : ℕ) (text : Text) (lines : List Text) → IsSlicesWhere Ends d text lines → AllByRecursion (λ (line : Text). length line ≤ length text) lines
slices-short Ends d text [] slices = tt
slices-short Ends d text (line ∷ lines) (tail, slice, ends, more) = grind (arith, length-append, every-weaker, slices-short Ends d tail lines more)

-- the lines of a printable text measure no more than the text
lines_of_text-le : (w d : ℕ) (text : Text) → is_in_range 0x20 0x7E d ≡ true → is_printable_ascii text ≡ true → AllByRecursion (λ (line : Text). measure line ≤ measure text) (lines_of_text w d text)
lines_of_text-le w d text delimiter printable = by_test (nat_le (measure text) w)
  where
    lines : IsWrapped w d text (wrapped w d text)
    lines = wrapped_is_wrapped w d text (scalar-printable d delimiter) (IsUtf8-printable text printable)

    plain : AllByRecursion (λ (line : Text). is_printable_ascii line ≡ true) (wrapped w d text)
    plain = recursion_from_All (λ (line : Text). is_printable_ascii line ≡ true) (wrapped w d text) (slices-printable _ d text (wrapped w d text) lines printable)

    by_test : (b : Bool) → AllByRecursion (λ (line : Text). measure line ≤ measure text) (if b then text ∷ [] else wrapped w d text)
    by_test true = (omega arith, tt)
    by_test false =
        every-weaker (λ (line : Text). (is_printable_ascii line ≡ true) × (length line ≤ length text)) (λ (line : Text). measure line ≤ measure text) (wrapped w d text)
        (λ line facts. omega (arith, facts.1, measure-printable line facts.0, measure-printable text printable))
        (every-both (λ (line : Text). is_printable_ascii line ≡ true) (λ (line : Text). length line ≤ length text) (wrapped w d text) plain (slices-short _ d text (wrapped w d text) lines))

-- ---- the longest line of a column

-- each number is at most the greatest
pub every-le-greatest : {X : Type 0} (f : X → ℕ) (xs : List X) → AllByRecursion (λ (x : X). f x ≤ greatest (map f xs)) xs
every-le-greatest f [] = tt
every-le-greatest {X} f (x ∷ xs) = (omega arith, every-weaker (λ (y : X). f y ≤ greatest (map f xs)) (λ (y : X). f y ≤ greatest (map f (x ∷ xs))) xs (λ y least. omega (arith, least)) (every-le-greatest f xs))

-- the greatest number, capped, is within a bound that each number, capped, keeps to
greatest-le : {X : Type 0} (cap bound : ℕ) (f : X → ℕ) (xs : List X) → AllByRecursion (λ (x : X). min cap (f x) ≤ bound) xs → min cap (greatest (map f xs)) ≤ bound
greatest-le cap bound f [] each = omega arith
greatest-le cap bound f (x ∷ xs) each = omega (arith, each.0, greatest-le cap bound f xs each.1)

-- the lines of a printable cell measure at most its content, if both are capped at 65535
cell_lines-le : (table : TableValue) (delimiter : Option ℕ) (w : ℕ) (cell : CellValue) → IsPrintableCell table delimiter cell
    → AllByRecursion (λ (line : Text). min 65535 (measure line) ≤ cell_content_width cell) (cell_lines w (cell_delimiter table delimiter cell) cell)
cell_lines-le table delimiter w cell plain =
    let d = cell_delimiter table delimiter cell in
    every-flat_map (λ (text : Text). (is_printable_ascii text ≡ true) × (measure text ≤ greatest (map measure cell.text_lines))) (λ (line : Text). min 65535 (measure line) ≤ cell_content_width cell) (lines_of_text w d) cell.text_lines
    (λ text facts. every-weaker (λ (line : Text). measure line ≤ measure text) (λ (line : Text). min 65535 (measure line) ≤ cell_content_width cell) (lines_of_text w d text) (λ line short. omega (arith, short, facts.1)) (lines_of_text-le w d text plain.1 facts.0))
    (every-both (λ (text : Text). is_printable_ascii text ≡ true) (λ (text : Text). measure text ≤ greatest (map measure cell.text_lines)) cell.text_lines
    (recursion_from_All (λ (text : Text). is_printable_ascii text ≡ true) cell.text_lines plain.0) (every-le-greatest measure cell.text_lines))

-- the longest line of a column of printable cells measures at most its content, if both are capped at 65535
longest_line-le : (table : TableValue) (i : ℕ) (delimiter : Option ℕ) (w : ℕ) → AllByRecursion (IsPrintableCell table delimiter) (column_cells table i) → min 65535 (longest_line table i delimiter w) ≤ column_content_width table i
longest_line-le table i delimiter w plain =
    let cells = column_cells table i in
    let content = column_content_width table i in
    greatest-le 65535 content measure (flat_map (λ (cell : CellValue). cell_lines w (cell_delimiter table delimiter cell) cell) cells)
    (every-flat_map (λ (cell : CellValue). IsPrintableCell table delimiter cell × (cell_content_width cell ≤ content)) (λ (line : Text). min 65535 (measure line) ≤ content) (λ (cell : CellValue). cell_lines w (cell_delimiter table delimiter cell) cell) cells
    (λ cell facts. every-weaker (λ (line : Text). min 65535 (measure line) ≤ cell_content_width cell) (λ (line : Text). min 65535 (measure line) ≤ content) (cell_lines w (cell_delimiter table delimiter cell) cell)
    (λ line short. le_trans short facts.1) (cell_lines-le table delimiter w cell facts.0))
    (every-both (IsPrintableCell table delimiter) (λ (cell : CellValue). cell_content_width cell ≤ content) cells plain (every-le-greatest cell_content_width cells)))

-- ---- widths and needs

-- no line of the column is longer than its content, if both are capped at 65535
abbrev IsWithinContent : ColumnNeeds → Type 0
IsWithinContent column = (b : ℕ) → min 65535 (column.longest b) ≤ column.content

-- if that holds of a column, it is at most three terminal columns wider than its content
abbrev IsThreeOver : ColumnNeeds → ℕ → Type 0
IsThreeOver column width = IsWithinContent column → width ≤ column.content + 3

-- each content width is at most that wide
three_over : (room : ℕ) (columns : List ColumnNeeds) → AllByRecursion IsUnconstrained columns → (lower : List Claim) (level : Option ℕ) (shrunk : List Claim) (widths : List ℕ) → IsArrangedBy room columns false (steps_with lower level shrunk) widths
    → content_room room columns ≤ 65535 → AllZip IsThreeOver columns (contents_after room columns (steps_with lower level shrunk))
three_over room columns plain lower None shrunk widths arranged small =
    each_content_short room columns plain IsThreeOver false lower shrunk widths arranged (λ column free within. omega arith)
three_over room columns plain lower (Some level) shrunk widths arranged small =
    each_content room columns plain IsThreeOver false lower level shrunk widths arranged
    (record {
      fit = λ column free fits within. omega arith;
      shrunk = λ column b free wider at_least kept three within. omega (arith, within b, three, kept, small);
      even = λ column b width free wider at_least kept tight low high within. omega (arith, within b, tight, low, high, kept, small);
    })

-- the widths are at most that wide, if each column's lines are within its content
with_needs : (columns : List ColumnNeeds) (widths : List ℕ) → AllByRecursion IsWithinContent columns → AllZip IsThreeOver columns widths → AllZip (λ (column : ColumnNeeds) (width : ℕ). width ≤ column.content + 3) columns widths
with_needs [] [] within each = tt
with_needs [] (w ∷ widths) within each = absurd each
with_needs (column ∷ more) [] within each = absurd each
with_needs (column ∷ more) (w ∷ widths) within each = (each.0 within.0, with_needs more widths within.1 each.1)

-- ---- a table

-- columns of printable cells have lines within their contents
every_within : (table : TableValue) (columns : List (ℕ × ColumnValue)) → AllByRecursion (λ (p : ℕ × ColumnValue). All (IsPrintableCell table p.1.delimiter) (column_cells table p.0)) columns
    → AllByRecursion IsWithinContent (map (needs_of table) columns)
every_within table [] plain = tt
every_within table (p ∷ more) plain = (
  λ b. longest_line-le table p.0 p.1.delimiter b (recursion_from_All (IsPrintableCell table p.1.delimiter) (column_cells table p.0) plain.0),
  every_within table more plain.1,
)

-- widths by content alone are at most that wide too
disabled-le : (table : TableValue) (columns : List (ℕ × ColumnValue)) → AllByRecursion (λ (p : ℕ × ColumnValue). p.1.constraint ≡ None) columns
    → AllZip (λ (column : ColumnNeeds) (width : ℕ). width ≤ column.content + 3) (map (needs_of table) columns) (map (disabled_width table) columns)
disabled-le table [] none = tt
disabled-le table (p ∷ more) none = (omega (arith, is), disabled-le table more none.1)
  where
    is : disabled_width table p ≡ max 1 (column_content_width table p.0)
    is = ap (λ (o : Option ColumnConstraint). unwrap_or (fixed_by_constraint table (shown_count table) (column_content_width table p.0) (column_padding p.1) o) (capped_content (column_content_width table p.0) (column_padding p.1) (upper_boundary table (shown_count table) o))) none.0

-- the shown widths of a table of at most 65535 terminal columns
three_places : (table : TableValue) (visible : List ℕ) → ((w : ℕ) → table_width table ≡ Some w → w ≤ 65535) → NoConstraints table → HasPrintableCells table → table.arrangement ≡ Dynamic → AreShownWidths table visible
    → AllZip (λ (column : ColumnNeeds) (width : ℕ). width ≤ column.content + 3) (shown_needs table) visible
three_places table visible small none plain dynamic are =
    by_width (table_width table) small (subst (λ (a : ContentArrangement). MatchOption (width_kept a (table_width table)) (visible ≡ map (disabled_width table) (shown_columns table)) (λ w. IsDynamicLayout (room_beside_borders table w) (shown_needs table) (is_full_width a) visible)) dynamic are)
  where
    constraints : AllByRecursion (λ (p : ℕ × ColumnValue). p.1.constraint ≡ None) (shown_columns table)
    constraints = recursion_from_All (λ (p : ℕ × ColumnValue). p.1.constraint ≡ None) (shown_columns table) none

    within : AllByRecursion IsWithinContent (shown_needs table)
    within = every_within table (shown_columns table) (recursion_from_All (λ (p : ℕ × ColumnValue). All (IsPrintableCell table p.1.delimiter) (column_cells table p.0)) (shown_columns table) plain)

    by_width : (o : Option ℕ) → ((w : ℕ) → o ≡ Some w → w ≤ 65535)
        → MatchOption (width_kept Dynamic o) (visible ≡ map (disabled_width table) (shown_columns table)) (λ w. IsDynamicLayout (room_beside_borders table w) (shown_needs table) (is_full_width Dynamic) visible)
        → AllZip (λ (column : ColumnNeeds) (width : ℕ). width ≤ column.content + 3) (shown_needs table) visible
    by_width None few is = subst (AllZip (λ (column : ColumnNeeds) (width : ℕ). width ≤ column.content + 3) (shown_needs table)) (sym is) (disabled-le table (shown_columns table) constraints)
    by_width (Some w) few (steps, arranged) =
        let known = few w refl in
        let room = room_beside_borders table w in
        let each = three_over room (shown_needs table) (unconstrained_shown table none) steps.lower steps.level steps.shrunk visible arranged (omega (arith, known)) in
        with_needs (shown_needs table) visible within (subst (AllZip IsThreeOver (shown_needs table)) (sym arranged.widths_are) each)

-- no column is more than three terminal columns wider than its content
pub is_at_most_three_over : (table : TableValue) (w : ℕ) (widths : List ℕ) → IsAtMostThreeOver table w widths
is_at_most_three_over table w widths small none plain dynamic known arranged =
    three_places table (shown_contents table widths) (λ v is. omega (arith, small, ap (λ (o : Option ℕ). unwrap_or o 0) (sym is ∙ known))) none plain dynamic arranged.shown_widths
