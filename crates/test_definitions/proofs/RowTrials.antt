-- Lines that aren't those of a new table of a header and rows.
use Rattle.std.proofs.Common.{false, append-nil, ◌∙◌, ap, ◌≡◌, ◌≤◌, ℕ, List, [], ◌∷◌, ◌++◌, Option, Some, None, codes, length, refl, arith, slice_index_or}
use Rattle.std.specs.List.{All, AllZip, join_by}
use Rattle.std.proofs.lemmas.List.Elements.{All-cons, All-from_recursion, All-nil}
use Rattle.comfy_parts.proofs.Computing.{wrapping}
use Rattle.comfy_parts.specs.CellValue.{CellValue, ColumnValue, RowValue, new_column, plain_cell}
use Rattle.comfy_parts.specs.Columns.{CharactersFit}
use Rattle.comfy_parts.specs.Presets.{nothing, utf8_full}
use Rattle.comfy_parts.specs.Text.{Text, measure}
use Rattle.comfy_parts.specs.declared.style.table.ContentArrangement.{ContentArrangement}
use Rattle.comfy_parts.specs.declared.style.table.ContentArrangement.TheVariants.{Disabled, Dynamic, DynamicFullWidth}
use Rattle.comfy_parts.specs.declared.style.cell.CellAlignment.TheVariants.{Left}
use Rattle.comfy_table.specs.NewTables.{IsShortRow}
use Rattle.comfy_table.specs.TableValue.{TableValue}
use Rattle.promises.specs.Headline.{IsPiece}
use Rattle.promises.specs.Kept.{ShowsWholeRow}
use Rattle.promises.specs.Rows.{HaveCells, IsNarrowCell, IsNarrowRow, KeepsRows, table_of}
use Rattle.test_definitions.proofs.LawTrials.{shorter_line}
use Rattle.test_definitions.proofs.PromiseTrials as promises
use Rattle.test_definitions.proofs.PromiseTrials.{no_lines_lose_texts}
use Rattle.test_definitions.proofs.TrialTables.{no_ab_inside}

-- a header of the text `ab`, and no row below it
abbrev header : RowValue
header = record { cells = plain_cell (codes "ab") ∷ []; max_height = None }

-- the lines of its new table in this arrangement and width
abbrev Keeps : ContentArrangement → Option ℕ → List Text → Type 0
Keeps arrangement width lines = KeepsRows nothing arrangement width header [] lines

ab_fits : CharactersFit 1 (codes "ab")
unfolding wrapping
ab_fits = refl

ab_is_short : measure (codes "ab") ≤ 65535
unfolding wrapping
ab_is_short = omega arith

narrow : All IsNarrowRow (header ∷ [])
narrow =
    All-cons IsNarrowRow header [] (All-cons IsNarrowCell (plain_cell (codes "ab")) [] (record { delimiter = refl; characters = All-cons (CharactersFit 1) (codes "ab") [] ab_fits (All-nil (CharactersFit 1)) }) (All-nil IsNarrowCell))
    (All-nil IsNarrowRow)

short : All IsShortRow (header ∷ [])
short =
    All-cons IsShortRow header []
    (record { uncut = refl; short = All-from_recursion (λ (cell : CellValue). All (λ line. measure line ≤ 65535) cell.text_lines) header.cells (All-from_recursion (λ line. measure line ≤ 65535) (codes "ab" ∷ []) (ab_is_short, tt), tt) })
    (All-nil IsShortRow)

one_cell : HaveCells 1 (header ∷ [])
one_cell = All-cons (λ (row : RowValue). length row.cells ≤ 1) header [] (omega arith) (All-nil (λ (row : RowValue). length row.cells ≤ 1))

-- lines of two widths, with narrow characters, and with short texts
-- false: promises::laws::tables_of_rows_keep_the_promises
uneven : ¬ (Keeps Dynamic (Some 9) (codes "ab" ∷ codes "a" ∷ []))
uneven keeps = shorter_line (keeps.straight narrow)

uneven_short_lines : ¬ (Keeps Disabled None (codes "ab" ∷ codes "a" ∷ []))
uneven_short_lines keeps = shorter_line (keeps.straight_whole refl short)

-- a line that is wider than the width, and one that doesn't fill it
six : measure (codes " ab   ") ≡ 6
unfolding wrapping
six = refl

wider : ¬ (Keeps Dynamic (Some 5) (codes " ab   " ∷ []))
wider keeps = let few = keeps.within 5 1 refl refl narrow one_cell (omega arith) 0 [] (omega arith) in omega (arith, few, six)

unfilled : ¬ (Keeps DynamicFullWidth (Some 7) (codes " ab   " ∷ []))
unfilled keeps = let all = keeps.over 7 1 refl refl narrow one_cell (omega arith) (omega arith) 0 [] (omega arith) in omega (arith, all, six)

-- lines without the texts
no_texts : ¬ (KeepsRows utf8_full Disabled None (promises.row_of "day" "text") (promises.row_of "3 mai" "oats" ∷ []) [])
no_texts keeps = no_lines_lose_texts keeps.all_texts

-- a torn text
torn : ¬ (Keeps Disabled None (codes " a b " ∷ []))
torn keeps = let (width, is) = keeps.whole_texts refl short in by_rows width is.rows is.are_rows is.is_header.0 is.is_header.1 (is.drawn ∙ ap (λ (lines : List Text). lines ++ (join_by (λ (block : List Text). block) [] is.rows ++ [])) is.is_header.2)
  where
    table : TableValue
    table = table_of nothing Disabled None header []

    by_pieces : (w : ℕ) (pieces : List Text) → AllZip (λ (p : ℕ × ColumnValue). IsPiece false Left p.1 w (codes "ab")) ((0, new_column 0) ∷ []) pieces → ¬ (codes " a b " ≡ join_by (λ (piece : Text). piece) [] pieces ++ [])
    by_pieces w [] zip made = zip
    by_pieces w (piece ∷ other ∷ pieces) zip made = zip.1
    by_pieces w (piece ∷ []) zip made = no_ab_inside (codes " a b ") refl zip.0.before zip.0.after (made ∙ append-nil (piece ++ []) ∙ append-nil piece ∙ zip.0.drawn)

    by_rows : (width : ℕ → ℕ) (rows : List (List Text)) → AllZip (ShowsWholeRow table width nothing.content_lines) [] rows → (block : List Text) → ShowsWholeRow table width nothing.header_lines header block → ¬ (codes " a b " ∷ [] ≡ (block ++ []) ++ (join_by (λ (block : List Text). block) [] rows ++ []))
    by_rows width (row ∷ rows) each block own made = each
    by_rows width [] each block own made =
        let same : codes " a b " ∷ [] ≡ block = made ∙ append-nil (block ++ []) ∙ append-nil block in
        let long = ap length same in
        let here = own.drawn 0 (omega (arith, long)) in
        by_pieces (width 0) here.0 here.1 (ap (λ (ls : List Text). slice_index_or ls 0 []) same ∙ here.2)
