-- The text of records that are drawn one after another is the text of their table.
use Rattle.std.proofs.Common.{◌≡◌, ℕ, zero, suc, ◌+◌, Bool, true, false, List, [], ◌∷◌, ◌++◌, drop, length, take, arith, refl, ap, ap₂, sym, subst, ◌∙◌}
use Rattle.std.proofs.Math.Seq.{drop-append-add}
use Rattle.std.proofs.lemmas.List.{length-map, take-append-le, take_all}
use Rattle.std.proofs.lemmas.List.Sums.{sum_by-cons}
use Rattle.std.specs.List.{range_with_len, slice_index_or}
use Rattle.std.specs.Prelude.{flat_map, sum_by, unwrap_or, if◌then◌else◌}
use Rattle.comfy_parts.specs.CellValue.{ColumnInfo, RowValue}
use Rattle.comfy_parts.specs.Text.{Text}
use Rattle.comfy_table.proofs.OtherRowLemmas.{part-whole, part_same}
use Rattle.comfy_table.proofs.PartLemmas.{all_rows_are_the_table}
use Rattle.comfy_table.specs.Drawing.{drawing_of_infos, part_of_drawing, terminated_text_of}
use Rattle.comfy_table.specs.Parts.{ArrangedValue, IsArrangedTable}
use Rattle.comfy_table.specs.TableValue.{TableValue, with_other_rows}
use Rattle.csv_tables.proofs.ContentLemmas.{pairs_rows}
use Rattle.csv_tables.proofs.ExpandedLemmas.{at_place}
use Rattle.csv_tables.specs.Cells.{held, pair_for}
use Rattle.csv_tables.specs.Columns.{name_at}
use Rattle.csv_tables.specs.Contents.{AreDrawnContents, drawn_next, expanded_from, fields_text, pairs_by, rows_from}
use Rattle.csv_tables.specs.LazyTableValue.{LazyTableValue}
use Rattle.csv_tables.specs.Drawn.{drawn_fields, record_line, record_text, some_lines, table_text}
use Rattle.csv_tables.specs.Fields.{field_or_blank}
use Rattle.csv_tables.specs.Styled.{RendersStyled}
use Rattle.csv_tables.specs.declared.options.ColumnPlan.{ColumnPlan}
use Rattle.csv_tables.specs.Settings.{SettingsValue}
use Rattle.csv_tables.specs.declared.options.Look.{Look}
use Rattle.csv_tables.specs.declared.rows.RecordRows.{RecordRows}

module _ (rows : RecordRows) where
  -- an expanded record has a row for each drawn field
  as_many : (fields : List Text) → length (pairs_by rows fields) ≡ drawn_fields rows.selected fields
  as_many fields = length-map (held fields rows.selected.columns) (λ (column : ColumnPlan). pair_for rows.look (name_at (unwrap_or rows.selected.names []) column.position) (field_or_blank fields column.position))

  -- the rows after those of the first records
  rows_after : (at : ℕ) (records : List (List Text)) → drop (sum_by (drawn_fields rows.selected) (take at records)) (flat_map (pairs_by rows) records) ≡ flat_map (pairs_by rows) (drop at records)
  rows_after zero records = refl
  rows_after (suc at) [] = refl
  rows_after (suc at) (x ∷ xs) =
      let first = pairs_by rows x in
      let rest = flat_map (pairs_by rows) xs in
      let s = sum_by (drawn_fields rows.selected) (take at xs) in
      let count : sum_by (drawn_fields rows.selected) (x ∷ take at xs) ≡ length first + s = sum_by-cons (drawn_fields rows.selected) x (take at xs) ∙ ap (λ n. n + s) (sym (as_many x)) in
      ap (λ n. drop n (first ++ rest)) count ∙ drop-append-add first rest s ∙ rows_after at xs

  module _ (arranged : ArrangedValue) (own : arranged.table.rows ≡ flat_map (pairs_by rows) rows.selected.rows) where
    -- the part of the table with the fields of a record
    part_is : (at : ℕ) (fields : List Text) (left : List (List Text)) → fields ∷ left ≡ drop at rows.selected.rows → (count : ℕ) (made : List RowValue) → pairs_by rows fields ≡ made → length made ≡ count
        → fields_text arranged.table arranged.infos made ≡ terminated_text_of (some_lines arranged (sum_by (drawn_fields rows.selected) (take at rows.selected.rows)) count)
    part_is at fields left is zero [] made long = refl
    part_is at fields left is (suc n) [] made long = absurd (omega (arith, long))
    part_is at fields left is zero (row ∷ more) made long = absurd (omega (arith, long))
    part_is at fields left is (suc n) (row ∷ more) made long =
        let first = sum_by (drawn_fields rows.selected) (take at rows.selected.rows) in
        let rest = flat_map (pairs_by rows) left in
        let after : drop first arranged.table.rows ≡ (row ∷ more) ++ rest =
        ap (drop first) own ∙ rows_after at rows.selected.rows ∙ ap (flat_map (pairs_by rows)) (sym is) ∙ ap (λ (l : List RowValue). l ++ rest) made in
        let taken : take (suc n) (drop first arranged.table.rows) ≡ row ∷ more =
        ap (take (suc n)) after ∙ take-append-le (suc n) (row ∷ more) rest (omega (arith, long)) ∙ take_all (suc n) (row ∷ more) (omega (arith, long)) in
        let other = with_other_rows (row ∷ more) arranged.table in
        ap terminated_text_of (sym (part_same arranged.table (row ∷ more) arranged.infos true true (row ∷ more)) ∙ part-whole other arranged.infos)
        ∙ ap (λ (l : List RowValue). terminated_text_of (drawing_of_infos (with_other_rows l arranged.table) arranged.infos)) (sym taken)

    -- records from a place on
    records_are : (at : ℕ) (left : List (List Text)) → left ≡ drop at rows.selected.rows
        → expanded_from rows arranged.table arranged.infos at left ≡ flat_map (record_text rows.selected arranged) (range_with_len at (length left))
    records_are at [] is = refl
    records_are at (fields ∷ left) is =
        let place = at_place rows.selected.rows at fields [] left is in
        let one : suc at ≡ at + 1 = omega arith in
        let part = part_is at fields left is (drawn_fields rows.selected fields) (pairs_by rows fields) refl (as_many fields) in
        let count : drawn_fields rows.selected fields ≡ drawn_fields rows.selected (slice_index_or rows.selected.rows at []) = ap (drawn_fields rows.selected) (sym place.1) in
        ap₂ (λ (a b : Text). a ++ b)
        (ap (λ (t : Text). record_line rows.selected.noun (at + 1) rows.selected.count ++ t)
        (part ∙ ap (λ n. terminated_text_of (some_lines arranged (sum_by (drawn_fields rows.selected) (take at rows.selected.rows)) n)) count))
        (records_are (at + 1) left (place.2 ∙ ap (λ n. drop n rows.selected.rows) one))

-- the text of all records
pub text_is : (contents : LazyTableValue) (arranged : ArrangedValue) → arranged.table ≡ contents.table → contents.table.rows ≡ rows_from contents.rows 0 contents.rows.selected.rows
    → drawn_next contents.rows contents.table arranged.infos 0 true true contents.rows.selected.rows ≡ table_text contents.rows.is_expanded contents.rows.selected arranged
text_is contents arranged same own = by_kind contents.rows.is_expanded refl
  where
    rows : RecordRows
    rows = contents.rows

    table : TableValue
    table = contents.table

    lines : TableValue → List RowValue → Text
    lines t made = terminated_text_of (part_of_drawing t arranged.infos true true made)

    by_kind : (b : Bool) → contents.rows.is_expanded ≡ b
        → (if b then expanded_from contents.rows contents.table arranged.infos 0 contents.rows.selected.rows else terminated_text_of (part_of_drawing contents.table arranged.infos true true (rows_from contents.rows 0 contents.rows.selected.rows)))
        ≡ table_text b contents.rows.selected arranged
    by_kind true is =
        ap (λ (t : TableValue). expanded_from contents.rows t arranged.infos 0 contents.rows.selected.rows) (sym same)
        ∙ records_are contents.rows arranged (ap (λ (t : TableValue). t.rows) same ∙ own ∙ pairs_rows contents.rows is 0 contents.rows.selected.rows) 0 contents.rows.selected.rows refl
    by_kind false is =
        let whole = arranged.table in
        let count = length whole.rows in
        ap₂ (λ (t : TableValue) (made : List RowValue). terminated_text_of (part_of_drawing t arranged.infos true true made)) (sym same) (sym own ∙ ap (λ (t : TableValue). t.rows) (sym same))
        ∙ ap terminated_text_of (part-whole whole arranged.infos)
        ∙ ap (λ (t : TableValue). terminated_text_of (drawing_of_infos t arranged.infos)) (sym (all_rows_are_the_table whole count (omega arith)))

-- it is the text of a table
pub renders : (settings : SettingsValue) (look : Look) (contents : LazyTableValue) (infos : List ColumnInfo) → AreDrawnContents settings look contents.rows.selected contents → IsArrangedTable contents.table (record { table = contents.table; infos = infos })
    → contents.table.rows ≡ rows_from contents.rows 0 contents.rows.selected.rows → RendersStyled settings look contents.rows.selected (drawn_next contents.rows contents.table infos 0 true true contents.rows.selected.rows)
renders settings look contents infos made arranged own =
    record {
      is_expanded = made.is_expanded;
      expansion = made.expansion;
      drawn = record {
        has_separators = made.drawn.separated.has_separators;
        separators = made.drawn.separated.separators;
        arranged = record { table = contents.table; infos = infos };
        is_arranged = subst (λ (t : TableValue). IsArrangedTable t (record { table = contents.table; infos = infos })) made.drawn.separated.table arranged;
        is = text_is contents (record { table = contents.table; infos = infos }) refl own ∙ ap (λ b. table_text b contents.rows.selected (record { table = contents.table; infos = infos })) made.drawn.are_contents.expanded_is;
      };
    }
