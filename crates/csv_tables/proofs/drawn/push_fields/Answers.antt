use Rattle.std.proofs.Common.{◌≡◌, ◌==◌, ◌++◌, ◌+◌, ◌∷◌, [], Bool, ℕ, List, Some, true, false, ap, ap₂, append-nil, append_assoc, arith, length, map, refl, string_bytes, subst, sym, take, ◌∙◌}
use Rattle.std.proofs.lemmas.Bool.Decides.{nat_tests}
use Rattle.std.proofs.lemmas.List.{length-append, take_all, take_more}
use Rattle.std.proofs.lemmas.Result.{on_ok_weaker}
use Rattle.std.specs.List.{slice_get, slice_index_or}
use Rattle.std.specs.Prelude.{option_map, unwrap_or, if◌then◌else◌}
use Rattle.comfy_parts.specs.CellValue.{RowValue}
use Rattle.comfy_parts.specs.Text.{Text}
use Rattle.comfy_table.specs.Drawing.{part_of_drawing, terminated_text_of}
use Rattle.comfy_table.specs.Parts.{ArrangedValue}
use Rattle.comfy_table.specs.RowCells.{cell_of}
use Rattle.comfy_table.specs.declared.utils.formatting.row_cell.RowCell.{RowCell}
use Rattle.csv_tables.proofs.ExpandedLemmas.{pairs-append, pairs-first, pairs-later}
use Rattle.csv_tables.proofs.PieceLemmas.{begun, begun_all, begun_more, begun_none}
use Rattle.csv_tables.proofs.PlainRowLemmas.{inside}
use Rattle.csv_tables.proofs.ReachedLemmas.{held-reached, no_column, own_place, reached-length}
use Rattle.csv_tables.specs.Cells.{columns_within}
use Rattle.csv_tables.specs.Contents.{pairs_by}
use Rattle.csv_tables.specs.Drawn.{pairs_of}
use Rattle.csv_tables.specs.Fields.{field_or_blank}
use Rattle.csv_tables.specs.LazyRows.{AreNamed, pair_in}
use Rattle.csv_tables.specs.declared.options.ColumnPlan.{ColumnPlan}
use Rattle.csv_tables.specs.declared.rows.RecordRows.{RecordRows}
use Rattle.csv_tables.proofs.drawn.push_fields.Goals as goal
use Rattle.csv_tables.proofs.drawn.push_fields.Goals.{in-Some+in_ok-push_pair, in_default}

pub loop-place-init : goal.loop-place-init
loop-place-init c = (
  sym (ap (λ (t : Text). string_bytes c.args.text.now ++ t) (begun_none c.args.writer.now.table c.args.writer.now.infos) ∙ append-nil (string_bytes c.args.text.now)),
  refl,
  refl,
  c.requires,
)

pub push_pair-requires-clause-place : goal.push_pair-requires-clause-place
push_pair-requires-clause-place c =
    let fields : List Text = c.args.fields.now in
    let listed = ap length c.columns_within-column-items.ensures in
    let fewer = reached-length fields c.args.rows.now.selected.columns in
    omega (arith, c.loop-place-test.true, listed, fewer)

pub loop-place-preserved : goal.loop-place-preserved
loop-place-preserved c =
    let rows = c.args.rows.now in
    let look = rows.look in
    let names = unwrap_or rows.selected.names [] in
    let fields : List Text = c.args.fields.now in
    let items : List ColumnPlan = c.columns_within-column-items.result.now in
    let k : ℕ = c.loop-place.place in
    let column : ColumnPlan = slice_index_or items k no_column in
    let start : ArrangedValue = c.args.writer.now in
    let old = string_bytes c.args.text.now in
    let before : List RowValue = pairs_of look (take k items) names fields in
    let next : List RowValue = pairs_of look (take (k + 1) items) names fields in
    let had = c.loop-place.invariant in
    let more : next ≡ before ++ pairs_of look (column ∷ []) names fields =
    ap (λ (columns : List ColumnPlan). pairs_of look columns names fields) (take_more items k no_column c.loop-place-test.true) ∙ pairs-append look (take k items) (column ∷ []) names fields in
    elim c.match-get.branch [
      | in-Some+in_ok-push_pair w ↦
          let row : RowValue = pair_in rows column w.in-Some.field.now in
          let found : slice_get rows.selected.columns k ≡ Some column =
          own_place fields rows.selected.columns k column (ap (λ (all : List ColumnPlan). slice_get all k) (sym c.columns_within-column-items.ensures) ∙ inside items k no_column c.loop-place-test.true) in
          let after : next ≡ before ++ row ∷ [] = more ∙ ap (λ (rest : List RowValue). before ++ rest) (pairs-first look column [] names fields w.in-Some.field.now w.in-Some.ensures.value) in
          let one : Bool → ArrangedValue → Text = λ b a. terminated_text_of (part_of_drawing a.table a.infos b false (row ∷ [])) in
          let drawn : string_bytes c.match-get.text ≡ old ++ begun start.table start.infos (before ++ row ∷ []) =
          ap string_bytes w.text-is ∙ w.in_ok-push_pair.ensures.text column found
          ∙ ap₂ (λ (t : Text) (b : Bool). t ++ one b c.loop-place.writer) had.0 had.1
          ∙ ap (λ (a : ArrangedValue). (old ++ begun start.table start.infos before) ++ one (length before == 0) a) had.2
          ∙ append_assoc old (begun start.table start.infos before) (one (length before == 0) start)
          ∙ ap (λ (t : Text). old ++ t) (sym (begun_more start.table start.infos before row)) in
          let long = length-append before (row ∷ []) in
          let some : (length (before ++ row ∷ []) == 0) ≡ false = grind (arith, nat_tests, long) in (
            drawn ∙ ap (λ (rows : List RowValue). old ++ begun start.table start.infos rows) (sym after),
            w.is_first-is ∙ sym some ∙ ap (λ (rows : List RowValue). length rows == 0) (sym after),
            w.writer-is ∙ w.in_ok-push_pair.ensures.kept ∙ had.2,
            subst (λ (cells : List RowCell). AreNamed rows (map cell_of cells)) (sym (ap (λ v. v.items) w.cells-is)) w.in_ok-push_pair.ensures.named,
          )
      | in_default w ↦
          let none = pairs-later look column [] names fields (sym (ap (option_map (λ s. s.now)) w.in_default.is) ∙ c.get.ensures.value) in
          let same : next ≡ before = more ∙ ap (λ (rest : List RowValue). before ++ rest) none ∙ append-nil before in (
            ap string_bytes w.text-is ∙ had.0 ∙ ap (λ (rows : List RowValue). old ++ begun start.table start.infos rows) (sym same),
            w.is_first-is ∙ had.1 ∙ ap (λ (rows : List RowValue). length rows == 0) (sym same),
            w.writer-is ∙ had.2,
            subst (λ (cells : List RowCell). AreNamed rows (map cell_of cells)) (sym (ap (λ v. v.items) w.cells-is)) had.3,
          )
    ]

-- all columns are drawn at the end
all_drawn : (rows : RecordRows) (fields : List Text) (items : List ColumnPlan) (k : ℕ) → length items ≡ k → items ≡ columns_within fields rows.selected.columns
    → pairs_of rows.look (take k items) (unwrap_or rows.selected.names []) fields ≡ pairs_by rows fields
all_drawn rows fields items k all listed =
    ap (λ (columns : List ColumnPlan). pairs_of rows.look columns (unwrap_or rows.selected.names []) fields) (take_all k items (omega (arith, all)) ∙ listed)
    ∙ ap (map (λ (column : ColumnPlan). pair_in rows column (field_or_blank fields column.position))) (held-reached fields rows.selected.columns)

pub returns-then-is_first-clause-text : goal.returns-then-is_first-clause-text
returns-then-is_first-clause-text c =
    let start : ArrangedValue = c.args.writer.now in
    let old = string_bytes c.args.text.now in
    let had = c.loop-place.invariant in
    let rows : List RowValue = pairs_by c.args.rows.now c.args.fields.now in
    let all = all_drawn c.args.rows.now c.args.fields.now c.columns_within-column-items.result.now c.loop-place.place (omega (arith, c.loop-place-test.false, c.loop-place.auto.place-end)) c.columns_within-column-items.ensures in
    let none : (length rows == 0) ≡ true = ap (λ (rs : List RowValue). length rs == 0) (sym all) ∙ sym had.1 ∙ c.if-is_first.true in
    had.0
    ∙ ap (λ (rs : List RowValue). old ++ begun start.table start.infos rs) all
    ∙ ap (λ (t : Text). old ++ t)
    (sym (append-nil (begun start.table start.infos rows))
    ∙ ap (λ (b : Bool). begun start.table start.infos rows ++ (if b then [] else terminated_text_of (part_of_drawing start.table start.infos false true []))) (sym none)
    ∙ begun_all start.table start.infos rows)

pub returns-clause-text : goal.returns-clause-text
returns-clause-text c =
    let start : ArrangedValue = c.args.writer.now in
    let old = string_bytes c.args.text.now in
    let had = c.loop-place.invariant in
    let rows : List RowValue = pairs_by c.args.rows.now c.args.fields.now in
    let all = all_drawn c.args.rows.now c.args.fields.now c.columns_within-column-items.result.now c.loop-place.place (omega (arith, c.loop-place-test.false, c.loop-place.auto.place-end)) c.columns_within-column-items.ensures in
    let bottom : ArrangedValue → Text = λ a. terminated_text_of (part_of_drawing a.table a.infos false true []) in
    let some : (length rows == 0) ≡ false = ap (λ (rs : List RowValue). length rs == 0) (sym all) ∙ sym had.1 ∙ c.if-is_first.false in
    on_ok_weaker c.push_rows.result
    (λ (pushed : string_bytes c.push_rows.new.text ≡ _).
    pushed
    ∙ ap₂ (λ (t : Text) (a : ArrangedValue). t ++ bottom a) (had.0 ∙ ap (λ (rs : List RowValue). old ++ begun start.table start.infos rs) all) had.2
    ∙ append_assoc old (begun start.table start.infos rows) (bottom start)
    ∙ ap (λ (t : Text). old ++ t)
    (ap (λ (b : Bool). begun start.table start.infos rows ++ (if b then [] else bottom start)) (sym some)
    ∙ begun_all start.table start.infos rows))
    c.push_rows.ensures.ok
