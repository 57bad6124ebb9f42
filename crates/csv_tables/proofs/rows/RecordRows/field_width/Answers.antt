use Rattle.std.proofs.Common.{◌+◌, [], ℕ, List, ap, arith, drop, map, sym, ◌∙◌}
use Rattle.std.proofs.lemmas.List.{at_drop_more, drop_all}
use Rattle.std.specs.List.{slice_index_or}
use Rattle.std.specs.Prelude.{option_map, unwrap_or}
use Rattle.comfy_parts.specs.CellValue.{RowValue}
use Rattle.comfy_parts.specs.Text.{Text}
use Rattle.comfy_table.specs.TableValue.{cell_content_width}
use Rattle.csv_tables.proofs.ExpandedLemmas.{pairs-first, pairs-later}
use Rattle.csv_tables.proofs.ReachedLemmas.{held-reached, no_column}
use Rattle.csv_tables.specs.Contents.{greatest_at}
use Rattle.csv_tables.specs.Drawn.{pairs_of}
use Rattle.csv_tables.specs.LazyRows.{pair_in}
use Rattle.csv_tables.specs.Fields.{field_or_blank}
use Rattle.csv_tables.specs.declared.options.ColumnPlan.{ColumnPlan}
use Rattle.csv_tables.proofs.rows.RecordRows.field_width.Goals as goal
use Rattle.csv_tables.proofs.rows.RecordRows.field_width.Goals.{in-Some+in_ok-width_of_field, in_default}

pub loop-column-preserved : goal.loop-column-preserved
loop-column-preserved c =
    let own = c.args.self.now in
    let names = unwrap_or own.selected.names [] in
    let fields : List Text = c.args.fields.now in
    let items : List ColumnPlan = c.columns_within-column-items.result.now in
    let k = c.loop-column.column-index in
    let g : List RowValue → ℕ = λ rows. greatest_at c.args.table.now cell_content_width rows 1 in
    let column : ColumnPlan = slice_index_or items k no_column in
    let rest : List ColumnPlan = drop (k + 1) items in
    let next = at_drop_more (λ (columns : List ColumnPlan). g (pairs_of own.look columns names fields)) items k no_column c.loop-column-test.true in
    let so = c.loop-column.invariant in
    elim c.match-get.branch [
      | in-Some+in_ok-width_of_field w ↦
          let first = ap g (pairs-first own.look column rest names fields w.in-Some.field.now w.in-Some.ensures.value) in
          omega (arith, next, so, first, w.widest-is, w.max-widest.ensures, w.in_ok-width_of_field.ensures)
      | in_default w ↦
          let later = ap g (pairs-later own.look column rest names fields (sym (ap (option_map (λ s. s.now)) w.in_default.is) ∙ c.get.ensures.value)) in
          omega (arith, next, so, later, w.widest-is)
    ]

pub returns : goal.returns
returns c =
    let own = c.args.self.now in
    let names = unwrap_or own.selected.names [] in
    let fields : List Text = c.args.fields.now in
    let items : List ColumnPlan = c.columns_within-column-items.result.now in
    let k = c.loop-column.column-index in
    let g : List ColumnPlan → ℕ = λ columns. greatest_at c.args.table.now cell_content_width (pairs_of own.look columns names fields) 1 in
    let ended = ap g (drop_all k items (omega (arith, c.loop-column-test.false, c.loop-column.auto.column-index-end))) in
    let so = c.loop-column.invariant in
    let all = ap g c.columns_within-column-items.ensures ∙ ap (λ (held : List ColumnPlan). greatest_at c.args.table.now cell_content_width (map (λ (column : ColumnPlan). pair_in own column (field_or_blank fields column.position)) held) 1) (held-reached fields own.selected.columns) in
    omega (arith, ended, so, all)
