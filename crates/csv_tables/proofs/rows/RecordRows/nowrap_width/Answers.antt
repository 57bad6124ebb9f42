use Rattle.std.proofs.Common.{◌+◌, [], ℕ, List, ap, arith, drop, map, sym, ◌∙◌}
use Rattle.std.proofs.lemmas.List.{at_drop_more, drop_all}
use Rattle.std.specs.List.{slice_index_or}
use Rattle.std.specs.Prelude.{option_map, unwrap_or}
use Rattle.comfy_parts.specs.CellValue.{RowValue}
use Rattle.comfy_parts.specs.Text.{Text}
use Rattle.csv_tables.proofs.ExpandedLemmas.{pairs-first, pairs-later}
use Rattle.csv_tables.proofs.ReachedLemmas.{held-reached, no_column}
use Rattle.csv_tables.specs.Contents.{greatest_at}
use Rattle.csv_tables.specs.Drawn.{pairs_of}
use Rattle.csv_tables.specs.LazyRows.{pair_in}
use Rattle.csv_tables.specs.NoWrap.{cell_nowrap_width}
use Rattle.csv_tables.specs.Fields.{field_or_blank}
use Rattle.csv_tables.specs.declared.options.ColumnPlan.{ColumnPlan}
use Rattle.csv_tables.proofs.rows.RecordRows.nowrap_width.Goals as goal
use Rattle.csv_tables.proofs.rows.RecordRows.nowrap_width.Goals.{in-Some+in_ok-nowrap_width_of, in_default}

pub loop-column-preserved : goal.loop-column-preserved
loop-column-preserved c =
    let own = c.args.self.now in
    let names = unwrap_or own.selected.names [] in
    let fields : List Text = c.args.fields.now in
    let items : List ColumnPlan = c.columns_within-column-items.result.now in
    let k = c.loop-column.column-index in
    let g : List RowValue → ℕ = λ rows. greatest_at c.args.table.now (cell_nowrap_width c.args.room) rows 1 in
    let column : ColumnPlan = slice_index_or items k no_column in
    let rest : List ColumnPlan = drop (k + 1) items in
    let next = at_drop_more (λ (columns : List ColumnPlan). g (pairs_of own.look columns names fields)) items k no_column c.loop-column-test.true in
    let so = c.loop-column.invariant in
    elim c.match-get.branch [
      | in-Some+in_ok-nowrap_width_of w ↦
          let first = ap g (pairs-first own.look column rest names fields w.in-Some.field.now w.in-Some.ensures.value) in
          (omega (arith, next, so.0, first, w.widest-is, w.max-widest.ensures, w.in_ok-nowrap_width_of.ensures.value), omega (arith, so.1, w.widest-is, w.max-widest.ensures, w.in_ok-nowrap_width_of.ensures.within))
      | in_default w ↦
          let later = ap g (pairs-later own.look column rest names fields (sym (ap (option_map (λ s. s.now)) w.in_default.is) ∙ c.get.ensures.value)) in
          (omega (arith, next, so.0, later, w.widest-is), omega (arith, so.1, w.widest-is))
    ]

pub returns-clause-value : goal.returns-clause-value
returns-clause-value c =
    let own = c.args.self.now in
    let names = unwrap_or own.selected.names [] in
    let fields : List Text = c.args.fields.now in
    let items : List ColumnPlan = c.columns_within-column-items.result.now in
    let k = c.loop-column.column-index in
    let g : List ColumnPlan → ℕ = λ columns. greatest_at c.args.table.now (cell_nowrap_width c.args.room) (pairs_of own.look columns names fields) 1 in
    let ended = ap g (drop_all k items (omega (arith, c.loop-column-test.false, c.loop-column.auto.column-index-end))) in
    let so = c.loop-column.invariant.0 in
    let all = ap g c.columns_within-column-items.ensures ∙ ap (λ (held : List ColumnPlan). greatest_at c.args.table.now (cell_nowrap_width c.args.room) (map (λ (column : ColumnPlan). pair_in own column (field_or_blank fields column.position)) held) 1) (held-reached fields own.selected.columns) in
    omega (arith, ended, so, all)
