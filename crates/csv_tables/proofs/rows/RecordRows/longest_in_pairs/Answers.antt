use Rattle.std.proofs.Common.{◌+◌, [], ℕ, List, Option, ap, arith, drop, map, sym, ◌∙◌}
use Rattle.std.proofs.lemmas.List.{at_drop_more, drop_all}
use Rattle.std.specs.List.{slice_get, slice_index_or}
use Rattle.std.specs.Prelude.{option_map, unwrap_or}
use Rattle.comfy_parts.specs.CellValue.{RowValue}
use Rattle.comfy_parts.specs.Text.{Text}
use Rattle.comfy_table.specs.LongestLine.{cell_longest_line}
use Rattle.csv_tables.proofs.ExpandedLemmas.{pairs-first, pairs-later}
use Rattle.csv_tables.proofs.ReachedLemmas.{held-reached, no_column}
use Rattle.csv.specs.Records.{field_at}
use Rattle.csv_tables.specs.Cells.{pair_for}
use Rattle.csv_tables.specs.Columns.{name_or_number}
use Rattle.csv_tables.specs.Contents.{greatest_at, measured_at}
use Rattle.csv_tables.specs.Drawn.{pairs_of}
use Rattle.csv_tables.specs.LazyRows.{pair_in}
use Rattle.csv_tables.specs.Fields.{field_or_blank}
use Rattle.csv_tables.specs.declared.options.ColumnPlan.{ColumnPlan}
use Rattle.csv_tables.proofs.rows.RecordRows.longest_in_pairs.Goals as goal
use Rattle.csv_tables.proofs.rows.RecordRows.longest_in_pairs.Goals.{in-Some+in_ok-longest_of_pair, in_default}

pub loop-column-preserved : goal.loop-column-preserved
loop-column-preserved c =
    let own = c.args.self.now in
    let names = unwrap_or own.selected.names [] in
    let fields : List Text = c.args.fields.now in
    let items : List ColumnPlan = c.columns_within-column-items.result.now in
    let k = c.loop-column.column-index in
    let g : List RowValue → ℕ = λ rows. greatest_at c.args.table.now (cell_longest_line c.args.table.now c.args.info.now) rows c.args.position in
    let column : ColumnPlan = slice_index_or items k no_column in
    let rest : List ColumnPlan = drop (k + 1) items in
    let next = at_drop_more (λ (columns : List ColumnPlan). g (pairs_of own.look columns names fields)) items k no_column c.loop-column-test.true in
    let so = c.loop-column.invariant in
    elim c.match-get.branch [
      | in-Some+in_ok-longest_of_pair w ↦
          let first = ap g (pairs-first own.look column rest names fields w.in-Some.field.now w.in-Some.ensures.value) in
          let long = w.in_ok-longest_of_pair.ensures
          ∙ ap (λ (name : Option Text). measured_at c.args.table.now (cell_longest_line c.args.table.now c.args.info.now) (slice_get (pair_for own.look (name_or_number name column.position) w.in-Some.field.now).cells c.args.position))
          (w.get-name.ensures.value ∙ ap (λ (all : List Text). field_at all column.position) c.names_or_blank-names.ensures) in
          omega (arith, next, so, first, w.longest-is, w.max-longest.ensures, long)
      | in_default w ↦
          let later = ap g (pairs-later own.look column rest names fields (sym (ap (option_map (λ s. s.now)) w.in_default.is) ∙ c.get.ensures.value)) in
          omega (arith, next, so, later, w.longest-is)
    ]

pub returns : goal.returns
returns c =
    let own = c.args.self.now in
    let names = unwrap_or own.selected.names [] in
    let fields : List Text = c.args.fields.now in
    let items : List ColumnPlan = c.columns_within-column-items.result.now in
    let k = c.loop-column.column-index in
    let g : List ColumnPlan → ℕ = λ columns. greatest_at c.args.table.now (cell_longest_line c.args.table.now c.args.info.now) (pairs_of own.look columns names fields) c.args.position in
    let ended = ap g (drop_all k items (omega (arith, c.loop-column-test.false, c.loop-column.auto.column-index-end))) in
    let so = c.loop-column.invariant in
    let all = ap g c.columns_within-column-items.ensures ∙ ap (λ (held : List ColumnPlan). greatest_at c.args.table.now (cell_longest_line c.args.table.now c.args.info.now) (map (λ (column : ColumnPlan). pair_in own column (field_or_blank fields column.position)) held) c.args.position) (held-reached fields own.selected.columns) in
    omega (arith, ended, so, all)
