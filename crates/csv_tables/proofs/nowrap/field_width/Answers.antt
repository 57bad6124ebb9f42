use Rattle.std.proofs.Common.{◌≡◌, [], List, ap, arith, flat_map, max, subst, ◌∙◌, rules}
use Rattle.comfy_parts.specs.CellValue.{RowValue}
use Rattle.comfy_parts.specs.Text.{Text}
use Rattle.comfy_table.specs.TableValue.{TableValue, with_other_rows}
use Rattle.csv_tables.proofs.ContentLemmas.{fields_are, greatest_at-append, measured_alike}
use Rattle.csv_tables.specs.Contents.{greatest_at, pairs_by, rows_from}
use Rattle.csv_tables.specs.NoWrap.{cell_nowrap_width, field_width}
use Rattle.csv_tables.proofs.nowrap.field_width.Goals as goal

pub loop-fields-init : goal.loop-fields-init
loop-fields-init c =
    let rows = c.contents.inside.rows in
    let expanded = ap (λ v. v.rows.is_expanded) c.contents.view_is ∙ c.requires.expanded in
    let view : with_other_rows (rows_from rows 0 rows.selected.rows) c.contents.inside.table ≡ c.args.contents.now.table = ap (λ v. v.table) c.contents.view_is in
    let source : c.into_iter-fields-iterator.result ≡ rows.selected.rows = search rules in
    let bare = ap (λ v. v.table.header) c.contents.view_is ∙ c.requires.header in
    let whole = fields_are rows c.contents.inside.table c.args.room bare c.contents.invariant.0 expanded in (
      ap (λ (left : List (List Text)). max 0 (greatest_at c.args.contents.now.table (cell_nowrap_width c.args.room) (flat_map (pairs_by rows) left) 1)) source
          ∙ subst (λ (w : TableValue). max 0 (greatest_at w (cell_nowrap_width c.args.room) (flat_map (pairs_by rows) rows.selected.rows) 1) ≡ field_width c.args.room w) view whole,
      omega arith,
    )

pub loop-fields-preserved : goal.loop-fields-preserved
loop-fields-preserved c =
    let rows = c.contents.inside.rows in
    let f = cell_nowrap_width c.args.room in
    let own : TableValue = c.contents.inside.table in
    let table : TableValue = c.args.contents.now.table in
    let view : with_other_rows (rows_from rows 0 rows.selected.rows) own ≡ table = ap (λ v. v.table) c.contents.view_is in
    let steps = c.in-Some.ensures.steps in
    let fields : List Text = c.in-Some.fields in
    let here : List RowValue = pairs_by rows fields in
    let later : List RowValue = flat_map (pairs_by rows) c.next.new.self in
    let before = ap (λ (left : List (List Text)). greatest_at table f (flat_map (pairs_by rows) left) 1) steps ∙ greatest_at-append table f here later 1 in
    let same : greatest_at own f here 1 ≡ greatest_at table f here 1 = subst (λ (w : TableValue). greatest_at own f here 1 ≡ greatest_at w f here 1) view (measured_alike f own (rows_from rows 0 rows.selected.rows) here 1) in
    let one = c.in_ok-nowrap_width.ensures.value ∙ same in
    let low = c.in_ok-nowrap_width.ensures.within in
    let so = c.loop-fields.invariant in
    let greater = c.max-widest.ensures in (omega (arith, before, one, so.0, greater), omega (arith, low, so.1, greater))

pub returns-clause-value : goal.returns-clause-value
returns-clause-value c =
    let ended : c.loop-fields.fields-iterator ≡ [] = search rules in
    let none = ap (λ (left : List (List Text)). greatest_at c.args.contents.now.table (cell_nowrap_width c.args.room) (flat_map (pairs_by c.contents.inside.rows) left) 1) ended in
    let so = c.loop-fields.invariant.0 in
    omega (arith, none, so)
