use Rattle.std.proofs.Common.{◌≡◌, ◌+◌, [], ℕ, List, ap, ap₂, arith, max, subst, ◌∙◌, rules}
use Rattle.std.specs.Iterator.Adapters.{enumerate_count, enumerate_source}
use Rattle.comfy_parts.specs.CellValue.{RowValue}
use Rattle.comfy_parts.specs.Text.{Text}
use Rattle.comfy_table.specs.TableValue.{TableValue, with_other_rows}
use Rattle.csv_tables.proofs.ContentLemmas.{greatest_at-append, measured_alike, need_is}
use Rattle.csv_tables.specs.Contents.{greatest_at, rows_at, rows_from}
use Rattle.csv_tables.specs.NoWrap.{cell_need, fields_need}
use Rattle.csv_tables.proofs.needs.fields_need.Goals as goal

pub loop-place-init : goal.loop-place-init
loop-place-init c =
    let rows = c.contents.inside.rows in
    let own : TableValue = c.contents.inside.table in
    let table : TableValue = c.args.contents.now.table in
    let view : with_other_rows (rows_from rows 0 rows.selected.rows) own ≡ table = ap (λ v. v.table) c.contents.view_is in
    let count : enumerate_count c.into_iter-place-iterator.result ≡ 0 = search rules in
    let source : enumerate_source c.into_iter-place-iterator.result ≡ rows.selected.rows = search rules in
    ap₂ (λ (n : ℕ) (fields : List (List Text)). max 0 (greatest_at table (cell_need c.args.is_nowrap) (rows_from rows n fields) c.args.at)) count source
    ∙ subst (λ (w : TableValue). max 0 (greatest_at w (cell_need c.args.is_nowrap) (rows_from rows 0 rows.selected.rows) c.args.at) ≡ fields_need c.args.is_nowrap w c.args.at) view
    (need_is c.args.is_nowrap own (rows_from rows 0 rows.selected.rows) c.args.at)

pub loop-place-preserved : goal.loop-place-preserved
loop-place-preserved c =
    let rows = c.contents.inside.rows in
    let i = c.args.at in
    let f = cell_need c.args.is_nowrap in
    let own : TableValue = c.contents.inside.table in
    let table : TableValue = c.args.contents.now.table in
    let view : with_other_rows (rows_from rows 0 rows.selected.rows) own ≡ table = ap (λ v. v.table) c.contents.view_is in
    let steps = c.in-Some.ensures.steps in
    let k : ℕ = enumerate_count c.loop-place.place-iterator in
    let fields : List Text = c.in-Some.fields in
    let rest : List (List Text) = enumerate_source c.next.new.self in
    let here : List RowValue = rows_at rows k fields in
    let later : List RowValue = rows_from rows (k + 1) rest in
    let g : List RowValue → ℕ = λ rs. greatest_at table f rs i in
    let before = ap (λ (left : List (List Text)). g (rows_from rows k left)) steps.0 ∙ greatest_at-append table f here later i in
    let left = ap (λ n. g (rows_from rows n rest)) steps.2 in
    let at = ap (λ n. g (rows_at rows n fields)) steps.1 in
    let made : List RowValue = rows_at rows c.in-Some.place fields in
    let same : greatest_at own f made i ≡ g made = subst (λ (w : TableValue). greatest_at own f made i ≡ greatest_at w f made i) view (measured_alike f own (rows_from rows 0 rows.selected.rows) made i) in
    let one = c.in_ok-cell_need.ensures ∙ same in
    let so = c.loop-place.invariant in
    let greater = c.max-need.ensures in
    omega (arith, before, left, at, one, so, greater)

pub returns-then-need-from : goal.returns-then-need-from
returns-then-need-from c =
    let rows = c.contents.inside.rows in
    let i = c.args.at in
    let f = cell_need c.args.is_nowrap in
    let own : TableValue = c.contents.inside.table in
    let table : TableValue = c.args.contents.now.table in
    let view : with_other_rows (rows_from rows 0 rows.selected.rows) own ≡ table = ap (λ v. v.table) c.contents.view_is in
    let steps = c.in-Some.ensures.steps in
    let k : ℕ = enumerate_count c.loop-place.place-iterator in
    let fields : List Text = c.in-Some.fields in
    let rest : List (List Text) = enumerate_source c.next.new.self in
    let here : List RowValue = rows_at rows k fields in
    let later : List RowValue = rows_from rows (k + 1) rest in
    let g : List RowValue → ℕ = λ rs. greatest_at table f rs i in
    let before = ap (λ (left : List (List Text)). g (rows_from rows k left)) steps.0 ∙ greatest_at-append table f here later i in
    let left = ap (λ n. g (rows_from rows n rest)) steps.2 in
    let at = ap (λ n. g (rows_at rows n fields)) steps.1 in
    let made : List RowValue = rows_at rows c.in-Some.place fields in
    let same : greatest_at own f made i ≡ g made = subst (λ (w : TableValue). greatest_at own f made i ≡ greatest_at w f made i) view (measured_alike f own (rows_from rows 0 rows.selected.rows) made i) in
    let one = c.in_ok-cell_need.ensures ∙ same in
    let so = c.loop-place.invariant in
    let greater = c.max-need.ensures in
    omega (arith, before, left, at, one, so, greater, c.if-need-from.true, c.from.ensures)

pub returns : goal.returns
returns c =
    let ended : enumerate_source c.loop-place.place-iterator ≡ [] = search rules in
    let none = ap (λ (left : List (List Text)). greatest_at c.args.contents.now.table (cell_need c.args.is_nowrap) (rows_from c.contents.inside.rows (enumerate_count c.loop-place.place-iterator) left) c.args.at) ended in
    let so = c.loop-place.invariant in
    omega (arith, none, so, c.min.ensures, c.from-2.ensures)
