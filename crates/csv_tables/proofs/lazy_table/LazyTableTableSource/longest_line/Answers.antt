use Rattle.std.proofs.Common.{◌≡◌, ◌+◌, [], ℕ, List, ap, ap₂, arith, max, subst, ◌∙◌, rules}
use Rattle.std.specs.Iterator.Adapters.{enumerate_count, enumerate_source}
use Rattle.comfy_parts.specs.CellValue.{RowValue}
use Rattle.comfy_parts.specs.Text.{Text}
use Rattle.comfy_table.specs.Lines.{longest_line}
use Rattle.comfy_table.specs.LongestLine.{cell_longest_line}
use Rattle.comfy_table.specs.TableValue.{TableValue, with_other_rows}
use Rattle.csv_tables.proofs.ContentLemmas.{greatest_at-append, longest_below, longest_same}
use Rattle.csv_tables.specs.Contents.{greatest_at, rows_at, rows_from}
use Rattle.csv_tables.proofs.lazy_table.LazyTableTableSource.longest_line.Goals as goal

pub loop-at-init : goal.loop-at-init
loop-at-init c =
    let t : TableValue = c.self.inside.table in
    let rows = c.self.inside.rows in
    let all = rows_from rows 0 rows.selected.rows in
    let i = c.args.position in
    let info = c.args.info.now in
    let lines : TableValue → ℕ = λ w. longest_line w i info.delimiter info.content_width in
    let main : max (lines t) (greatest_at t (cell_longest_line t info) all i) ≡ lines (with_other_rows all t) = longest_below t all info i c.self.invariant.0 in
    let count : enumerate_count c.into_iter-at-iterator.result ≡ 0 = search rules in
    let source : enumerate_source c.into_iter-at-iterator.result ≡ rows.selected.rows = search rules in
    let head : c.in_ok-longest.longest ≡ lines t = search rules in
    let whole : with_other_rows all t ≡ c.args.self.now.table = ap (λ v. v.table) c.self.view_is in
    ap₂ (λ (n : ℕ) (fields : List (List Text)). max c.in_ok-longest.longest (greatest_at c.args.self.now.table (cell_longest_line c.args.self.now.table info) (rows_from rows n fields) i)) count source
    ∙ ap (λ n. max n (greatest_at c.args.self.now.table (cell_longest_line c.args.self.now.table info) all i)) head
    ∙ subst (λ (w : TableValue). max (lines t) (greatest_at w (cell_longest_line w info) all i) ≡ lines w) whole main

pub loop-at-preserved : goal.loop-at-preserved
loop-at-preserved c =
    let rows = c.self.inside.rows in
    let i = c.args.position in
    let f = cell_longest_line c.args.self.now.table c.args.info.now in
    let steps = c.in-Some.ensures.steps in
    let k : ℕ = enumerate_count c.loop-at.at-iterator in
    let fields : List Text = c.in-Some.fields in
    let rest : List (List Text) = enumerate_source c.next.new.self in
    let here : List RowValue = rows_at rows k fields in
    let later : List RowValue = rows_from rows (k + 1) rest in
    let g : List RowValue → ℕ = λ rs. greatest_at c.args.self.now.table f rs i in
    let before = ap (λ (left : List (List Text)). g (rows_from rows k left)) steps.0 ∙ greatest_at-append c.args.self.now.table f here later i in
    let left = ap (λ n. g (rows_from rows n rest)) steps.2 in
    let at = ap (λ n. g (rows_at rows n fields)) steps.1 in
    let own : TableValue = c.self.inside.table in
    let info = c.args.info.now in
    let made : List RowValue = rows_at rows c.in-Some.at fields in
    let view : with_other_rows (rows_from rows 0 rows.selected.rows) own ≡ c.args.self.now.table = ap (λ v. v.table) c.self.view_is in
    let same : greatest_at own (cell_longest_line own info) made i ≡ g made = subst (λ (w : TableValue). greatest_at own (cell_longest_line own info) made i ≡ greatest_at w (cell_longest_line w info) made i) view (longest_same own (rows_from rows 0 rows.selected.rows) info made i) in
    let one = c.in_ok-longest_line.ensures ∙ same in
    let so = c.loop-at.invariant in
    let greater = c.max-longest.ensures in
    omega (arith, before, left, at, one, so, greater)

pub returns-then-longest-limit-clause-at_most : goal.returns-then-longest-limit-clause-at_most
returns-then-longest-limit-clause-at_most c =
    let rows = c.self.inside.rows in
    let i = c.args.position in
    let f = cell_longest_line c.args.self.now.table c.args.info.now in
    let steps = c.in-Some.ensures.steps in
    let k : ℕ = enumerate_count c.loop-at.at-iterator in
    let fields : List Text = c.in-Some.fields in
    let rest : List (List Text) = enumerate_source c.next.new.self in
    let here : List RowValue = rows_at rows k fields in
    let later : List RowValue = rows_from rows (k + 1) rest in
    let g : List RowValue → ℕ = λ rs. greatest_at c.args.self.now.table f rs i in
    let before = ap (λ (left : List (List Text)). g (rows_from rows k left)) steps.0 ∙ greatest_at-append c.args.self.now.table f here later i in
    let at = ap (λ n. g (rows_at rows n fields)) steps.1 in
    let own : TableValue = c.self.inside.table in
    let info = c.args.info.now in
    let made : List RowValue = rows_at rows c.in-Some.at fields in
    let view : with_other_rows (rows_from rows 0 rows.selected.rows) own ≡ c.args.self.now.table = ap (λ v. v.table) c.self.view_is in
    let same : greatest_at own (cell_longest_line own info) made i ≡ g made = subst (λ (w : TableValue). greatest_at own (cell_longest_line own info) made i ≡ greatest_at w (cell_longest_line w info) made i) view (longest_same own (rows_from rows 0 rows.selected.rows) info made i) in
    let one = c.in_ok-longest_line.ensures ∙ same in
    let so = c.loop-at.invariant in
    let greater = c.max-longest.ensures in
    omega (arith, before, at, one, so, greater)

pub returns-clause-exact : goal.returns-clause-exact
returns-clause-exact c below =
    let ended : enumerate_source c.loop-at.at-iterator ≡ [] = search rules in
    let none = ap (λ (left : List (List Text)). greatest_at c.args.self.now.table (cell_longest_line c.args.self.now.table c.args.info.now) (rows_from c.self.inside.rows (enumerate_count c.loop-at.at-iterator) left) c.args.position) ended in
    let so = c.loop-at.invariant in
    omega (arith, none, so)
