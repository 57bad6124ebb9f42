use Rattle.std.proofs.Common.{◌≡◌, ◌<◌, ◌≤◌, ◌+◌, ◌^◌, ℕ, true, false, List, [], ◌++◌, append-nil, suc, drop, length, take, ap, sym, ◌∙◌, arith}
use Rattle.std.specs.List.{list_any, slice_index_or}
use Rattle.std.proofs.lemmas.List.{drop_all, length-take-le, take_all}
use Rattle.comfy_parts.specs.Text.{Text}
use Rattle.csv_tables.specs.Cells.{has_field, columns_within}
use Rattle.csv_tables.specs.Leasts.{least_position, least_positions}
use Rattle.csv_tables.specs.declared.options.ColumnPlan.{ColumnPlan}
use Rattle.csv_tables.proofs.ReachedLemmas.{held-by_least, least-at, leasts-length, none-reached, reached-more}
use Rattle.csv_tables.proofs.selected.SelectedRecords.columns_within.Goals as goal

pub slice_bounds-result-end : goal.slice_bounds-result-end
slice_bounds-result-end c =
    let columns : List ColumnPlan = c.args.self.now.columns in
    let own : c.self.inside.columns.items ≡ columns = ap (λ v. v.columns) c.self.view_is in
    let items : c.deref.result.now ≡ columns = c.deref.ensures.value ∙ own in
    let leasts : c.deref-least-items.result.now ≡ least_positions columns = c.deref-least-items.ensures.value ∙ c.self.invariant ∙ ap least_positions own in
    let long : length c.deref-least-items.result.now ≡ length columns = ap length leasts ∙ leasts-length columns in
    let same = ap length items in
    let test = c.loop-count-test.true in
    let within : c.loop-count.count ≤ length c.deref.result.now = omega (arith, long, same, test) in
    sym (length-take-le c.loop-count.count c.deref.result.now within)

pub returns-then-len-least : goal.returns-then-len-least
returns-then-len-least c =
    let columns : List ColumnPlan = c.args.self.now.columns in
    let fields : List Text = c.args.row.now in
    let k : ℕ = c.loop-count.count in
    let own : c.self.inside.columns.items ≡ columns = ap (λ v. v.columns) c.self.view_is in
    let items : c.deref.result.now ≡ columns = c.deref.ensures.value ∙ own in
    let leasts : c.deref-least-items.result.now ≡ least_positions columns = c.deref-least-items.ensures.value ∙ c.self.invariant ∙ ap least_positions own in
    let long : length c.deref-least-items.result.now ≡ length columns = ap length leasts ∙ leasts-length columns in
    let test = c.loop-count-test.true in
    let below : k < length columns = omega (arith, long, test) in
    let least : slice_index_or c.deref-least-items.result.now k 0 ≡ least_position (drop k columns) = ap (λ (ls : List ℕ). slice_index_or ls k 0) leasts ∙ least-at columns k below in
    let count = c.len.ensures in
    let fits = c.len.type_inv in
    let short : length fields < 2 ^ 64 = omega (arith, count, fits) in
    let enough = c.if-len-least.true in
    let none : list_any (has_field fields) (drop k columns) ≡ false = held-by_least fields short (drop k columns) ∙ grind (arith, count, enough, least) in
    ap (take k) items ∙ sym (append-nil (take k columns)) ∙ sym (c.loop-count.invariant ∙ ap (λ (rest : List ColumnPlan). take k columns ++ rest) (none-reached fields (drop k columns) none))

pub loop-count-preserved : goal.loop-count-preserved
loop-count-preserved c =
    let columns : List ColumnPlan = c.args.self.now.columns in
    let fields : List Text = c.args.row.now in
    let k : ℕ = c.loop-count.count in
    let own : c.self.inside.columns.items ≡ columns = ap (λ v. v.columns) c.self.view_is in
    let leasts : c.deref-least-items.result.now ≡ least_positions columns = c.deref-least-items.ensures.value ∙ c.self.invariant ∙ ap least_positions own in
    let long : length c.deref-least-items.result.now ≡ length columns = ap length leasts ∙ leasts-length columns in
    let test = c.loop-count-test.true in
    let below : k < length columns = omega (arith, long, test) in
    let least : slice_index_or c.deref-least-items.result.now k 0 ≡ least_position (drop k columns) = ap (λ (ls : List ℕ). slice_index_or ls k 0) leasts ∙ least-at columns k below in
    let count = c.len.ensures in
    let fits = c.len.type_inv in
    let short : length fields < 2 ^ 64 = omega (arith, count, fits) in
    let more = c.if-len-least.false in
    let some : list_any (has_field fields) (drop k columns) ≡ true = held-by_least fields short (drop k columns) ∙ grind (arith, count, more, least) in
    let one : suc k ≡ k + 1 = omega arith in
    c.loop-count.invariant ∙ reached-more fields columns k below some ∙ ap (λ (n : ℕ). take n columns ++ columns_within fields (drop n columns)) one

pub returns : goal.returns
returns c =
    let columns : List ColumnPlan = c.args.self.now.columns in
    let fields : List Text = c.args.row.now in
    let k : ℕ = c.loop-count.count in
    let own : c.self.inside.columns.items ≡ columns = ap (λ v. v.columns) c.self.view_is in
    let leasts : c.deref-least-items.result.now ≡ least_positions columns = c.deref-least-items.ensures.value ∙ c.self.invariant ∙ ap least_positions own in
    let long : length c.deref-least-items.result.now ≡ length columns = ap length leasts ∙ leasts-length columns in
    let test = c.loop-count-test.false in
    let all : length columns ≤ k = omega (arith, long, test) in
    let rest : drop k columns ≡ [] = drop_all k columns all in
    c.as_slice-2.ensures.value ∙ own ∙ sym (take_all k columns all) ∙ sym (append-nil (take k columns))
    ∙ sym (c.loop-count.invariant ∙ ap (λ (columns' : List ColumnPlan). take k columns ++ columns_within fields columns') rest)
