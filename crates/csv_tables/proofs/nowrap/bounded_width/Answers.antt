use Rattle.std.proofs.Common.{◌≡◌, ◌<◌, ◌+◌, ◌-◌, ◌^◌, ◌∙◌, ℕ, List, ap, ap₂, arith, get_or, length, map, min, rules, sym}
use Rattle.std.specs.List.{range_with_len, sum}
use Rattle.std.proofs.lemmas.List.FromFn.{get_or-map-range_with_len, length-map-range_with_len, sum_by-map-range_with_len_more}
use Rattle.comfy_table.specs.Frame.{border_count, saturated_border_count}
use Rattle.comfy_table.specs.TableValue.{TableValue, column_content_width}
use Rattle.csv_tables.proofs.LimitLemmas.{bounded-width}
use Rattle.csv_tables.specs.Limits.{limits_at, taken}
use Rattle.csv_tables.specs.NoWrap.{min_width, width_at_level, shared_content}
use Rattle.csv_tables.proofs.nowrap.bounded_width.Goals as goal

pub loop-at-init : goal.loop-at-init
loop-at-init c wanted is =
    let table = c.args.contents.now.table in
    let view = ap (λ v. v.table) c.contents.view_is in
    let long = ap length c.widths-widths.ensures ∙ length-map-range_with_len (column_content_width table) 0 (length table.columns) in
    let count : c.count_border_columns-width.result ≡ saturated_border_count table.style (length table.columns) = c.count_border_columns-width.ensures ∙ ap₂ saturated_border_count (ap (λ (t : TableValue). t.style) view) long in
    omega (arith, count)

pub loop-at-preserved : goal.loop-at-preserved
loop-at-preserved c wanted is =
    let table = c.args.contents.now.table in
    let limits = c.args.limits.now in
    let at : ℕ = c.loop-at.at in
    let widths = c.widths-widths.result.now in
    let long = ap length c.widths-widths.ensures ∙ length-map-range_with_len (column_content_width table) 0 (length table.columns) in
    let below : at < length table.columns = omega (arith, c.loop-at-test.true, long) in
    let content : get_or widths at 0 ≡ column_content_width table at = ap (λ (ws : List ℕ). get_or ws at 0) c.widths-widths.ensures ∙ get_or-map-range_with_len (column_content_width table) 0 (length table.columns) at at 0 below (omega arith) in
    let got : c.unwrap_or-keeps.result ≡ get_or c.args.kept.now at 0 = search rules in
    let keeps : c.unwrap_or-keeps.result ≡ min_width wanted table at = got ∙ ap (λ (ks : List ℕ). get_or ks at 0) is ∙ get_or-map-range_with_len (min_width wanted table) 0 (length table.columns) at at 0 below (omega arith) in
    let shares : c.shared_content-content.result ≡ width_at_level c.args.level wanted table at = c.shared_content-content.ensures ∙ ap₂ (shared_content c.args.level) keeps content in
    let takes : ℕ → ℕ = λ i. taken (limits_at limits i) (width_at_level c.args.level wanted table i) in
    let own : c.taken_at.result ≡ takes at = c.taken_at.ensures ∙ ap (taken (limits_at limits at)) shares in
    let sums = sum_by-map-range_with_len_more (λ (n : ℕ). n) takes 0 at at (omega arith) in
    let so = c.loop-at.invariant wanted is in
    omega (arith, so, c.saturating_add-width.ensures, own, sums)

pub returns : goal.returns
returns c wanted is =
    let table = c.args.contents.now.table in
    let limits = c.args.limits.now in
    let takes : ℕ → ℕ = λ i. taken (limits_at limits i) (width_at_level c.args.level wanted table i) in
    let long = ap length c.widths-widths.ensures ∙ length-map-range_with_len (column_content_width table) 0 (length table.columns) in
    let same : c.loop-at.at ≡ length table.columns = omega (arith, c.loop-at-test.false, c.loop-at.auto.at-end, long) in
    c.loop-at.invariant wanted is ∙ ap (λ (n : ℕ). min (2 ^ 64 - 1) (border_count table.style (length table.columns) + sum (map takes (range_with_len 0 n)))) same
    ∙ ap (min (2 ^ 64 - 1)) (sym (bounded-width limits c.args.level wanted table))
