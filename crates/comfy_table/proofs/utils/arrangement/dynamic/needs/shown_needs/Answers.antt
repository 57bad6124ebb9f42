use Rattle.std.proofs.Common.{◌≡◌, not, ap, sym, ◌∙◌, append-nil, arith}
use Rattle.std.proofs.lemmas.List.{map-append}
use Rattle.comfy_parts.specs.CellValue.{is_hidden_column, shown_among}
use Rattle.comfy_table.specs.Deciding.{all_needs}
use Rattle.comfy_table.specs.TableValue.{TableValue}
use Rattle.comfy_table.specs.Widths.{needs_of}
use Rattle.comfy_table.proofs.DisabledLemmas.{shown_count-among}
use Rattle.comfy_parts.proofs.CallerLemmas.{filtered_all, filtered_more}
use Rattle.comfy_table.proofs.utils.arrangement.dynamic.needs.shown_needs.Goals as goal

pub new-requires : goal.new-requires
new-requires g c =
    let columns : c.as_slice-columns.result.now ≡ (g.C.TableSource.whole c.args.contents.now).columns = c.as_slice-columns.ensures.value ∙ ap (λ (t : TableValue). t.columns) c.table.view_is ∙ ap (λ (t : TableValue). t.columns) c.table-table.ensures in
    c.count_visible_columns-count.ensures ∙ ap shown_among columns ∙ sym (shown_count-among (g.C.TableSource.whole c.args.contents.now))

pub loop-position-init : goal.loop-position-init
loop-position-init g c = ap (all_needs (g.C.TableSource.whole c.args.contents.now)) c.new-visible.ensures.items

pub loop-position-preserved-then-is_hidden : goal.loop-position-preserved-then-is_hidden
loop-position-preserved-then-is_hidden g c =
    let more = filtered_more (needs_of (g.C.TableSource.whole c.args.contents.now)) (λ p. not (is_hidden_column p.1)) c.as_slice-columns.result.now c.loop-position.position c.index-columns-position.result c.loop-position-test.true c.index-columns-position.is in
    grind (arith, more, append-nil)

pub loop-position-preserved : goal.loop-position-preserved
loop-position-preserved g c =
    let more = filtered_more (needs_of (g.C.TableSource.whole c.args.contents.now)) (λ p. not (is_hidden_column p.1)) c.as_slice-columns.result.now c.loop-position.position c.index-columns-position.result c.loop-position-test.true c.index-columns-position.is in
    grind (arith, more, map-append)

pub returns : goal.returns
returns g c = grind (arith, filtered_all)
