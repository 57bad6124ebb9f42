use Rattle.std.proofs.Common.{◌≡◌, List, [], ◌∷◌, ◌++◌, ap, ap₂, sym, ◌∙◌, arith}
use Rattle.comfy_parts.specs.CellValue.{ColumnInfo, info_of, shown_among}
use Rattle.comfy_table.proofs.DisabledLemmas.{info_by_content, infos-by_content, shown_count-among}
use Rattle.comfy_parts.proofs.CallerLemmas.{enumerated_all, enumerated_more}
use Rattle.comfy_table.specs.TableValue.{TableValue}
use Rattle.comfy_table.proofs.utils.arrangement.infos_by_content.Goals as goal

pub width_by_content-requires : goal.width_by_content-requires
width_by_content-requires g c =
    let columns : c.as_slice-columns.result.now ≡ (g.C.TableSource.whole c.args.contents.now).columns = c.as_slice-columns.ensures.value ∙ ap (λ (t : TableValue). t.columns) c.table.view_is ∙ ap (λ (t : TableValue). t.columns) c.table-table.ensures in
    c.count_visible_columns-visible.ensures ∙ ap shown_among columns ∙ sym (shown_count-among (g.C.TableSource.whole c.args.contents.now))

pub loop-position-preserved : goal.loop-position-preserved
loop-position-preserved g c =
    let f = info_by_content (g.C.TableSource.whole c.args.contents.now) in
    let column = c.index-columns-position.result in
    let item : c.new.result ≡ f (c.loop-position.position, column) = c.new.ensures ∙ ap (info_of column) c.in_ok-width.ensures in
    c.in_ok-push.ensures.items
    ∙ ap₂ (λ (infos : List ColumnInfo) (info : ColumnInfo). infos ++ info ∷ []) c.loop-position.invariant item
    ∙ sym (enumerated_more f c.as_slice-columns.result.now c.loop-position.position column c.loop-position-test.true c.index-columns-position.is)

pub returns : goal.returns
returns g c = grind (arith, enumerated_all, infos-by_content)
