use Rattle.std.proofs.Common.{◌≡◌, ℕ, List, Some, None, ap, sym, subst, ◌∙◌}
use Rattle.std.proofs.lemmas.Result.{IfOk-weaker}
use Rattle.comfy_table.specs.AllWidths.{all_widths}
use Rattle.comfy_table.specs.Arrangement.{is_full_width, room_beside_borders, width_kept}
use Rattle.comfy_table.specs.DisabledWidths.{widths_by_content}
use Rattle.comfy_table.specs.Dynamic.{IsDynamicLayout}
use Rattle.comfy_table.specs.TableValue.{TableValue, table_width}
use Rattle.comfy_table.specs.Widths.{shown_needs}
use Rattle.comfy_table.proofs.AllWidthsLemmas.{arranged_by_widths}
use Rattle.comfy_table.proofs.DisabledLemmas.{arranged_by_content}
use Rattle.comfy_table.proofs.utils.arrangement.arrange.Goals as goal

pub returns-in_ok-widths-in-Some : goal.returns-in_ok-widths-in-Some
returns-in_ok-widths-in-Some g c =
    let table = g.C.TableSource.whole c.args.contents.now in
    let w = c.in-Some.width in
    let kept : width_kept table.arrangement (table_width table) ≡ Some w = ap (λ (t : TableValue). width_kept t.arrangement (table_width t)) (sym c.table.ensures) ∙ sym c.kept_width.ensures ∙ c.in-Some.is in
    let dynamic = subst (λ (ws : List ℕ). IsDynamicLayout (room_beside_borders table w) (shown_needs table) (is_full_width table.arrangement) ws) (sym c.as_slice.ensures.value) c.in_ok-widths-in-Some.ensures in
    IfOk-weaker c.infos_with.result _ _ (λ infos same. (all_widths table c.as_slice.result.now, arranged_by_widths table w c.as_slice.result.now kept dynamic, same)) c.infos_with.ensures

pub returns-in-None : goal.returns-in-None
returns-in-None g c =
    let table = g.C.TableSource.whole c.args.contents.now in
    let none : width_kept table.arrangement (table_width table) ≡ None = ap (λ (t : TableValue). width_kept t.arrangement (table_width t)) (sym c.table.ensures) ∙ sym c.kept_width.ensures ∙ c.in-None.is in
    IfOk-weaker c.infos_by_content.result _ _ (λ infos same. (widths_by_content table, arranged_by_content table none, same)) c.infos_by_content.ensures
