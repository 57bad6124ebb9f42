use Rattle.std.proofs.Common.{◌≡◌, Bool, List, length, ap, sym, subst, ◌∙◌, arith}
use Rattle.std.proofs.lemmas.List.{length-map}
use Rattle.std.proofs.lemmas.Result.{IfOk-weaker}
use Rattle.comfy_table.specs.Arrangement.{is_full_width, room_beside_borders}
use Rattle.comfy_table.specs.Deciding.{all_needs, final_widths, needs_in, undecided_among}
use Rattle.comfy_table.specs.Dynamic.{IsDynamicLayout, settled_claims}
use Rattle.comfy_table.specs.TableValue.{TableValue}
use Rattle.comfy_table.specs.Widths.{ColumnNeeds, shown_needs}
use Rattle.comfy_table.proofs.DecidedLemmas.{decided_is_dynamic, has_room_to_spread}
use Rattle.comfy_table.proofs.UndecidedLemmas.{length-with_claims}
use Rattle.comfy_table.proofs.utils.arrangement.dynamic.dynamic_widths.Goals as goal

pub settle-requires : goal.settle-requires
settle-requires g c = grind (arith, length-with_claims, length-map)

pub go_round-requires-2-clause-widths : goal.go_round-requires-2-clause-widths
go_round-requires-2-clause-widths g c =
    let settled = c.settle.ensures (g.C.TableSource.whole c.args.contents.now) in
    let taken = c.in_ok-go_round.ensures in
    let lower = c.go_round.new.budget.widths.items in
    let columns = c.as_slice-columns.result.now in
    let needs = all_needs (g.C.TableSource.whole c.args.contents.now) columns in
    ap length settled.2.widths
    ∙ length-with_claims (settled_claims settled.0 (undecided_among needs lower)) lower
    ∙ ap length taken.2.widths
    ∙ length-with_claims taken.0 c.in_ok-budget.budget.widths.items
    ∙ ap length c.in_ok-budget.ensures.widths
    ∙ length-map needs (λ (n : ColumnNeeds). n.fixed)
    ∙ length-map columns (needs_in (g.C.TableSource.whole c.args.contents.now))

pub go_round-requires-2-clause-room : goal.go_round-requires-2-clause-room
go_round-requires-2-clause-room g c =
    let lower = c.in_ok-go_round.ensures in
    let settled = c.settle.ensures (g.C.TableSource.whole c.args.contents.now) in
    omega (arith, settled.2.room, lower.2.room, c.in_ok-budget.ensures.room, c.ranges.width.fits)

pub final_widths-requires : goal.final_widths-requires
final_widths-requires g c =
    let table = g.C.TableSource.whole c.args.contents.now in
    let columns = c.as_slice-columns.result.now in
    has_room_to_spread (room_beside_borders table c.args.width) (all_needs table columns) c.in_ok-budget.budget c.go_round.new.budget c.settle.new.budget c.go_round-2.new.budget
    c.in_ok-budget.ensures.widths c.in_ok-budget.ensures.room c.in_ok-go_round.ensures (c.settle.ensures table) c.in_ok-go_round-2.ensures (omega (arith, c.ranges.width.fits))

pub returns : goal.returns
returns g c =
    let table = g.C.TableSource.whole c.args.contents.now in
    let columns = c.as_slice-columns.result.now in
    let needs : all_needs table columns ≡ shown_needs table = ap (all_needs table) c.as_slice-columns.ensures.value ∙ c.in_ok-visible.ensures in
    IfOk-weaker c.final_widths.result _ _
    (λ widths is.
    let all = decided_is_dynamic (room_beside_borders table c.args.width) (all_needs table columns) c.in_ok-budget.budget c.go_round.new.budget c.settle.new.budget c.go_round-2.new.budget
    c.in_ok-budget.ensures.widths c.in_ok-budget.ensures.room c.in_ok-go_round.ensures (c.settle.ensures table) c.in_ok-go_round-2.ensures (is_full_width table.arrangement) in
    let as_final : widths.items ≡ final_widths (is_full_width table.arrangement) c.go_round-2.new.budget = is ∙ ap (λ (full : Bool). final_widths full c.go_round-2.new.budget) (c.fills_width.ensures ∙ ap (λ (t : TableValue). is_full_width t.arrangement) c.table-table.ensures) in
    subst (λ (ns : List ColumnNeeds). IsDynamicLayout (room_beside_borders table c.args.width) ns (is_full_width table.arrangement) widths.items) needs
    (subst (IsDynamicLayout (room_beside_borders table c.args.width) (all_needs table columns) (is_full_width table.arrangement)) (sym as_final) all))
    c.final_widths.ensures
