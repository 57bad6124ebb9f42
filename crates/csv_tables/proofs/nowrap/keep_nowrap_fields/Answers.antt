use Rattle.std.proofs.Common.{rules, ◌≡◌, ◌≤◌, List, Option, Some, Bool, false, ℕ, ap, arith, length, sym, ◌∙◌}
use Rattle.std.proofs.lemmas.Bool.Decides.{nat_tests}
use Rattle.std.specs.List.{slice_index_or}
use Rattle.std.specs.Prelude.{if◌then◌else◌}
use Rattle.comfy_table.specs.TableValue.{TableValue, column_content_width, max_content_widths, with_other_rows}
use Rattle.csv_tables.proofs.ContentLemmas.{widths_are}
use Rattle.csv_tables.proofs.NoWrapFieldLemmas.{narrow_field}
use Rattle.csv_tables.specs.Contents.{rows_from}
use Rattle.csv_tables.specs.NoWrap.{field_width, may_break, room_beside, room_for_two, with_field_width, with_min_field_width, with_room_for}
use Rattle.csv_tables.proofs.nowrap.keep_nowrap_fields.Goals as goal

pub returns-then-not-may_break : goal.returns-then-not-may_break
returns-then-not-may_break c =
    let contents = c.args.contents.now in
    let table : TableValue = contents.table in
    let w : ℕ = c.in-Some.width in
    let own : List ℕ = c.contents.inside.widths.items in
    let view : with_other_rows (rows_from c.contents.inside.rows 0 c.contents.inside.rows.selected.rows) c.contents.inside.table ≡ table = ap (λ v. v.table) c.contents.view_is in
    let each : (i : ℕ) → slice_index_or own i 0 ≡ column_content_width table i = λ i. c.contents.invariant.2 i ∙ ap (λ (t : TableValue). column_content_width t i) view in
    let listed : c.widths-2.result.now ≡ max_content_widths table = c.widths-2.ensures in
    let content : c.unwrap_or.result ≡ slice_index_or c.widths-2.result.now 1 0 = search rules in
    let names : c.unwrap_or-names.result ≡ slice_index_or (max_content_widths table) 0 0 = search rules in
    let room : c.room_for_two-room.result ≡ room_for_two w table.style = c.room_for_two-room.ensures.value ∙ ap (λ (t : TableValue). room_for_two w t.style) view in
    let second : c.unwrap_or.result ≡ column_content_width table 1 =
    content ∙ ap (λ (ws : List ℕ). slice_index_or ws 1 0) (listed ∙ sym (widths_are table own (c.contents.invariant.1 ∙ ap (λ (t : TableValue). length t.columns) view) each)) ∙ each 1 in
    let first = c.unwrap_or-names.result in
    let field = field_width (room_beside first c.room_for_two-room.result) table in
    let small : room_beside first c.room_for_two-room.result ≤ 65535 = omega (arith, c.room_for_two-room.ensures.below) in
    let low = narrow_field (room_beside first c.room_for_two-room.result) table small in
    let broken : may_break c.room_for_two-room.result first c.unwrap_or.result ≡ false = sym c.may_break.ensures ∙ c.if-not-may_break.true in
    let kept : may_break c.room_for_two-room.result first field ≡ false = grind (arith, nat_tests, broken, second, low) in
    let same : with_room_for c.room_for_two-room.result first field table ≡ table = ap (λ (b : Bool). if b then with_field_width field table else table) kept in
    let is : with_min_field_width (Some w) table ≡ table =
    ap (λ (r : ℕ). with_room_for r (slice_index_or (max_content_widths table) 0 0) (field_width (room_beside (slice_index_or (max_content_widths table) 0 0) r) table) table) (sym room)
    ∙ ap (λ (n : ℕ). with_room_for c.room_for_two-room.result n (field_width (room_beside n c.room_for_two-room.result) table) table) (sym names) ∙ same in
    let width : contents.rows.look.width ≡ Some w = search rules in
    sym (ap (λ (t : TableValue). record { table = t; rows = contents.rows }) (ap (λ (o : Option ℕ). with_min_field_width o table) width ∙ is))
