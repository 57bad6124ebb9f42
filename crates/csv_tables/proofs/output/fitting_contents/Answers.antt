use Rattle.std.proofs.Common.{◌≡◌, ◌∙◌, ◌&&◌, ◌||◌, Bool, ap, ap₂, false, not, subst, sym, true}
use Rattle.std.specs.Result.{IfOk}
use Rattle.std.proofs.lemmas.Result.{IfOk-weaker}
use Rattle.csv_tables.proofs.SpacedLemmas.{fits, fits_in, without_room}
use Rattle.csv_tables.proofs.StyledLemmas.{room_without_points}
use Rattle.comfy_table.specs.TableValue.{TableValue}
use Rattle.csv_tables.specs.Contents.{AreContentsOf, table_by}
use Rattle.csv_tables.specs.Decimals.{has_points}
use Rattle.csv_tables.specs.Drawn.{SelectedValue, wanted_in}
use Rattle.csv_tables.specs.LazyTableValue.{LazyTableValue}
use Rattle.csv_tables.specs.Limits.{has_room_in, limited_by}
use Rattle.csv_tables.specs.Settings.{SettingsValue}
use Rattle.csv_tables.specs.Styled.{dressed_table, has_room_by, is_aligned_by, limits_in, styled_rows}
use Rattle.csv_tables.specs.declared.options.Look.{Look}
use Rattle.csv_tables.specs.declared.rows.RecordRows.{RecordRows}
use Rattle.csv_tables.proofs.output.fitting_contents.Goals as goal
use Rattle.csv_tables.proofs.output.fitting_contents.Goals.{else-look, then-has_room-via-else-has_room+then-not-is_aligned, then-has_room-via-then-has_room, then-look}

-- rows with these settings, with aligned decimal points or without
abbrev rows_by : SelectedValue → SettingsValue → Look → Bool → RecordRows
rows_by selected settings look is_aligned = record { selected = selected; settings = settings; look = look; is_expanded = false; is_aligned = is_aligned }

-- such rows are contents of a table of rows
are_contents : (selected : SelectedValue) (settings : SettingsValue) (look : Look) (is_aligned : Bool) (contents : LazyTableValue) → contents.rows ≡ rows_by selected settings look is_aligned → AreContentsOf false look selected contents
are_contents selected settings look is_aligned contents is =
    record {
      look_is = ap (λ (r : RecordRows). r.look) is;
      selected_is = ap (λ (r : RecordRows). r.selected) is;
      expanded_is = ap (λ (r : RecordRows). r.is_expanded) is;
    }

pub returns-then-has_room-clause-table : goal.returns-then-has_room-clause-table
returns-then-has_room-clause-table c =
    let look = c.args.look.now in
    let selected = c.args.selected in
    let settings = c.args.settings in
    let aligns : c.if-look.is_aligned ≡ look.aligns_decimals && has_points selected.columns =
    elim c.if-look.branch [
      | then-look w ↦ w.is_aligned-is ∙ w.has_points-is_aligned.ensures ∙ ap has_points (w.as_slice.ensures.value ∙ ap (λ v. v.columns) c.selected.view_is) ∙ sym (ap (λ b. b && has_points selected.columns) w.if-look.true)
      | else-look w ↦ w.is_aligned-is ∙ w.if-look.false ∙ sym (ap (λ b. b && has_points selected.columns) w.if-look.false)
    ] in
    let drawn : c.in_ok-contents.has_room || not c.if-look.is_aligned ≡ true =
    elim c.then-has_room.branch [
      | then-has_room-via-then-has_room w ↦ ap (λ b. b || not c.if-look.is_aligned) w.if-has_room.true
      | then-has_room-via-else-has_room+then-not-is_aligned w ↦ ap₂ (λ a b. a || not b) w.if-has_room.false w.if-not-is_aligned.true
    ] in
    c.in_ok-contents.ensures.table
    ∙ ap (λ (t : TableValue). limited_by (limits_in settings.columns selected) look.width (wanted_in look selected) (dressed_table selected settings.rows t))
    (fits look (has_room_by settings look selected) selected c.if-look.is_aligned c.in_ok-contents.has_room aligns c.in_ok-contents.ensures.has_room drawn)

pub returns-then-has_room-clause-rows : goal.returns-then-has_room-clause-rows
returns-then-has_room-clause-rows c = are_contents c.args.selected c.args.settings c.args.look.now c.if-look.is_aligned c.in_ok-contents.contents c.in_ok-contents.ensures.rows

pub returns-then-has_room-clause-has_room : goal.returns-then-has_room-clause-has_room
returns-then-has_room-clause-has_room c =
    let look = c.args.look.now in
    let selected = c.args.selected in
    let settings = c.args.settings in
    let aligns : c.if-look.is_aligned ≡ look.aligns_decimals && has_points selected.columns =
    elim c.if-look.branch [
      | then-look w ↦ w.is_aligned-is ∙ w.has_points-is_aligned.ensures ∙ ap has_points (w.as_slice.ensures.value ∙ ap (λ v. v.columns) c.selected.view_is) ∙ sym (ap (λ b. b && has_points selected.columns) w.if-look.true)
      | else-look w ↦ w.is_aligned-is ∙ w.if-look.false ∙ sym (ap (λ b. b && has_points selected.columns) w.if-look.false)
    ] in
    let drawn : c.in_ok-contents.has_room || not c.if-look.is_aligned ≡ true =
    elim c.then-has_room.branch [
      | then-has_room-via-then-has_room w ↦ ap (λ b. b || not c.if-look.is_aligned) w.if-has_room.true
      | then-has_room-via-else-has_room+then-not-is_aligned w ↦ ap₂ (λ a b. a || not b) w.if-has_room.false w.if-not-is_aligned.true
    ] in
    c.in_ok-contents.ensures.has_room ∙ fits_in look (has_room_by settings look selected) selected c.if-look.is_aligned c.in_ok-contents.has_room aligns c.in_ok-contents.ensures.has_room drawn (room_without_points settings look selected)

pub returns-clause-table : goal.returns-clause-table
returns-clause-table c =
    let look = c.args.look.now in
    let selected = c.args.selected in
    let settings = c.args.settings in
    let limits = limits_in settings.columns selected in
    let own : c.unaligned.result ≡ rows_by selected settings look false = c.unaligned.ensures ∙ ap (λ (r : RecordRows). record r { is_aligned = false }) (c.into_rows.ensures ∙ c.in_ok-contents.ensures.rows) in
    let none : has_room_by settings look selected true ≡ false = sym (c.in_ok-contents.ensures.has_room ∙ ap (has_room_by settings look selected) c.if-not-is_aligned.false) ∙ c.if-has_room.false in
    let same : is_aligned_by settings look selected ≡ false = without_room look (has_room_by settings look selected) none in
    subst (λ (b : Bool). IfOk c.nowrap_contents-2.result (λ x. x.0.table ≡ limited_by limits look.width (wanted_in look selected) (styled_rows settings look selected b))) (sym same)
    (subst (λ (r : RecordRows). IfOk c.nowrap_contents-2.result (λ x. x.0.table ≡ limited_by (limits_in r.settings.columns r.selected) r.look.width (wanted_in r.look r.selected) (table_by r))) own c.nowrap_contents-2.ensures.table)

pub returns-clause-rows : goal.returns-clause-rows
returns-clause-rows c =
    let look = c.args.look.now in
    let selected = c.args.selected in
    let settings = c.args.settings in
    let own : c.unaligned.result ≡ rows_by selected settings look false = c.unaligned.ensures ∙ ap (λ (r : RecordRows). record r { is_aligned = false }) (c.into_rows.ensures ∙ c.in_ok-contents.ensures.rows) in
    IfOk-weaker c.nowrap_contents-2.result _ _ (λ x is. are_contents selected settings look false x.0 (is ∙ own)) c.nowrap_contents-2.ensures.rows

pub returns-clause-has_room : goal.returns-clause-has_room
returns-clause-has_room c =
    let look = c.args.look.now in
    let selected = c.args.selected in
    let settings = c.args.settings in
    let own : c.unaligned.result ≡ rows_by selected settings look false = c.unaligned.ensures ∙ ap (λ (r : RecordRows). record r { is_aligned = false }) (c.into_rows.ensures ∙ c.in_ok-contents.ensures.rows) in
    let none : has_room_by settings look selected true ≡ false = sym (c.in_ok-contents.ensures.has_room ∙ ap (has_room_by settings look selected) c.if-not-is_aligned.false) ∙ c.if-has_room.false in
    let same : is_aligned_by settings look selected ≡ false = without_room look (has_room_by settings look selected) none in
    subst (λ (b : Bool). IfOk c.nowrap_contents-2.result (λ x. x.1 ≡ has_room_by settings look selected b)) (sym same)
    (subst (λ (r : RecordRows). IfOk c.nowrap_contents-2.result (λ x. x.1 ≡ has_room_in (limits_in r.settings.columns r.selected) r.look.width r.is_aligned (wanted_in r.look r.selected) (table_by r))) own c.nowrap_contents-2.ensures.has_room)
