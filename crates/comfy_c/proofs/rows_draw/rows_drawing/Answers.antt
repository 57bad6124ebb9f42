use Rattle.std.proofs.Common.{◌≡◌, ◌∙◌, Bool, List, None, Some, ap, ap₂, rules, string_bytes, subst, tests, true}
use Rattle.std.proofs.lemmas.Str.{IsUtf8-string_bytes}
use Rattle.std.specs.Prelude.{if◌then◌else◌}
use Rattle.comfy_parts.specs.Text.{Text}
use Rattle.comfy_c.specs.Calls.{is_set}
use Rattle.comfy_c.specs.Looks.{are_each, table_settings}
use Rattle.comfy_c.specs.RowCalls.{can_have, layout_by, look_for, selection_for}
use Rattle.comfy_c.specs.RowColumns.{columns_for}
use Rattle.comfy_c.specs.Texts.{rows_of}
use Rattle.csv_tables.specs.Settings.{SettingsValue}
use Rattle.csv_tables.specs.Styled.{RendersAnyStyledRecords}
use Rattle.csv_tables.specs.declared.options.Layout.{Layout}
use Rattle.csv_tables.specs.declared.selection.Selection.{Selection}
use Rattle.comfy_c.proofs.rows_draw.rows_drawing.Goals as goal

pub returns-clause-drawn : goal.returns-clause-drawn
returns-clause-drawn c =
    let settings = c.args.settings.now in
    let counts = c.args.counts.now in
    let looks = c.args.looks.now in
    let heights = c.args.heights.now in
    let chosen = c.args.columns.now in
    let rows : List (List Text) = rows_of c.args.texts.now c.args.lengths.now counts in
    let selection = selection_for settings in
    let drawing = string_bytes c.in_ok-output_of_styled_records.field-0 in
    let layout : Selection → Layout = λ (s : Selection). record { selection = s; columns = c.in-Some-2.columns; look = c.in-Some.look } in
    let can : can_have settings looks heights chosen ≡ true = search (rules, tests) in
    let each : are_each looks c.args.lengths.now heights counts ≡ true = search (rules, tests) in
    let look : look_for settings ≡ Some c.in-Some.look = search rules in
    let columns : columns_for selection chosen rows ≡ Some c.in-Some-2.columns = search rules in
    let own : c.in_ok-own.own ≡ table_settings (is_set settings.has_header) counts looks heights chosen =
    c.in_ok-own.ensures ∙ ap (λ (s : Selection). table_settings s.has_header counts looks heights chosen) c.selection-selection.ensures in
    record {
      add_up = (c.in_ok-records.ensures.all, each);
      are_texts = c.in_ok-records.ensures.texts;
      is_text = IsUtf8-string_bytes c.in_ok-output_of_styled_records.field-0;
      layout = layout selection;
      is_layout = ap (λ (b : Bool). if b then layout_by selection (look_for settings) (columns_for selection chosen rows) else None) can ∙ ap₂ (layout_by selection) look columns;
      is_output =
          subst (λ (own : SettingsValue). RendersAnyStyledRecords own (layout selection) rows drawing) own
          (subst (λ (rs : List (List Text)). RendersAnyStyledRecords c.in_ok-own.own (layout selection) rs drawing) c.in_ok-records.ensures.records
          (subst (λ (s : Selection). RendersAnyStyledRecords c.in_ok-own.own (layout s) c.in_ok-records.records drawing) c.selection-selection.ensures c.in_ok-output_of_styled_records.ensures));
    }
