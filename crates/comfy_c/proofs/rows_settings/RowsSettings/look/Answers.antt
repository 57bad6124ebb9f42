use Rattle.std.proofs.Common.{◌≡◌, ◌∙◌, Some, rules, slice_get, sym}
use Rattle.comfy_c.specs.Calls.{is_set, limit_of, width_of}
use Rattle.comfy_c.specs.Frames.{style_for}
use Rattle.comfy_c.specs.RowCalls.{expansions, look_by, separators}
use Rattle.comfy_c.proofs.rows_settings.RowsSettings.look.Goals as goal

pub returns : goal.returns
returns c =
    let settings = c.args.self.now in
    let style : style_for settings.style settings.frame ≡ Some c.in_ok-style_for.field-0 = search rules in
    let lines : slice_get separators settings.row_lines ≡ Some c.in_ok-separators_at.field-0 = search rules in
    let expansion : slice_get expansions settings.expansion ≡ Some c.in_ok-expansion_at.field-0 = search rules in
    let width : c.ok.result ≡ width_of settings.width = search rules in
    let height : c.limit_of.result ≡ limit_of settings.max_height = search rules in
    (λ k.
    Some (record {
      style = c.in_ok-style_for.field-0;
      separators = c.in_ok-separators_at.field-0;
      expansion = c.in_ok-expansion_at.field-0;
      width = width k;
      fills_width = is_set settings.fills_width;
      max_height = height k;
      has_bold_header = is_set settings.has_bold_header;
      aligns_decimals = is_set settings.aligns_decimals;
      has_sequences = is_set settings.has_sequences;
      is_markdown = is_set settings.is_markdown;
    }))
    ∙ (λ k. look_by settings (sym style k) (sym lines k) (sym expansion k))
