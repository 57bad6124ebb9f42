use Rattle.std.proofs.Common.{◌≡◌, ◌∙◌, ap, arith, inl, inr, rules, string_bytes}
use Rattle.std.proofs.lemmas.Str.{IsUtf8-string_bytes}
use Rattle.comfy_table.specs.Headline.{JoinsTrimmedLines}
use Rattle.comfy_table.specs.TableValue.{max_content_widths}
use Rattle.comfy_c.specs.CellCalls.{listed}
use Rattle.comfy_c.proofs.cells_draw.other_drawing.Goals as goal

pub returns-then-settings-eq-TRIMMED-clause-drawn :
    goal.returns-then-settings-eq-TRIMMED-clause-drawn
returns-then-settings-eq-TRIMMED-clause-drawn c =
    let joined : JoinsTrimmedLines c.in_ok-table.table (string_bytes c.in_ok-trim_fmt.field-0) = search rules in
    record {
      is_text = IsUtf8-string_bytes c.in_ok-trim_fmt.field-0;
      table = c.in_ok-table.table;
      described = c.in_ok-table.ensures.table;
      drawn = inl (joined.0, joined.1, inr (c.if-settings-eq-TRIMMED.true, joined.2));
    }

pub returns-clause-drawn : goal.returns-clause-drawn
returns-clause-drawn c =
    let text : string_bytes c.in_ok-listed.field-0 ≡ listed c.as_slice.result.now = search rules in
    let widths : c.in_ok-column_max_content_widths.field-0.items ≡ max_content_widths c.in_ok-table.table = search rules in
    let form : c.args.settings.now.form ≡ 2 = omega (arith, c.requires.some, c.requires.known, c.if-settings-eq-TRIMMED.false) in
    record {
      is_text = IsUtf8-string_bytes c.in_ok-listed.field-0;
      table = c.in_ok-table.table;
      described = c.in_ok-table.ensures.table;
      drawn = inr (form, text ∙ ap listed (c.as_slice.ensures.value ∙ widths));
    }
