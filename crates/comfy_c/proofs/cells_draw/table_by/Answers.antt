use Rattle.std.proofs.Common.{◌≡◌, ◌∙◌, false, rules, string_bytes}
use Rattle.comfy_table.specs.TableValue.{no_terminal}
use Rattle.comfy_c.specs.Calls.{is_set, width_of}
use Rattle.comfy_c.specs.Numbers.{char_of, columns_with}
use Rattle.comfy_c.proofs.cells_draw.table_by.Goals as goal

pub returns-clause-table : goal.returns-clause-table
returns-clause-table c =
    let settings = c.args.settings.now in
    let columns : c.in_ok-columns_of.field-0.items ≡ columns_with c.args.columns.now = search rules in
    let delimiter : c.char_of.result ≡ char_of settings.delimiter = search rules in
    let indicator : string_bytes c.in_ok-from_str.field-0 ≡ c.args.indicator.now = search rules in
    let width : c.ok.result ≡ width_of settings.width = search rules in
    c.from_parts.ensures
    ∙ (λ k.
    record {
      columns = columns k;
      header = c.args.header;
      rows = c.args.rows.items;
      style = c.args.style;
      arrangement = c.args.arrangement;
      delimiter = delimiter k;
      indicator = indicator k;
      set_width = width k;
      terminal = no_terminal;
      no_tty = false;
      use_stderr = false;
      enforce_styling = is_set settings.enforce_styling;
      style_text_only = is_set settings.style_text_only;
      custom_styling = is_set settings.custom_styling;
    })
